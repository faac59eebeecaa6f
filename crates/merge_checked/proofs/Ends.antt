-- What a join that has passed the checks up to 9 ends with: the refusals 10 and 11, and acceptance. Assumes nothing.
use Prim.Native.Nat.{ℕ, ◌+◌, ◌≤◌, zero-le}
use native.Mathlib.Omega.{arith}
use mathlib.Core.Path.{◌≡◌, refl, sym, ap, ◌∙◌, subst}
use mathlib.Core.List.{List, [], ◌∷◌}
use mathlib.Core.Bool.{Bool, true, false, not, cond, ◌||◌, false≢true}
use lib.ListN.{length, take}
use lib.Seq.{take_at, length-take-le}
use lib.Dec.{eqb, ltb}
use borrow.Author.Tests.{ltb-false}
use Rattle.definitions.specs.Words.{value_words}
use Rattle.definitions.specs.Segment.{Segment, pair, segments_of}
use Rattle.definitions.specs.Lists.{filter}
use Rattle.definitions.specs.Row.{is_held, held_of}
use Rattle.definitions.specs.Join.{Column, row_order, encode, terms_of, map_of, joined_column, join_rules}
use Rattle.definitions.specs.Answer.{answer, sum_over, terms_in, bytes_in, types_wrong, output_too_short}
use Rattle.definitions.specs.Outcome.{Buffers, Lent, accepted, refused, space_of, input_of, numbers_of, refused_buffers, accepted_buffers, join_outcome, lent_of}
use Rattle.definitions.proofs.Words.{AllWords}
use Rattle.runs.specs.Put.{put, put_if}
use Rattle.stands.specs.Width.{ids_of, totals_of}
use Rattle.merge_column.proofs.Map.{alike}
use Rattle.merge_column.proofs.Pair.{pair-joined}
use Rattle.merge_column.proofs.Joined.{mapped, filling, ids_are, offsets_are, values_are}
use Rattle.merge_column.specs.declared.Shape.{Shape}
use Rattle.std.specs.Prelude.{Result, Ok, Err}
use Rattle.refusal.specs.declared.Refusal.{Refusal}
use Rattle.refusal.specs.declared.Refusal.TheVariants.{Types, OutputSpace}
use Rattle.refusal.specs.Number.{number_of, answer_number}
use Rattle.census.specs.declared.Tally.{Tally}
use Rattle.merge_column.specs.Plan.{widths_for, joined_words, plan_for, pair_for, Filling}
use Rattle.merge_column.specs.Mapped.{Mapped}
use Rattle.term_walk.specs.Walk.{Merged}
use Rattle.merge_dict_column.specs.Dict.{Dictionary}
use Rattle.merge_dict_column.specs.Fill.{marks_of, DictionaryGiven}
use Rattle.merge_dict_column.proofs.Given.{joins}
use Rattle.segment.specs.Records.{segments_in, records_of}
use Rattle.segment.specs.Lent.{addresses_of}
use Rattle.merge_checked.specs.Call.{AfterNine, outcome_of, buffers_of}
use Rattle.merge_checked.proofs.Given.{checked, alone, marks-room}
use Rattle.merge_checked.proofs.Planned.{Prepared, table, rows, shape, plan-is, map-count}
use Rattle.segment.proofs.Lent.{sums_low}
use Rattle.merge_checked.proofs.Leaves.{left-refused, left-accepted, late}
use Rattle.lists.proofs.Tests.{neither}

-- ---- plans apart

abbrev is_column : Result Shape Refusal → Bool
is_column (Err e) = false
is_column (Ok x) = true

abbrev shape_in : Result Shape Refusal → Shape → Shape
shape_in (Err e) d = d
shape_in (Ok x) d = x

-- a plan by two tests is the shape when neither holds
record Chosen (t o : Bool) (x s : Shape) : Type 0 where
  types : t ≡ false
  short : o ≡ false
  is : x ≡ s

chosen : (t o : Bool) (x s : Shape) → Ok x ≡ cond t (Err Types) (cond o (Err OutputSpace) (Ok s)) → Chosen t o x s
chosen true o x s e = absurd (false≢true (sym (ap is_column e)))
chosen false true x s e = absurd (false≢true (sym (ap is_column e)))
chosen false false x s e = record { types = refl; short = refl; is = ap (λ (q : Result Shape Refusal). shape_in q x) e }

turned : (t o : Bool) (k : Refusal) (s : Shape) → Err k ≡ cond t (Err Types) (cond o (Err OutputSpace) (Ok s)) → cond t 10 (cond o 11 0) ≡ number_of k × (number_of k ≡ 0 → ⊥)
turned true o k s e = let q : number_of k ≡ 10 = ap answer_number e in (sym q, λ z. omega (arith, q, z))
turned false true k s e = let q : number_of k ≡ 11 = ap answer_number e in (sym q, λ z. omega (arith, q, z))
turned false false k s e = absurd (false≢true (ap is_column e))

-- none of six
record Six (a b c d e f : ℕ) (a' b' c' d' e' f' : ℕ) : Type 0 where
  ids : a' ≤ a
  offsets : b' ≤ b
  values : c' ≤ c
  terms : d' ≤ d
  texts : e' ≤ e
  map : f' ≤ f

six : (a b c d e f : ℕ) (a' b' c' d' e' f' : ℕ) → ltb a a' || ltb b b' || ltb c c' || ltb d d' || ltb e e' || ltb f f' ≡ false → Six a b c d e f a' b' c' d' e' f'
six a b c d e f a' b' c' d' e' f' h =
    let h5 = neither (ltb a a' || ltb b b' || ltb c c' || ltb d d' || ltb e e') (ltb f f') h in
    let h4 = neither (ltb a a' || ltb b b' || ltb c c' || ltb d d') (ltb e e') h5.0 in
    let h3 = neither (ltb a a' || ltb b b' || ltb c c') (ltb d d') h4.0 in
    let h2 = neither (ltb a a' || ltb b b') (ltb c c') h3.0 in
    let h1 = neither (ltb a a') (ltb b b') h2.0 in
    record {
      ids = ltb-false a a' h1.0;
      offsets = ltb-false b b' h1.1;
      values = ltb-false c c' h2.1;
      terms = ltb-false d d' h3.1;
      texts = ltb-false e e' h4.1;
      map = ltb-false f f' h5.1;
    }

-- the held columns' sum is no more than that of all
filter-sum : (h : Segment → ℕ) (l : List Segment) → sum_over h (filter is_held l) ≤ sum_over h l
filter-sum h [] = zero-le
filter-sum h (x ∷ xs) = go (is_held x) (filter-sum h xs)
  where
    go : (b : Bool) → sum_over h (filter is_held xs) ≤ sum_over h xs → sum_over h (cond b (x ∷ filter is_held xs) (filter is_held xs)) ≤ h x + sum_over h xs
    go true q = omega arith
    go false q = omega arith

held-filter : (h : Segment → ℕ) (l : List Segment) → sum_over h (held_of l) ≤ sum_over h l
unfolding held_of
held-filter h l = filter-sum h l

module _ {mode required : ℕ} {records : List (List ℕ)} {ids offsets values lengths bytes words : List ℕ} {addresses : List (List ℕ)} {work : List ℕ}
    (p : AfterNine mode required records ids offsets values lengths bytes words addresses work)
    {stands : List (List ℕ)} {tally : Tally} (r : Prepared records ids offsets lengths words stands tally)
    (outIds outOffsets outValues lens outs ords : List ℕ) where
  abbrev ss : List Segment
  ss = segments_in records ids offsets values lengths bytes words

  abbrev col : Column
  col = joined_column required ss (row_order mode ss (addresses_of addresses))

  abbrev b : Buffers
  b = buffers_of outIds outOffsets outValues lens outs ords work

  abbrev l : Lent
  l = lent_of mode required (records_of records) ids offsets values lengths bytes words addresses b

  abbrev plan : Result Shape Refusal
  plan =
      plan_for mode required stands (length addresses) tally
      (record { ids = length outIds; offsets = length outOffsets; values = length outValues; lengths = length lens; bytes = length outs; map = length ords })

  -- ---- a refusal

  pub refused_end : {y : Result Shape Refusal} (k : Refusal) → y ≡ Err k → y ≡ plan → outcome_of (Err k) b ≡ join_outcome l
  unfolding refused_buffers
  refused_end k q e =
      let t = turned (types_wrong required ss) (output_too_short (input_of l)) k (shape p r) (sym q ∙ e ∙ plan-is p r b) in
      (λ j. record { answer = refused (number_of k); buffers = buffers_of outIds outOffsets outValues lens outs ords (p.clean j) })
      ∙ left-refused l (number_of k) (late mode required records ids offsets values lengths bytes words addresses b p.nine ∙ t.0) t.1

  -- ---- a plan
  module _ {x : Shape} {y : Result Shape Refusal} (q : y ≡ Ok x) (e : y ≡ plan) where
    c : Chosen (types_wrong required ss) (output_too_short (input_of l)) x (shape p r)
    c = chosen (types_wrong required ss) (output_too_short (input_of l)) x (shape p r) (sym q ∙ e ∙ plan-is p r b)

    room : Six (length outIds) (length outOffsets) (length outValues) (length lens) (length outs) (length ords)
        (length col.ids) (length col.offsets) (length (value_words col.type col.values)) (sum_over terms_in (held_of ss)) (sum_over bytes_in (held_of ss)) (sum_over terms_in (held_of ss))
    unfolding output_too_short input_of space_of segments_of join_rules
    room = six _ _ _ _ _ _ _ _ _ _ _ _ c.short

    -- the words that `fill_rows` writes stand at the start of the output
    pub words-in : (values' : List ℕ) → length values' ≡ length outValues → x.words ≤ length values'
    unfolding shape
    words-in values' e = subst (λ (n : ℕ). x.words ≤ n) (sym e) (subst (λ (s : Shape). s.words ≤ length outValues) (sym c.is) room.values)

    pub words_long : (values' : List ℕ) → length values' ≡ length outValues → x.words ≡ length (take x.words values')
    words_long values' e = sym (length-take-le x.words values' (words-in values' e))

    pub dictionary_given : DictionaryGiven mode stands ids offsets values lengths bytes words work lens outs ords
    dictionary_given =
        record {
          ss = ss;
          table = table p r;
          alone = alone p;
          clean = p.clean;
          room = marks-room p;
          terms = room.terms;
          texts = room.texts;
          map = room.map;
          narrow = let a = held-filter bytes_in ss in let b = (sums_low (checked p)).2 in omega arith;
        }

    -- ---- after the dictionary
    module _ (all : AllWords values) {n m k : ℕ} {lens' outs' ords' : List ℕ} (g : Dictionary stands lengths bytes (marks_of mode stands ids offsets values words lengths) (eqb mode 0) lens outs ords n m k lens' outs' ords') where
      d : Merged (terms_of ss) (map_of ss) lens outs ords n m k lens' outs' ords'
      d = joins (table p r) mode (alone p) g

      map-stands : Mapped ords' ss
      map-stands = subst (λ (o : List ℕ). Mapped o ss) (sym d.map_out) (mapped ss ords (let k = map-count ss in let h = room.map in omega arith))

      pub rows-given : Filling mode x.class x.typ addresses stands ids offsets values ords' outIds outOffsets outValues
      unfolding shape
      rows-given =
          subst (λ (s : Shape). Filling mode s.class s.typ addresses stands ids offsets values ords' outIds outOffsets outValues) (sym c.is)
          (filling (table p r) (rows p r) required map-stands all (alike required ss c.types) outIds outOffsets outValues room.ids room.offsets room.values)

      pub accepted-end : (ids' offsets' values' work' : List ℕ)
          → ids' ≡ put_if (not (eqb x.class 0)) 0 (ids_of 0 (widths_for mode addresses stands ids offsets)) outIds
          → offsets' ≡ put_if (eqb x.class 2) 0 (0 ∷ totals_of 0 (widths_for mode addresses stands ids offsets)) outOffsets
          → values' ≡ put 0 (joined_words mode x.typ addresses stands ids offsets values ords') outValues
          → work' ≡ work
          → (least greatest : ℕ) → pair least greatest ≡ pair_for x.typ stands (take x.words values')
          → outcome_of
          (Ok
          (record { typ = x.typ; class = x.class; rows = x.rows; ids = x.ids; offsets = x.offsets; values = x.values; terms = n; bytes = m; map = x.map; copied = k; least = least; greatest = greatest }))
          (buffers_of ids' offsets' values' lens' outs' ords' work')
          ≡ join_outcome l
      unfolding numbers_of accepted_buffers input_of segments_of join_rules shape joined_column encode
      accepted-end ids' offsets' values' work' ei eo ev ew least greatest ep =
          let z : answer (input_of l) ≡ 0 =
          late mode required records ids offsets values lengths bytes words addresses b p.nine
          ∙ ap (λ (t : Bool). cond t 10 (cond (output_too_short (input_of l)) 11 0)) c.types
          ∙ ap (λ (o : Bool). cond o 11 0) c.short in
          let vs = ev ∙ ap (λ (s : Shape). put 0 (joined_words mode s.typ addresses stands ids offsets values ords') outValues) c.is ∙ values_are (table p r) (rows p r) required map-stands all (alike required ss c.types) outValues in
          let front = ap (take (length (value_words col.type col.values))) vs ∙ take_at (value_words col.type col.values) _ _ refl in
          (λ j.
          record {
            answer =
                accepted
                (record {
                  type = (c.is j).typ;
                  class = (c.is j).class;
                  rows = (c.is j).rows;
                  ids = (c.is j).ids;
                  offsets = (c.is j).offsets;
                  values = (c.is j).values;
                  terms = d.terms j;
                  term_bytes = d.used j;
                  map = (ap (λ (s : Shape). s.map) c.is ∙ sym (map-count ss)) j;
                  copied = d.copied j;
                  pair = (ep ∙ ap (λ (s : Shape). pair_for s.typ stands (take s.words values')) c.is ∙ pair-joined (table p r) (rows p r) required c.types front) j;
                });
            buffers =
                buffers_of
                ((ei ∙ ap (λ (s : Shape). put_if (not (eqb s.class 0)) 0 (ids_of 0 (widths_for mode addresses stands ids offsets)) outIds) c.is ∙ ids_are (table p r) (rows p r) required outIds) j)
                ((eo ∙ ap (λ (s : Shape). put_if (eqb s.class 2) 0 (0 ∷ totals_of 0 (widths_for mode addresses stands ids offsets)) outOffsets) c.is ∙ offsets_are (table p r) (rows p r) required outOffsets) j)
                (vs j)
                (d.lengths_out j)
                (d.texts_out j)
                (d.map_out j)
                ((ew ∙ p.clean) j);
          })
          ∙ left-accepted l z
