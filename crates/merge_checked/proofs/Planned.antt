-- What `measure` says of an input that has passed the checks up to 9: 10, 11, or the joined column's own numbers. Assumes nothing.
use Prim.Native.Nat.{ℕ, ◌+◌, ◌*◌, ◌≤◌, ◌<◌}
use native.Mathlib.Omega.{arith}
use mathlib.Core.Path.{◌≡◌, refl, sym, ap, ap₂, ◌∙◌, subst}
use mathlib.Core.List.{List, [], ◌∷◌, ◌++◌, map}
use mathlib.Core.Bool.{Bool, true, false, not, cond, ◌||◌}
use lib.ListN.{length, take, drop, length-map, length-append}
use lib.Dec.{eqb, ltb}
use lib.Seq.{take_at, length-take-le}
use Rattle.definitions.specs.Lists.{sum, concat}
use Rattle.definitions.specs.Words.{words_per_value, value_words}
use Rattle.definitions.specs.Segment.{Segment, Input, segments_of}
use Rattle.definitions.specs.Row.{no_type, held_of}
use Rattle.definitions.specs.Join.{Column, stacked_from, row_order, cell_at, terms_of, ordinal_of, map_of, joined_type, joined_class, joined_cells, encode, joined_column, join_rules}
use Rattle.definitions.specs.Answer.{sum_over, terms_in, bytes_in, types_wrong, output_too_short}
use Rattle.definitions.specs.Outcome.{Buffers, space_of, input_of, lent_of}
use Rattle.definitions.proofs.Words.{length-words}
use Rattle.segment.specs.Records.{segments_in, records_of}
use Rattle.segment.specs.Lent.{addresses_of}
use Rattle.lists.proofs.Numbers.{not-ltb}
use Rattle.stands.specs.Width.{ids_of}
use Rattle.census.specs.declared.Tally.{Tally}
use Rattle.census.specs.Settled.{no_tally, tally_from}
use Rattle.census.specs.Table.{Table}
use Rattle.census.specs.Census.{counted_all}
use Rattle.census.proofs.Settled.{tally_is as counted_is}
use Rattle.census.proofs.Rows.{count-sum, count-is}
use Rattle.census.proofs.Table.{Tallied, tallied}
use Rattle.std.proofs.Common.{Option, None, Some}
use Rattle.merge_type.specs.Parts.{Coded, type_answer}
use Rattle.merge_type.proofs.Rules.{answer-is}
use Rattle.merge_column.proofs.Index.{stacked-length}
use Rattle.merge_column.proofs.Stand.{table_of}
use Rattle.merge_column.proofs.Pair.{typed}
use Rattle.merge_column.proofs.Joined.{Rows, few-values, ids-number, offsets-number, values-count}
use Rattle.merge_column.specs.declared.Shape.{Shape}
use Rattle.merge_column.specs.declared.Space as Place
use Rattle.std.specs.Prelude.{Result, Ok, Err}
use Rattle.refusal.specs.declared.Refusal.{Refusal}
use Rattle.refusal.specs.declared.Refusal.TheVariants.{Types, OutputSpace}
use Rattle.merge_column.specs.Plan.{class_for, ids_for, offsets_for, enough_for, settled_of, shape_of, plan_of, plan_by, plan_for}
use Rattle.merge_checked.specs.Call.{AfterNine}
use Rattle.merge_checked.proofs.Given.{checked, alone, order}

-- ---- sums

map-length : (ts : List (List ℕ)) (hs : List Segment) → length (concat (map (λ s. map (ordinal_of ts) s.terms) hs)) ≡ sum_over terms_in hs
map-length ts [] = refl
map-length ts (h ∷ hs) =
    length-append (map (ordinal_of ts) h.terms) (concat (map (λ s. map (ordinal_of ts) s.terms) hs))
    ∙ ap₂ (λ (a b : ℕ). a + b) (length-map h.terms (ordinal_of ts)) (map-length ts hs)

pub map-count : (ss : List Segment) → length (map_of ss) ≡ sum_over terms_in (held_of ss)
unfolding map_of
map-count ss = map-length (terms_of ss) (held_of ss)

-- ---- room for everything

six-or : (a b c d e f : Bool) → cond a false (cond b false (cond c false (cond d false (cond e false (not f))))) ≡ not (a || b || c || d || e || f)
six-or true b c d e f = refl
six-or false true c d e f = refl
six-or false false true d e f = refl
six-or false false false true e f = refl
six-or false false false false true f = refl
six-or false false false false false f = refl

not-cond : (b : Bool) (x y : Result Shape Refusal) → cond (not b) x y ≡ cond b y x
not-cond true x y = refl
not-cond false x y = refl

-- the table and the tally that `prepare` leaves
pub record Prepared (records : List (List ℕ)) (ids offsets lengths words : List ℕ) (stands : List (List ℕ)) (tally : Tally) : Type 0 where
  pub stands_are : stands ≡ settled_of records ids offsets lengths words
  pub tally_is : tally ≡ tally_from no_tally stands ids offsets words

pub prepared : {records : List (List ℕ)} {ids offsets lengths words : List ℕ} {stands : List (List ℕ)} {tally : Tally} → stands ≡ settled_of records ids offsets lengths words
    → tally ≡ tally_from no_tally stands ids offsets words → Prepared records ids offsets lengths words stands tally
prepared s t = record { stands_are = s; tally_is = t }

module _ {mode required : ℕ} {records : List (List ℕ)} {ids offsets values lengths bytes words : List ℕ} {addresses : List (List ℕ)} {work : List ℕ}
    (p : AfterNine mode required records ids offsets values lengths bytes words addresses work) {stands : List (List ℕ)} {tally : Tally} (q : Prepared records ids offsets lengths words stands tally) where
  abbrev ss : List Segment
  ss = segments_in records ids offsets values lengths bytes words

  pub table : Table stands ids offsets values lengths bytes words ss
  table = subst (λ (l : List (List ℕ)). Table l ids offsets values lengths bytes words ss) (sym q.stands_are) (table_of (checked p))

  pub rows : Rows mode addresses ss
  rows = record { alone = alone p; order = order p }

  abbrev col : Column
  col = joined_column required ss (row_order mode ss (addresses_of addresses))

  -- what `measure` asks
  pub types_coded : Coded stands
  types_coded = record { each = λ k h. table.small k (subst (λ (n : ℕ). k < n) table.size h) }

  type-is : type_answer required stands ≡ cond (types_wrong required ss) None (Some (joined_type required ss))
  type-is = answer-is required (typed table)

  sums : Tallied tally ss
  sums = subst (λ (y : Tally). Tallied y ss) (sym q.tally_is) (tallied table)

  counts : (tally.listed ≡ length (ids_of 0 (counted_all stands ids offsets words))) × (tally.values ≡ sum (counted_all stands ids offsets words))
  counts =
      let a = counted_is no_tally stands ids offsets words in
      let x = ap (λ (y : Tally). y.listed) q.tally_is in
      let y = ap (λ (y : Tally). y.values) q.tally_is in
      (omega (arith, a.1), omega (arith, a.2))

  values_are : tally.values ≡ length col.values
  values_are = counts.1 ∙ values-count table rows required

  pub listed-low : tally.listed < 18446744073709551615
  listed-low =
      let b = count-sum (counted_all stands ids offsets words) in
      let d = count-is (counted_all stands ids offsets words) in
      let e = values-count table rows required in
      let f = few-values table rows required in
      omega (arith, counts.0)

  pub values_low : tally.values ≤ 4294967294
  values_low = let a = few-values table rows required in omega (arith, values_are)

  class-is : class_for (joined_type required ss) tally.class ≡ joined_class required ss
  unfolding class_for joined_class
  class-is = ap (λ (n : ℕ). cond (eqb (joined_type required ss) no_type) 0 n) sums.class

  rows-number : cond (eqb mode 0) tally.rows (length addresses) ≡ col.rows
  unfolding row_order joined_column encode joined_cells
  rows-number = go (eqb mode 0)
    where
      go : (b : Bool) → cond b tally.rows (length addresses) ≡ length (map (cell_at (joined_type required ss) (terms_of ss) ss) (cond b (stacked_from 0 ss) (addresses_of addresses)))
      go true = sums.rows ∙ sym (length-map (stacked_from 0 ss) _ ∙ stacked-length 0 ss)
      go false = sym (length-map (addresses_of addresses) _ ∙ length-map addresses _)

  words-number : tally.values * words_per_value (joined_type required ss) ≡ length (value_words col.type col.values)
  unfolding joined_column encode
  words-number = ap (λ (n : ℕ). n * words_per_value (joined_type required ss)) values_are ∙ sym (length-words (joined_type required ss) col.values)

  -- the joined column's own numbers
  unfoldable pub shape : Shape
  shape =
      record {
        typ = joined_type required ss;
        class = joined_class required ss;
        rows = col.rows;
        ids = length col.ids;
        offsets = length col.offsets;
        values = length col.values;
        words = length (value_words col.type col.values);
        map = sum_over terms_in (held_of ss);
      }

  -- the shape as `measure` finds it
  shape_is : shape_of (joined_type required ss) (cond (eqb mode 0) tally.rows (length addresses)) tally ≡ shape
  unfolding shape shape_of
  shape_is =
      λ j.
      record {
        typ = joined_type required ss;
        class = class-is j;
        rows = rows-number j;
        ids = ((λ i. ids_for (class-is i) (counts.0 i)) ∙ ids-number table rows required) j;
        offsets = ((λ i. offsets_for (class-is i) (counts.0 i)) ∙ offsets-number table rows required) j;
        values = values_are j;
        words = words-number j;
        map = sums.terms j;
      }

  module _ (b : Buffers) where
    abbrev i : Input
    i = input_of (lent_of mode required (records_of records) ids offsets values lengths bytes words addresses b)

    abbrev space : Place.Space
    space =
        record {
          ids = length b.ids;
          offsets = length b.offsets;
          values = length b.values;
          lengths = length b.term_lengths;
          bytes = length b.term_bytes;
          map = length b.map;
        }

    enough-is : enough_for shape (sum_over bytes_in (held_of ss)) space ≡ not (output_too_short i)
    unfolding enough_for shape output_too_short input_of space_of segments_of join_rules
    enough-is =
        ap (λ (x : Bool).
        cond (ltb (length b.ids) (length col.ids)) false
        (cond (ltb (length b.offsets) (length col.offsets)) false
        (cond (ltb (length b.values) (length (value_words col.type col.values))) false
        (cond (ltb (length b.term_lengths) (sum_over terms_in (held_of ss))) false
        (cond (ltb (length b.term_bytes) (sum_over bytes_in (held_of ss))) false x)))))
        (sym (not-ltb (sum_over terms_in (held_of ss)) (length b.map)))
        ∙ six-or (ltb (length b.ids) (length col.ids)) (ltb (length b.offsets) (length col.offsets)) (ltb (length b.values) (length (value_words col.type col.values)))
        (ltb (length b.term_lengths) (sum_over terms_in (held_of ss))) (ltb (length b.term_bytes) (sum_over bytes_in (held_of ss))) (ltb (length b.map) (sum_over terms_in (held_of ss)))

    pub plan-is : plan_for mode required stands (length addresses) tally space
        ≡ cond (types_wrong required ss) (Err Types) (cond (output_too_short i) (Err OutputSpace) (Ok shape))
    unfolding plan_for plan_of
    plan-is =
        ap (λ (y : Option ℕ). plan_by y (cond (eqb mode 0) tally.rows (length addresses)) tally space) type-is
        ∙ go (types_wrong required ss)
      where
        column : plan_by (Some (joined_type required ss)) (cond (eqb mode 0) tally.rows (length addresses)) tally space ≡ cond (output_too_short i) (Err OutputSpace) (Ok shape)
        column =
            (λ j. cond (enough_for (shape_is j) (sums.bytes j) space) (Ok (shape_is j)) (Err OutputSpace))
            ∙ ap (λ (x : Bool). cond x (Ok shape) (Err OutputSpace)) enough-is
            ∙ not-cond (output_too_short i) (Ok shape) (Err OutputSpace)

        go : (t : Bool) → plan_by (cond t None (Some (joined_type required ss))) (cond (eqb mode 0) tally.rows (length addresses)) tally space
            ≡ cond t (Err Types) (cond (output_too_short i) (Err OutputSpace) (Ok shape))
        go true = refl
        go false = column
