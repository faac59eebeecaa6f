-- The dictionary's part: the marks in the working bytes, what the merge is given, and what is left. Assumes nothing.
use Prim.Native.Nat.{ℕ, ◌+◌, ◌≤◌, ◌<◌}
use native.Mathlib.Omega.{arith}
use mathlib.Core.Path.{◌≡◌, refl, sym, ap, ◌∙◌, subst}
use mathlib.Core.List.{List, [], ◌++◌}
use mathlib.Core.Bool.{Bool, true, false, cond}
use lib.Dec.{T, eqb}
use lib.ListN.{length, get_or, take, drop, replicate, length-replicate}
use lib.Seq.{take_at, length-take-le}
use borrow.Author.Tests.{eqb-true, eqb-false}
use Rattle.definitions.specs.Lists.{terms_ascending}
use Rattle.definitions.specs.Segment.{Segment}
use Rattle.definitions.specs.Row.{is_held, as_empty, effective, has_alive_set}
use Rattle.definitions.specs.Types.{has_terms, pair_of}
use Rattle.definitions.specs.Join.{absent, is_used, terms_of, map_of}
use Rattle.definitions.specs.Answer.{values_fit, pair_fits}
use Rattle.definitions.proofs.Cell.{effective-rows, effective-fits}
use Rattle.definitions.proofs.Group.{effective-held}
use Rattle.lists.proofs.Tests.{at_code, past_code}
use Rattle.lists.proofs.Sums.{sum-at, below-same}
use Rattle.runs.proofs.Zeros.{part-zero, cleared}
use Rattle.stands.specs.Stand.{many, stand_at}
use Rattle.census.specs.Table.{counted, map_before, Table}
use Rattle.census.proofs.Table.{ascends}
use Rattle.term_cursors.specs.Cursors.{unmarked_at}
use Rattle.term_cursors.specs.Runs.{terms_before, Runs}
use Rattle.term_marks.specs.Marks.{marked_all, Columns, Apart}
use Rattle.term_marks.proofs.Kept.{mark-at, unmarked-is, words_single, kept-is, columns_of}
use Rattle.term_walk.specs.Walk.{Merged}
use Rattle.term_walk.proofs.Ends.{merged-same}
use Rattle.merge_dict_column.specs.Dict.{dict_at, Texts, Dictionary}
use Rattle.merge_dict_column.specs.Fill.{marks_for, marks_of, MarksFor, DictionaryGiven, DictionaryLeft}
use Rattle.merge_dict_column.proofs.Bridge.{Marked, terms_are, map_is, many_is, terms-sum, texts-sum}

-- ---- a segment as it counts

counted-worded : (s : Segment) → T (values_fit s) → T (values_fit (effective s))
unfolding effective as_empty values_fit has_terms pair_fits pair_of
counted-worded s fit = go (is_held s)
  where
    go : (b : Bool) → T (values_fit (cond b s (as_empty s)))
    go true = fit
    go false = tt

-- ---- the marks, by mode

module _ (mode : ℕ) (stands : List (List ℕ)) (ids offsets values alive marks : List ℕ) where
  pub unmarked : mode ≡ 0 → marks ≡ marks_for mode stands ids offsets values alive marks
  unfolding marks_for
  unmarked e = at_code mode 0 marks (marked_all stands ids offsets values alive marks) e

  pub marked : {m : List ℕ} → (mode ≡ 0 → ⊥) → m ≡ marked_all stands ids offsets values alive marks → m ≡ marks_for mode stands ids offsets values alive marks
  unfolding marks_for
  marked n e = e ∙ past_code mode 0 marks (marked_all stands ids offsets values alive marks) n

module _ {stands : List (List ℕ)} {ids offsets values lengths bytes alive : List ℕ} {ss : List Segment} (t : Table stands ids offsets values lengths bytes alive ss) where
  below : {s : ℕ} → s < length stands → s < length ss
  below {s} h = subst (λ (n : ℕ). s < n) t.size h

  -- what the marks pass is given
  columns : {marks : List ℕ} → length marks ≡ length lengths → Columns stands ids offsets values alive marks
  columns e =
      columns_of (counted ss)
      (λ k l.
      let h = below l in
      record {
        stands = t.each k h;
        lists = effective-fits (get_or ss k absent) (t.fits k h);
        ordinals = counted-worded (get_or ss k absent) (t.worded k h);
        few = let a = sum-at (λ (s : Segment). s.rows) ss k absent h in let b = t.rows in omega (arith, effective-rows (get_or ss k absent));
        terms = many_is t k h;
        terms-lie = record { rises = (t.terms-lie k h).rises; ends = omega (arith, (t.terms-lie k h).ends) };
      })

  apart : Apart stands
  apart = record { apart = λ j k h l. t.apart j k h (below l) }

  -- a mark says whether the segment keeps the term
  marked-ordered : Marked stands (marked_all stands ids offsets values alive (replicate (length lengths) 0)) false ss
  marked-ordered =
      record {
        mark = λ s i l e k.
            let h : s < length stands = subst (λ (n : ℕ). s < n) (sym t.size) l in
            let m : i < many (stand_at stands s).terms = omega (arith, many_is t s l, ap (λ (y : Segment). length y.terms) (effective-held (get_or ss s absent) e)) in
            unmarked-is (marked_all stands ids offsets values alive (replicate (length lengths) 0)) ((stand_at stands s).terms.from + i) (cond (has_alive_set (get_or ss s absent)) (is_used (get_or ss s absent) i) true)
            (mark-at ids offsets values alive (length lengths) apart (columns (length-replicate (length lengths) 0)) refl s i h m
            ∙ ap (λ (b : Bool). cond b 1 0) (kept-is (t.each s l) (words_single (counted ss s) (counted-worded (get_or ss s absent) (t.worded s l)) (omega (arith, many_is t s l))) i ∙ ap (λ (y : Segment). cond (has_alive_set y) (is_used y i) true) (effective-held (get_or ss s absent) e)));
      }

  -- no segment has an alive set, and every term is kept
  marked-stacked : (marks : List ℕ) → ((k : ℕ) → k < length ss → has_alive_set (get_or ss k absent) ≡ false) → Marked stands marks true ss
  unfolding unmarked_at
  marked-stacked marks none = record { mark = λ s i l e k. sym (ap (λ (b : Bool). cond b (is_used (get_or ss s absent) i) true) (none s l)) }

  module _ (mode : ℕ) (alone : mode ≡ 0 → (k : ℕ) → k < length ss → has_alive_set (get_or ss k absent) ≡ false) where
    abbrev marks : List ℕ
    marks = marks_of mode stands ids offsets values alive lengths

    by_mode : Marked stands marks (eqb mode 0) ss
    unfolding marks_of marks_for
    by_mode = go (eqb mode 0) refl
      where
        go : (b : Bool) → eqb mode 0 ≡ b → Marked stands (cond b (replicate (cond b 0 (length lengths)) 0) (marked_all stands ids offsets values alive (replicate (cond b 0 (length lengths)) 0))) b ss
        go true e = marked-stacked [] (alone (eqb-true mode 0 e))
        go false e = marked-ordered

    -- the dictionary and the map of the definitions
    pub joins : {lens outs ords : List ℕ} {n m k : ℕ} {lens' outs' ords' : List ℕ} → Dictionary stands lengths bytes marks (eqb mode 0) lens outs ords n m k lens' outs' ords'
        → Merged (terms_of ss) (map_of ss) lens outs ords n m k lens' outs' ords'
    joins d = merged-same (terms_are t by_mode) (map_is t by_mode) d

-- ---- the walk

module _ {mode : ℕ} {stands : List (List ℕ)} {ids offsets values lengths bytes alive work lens outs ords : List ℕ}
    (g : DictionaryGiven mode stands ids offsets values lengths bytes alive work lens outs ords) {n : ℕ} (ne : n ≡ cond (eqb mode 0) 0 (length lengths)) where
  t : Table stands ids offsets values lengths bytes alive g.ss
  t = g.table

  pub marks_fit : n ≤ length work
  marks_fit = go (eqb mode 0) refl ne
    where
      go : (b : Bool) → eqb mode 0 ≡ b → n ≡ cond b 0 (length lengths) → n ≤ length work
      go true e q = omega arith
      go false e q = let r = g.room (eqb-false mode 0 e) in omega arith

  marks-count : (mode ≡ 0 → ⊥) → n ≡ length lengths
  marks-count d = ne ∙ sym (past_code mode 0 0 (length lengths) d)

  part-long : length (take n work) ≡ n
  part-long = length-take-le n work marks_fit

  pub marks-given : MarksFor mode stands ids offsets values alive (take n work)
  marks-given = record { columns = λ d. columns t (part-long ∙ marks-count d) }

  -- ---- after the marks: m stands where the part stood
  module _ (m : List ℕ) (l : length m ≡ length (take n work)) (me : m ≡ marks_for mode stands ids offsets values alive (take n work)) where
    front : take n (m ++ drop n work) ≡ m
    front = take_at m (drop n work) n (l ∙ part-long)

    marks_are : take n (m ++ drop n work) ≡ marks_of mode stands ids offsets values alive lengths
    unfolding marks_of
    marks_are =
        front ∙ me
        ∙ ap (marks_for mode stands ids offsets values alive) (part-zero work n marks_fit g.clean ∙ ap (λ (k : ℕ). replicate k 0) (part-long ∙ ne))

    pub merge_given : Runs stands lengths bytes (take n (m ++ drop n work)) (eqb mode 0) × Texts stands lengths bytes lens outs ords
    unfolding dict_at
    merge_given = (
      record {
        few = omega (arith, t.size, t.few);
        lie = λ s h. t.terms-lie s (below t h);
        marked = λ e s h. let a = marks-count (eqb-false mode 0 e) in let b = ap length front ∙ l ∙ part-long in omega (arith, (t.terms-lie s (below t h)).ends);
        texts = λ s h. t.text_in s (below t h);
      },
      record {
        ascending = λ s h. subst (λ (d : List (List ℕ)). T (terms_ascending d)) (sym (t.dict s (below t h))) (ascends (counted g.ss s) (counted-worded (get_or g.ss s absent) (t.worded s (below t h))));
        starts = λ s h. ap (λ w. w.from) (t.map s (below t h)) ∙ before s (below t h);
        terms = omega (arith, terms-sum t, g.terms);
        places = omega (arith, terms-sum t, g.map);
        texts = omega (arith, texts-sum t, g.texts);
        narrow = omega (arith, texts-sum t, g.narrow);
      },
    )
      where
        before : (s : ℕ) → s < length g.ss → map_before g.ss s ≡ terms_before stands s
        before s h = below-same (λ j. length (counted g.ss j).terms) (λ j. many (stand_at stands j).terms) s (λ j q. sym (many_is t j (omega arith)))

    -- ---- after the merge
    pub left : (a b e : ℕ) (lens' outs' ords' z : List ℕ) → Dictionary stands lengths bytes (take n (m ++ drop n work)) (eqb mode 0) lens outs ords a b e lens' outs' ords'
        → z ≡ replicate (length (take n (m ++ drop n work))) 0
        → DictionaryLeft mode stands ids offsets values lengths bytes alive work lens outs ords a b e (z ++ drop n (m ++ drop n work)) lens' outs' ords'
    left a b e lens' outs' ords' z d ze =
        record {
          merged = subst (λ (y : List ℕ). Dictionary stands lengths bytes y (eqb mode 0) lens outs ords a b e lens' outs' ords') marks_are d;
          clean = cleared work n marks_fit g.clean m l z ze ∙ sym g.clean;
        }
