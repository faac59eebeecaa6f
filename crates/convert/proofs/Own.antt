-- The converter's checks as the code makes them are the definitions' own. Assumes nothing.
use Prim.Native.Nat.{ℕ, suc, ◌+◌}
use native.Mathlib.Nat.{add-zero, zero-add}
use native.Mathlib.Numerals.{add-one}
use native.Mathlib.Omega.{arith}
use mathlib.Core.Path.{◌≡◌, refl, sym, ap, ap₂, ◌∙◌}
use mathlib.Core.List.{List, [], ◌∷◌}
use mathlib.Core.Bool.{Bool, true, false, not, ◌&&◌, and-false}
use lib.ListN.{length, take, drop, get_or}
use lib.Seq.{take_all}
use lib.Dec.{eqb, ltb, leb}
use borrow.Author.Tests.{ne_eqb, eqb-true, lt-ltb}
use Rattle.definitions.specs.Lists.{sum, is_empty, last, not_falling, not_falling_from}
use Rattle.definitions.specs.Words.{values_in}
use Rattle.definitions.specs.Segment.{SegmentRecord, Sections, by_kind, alive_words, record_words, first_segment}
use Rattle.definitions.specs.Row.{no_type}
use Rattle.definitions.specs.Types.{is_known_type}
use Rattle.definitions.specs.Checks.{Check, check, first_of}
use Rattle.definitions.specs.Answer.{lengths_wrong, codes_known, offsets_fit, empty_fits, full_fits, optional_fits, old_fits, new_fits, lists_fit, values_fit, alive_set_wrong}
use Rattle.definitions.specs.Convert.{is_convertible}
use Rattle.definitions.proofs.Sections.{values-many}
use Rattle.lists.proofs.Numbers.{not-ltb}
use Rattle.lists.proofs.Lists.{empty-length}
use Rattle.lists.proofs.Tests.{both_true}
use Rattle.segment_fit.specs.Fits.{fits_offsets, fits_values, fits_set, fits_alive}
use Rattle.segment_fit.proofs.Own.{assoc5, offsets-is, values-first, set_first}
use Rattle.convert.specs.Risen.{one_if, steps_by, falls}
use Rattle.convert.specs.Fits.{fits_lengths, fits_kind, fits_old, old_checks}

-- ---- 2

assoc6 : (a b c d e f : Bool) → a && b && c && d && e && f ≡ a && (b && (c && (d && (e && f))))
assoc6 true b c d e f = assoc5 b c d e f
assoc6 false b c d e f = refl

pub lengths_are : (r : SegmentRecord) (s : Sections) → lengths_wrong (r ∷ []) s ≡ not (fits_lengths r s)
unfolding lengths_wrong fits_lengths
lengths_are r s =
    rw (add-zero r.ids, add-zero r.offsets, add-zero (record_words r), add-zero r.terms, add-zero (alive_words r))
    (ap not
    (assoc6 (eqb r.ids (length s.ids)) (eqb r.offsets (length s.offsets)) (eqb (record_words r) (length s.values)) (eqb r.terms (length s.term_lengths))
    (eqb (sum s.term_lengths) (length s.term_bytes)) (eqb (alive_words r) (length s.alive))))

-- what it says: each run is as long as the record has it
pub record Exact (r : SegmentRecord) (s : Sections) : Type 0 where
  pub ids : r.ids ≡ length s.ids
  pub offsets : r.offsets ≡ length s.offsets
  pub words : record_words r ≡ length s.values
  pub terms : r.terms ≡ length s.term_lengths
  pub bytes : sum s.term_lengths ≡ length s.term_bytes
  pub alive : alive_words r ≡ length s.alive

pub exact : (r : SegmentRecord) (s : Sections) → fits_lengths r s ≡ true → Exact r s
unfolding fits_lengths
exact r s h =
    let a = both_true (eqb r.ids (length s.ids)) _ h in
    let b = both_true (eqb r.offsets (length s.offsets)) _ a.1 in
    let c = both_true (eqb (record_words r) (length s.values)) _ b.1 in
    let d = both_true (eqb r.terms (length s.term_lengths)) _ c.1 in
    let e = both_true (eqb (sum s.term_lengths) (length s.term_bytes)) _ d.1 in
    record {
      ids = eqb-true r.ids (length s.ids) a.0;
      offsets = eqb-true r.offsets (length s.offsets) b.0;
      words = eqb-true (record_words r) (length s.values) c.0;
      terms = eqb-true r.terms (length s.term_lengths) d.0;
      bytes = eqb-true (sum s.term_lengths) (length s.term_bytes) e.0;
      alive = eqb-true (alive_words r) (length s.alive) e.1;
    }

-- ---- 3

-- e: of kind 3; b, below 5, says no more
kind-last : (a b c d e : Bool) → (e ≡ true → b ≡ true) → a && b && c && d && e ≡ a && (c && (d && e))
kind-last a b c d false h = and-false (a && b && c && d) ∙ sym (ap (λ (x : Bool). a && (c && x)) (and-false d) ∙ ap (λ (x : Bool). a && x) (and-false c) ∙ and-false a)
kind-last a b c d true h = ap (λ (x : Bool). a && x && c && d && true) (h refl) ∙ go a
  where
    go : (a : Bool) → a && true && c && d && true ≡ a && (c && (d && true))
    go true = and_last c
      where
        and_last : (c : Bool) → c && d && true ≡ c && (d && true)
        and_last true = refl
        and_last false = refl
    go false = refl

pub kind-is : (r : SegmentRecord) (s : Sections) → is_convertible (first_segment r s) ≡ fits_kind r
unfolding is_convertible codes_known first_segment fits_kind
kind-is r s =
    kind-last (is_known_type r.type) (ltb r.kind 5) (ltb r.flag 2) (not (eqb r.type no_type)) (eqb r.kind 3)
    (λ e. lt-ltb r.kind 5 (let k = eqb-true r.kind 3 e in omega arith))

pub kind_three : (r : SegmentRecord) → fits_kind r ≡ true → r.kind ≡ 3
unfolding fits_kind
kind_three r h =
    let a = both_true (is_known_type r.type) _ h in
    let b = both_true (ltb r.flag 2) _ a.1 in
    let c = both_true (not (eqb r.type no_type)) _ b.1 in
    eqb-true r.kind 3 c.1

-- ---- 4

-- nothing falls
falls-from : (o : ℕ) (os : List ℕ) → eqb (falls (o ∷ os)) 0 ≡ not_falling_from o os
unfolding steps_by
falls-from o [] = refl
falls-from o (p ∷ ps) = go (ltb p o) (not-ltb o p) (falls-from p ps)
  where
    go : (b : Bool) → not b ≡ leb o p → eqb (falls (p ∷ ps)) 0 ≡ not_falling_from p ps → eqb (one_if b + falls (p ∷ ps)) 0 ≡ leb o p && not_falling_from p ps
    go true e h = ne_eqb (1 + falls (p ∷ ps)) 0 (λ q. omega arith) ∙ ap (λ (t : Bool). t && not_falling_from p ps) e
    go false e h = ap (λ (n : ℕ). eqb n 0) (zero-add (falls (p ∷ ps))) ∙ h ∙ ap (λ (t : Bool). t && not_falling_from p ps) e

falls-none : (os : List ℕ) → eqb (falls os) 0 ≡ not_falling os
unfolding steps_by
falls-none [] = refl
falls-none (o ∷ os) = falls-from o os

assoc4 : (a b c d : Bool) → a && b && c && d ≡ a && (b && (c && d))
assoc4 a b c d = assoc5 true a b c d

old_is : (rows n : ℕ) (ids offsets values : List ℕ) → length values ≡ n
    → is_empty ids && eqb (length offsets) (suc rows) && (eqb (get_or offsets 0 1) 0 && eqb (last offsets) (length values)) && not_falling offsets ≡ fits_old rows n ids offsets
unfolding fits_old
old_is rows n ids offsets values v =
    rw (empty-length ids, offsets-is rows n ids offsets values v, ← falls-none offsets, ← add-one rows)
    (assoc4 (eqb (length ids) 0) (eqb (length offsets) (rows + 1)) (fits_offsets n offsets) (eqb (falls offsets) 0))

-- ---- of runs that are as long as the record says

module _ (r : SegmentRecord) (s : Sections) (x : Exact r s) where
  pub whole : {n : ℕ} {l : List ℕ} → n ≡ length l → take n l ≡ l
  whole {n} {l} e = take_all n l (omega arith)

  lists_is : r.kind ≡ 3 → lists_fit (first_segment r s) ≡ fits_old r.rows r.values s.ids s.offsets
  unfolding first_segment lists_fit old_fits offsets_fit
  lists_is k =
      ap (λ (n : ℕ). by_kind n (empty_fits (first_segment r s)) (full_fits (first_segment r s)) (optional_fits (first_segment r s)) (old_fits (first_segment r s)) (new_fits (first_segment r s))) k
      ∙ old_is r.rows r.values (take r.ids s.ids) (take r.offsets s.offsets) (values_in r.type (take (record_words r) s.values)) (values-many r s.values (omega (arith, x.words)))
      ∙ ap₂ (λ (a b : List ℕ). fits_old r.rows r.values a b) (whole x.ids) (whole x.offsets)

  values-is : values_fit (first_segment r s) ≡ fits_values r s.values s.term_lengths s.term_bytes
  values-is = values-first r s ∙ ap₂ (λ (a b : List ℕ). fits_values r a b s.term_bytes) (whole x.words) (whole x.terms)

  alive-is : alive_set_wrong (first_segment r s) ≡ not (fits_alive 1 r s.alive)
  unfolding fits_alive
  alive-is = set_first r s ∙ ap (λ (alive : List ℕ). not (fits_set r alive)) (whole x.alive)

-- ---- the first that fails

-- the checks as the code asks them
abbrev pub asked : SegmentRecord → Sections → List Check
asked r s =
    check 2 (not (fits_lengths r s))
    ∷ check 3 (not (fits_kind r))
    ∷ check 4 (not (fits_old r.rows r.values s.ids s.offsets))
    ∷ check 5 (not (fits_values r s.values s.term_lengths s.term_bytes))
    ∷ check 6 (not (fits_alive 1 r s.alive))
    ∷ []

module _ (r : SegmentRecord) (s : Sections) where
  -- 4 to 6 are asked of runs that are as long as the record says, and of kind 3
  pub checks_are : first_of (old_checks r s) ≡ first_of (asked r s)
  unfolding old_checks
  checks_are = rw (lengths_are r s, kind-is r s) (lengths (fits_lengths r s) refl)
    where
      kind : (b : Bool) → fits_kind r ≡ b → Exact r s → first_of (check 3 (not b) ∷ drop 2 (old_checks r s)) ≡ first_of (check 3 (not b) ∷ drop 2 (asked r s))
      kind false e x = refl
      kind true e x = rw (lists_is r s x (kind_three r e), values-is r s x, alive-is r s x)

      lengths : (b : Bool) → fits_lengths r s ≡ b
          → first_of (check 2 (not b) ∷ check 3 (not (fits_kind r)) ∷ drop 2 (old_checks r s)) ≡ first_of (check 2 (not b) ∷ check 3 (not (fits_kind r)) ∷ drop 2 (asked r s))
      lengths false e = refl
      lengths true e = kind (fits_kind r) refl (exact r s e)
