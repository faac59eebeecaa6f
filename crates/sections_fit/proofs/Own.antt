-- The checks of all segments as the code walks them are the definitions' own. Assumes nothing.
use mathlib.Core.Path.{◌≡◌, refl, sym, ap, ap₂, ◌∙◌}
use mathlib.Core.Bool.{Bool, true, false, not, ◌&&◌, ◌||◌, not-not, and-false}
use mathlib.Core.List.{List, [], ◌∷◌}
use Prim.Native.Nat.{ℕ, ◌+◌, ◌≤◌}
use native.Mathlib.Omega.{arith}
use lib.Dec.{eqb, ltb, leb}
use lib.ListN.{length, drop, take, length-drop}
use lib.Seq.{length-take-le}
use borrow.Author.Tests.{eqb-true}
use Rattle.definitions.specs.Lists.{sum, all, any}
use Rattle.definitions.specs.Segment.{SegmentRecord, Sections, Input, segments_of, alive_words, record_words, first_segment, after_first, segments_from}
use Rattle.definitions.specs.Row.{has_alive_set}
use Rattle.definitions.specs.Types.{is_known_type}
use Rattle.definitions.specs.Answer.{total, codes_wrong, alive_wrong, lengths_wrong, codes_known, no_column_is_bare, segment_codes_wrong, is_old, some_old, lists_fit, lists_wrong, values_fit, values_wrong, alive_set_wrong, sum_over, bytes_in, terms_in, sums_too_large, greatest_sum}
use Rattle.segment_fit.specs.Fits.{fits_set, fits_alive}
use Rattle.segment_fit.proofs.Own.{assoc5, codes-first, lists_first, values-first, set_first, flag-first}
use Rattle.sections_fit.specs.Walks.{lengths_right, Exact, codes_from, known_codes, none_old, lists_from, values_from, alive_fits_from, sums_right}
use Rattle.definitions.proofs.Lists.{or_left, or_right}
use Rattle.lists.proofs.Tests.{both_true}
use Rattle.lists.proofs.Numbers.{not-ltb}
use Rattle.definitions.proofs.Sections.{cut-length, values-many}
use Rattle.lists.proofs.Cuts.{cut-bytes}
use Rattle.lists.proofs.Sums.{sum_split}

-- ---- 2

assoc6 : (a b c d e f : Bool) → a && b && c && d && e && f ≡ a && (b && (c && (d && (e && f))))
assoc6 true b c d e f = assoc5 b c d e f
assoc6 false b c d e f = refl

pub lengths-wrong : (rs : List SegmentRecord) (s : Sections) → lengths_wrong rs s ≡ not (lengths_right rs s)
unfolding lengths_wrong lengths_right
lengths-wrong rs s =
    ap not
    (assoc6 (eqb (total (λ (r : SegmentRecord). r.ids) rs) (length s.ids)) (eqb (total (λ (r : SegmentRecord). r.offsets) rs) (length s.offsets)) (eqb (total record_words rs) (length s.values)) (eqb (total (λ (r : SegmentRecord). r.terms) rs) (length s.term_lengths)) (eqb (sum s.term_lengths) (length s.term_bytes)) (eqb (total alive_words rs) (length s.alive)))

pub exact : (rs : List SegmentRecord) (s : Sections) → lengths_right rs s ≡ true → Exact rs s
unfolding lengths_right
exact rs s h =
    let e = eqb (total alive_words rs) (length s.alive) in
    let d = eqb (sum s.term_lengths) (length s.term_bytes) && e in
    let c = eqb (total (λ (r : SegmentRecord). r.terms) rs) (length s.term_lengths) && d in
    let b = eqb (total record_words rs) (length s.values) && c in
    let a = eqb (total (λ (r : SegmentRecord). r.offsets) rs) (length s.offsets) && b in
    let p = both_true (eqb (total (λ (r : SegmentRecord). r.ids) rs) (length s.ids)) a h in
    let q = both_true (eqb (total (λ (r : SegmentRecord). r.offsets) rs) (length s.offsets)) b p.1 in
    let t = both_true (eqb (total record_words rs) (length s.values)) c q.1 in
    let u = both_true (eqb (total (λ (r : SegmentRecord). r.terms) rs) (length s.term_lengths)) d t.1 in
    let w = both_true (eqb (sum s.term_lengths) (length s.term_bytes)) e u.1 in
    record {
      ids = eqb-true (total (λ (r : SegmentRecord). r.ids) rs) (length s.ids) p.0;
      offsets = eqb-true (total (λ (r : SegmentRecord). r.offsets) rs) (length s.offsets) q.0;
      words = eqb-true (total record_words rs) (length s.values) t.0;
      terms = eqb-true (total (λ (r : SegmentRecord). r.terms) rs) (length s.term_lengths) u.0;
      bytes = eqb-true (sum s.term_lengths) (length s.term_bytes) w.0;
      alive = eqb-true (total alive_words rs) (length s.alive) w.1;
    }

-- ---- 3

-- the sections hold the runs that the records announce
record Held (rs : List SegmentRecord) (s : Sections) : Type 0 where
  ids : total (λ (r : SegmentRecord). r.ids) rs ≤ length s.ids
  offsets : total (λ (r : SegmentRecord). r.offsets) rs ≤ length s.offsets
  words : total record_words rs ≤ length s.values
  terms : total (λ (r : SegmentRecord). r.terms) rs ≤ length s.term_lengths

held_after : (r : SegmentRecord) (rs : List SegmentRecord) (s : Sections) → Held (r ∷ rs) s → Held rs (after_first r s)
unfolding after_first
held_after r rs s h =
    record {
      ids = rw (length-drop r.ids s.ids) (omega (arith, h.ids));
      offsets = rw (length-drop r.offsets s.offsets) (omega (arith, h.offsets));
      words = rw (length-drop (record_words r) s.values) (omega (arith, h.words));
      terms = rw (length-drop r.terms s.term_lengths) (omega (arith, h.terms));
    }

codes_all : (rs : List SegmentRecord) (s : Sections) → Held rs s → all (λ x. codes_known x && no_column_is_bare x) (segments_from rs s) ≡ codes_from rs
unfolding codes_from
codes_all [] s h = refl
codes_all (r ∷ rs) s h = ap₂ (λ (a b : Bool). a && b) (codes-first r s (omega (arith, h.ids)) (omega (arith, h.offsets)) (omega (arith, h.words)) (omega (arith, h.terms))) (codes_all rs (after_first r s) (held_after r rs s h))

-- ---- 19

none_or : (a b c : Bool) → b ≡ not c → a || b ≡ not (not a && c)
none_or true b c e = refl
none_or false b c e = e

pub some-old : (rs : List SegmentRecord) (s : Sections) → some_old (segments_from rs s) ≡ not (none_old rs)
unfolding some_old none_old first_segment
some-old [] s = refl
some-old (r ∷ rs) s = none_or (eqb r.kind 3) (any is_old (segments_from rs (after_first r s))) (none_old rs) (some-old rs (after_first r s))

-- ---- 4, of segments that have passed 19

lists_all : (rs : List SegmentRecord) (s : Sections) → some_old (segments_from rs s) ≡ false → total record_words rs ≤ length s.values
    → all lists_fit (segments_from rs s) ≡ lists_from rs s.ids s.offsets
unfolding some_old lists_from first_segment after_first
lists_all [] s old h = refl
lists_all (r ∷ rs) s old h =
    let o = any is_old (segments_from rs (after_first r s)) in
    ap₂ (λ (a b : Bool). a && b) (lists_first r s (or_left (eqb r.kind 3) o old) (omega arith))
    (lists_all rs (after_first r s) (or_right (eqb r.kind 3) o old) (rw (length-drop (record_words r) s.values) (omega arith)))

-- ---- 5

values-all : (rs : List SegmentRecord) (s : Sections) → all values_fit (segments_from rs s) ≡ values_from rs s.values s.term_lengths s.term_bytes
unfolding values_from after_first
values-all [] s = refl
values-all (r ∷ rs) s = ap₂ (λ (a b : Bool). a && b) (values-first r s) (values-all rs (after_first r s))

-- ---- 6

-- p, f: of the first segment, whose set fits, and which has one; q, g: of the others, one of which doesn't fit, or has one
alive_step : (m p q f g : Bool) → (not p || q) || (m && (f || g)) ≡ not ((not (m && f) && p) && not (q || (m && g)))
alive_step false false q f g = refl
alive_step true false q true g = refl
alive_step true false q false g = refl
alive_step false true true f g = refl
alive_step true true true true g = refl
alive_step true true true false g = refl
alive_step false true false f g = refl
alive_step true true false true g = refl
alive_step true true false false true = refl
alive_step true true false false false = refl

alive-all : (mode : ℕ) (rs : List SegmentRecord) (s : Sections) → any alive_set_wrong (segments_from rs s) || (eqb mode 0 && any has_alive_set (segments_from rs s)) ≡ not (alive_fits_from mode rs s.alive)
unfolding alive_fits_from fits_alive after_first
alive-all mode [] s = and-false (eqb mode 0)
alive-all mode (r ∷ rs) s =
    let q = any alive_set_wrong (segments_from rs (after_first r s)) in
    let g = any has_alive_set (segments_from rs (after_first r s)) in
    let e : not (q || (eqb mode 0 && g)) ≡ alive_fits_from mode rs (drop (alive_words r) s.alive) = ap not (alive-all mode rs (after_first r s)) ∙ not-not (alive_fits_from mode rs (drop (alive_words r) s.alive)) in
    rw (set_first r s, flag-first r s) (alive_step (eqb mode 0) (fits_set r (take (alive_words r) s.alive)) q (eqb r.flag 1) g ∙ ap (λ (b : Bool). not ((not (eqb mode 0 && eqb r.flag 1) && fits_set r (take (alive_words r) s.alive)) && b)) e)

-- ---- 7

pub rows_all : (rs : List SegmentRecord) (s : Sections) → sum_over (λ x. x.rows) (segments_from rs s) ≡ total (λ (r : SegmentRecord). r.rows) rs
unfolding first_segment
rows_all [] s = refl
rows_all (r ∷ rs) s = ap (λ (n : ℕ). r.rows + n) (rows_all rs (after_first r s))

pub values-sum : (rs : List SegmentRecord) (s : Sections) → total record_words rs ≤ length s.values
    → sum_over (λ x. length x.values) (segments_from rs s) ≡ total (λ (r : SegmentRecord). r.values) rs
unfolding first_segment after_first
values-sum [] s h = refl
values-sum (r ∷ rs) s h =
    ap₂ (λ (a b : ℕ). a + b) (values-many r s.values (omega arith))
    (values-sum rs (after_first r s) (rw (length-drop (record_words r) s.values) (omega arith)))

pub terms-sum : (rs : List SegmentRecord) (s : Sections) → total (λ (r : SegmentRecord). r.terms) rs ≤ length s.term_lengths
    → sum_over terms_in (segments_from rs s) ≡ total (λ (r : SegmentRecord). r.terms) rs
unfolding first_segment after_first
terms-sum [] s h = refl
terms-sum (r ∷ rs) s h =
    ap₂ (λ (a b : ℕ). a + b) (cut-length (take r.terms s.term_lengths) s.term_bytes ∙ length-take-le r.terms s.term_lengths (omega arith))
    (terms-sum rs (after_first r s) (rw (length-drop r.terms s.term_lengths) (omega arith)))

pub bytes-sum : (rs : List SegmentRecord) (s : Sections) → total (λ (r : SegmentRecord). r.terms) rs ≡ length s.term_lengths → sum s.term_lengths ≤ length s.term_bytes
    → sum_over bytes_in (segments_from rs s) ≡ sum s.term_lengths
unfolding first_segment after_first
bytes-sum [] s h k = sum-none s.term_lengths (sym h)
  where
    sum-none : (ns : List ℕ) → length ns ≡ 0 → 0 ≡ sum ns
    sum-none [] e = refl
    sum-none (n ∷ ns) e = absurd (omega arith)
bytes-sum (r ∷ rs) s h k =
    let p = sum_split r.terms s.term_lengths in
    ap₂ (λ (a b : ℕ). a + b) (cut-bytes (take r.terms s.term_lengths) s.term_bytes (omega arith))
    (bytes-sum rs (after_first r s) (rw (length-drop r.terms s.term_lengths) (omega arith)) (rw (length-drop (sum (take r.terms s.term_lengths)) s.term_bytes) (omega arith)))
    ∙ p

-- ---- each check of the definitions, by the code's

-- a sum is too large, or none is
or3 : (a b c : Bool) → a || b || c ≡ not (not a && (not b && not c))
or3 true b c = refl
or3 false true c = refl
or3 false false true = refl
or3 false false false = refl

low3 : (a b c : ℕ) → ltb greatest_sum a || ltb greatest_sum b || ltb greatest_sum c ≡ not (leb a greatest_sum && (leb b greatest_sum && leb c greatest_sum))
low3 a b c = or3 (ltb greatest_sum a) (ltb greatest_sum b) (ltb greatest_sum c) ∙ rw (not-ltb a greatest_sum, not-ltb b greatest_sum, not-ltb c greatest_sum)

module _ (rs : List SegmentRecord) (s : Sections) (x : Exact rs s) where
  pub codes-wrong : segment_codes_wrong (segments_from rs s) ≡ not (codes_from rs)
  unfolding segment_codes_wrong
  codes-wrong = ap not (codes_all rs s (record { ids = omega (arith, x.ids); offsets = omega (arith, x.offsets); words = omega (arith, x.words); terms = omega (arith, x.terms) }))

  pub lists-wrong : some_old (segments_from rs s) ≡ false → lists_wrong (segments_from rs s) ≡ not (lists_from rs s.ids s.offsets)
  unfolding lists_wrong
  lists-wrong old = ap not (lists_all rs s old (omega (arith, x.words)))

  pub values-wrong : values_wrong (segments_from rs s) ≡ not (values_from rs s.values s.term_lengths s.term_bytes)
  unfolding values_wrong
  values-wrong = ap not (values-all rs s)

  pub sums_large : sums_too_large (segments_from rs s) ≡ not (sums_right (total (λ (r : SegmentRecord). r.rows) rs) (total (λ (r : SegmentRecord). r.values) rs) (length s.term_bytes))
  unfolding sums_too_large sums_right
  sums_large =
      rw (rows_all rs s, values-sum rs s (omega (arith, x.words)), bytes-sum rs s x.terms (omega (arith, x.bytes)), x.bytes)
      (low3 (total (λ (r : SegmentRecord). r.rows) rs) (total (λ (r : SegmentRecord). r.values) rs) (length s.term_bytes))

known_wrong : (a b c : Bool) → not (a && b) || not c ≡ not (a && (b && c))
known_wrong true true c = refl
known_wrong true false c = refl
known_wrong false b c = refl

pub input-codes : (i : Input) → Exact i.records i.sections → codes_wrong i ≡ not (known_codes i.mode i.required i.records)
unfolding codes_wrong segments_of known_codes
input-codes i x =
    ap (λ (b : Bool). not (ltb i.mode 2 && is_known_type i.required) || b) (codes-wrong i.records i.sections x)
    ∙ known_wrong (ltb i.mode 2) (is_known_type i.required) (codes_from i.records)

pub input-alive : (i : Input) → alive_wrong i ≡ not (alive_fits_from i.mode i.records i.sections.alive)
unfolding alive_wrong segments_of
input-alive i = alive-all i.mode i.records i.sections
