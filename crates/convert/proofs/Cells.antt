-- The converted segment's ids and offsets are those that the walk over the old offsets gives. Assumes nothing.
use Prim.Native.Nat.{ℕ, zero, suc, ◌+◌, ◌-◌, ◌≤◌}
use native.Mathlib.Nat.{le_trans}
use native.Mathlib.Omega.{arith}
use mathlib.Core.Path.{◌≡◌, refl, sym, ap, ap₂, ◌∙◌}
use mathlib.Core.List.{List, [], ◌∷◌, map}
use mathlib.Core.Bool.{Bool, true, false, cond}
use lib.ListN.{length, get_or}
use lib.Seq.{slice, length-slice}
use lib.Dec.{T, ltb, leb, leb→le}
use lib.Ieee.Fits.{and_l, and_r}
use borrow.Author.Tests.{lt-ltb, le-ltb, ltb-true, ltb-false}
use Rattle.definitions.specs.Lists.{up_from, up_to, last, not_falling, not_falling_from}
use Rattle.definitions.specs.Segment.{Segment}
use Rattle.definitions.specs.Join.{ids_from, totals_from}
use Rattle.definitions.specs.Answer.{lists_fit}
use Rattle.definitions.specs.Convert.{row_cells, converted}
use Rattle.definitions.proofs.Convert.{old_lists, old_row}
use Rattle.definitions.proofs.Slices.{le-last}
use Rattle.convert.specs.Risen.{risen_ids, risen_ends}

-- ---- one row

ids-cell : (n : ℕ) (c : List ℕ) (cs : List (List ℕ)) → ids_from n (c ∷ cs) ≡ cond (ltb 0 (length c)) (n ∷ ids_from (suc n) cs) (ids_from (suc n) cs)
ids-cell n [] cs = refl
ids-cell n (v ∷ vs) cs = ap (λ (b : Bool). cond b (n ∷ ids_from (suc n) cs) (ids_from (suc n) cs)) (sym (lt-ltb 0 (suc (length vs)) (omega arith)))

totals_cell : (t : ℕ) (c : List ℕ) (cs : List (List ℕ)) → totals_from t (c ∷ cs) ≡ cond (ltb 0 (length c)) ((t + length c) ∷ totals_from (t + length c) cs) (totals_from t cs)
totals_cell t [] cs = refl
totals_cell t (v ∷ vs) cs =
    ap (λ (b : Bool). cond b ((t + suc (length vs)) ∷ totals_from (t + suc (length vs)) cs) (totals_from t cs)) (sym (lt-ltb 0 (suc (length vs)) (omega arith)))

-- it has a value where its end is above its start
has_value : (o p : ℕ) (v : List ℕ) → p ≤ length v → ltb 0 (length (slice o p v)) ≡ ltb o p
has_value o p v h = ap (ltb 0) (length-slice o p v h) ∙ go (ltb o p) refl
  where
    go : (b : Bool) → ltb o p ≡ b → ltb 0 (p - o) ≡ b
    go true e = let l = ltb-true o p e in lt-ltb 0 (p - o) (omega arith)
    go false e = let l = ltb-false o p e in le-ltb 0 (p - o) (omega arith)

-- ---- all rows

map_shift : (f : ℕ → List ℕ) (s n : ℕ) → map f (up_from (suc s) n) ≡ map (λ k. f (suc k)) (up_from s n)
map_shift f s zero = refl
map_shift f s (suc n) = ap (λ (l : List (List ℕ)). f (suc s) ∷ l) (map_shift f (suc s) n)

-- the values between each offset and the next
abbrev cells : List ℕ → List ℕ → ℕ → List (List ℕ)
cells os v n = map (λ k. slice (get_or os k 0) (get_or os (suc k) 0) v) (up_to n)

cells_cons : (o p : ℕ) (ps v : List ℕ) (n : ℕ) → cells (o ∷ p ∷ ps) v (suc n) ≡ slice o p v ∷ cells (p ∷ ps) v n
cells_cons o p ps v n = ap (λ (l : List (List ℕ)). slice o p v ∷ l) (map_shift (λ k. slice (get_or (o ∷ p ∷ ps) k 0) (get_or (o ∷ p ∷ ps) (suc k) 0) v) 0 n)

ids-cells : (n o : ℕ) (os v : List ℕ) → T (not_falling_from o os) → last (o ∷ os) ≤ length v → ids_from n (cells (o ∷ os) v (length os)) ≡ risen_ids n (o ∷ os)
unfolding risen_ids
ids-cells n o [] v h l = refl
ids-cells n o (p ∷ ps) v h l =
    let t = and_r (leb o p) (not_falling_from p ps) h in
    ap (ids_from n) (cells_cons o p ps v (length ps))
    ∙ ids-cell n (slice o p v) (cells (p ∷ ps) v (length ps))
    ∙ ap₂ (λ (b : Bool) (x : List ℕ). cond b (n ∷ x) x) (has_value o p v (le_trans (le-last p ps t) l)) (ids-cells (suc n) p ps v t l)

totals_cells : (o : ℕ) (os v : List ℕ) → T (not_falling_from o os) → last (o ∷ os) ≤ length v → totals_from o (cells (o ∷ os) v (length os)) ≡ risen_ends (o ∷ os)
unfolding risen_ends
totals_cells o [] v h l = refl
totals_cells o (p ∷ ps) v h l =
    let t = and_r (leb o p) (not_falling_from p ps) h in
    let q = le_trans (le-last p ps t) l in
    ap (totals_from o) (cells_cons o p ps v (length ps))
    ∙ totals_cell o (slice o p v) (cells (p ∷ ps) v (length ps))
    ∙ ap (λ (b : Bool). cond b ((o + length (slice o p v)) ∷ totals_from (o + length (slice o p v)) (cells (p ∷ ps) v (length ps))) (totals_from o (cells (p ∷ ps) v (length ps)))) (has_value o p v q)
    ∙ go (leb→le o p (and_l (leb o p) (not_falling_from p ps) h)) (length-slice o p v q) (totals_cells p ps v t l) (ltb o p) refl
  where
    go : o ≤ p → length (slice o p v) ≡ p - o → totals_from p (cells (p ∷ ps) v (length ps)) ≡ risen_ends (p ∷ ps) → (b : Bool) → ltb o p ≡ b
        → cond b ((o + length (slice o p v)) ∷ totals_from (o + length (slice o p v)) (cells (p ∷ ps) v (length ps))) (totals_from o (cells (p ∷ ps) v (length ps))) ≡ cond b (p ∷ risen_ends (p ∷ ps)) (risen_ends (p ∷ ps))
    go m w e true k =
        ap (λ (n : ℕ). n ∷ totals_from n (cells (p ∷ ps) v (length ps))) (let z : o + length (slice o p v) ≡ p = omega arith in z) ∙ ap (λ (x : List ℕ). p ∷ x) e
    go m w e false k =
        let g = ltb-false o p k in
        ap (λ (n : ℕ). totals_from n (cells (p ∷ ps) v (length ps))) (let z : o ≡ p = omega arith in z) ∙ e

-- ---- of rows + 1 offsets, from 0 to the number of values

module _ (os v : List ℕ) (rows : ℕ) (long : length os ≡ suc rows) (first : get_or os 0 1 ≡ 0) (end : last os ≡ length v) (flat : T (not_falling os)) where
  ids_all : ids_from 0 (cells os v rows) ≡ risen_ids 0 os
  ids_all = go os long end flat
    where
      go : (os : List ℕ) → length os ≡ suc rows → last os ≡ length v → T (not_falling os) → ids_from 0 (cells os v rows) ≡ risen_ids 0 os
      go [] e l h = absurd (omega arith)
      go (o ∷ os) e l h = ap (λ (n : ℕ). ids_from 0 (cells (o ∷ os) v n)) (let z : rows ≡ length os = omega arith in z) ∙ ids-cells 0 o os v h (omega arith)

  totals_all : totals_from 0 (cells os v rows) ≡ risen_ends os
  totals_all = go os long first end flat
    where
      go : (os : List ℕ) → length os ≡ suc rows → get_or os 0 1 ≡ 0 → last os ≡ length v → T (not_falling os) → totals_from 0 (cells os v rows) ≡ risen_ends os
      go [] e z l h = absurd (omega arith)
      go (o ∷ os) e z l h =
          ap₂ (λ (m n : ℕ). totals_from m (cells (o ∷ os) v n)) (sym z) (let z : rows ≡ length os = omega arith in z) ∙ totals_cells o os v h (omega arith)

-- ---- of a segment that passes check 4

module _ (s : Segment) (old : s.kind ≡ 3) (fit : T (lists_fit s)) where
  rows_are : row_cells s ≡ cells s.offsets s.values s.rows
  rows_are = ap (λ (f : ℕ → List ℕ). map f (up_to s.rows)) (λ i r. old_row s old fit r i)

  pub new-ids : (converted s).ids ≡ risen_ids 0 s.offsets
  unfolding converted
  new-ids = let o = old_lists s old fit in ap (ids_from 0) rows_are ∙ ids_all s.offsets s.values s.rows o.long o.first o.end o.flat

  pub new-offsets : (converted s).offsets ≡ 0 ∷ risen_ends s.offsets
  unfolding converted
  new-offsets =
      let o = old_lists s old fit in
      ap (λ (l : List ℕ). 0 ∷ l) (ap (totals_from 0) rows_are ∙ totals_all s.offsets s.values s.rows o.long o.first o.end o.flat)
