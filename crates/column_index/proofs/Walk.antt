-- All rows of a sound segment: their values one after another are the segment's values, and their widths sum up to the number of values.
-- What the checks 19 and 4 say of a segment is that it is sound. Assumes nothing.
use Prim.Native.Nat.{ℕ, zero, suc, ◌+◌, ◌-◌, ◌≤◌, ◌<◌, zero-le}
use native.Mathlib.Nat.{le-suc, add-zero, zero-add}
use native.Mathlib.Omega.{arith}
use mathlib.Core.Path.{◌≡◌, refl, sym, ap, ◌∙◌, subst}
use mathlib.Core.List.{List, map}
use mathlib.Core.Bool.{Bool, true, false, cond}
use lib.ListN.{length, get_or}
use lib.Seq.{slice, take-length}
use lib.Dec.{T, eqb, ltb, eqb→eq}
use lib.Ieee.Fits.{and_l, and_r}
use Rattle.definitions.specs.Lists.{elem, all, ascending, last, is_empty, up_from, up_to, concat, sum}
use Rattle.definitions.specs.Segment.{Segment}
use Rattle.definitions.specs.Row.{rank}
use Rattle.definitions.specs.Answer.{lists_fit, index_fits, empty_fits, full_fits, optional_fits, old_fits, new_fits, ids_fit, offsets_fit}
use Rattle.definitions.proofs.Fit.{rank_lt, not_old, fit_lists}
use Rattle.segment.specs.Kind.{by_index}
use Rattle.segment.proofs.Kind.{by_index_lem, index_multi}
use Rattle.column_index.specs.Lookup.{rank_in, is_in, start_of, end_of, width_of, Readable, Sound}
use Rattle.column_index.proofs.Sound.{earlier_of, cell_earlier, width_earlier, earlier_zero, earlier_end, earlier_le, earlier_step, asc_fall}
use Rattle.definitions.proofs.Lists.{and3, and4, map_mem}
use Rattle.definitions.proofs.Slices.{walk_slices, fall_step, first-zero}
use Rattle.definitions.proofs.Ranks.{rank-suc}
use Rattle.lists.proofs.Lists.{none_is}

-- ---- values and widths

pub walk_sum : (p : ℕ → ℕ) (k m : ℕ) → ((r : ℕ) → r < k + m → p r ≤ p (suc r)) → p k + sum (map (λ r. p (suc r) - p r) (up_from k m)) ≡ p (k + m)
walk_sum p k zero up = ap (λ (n : ℕ). n) (rw (add-zero k) (add-zero (p k)))
walk_sum p k (suc m) up =
    let t = walk_sum p (suc k) m (λ r h. up r (omega arith)) in
    let u = up k (omega arith) in
    let e : p (suc k + m) ≡ p (k + suc m) = ap p (omega arith) in
    omega arith

slice-whole : (a b : ℕ) (vs : List ℕ) → a ≡ 0 → b ≡ length vs → slice a b vs ≡ vs
slice-whole a b vs e f = rw (e, f) (take-length vs)

module _ {kind rows : ℕ} {ids offsets : List ℕ} where
  pub walk_values : (vs : List ℕ) → Sound kind rows (length vs) ids offsets
      → concat (map (λ r. slice (start_of kind ids offsets r) (end_of kind ids offsets r) vs) (up_to rows)) ≡ vs
  walk_values vs s =
      let t = walk_slices (earlier_of kind ids offsets) vs 0 rows (λ r h. earlier_step s r (omega arith)) in
      ap concat (map_mem (λ r. slice (start_of kind ids offsets r) (end_of kind ids offsets r) vs) (λ r. slice (earlier_of kind ids offsets r) (earlier_of kind ids offsets (suc r)) vs) (up_to rows) (λ r m. cell_earlier kind ids offsets vs r s.ascends))
      ∙ t.1
      ∙ slice-whole (earlier_of kind ids offsets 0) (earlier_of kind ids offsets (0 + rows)) vs (earlier_zero s) (ap (earlier_of kind ids offsets) (zero-add rows) ∙ earlier_end s)

  pub walk_widths : {n : ℕ} → Sound kind rows n ids offsets → sum (map (width_of kind ids offsets) (up_to rows)) ≡ n
  walk_widths {n} s =
      let t = walk_sum (earlier_of kind ids offsets) 0 rows (λ r h. earlier_step s r (omega arith)) in
      let z = earlier_zero s in
      let e : earlier_of kind ids offsets (0 + rows) ≡ n = ap (earlier_of kind ids offsets) (zero-add rows) ∙ earlier_end s in
      ap sum (map_mem (width_of kind ids offsets) (λ r. earlier_of kind ids offsets (suc r) - earlier_of kind ids offsets r) (up_to rows) (λ r m. width_earlier kind ids offsets r s.ascends))
      ∙ (omega arith)

-- ---- what check 4 says

none-ascends : (l : List ℕ) → T (is_empty l) → T (ascending l)
none-ascends l h = subst (λ (x : List ℕ). T (ascending x)) (sym (none_is l h)) tt

pub fits-sound : (s : Segment) → T (index_fits s) → Sound s.kind s.rows (length s.values) s.ids s.offsets
unfolding lists_fit empty_fits full_fits optional_fits old_fits new_fits ids_fit offsets_fit
fits-sound s fit =
    record {
      current = not_old s fit;
      ascends = asc s.kind index;
      empty = λ e. ap length (none_is s.values (and3 (is_empty s.ids) (is_empty s.offsets) (is_empty s.values) (at 0 e)).2);
      full = λ e. eqb→eq (length s.values) s.rows (and3 (is_empty s.ids) (is_empty s.offsets) (eqb (length s.values) s.rows) (at 1 e)).2;
      optional = λ e.
          let t = and3 (ids_fit s) (is_empty s.offsets) (eqb (length s.values) (length s.ids)) (at 2 e) in
          (and_r (ascending s.ids) (all (λ n. ltb n s.rows) s.ids) t.0, eqb→eq (length s.values) (length s.ids) t.2);
      multi = λ h. multi_of s.kind h index;
    }
  where
    index : T (by_index s.kind (empty_fits s) (full_fits s) (optional_fits s) (new_fits s))
    index = subst T (by_index_lem s.kind (empty_fits s) (full_fits s) (optional_fits s) (old_fits s) (new_fits s) (not_old s fit)) (fit_lists s fit)

    at : (k : ℕ) → s.kind ≡ k → T (by_index k (empty_fits s) (full_fits s) (optional_fits s) (new_fits s))
    at k e = subst (λ (n : ℕ). T (by_index n (empty_fits s) (full_fits s) (optional_fits s) (new_fits s))) e index

    asc : (k : ℕ) → T (by_index k (empty_fits s) (full_fits s) (optional_fits s) (new_fits s)) → T (ascending s.ids)
    asc zero f = none-ascends s.ids (and3 (is_empty s.ids) (is_empty s.offsets) (is_empty s.values) f).0
    asc (suc zero) f = none-ascends s.ids (and3 (is_empty s.ids) (is_empty s.offsets) (eqb (length s.values) s.rows) f).0
    asc (suc (suc zero)) f =
        and_l (ascending s.ids) (all (λ n. ltb n s.rows) s.ids) (and3 (ids_fit s) (is_empty s.offsets) (eqb (length s.values) (length s.ids)) f).0
    asc (suc (suc (suc k))) f =
        and_l (ascending s.ids) (all (λ n. ltb n s.rows) s.ids)
        (and4 (ids_fit s) (eqb (length s.offsets) (suc (length s.ids))) (offsets_fit s) (ascending s.offsets)
        (subst T (index_multi k (empty_fits s) (full_fits s) (optional_fits s) (new_fits s)) f)).0

    multi_of : (k : ℕ) → 3 ≤ k → T (by_index k (empty_fits s) (full_fits s) (optional_fits s) (new_fits s))
        → T (all (λ n. ltb n s.rows) s.ids) × (length s.offsets ≡ suc (length s.ids)) × (get_or s.offsets 0 0 ≡ 0) × (last s.offsets ≡ length s.values) × T (ascending s.offsets)
    multi_of zero h f = absurd (omega arith)
    multi_of (suc zero) h f = absurd (omega arith)
    multi_of (suc (suc zero)) h f = absurd (omega arith)
    multi_of (suc (suc (suc k))) h f =
        let t =
        and4 (ids_fit s) (eqb (length s.offsets) (suc (length s.ids))) (offsets_fit s) (ascending s.offsets)
        (subst T (index_multi k (empty_fits s) (full_fits s) (optional_fits s) (new_fits s)) f) in (
          and_r (ascending s.ids) (all (λ n. ltb n s.rows) s.ids) t.0,
          eqb→eq (length s.offsets) (suc (length s.ids)) t.1,
          first-zero s.offsets (eqb→eq (get_or s.offsets 0 1) 0 (and_l (eqb (get_or s.offsets 0 1) 0) (eqb (last s.offsets) (length s.values)) t.2)),
          eqb→eq (last s.offsets) (length s.values) (and_r (eqb (get_or s.offsets 0 1) 0) (eqb (last s.offsets) (length s.values)) t.2),
          t.3,
        )

-- ---- a row of a sound segment can be looked up

module _ {kind rows n : ℕ} {ids offsets : List ℕ} (s : Sound kind rows n ids offsets) {r : ℕ} (h : r < rows) where
  pub sound-readable : Readable kind ids offsets
  sound-readable = record { ascends = s.ascends; multi = λ e. omega (arith, (s.multi e).1) }

  pub sound-rises : start_of kind ids offsets r ≤ end_of kind ids offsets r
  unfolding start_of end_of rank_in is_in
  sound-rises = go kind (elem r ids) refl refl
    where
      go : (k : ℕ) (b : Bool) → kind ≡ k → elem r ids ≡ b
          → by_index k 0 r (cond b (rank r ids) 0) (cond b (get_or offsets (rank r ids) 0) 0)
          ≤ by_index k 0 (suc r) (cond b (suc (rank r ids)) 0) (cond b (get_or offsets (suc (rank r ids)) 0) 0)
      go zero b e f = zero-le
      go (suc zero) b e f = le-suc r
      go (suc (suc zero)) true e f = le-suc (rank r ids)
      go (suc (suc zero)) false e f = zero-le
      go (suc (suc (suc k))) true e f =
          let q = s.multi (omega arith) in
          let t = rank_lt r ids f in
          rw (index_multi k 0 r (rank r ids) (get_or offsets (rank r ids) 0), index_multi k 0 (suc r) (suc (rank r ids)) (get_or offsets (suc (rank r ids)) 0))
          (fall_step offsets (rank r ids) (asc_fall offsets q.4) (omega (arith, q.1)))
      go (suc (suc (suc k))) false e f = rw (index_multi {A = ℕ} k 0 r 0 0, index_multi {A = ℕ} k 0 (suc r) 0 0) zero-le

  pub sound-inside : end_of kind ids offsets r ≤ n
  unfolding end_of rank_in is_in earlier_of
  sound-inside = go (eqb kind 0) (eqb kind 1) (eqb kind 2) (elem r ids) (rw (rank-suc r ids s.ascends) at (earlier_le s (suc r) h))
    where
      k : ℕ
      k = rank r ids

      o : ℕ → ℕ
      o m = get_or offsets m 0

      go : (a b c e : Bool) → cond a 0 (cond b (suc r) (cond c (cond e (suc k) k) (o (cond e (suc k) k)))) ≤ n
          → cond a 0 (cond b (suc r) (cond c (cond e (suc k) 0) (cond e (o (suc k)) 0))) ≤ n
      go true b c e q = q
      go false true c e q = q
      go false false true true q = q
      go false false true false q = zero-le
      go false false false true q = q
      go false false false false q = zero-le
