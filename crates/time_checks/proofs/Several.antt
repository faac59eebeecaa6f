-- A row of several values is a step of the offsets above 1, in a segment that has passed check 4. Assumes nothing.
use Rattle.std.proofs.Common.{◌≡◌, ℕ, zero, suc, ◌+◌, ◌-◌, ◌<◌, ◌≤◌, Bool, true, false, cond, not, ◌&&◌, T, eqb, ltb, leb, ◌⊎◌, List, [], ◌∷◌, length, get_or, sym, refl, ap, ◌∙◌, subst, inl, inr, true≢false, suc-le-suc, zero-le, le_of_suc-le-suc, not-suc-le-zero, zero-add, arith, ltb→lt, le-ltb, lt-ltb, leb-false, leb-true}
use mathlib.Core.Bool.{and-true}
use lib.Seq.{length-slice}
use Rattle.definitions.specs.Lists.{any, elem, is_empty, up_to, ascending}
use Rattle.definitions.specs.Segment.{Segment, by_kind}
use Rattle.definitions.specs.Row.{rank, row_values}
use Rattle.definitions.specs.Answer.{lists_fit, index_fits, empty_fits, full_fits, optional_fits, old_fits, new_fits, ids_fit}
use Rattle.definitions.proofs.Fit.{rank_lt, fit_lists}
use Rattle.segment.specs.Kind.{by_index}
use Rattle.segment.proofs.Kind.{index_multi}
use Rattle.column_index.specs.Lookup.{rank_in, Sound}
use Rattle.column_index.proofs.Laws.{counted, row-slice}
use Rattle.column_index.proofs.Sound.{earlier_of, cell_earlier, earlier_le}
use Rattle.column_index.proofs.Walk.{fits-sound}
use Rattle.time_checks.specs.Times.{singles_from, singles}
use Rattle.definitions.proofs.Lists.{and3, mem_up_to, any_mem, any_none, up_from-below}
use Rattle.definitions.proofs.Ranks.{asc_tail, asc-at, asc-sorted, rank-suc}
use Rattle.lists.proofs.Tests.{both_true}
use Rattle.lists.proofs.Lists.{all-at, none_is}

-- ---- steps of a list

pub singles-at : (m : ℕ) (os : List ℕ) (k : ℕ) → singles_from m os ≡ true → suc k < length os → get_or os (suc k) 0 ≤ get_or os k 0 + 1
unfolding singles_from
singles-at m [] k e h = absurd (not-suc-le-zero h)
singles-at m (o ∷ []) k e h = absurd (not-suc-le-zero (le_of_suc-le-suc h))
singles-at m (o ∷ p ∷ ps) zero e h = leb-true p (o + 1) (both_true (leb p (o + 1)) (singles_from p ps) (both_true (leb o (m + 1)) (leb p (o + 1) && singles_from p ps) e).1).0
singles-at m (o ∷ p ∷ ps) (suc k) e h = singles-at o (p ∷ ps) k (both_true (leb o (m + 1)) (singles_from o (p ∷ ps)) e).1 (le_of_suc-le-suc h)

-- a step above 1
abbrev Step : List ℕ → Type 0
Step os = (k : ℕ) × (suc k < length os) × (get_or os k 0 + 1 < get_or os (suc k) 0)

singles-not : (m : ℕ) (os : List ℕ) → singles_from m os ≡ false → (m + 1 < get_or os 0 0) ⊎ Step os
unfolding singles_from
singles-not m [] e = absurd (true≢false e)
singles-not m (o ∷ []) e = inl (leb-false o (m + 1) (sym (and-true (leb o (m + 1))) ∙ e))
singles-not m (o ∷ p ∷ ps) e = go (leb o (m + 1)) refl e (λ f. singles-not o (p ∷ ps) f)
  where
    later : (o + 1 < p) ⊎ Step (p ∷ ps) → (m + 1 < o) ⊎ Step (o ∷ p ∷ ps)
    later (inl h) = inr (0, suc-le-suc (suc-le-suc zero-le), h)
    later (inr (k, h, l)) = inr (suc k, suc-le-suc h, l)

    go : (a : Bool) → leb o (m + 1) ≡ a → a && singles_from o (p ∷ ps) ≡ false → (singles_from o (p ∷ ps) ≡ false → (o + 1 < p) ⊎ Step (p ∷ ps)) → (m + 1 < o) ⊎ Step (o ∷ p ∷ ps)
    go true q e f = later (f e)
    go false q e f = inl (leb-false o (m + 1) q)

-- ---- the rank of an id

pub asc_strict : (ns : List ℕ) → T (ascending ns) → (p q : ℕ) → p < q → q < length ns → get_or ns p 0 < get_or ns q 0
asc_strict [] h p q l k = absurd (not-suc-le-zero k)
asc_strict (n ∷ ns) h p zero l k = absurd (not-suc-le-zero l)
asc_strict (n ∷ ns) h zero (suc q) l k = asc-at n ns q h (le_of_suc-le-suc k)
asc_strict (n ∷ ns) h (suc p) (suc q) l k = asc_strict ns (asc_tail n ns h) p q (le_of_suc-le-suc l) (le_of_suc-le-suc k)

module _ (ids : List ℕ) (asc : T (ascending ids)) (k : ℕ) (h : k < length ids) where
  pub rank-at : rank (get_or ids k 0) ids ≡ k
  unfolding rank_in
  rank-at = sym (counted (get_or ids k 0) ids k (let l : k ≤ length ids = omega arith in l) (λ j l. asc_strict ids asc j k l h) (λ j l m. asc-sorted ids asc k j l m))

  pub rank_past : rank (suc (get_or ids k 0)) ids ≡ suc k
  unfolding rank_in
  rank_past = sym (counted (suc (get_or ids k 0)) ids (suc k) h (λ j l. suc-le-suc (asc-sorted ids asc j k (le_of_suc-le-suc l) h)) (λ j l m. asc_strict ids asc k j l m))

-- ---- rows

-- how many values a row has, by its cursors
pub row-width : (s : Segment) → Sound s.kind s.rows (length s.values) s.ids s.offsets → (r : ℕ) → r < s.rows
    → length (row_values s r) ≡ earlier_of s.kind s.ids s.offsets (suc r) - earlier_of s.kind s.ids s.offsets r
row-width s so r h =
    ap length (row-slice s r so.current ∙ cell_earlier s.kind s.ids s.offsets s.values r so.ascends)
    ∙ length-slice (earlier_of s.kind s.ids s.offsets r) (earlier_of s.kind s.ids s.offsets (suc r)) s.values (earlier_le so (suc r) h)

module _ {kind rows n : ℕ} {ids offsets : List ℕ} (so : Sound kind rows n ids offsets) where
  -- small steps: no row has several
  pub few : singles offsets ≡ true → (r : ℕ) → r < rows → earlier_of kind ids offsets (suc r) - earlier_of kind ids offsets r ≤ 1
  unfolding earlier_of singles
  few e r h = rw (rank-suc r ids so.ascends) (go kind (elem r ids) refl refl)
    where
      step : (j : ℕ) → suc j < length offsets → get_or offsets (suc j) 0 - get_or offsets j 0 ≤ 1
      step j l = let t = singles-at 0 offsets j e l in omega arith

      go : (k : ℕ) (b : Bool) → kind ≡ k → elem r ids ≡ b
          → by_index k 0 (suc r) (cond b (suc (rank r ids)) (rank r ids)) (get_or offsets (cond b (suc (rank r ids)) (rank r ids)) 0)
          - by_index k 0 r (rank r ids) (get_or offsets (rank r ids) 0) ≤ 1
      go zero b p q = omega arith
      go (suc zero) b p q = omega arith
      go (suc (suc zero)) true p q = omega arith
      go (suc (suc zero)) false p q = omega arith
      go (suc (suc (suc k))) true p q =
          rw (index_multi k 0 r (rank r ids) (get_or offsets (rank r ids) 0), index_multi k 0 (suc r) (suc (rank r ids)) (get_or offsets (suc (rank r ids)) 0))
          (step (rank r ids) (let t = rank_lt r ids q in omega (arith, (so.multi (omega arith)).1)))
      go (suc (suc (suc k))) false p q =
          rw (index_multi k 0 r (rank r ids) (get_or offsets (rank r ids) 0), index_multi k 0 (suc r) (rank r ids) (get_or offsets (rank r ids) 0))
          (omega arith)

  -- a step above 1: the row that has it
  many : (kind ≡ 0 → ⊥) → (kind ≡ 1 → ⊥) → (kind ≡ 2 → ⊥) → Step offsets → (r : ℕ) × (r < rows) × (1 < earlier_of kind ids offsets (suc r) - earlier_of kind ids offsets r)
  unfolding earlier_of
  many d0 d1 d2 (j, h, l) = go kind refl
    where
      go : (k : ℕ) → kind ≡ k
          → (r : ℕ) × (r < rows) × (1 < by_index k 0 (suc r) (rank (suc r) ids) (get_or offsets (rank (suc r) ids) 0) - by_index k 0 r (rank r ids) (get_or offsets (rank r ids) 0))
      go zero p = absurd (d0 p)
      go (suc zero) p = absurd (d1 p)
      go (suc (suc zero)) p = absurd (d2 p)
      go (suc (suc (suc k))) p =
          let q = so.multi (omega arith) in
          let i : j < length ids = omega (arith, q.1) in
          let r = get_or ids j 0 in
          let inside : r < rows = ltb→lt r rows (all-at (λ n. ltb n rows) ids j 0 q.0 i) in (
            r,
            inside,
            rw (
              index_multi k 0 r (rank r ids) (get_or offsets (rank r ids) 0),
              index_multi k 0 (suc r) (rank (suc r) ids) (get_or offsets (rank (suc r) ids) 0),
              rank-at ids so.ascends j i,
              rank_past ids so.ascends j i,
            )
                (omega arith),
          )

-- ---- all rows

module _ (s : Segment) (fit : T (index_fits s)) where
  so : Sound s.kind s.rows (length s.values) s.ids s.offsets
  so = fits-sound s fit

  -- only kind 4 has offsets
  bare : (s.kind < 3) → s.offsets ≡ []
  unfolding lists_fit empty_fits full_fits optional_fits
  bare h = go s.kind (fit_lists s fit) h
    where
      go : (k : ℕ) → T (by_kind k (empty_fits s) (full_fits s) (optional_fits s) (old_fits s) (new_fits s)) → k < 3 → s.offsets ≡ []
      go zero f h = none_is s.offsets (and3 (is_empty s.ids) (is_empty s.offsets) (is_empty s.values) f).1
      go (suc zero) f h = none_is s.offsets (and3 (is_empty s.ids) (is_empty s.offsets) (eqb (length s.values) s.rows) f).1
      go (suc (suc zero)) f h = none_is s.offsets (and3 (ids_fit s) (is_empty s.offsets) (eqb (length s.values) (length s.ids)) f).1
      go (suc (suc (suc k))) f h = absurd (omega arith)

  starts : get_or s.offsets 0 0 ≡ 0
  starts = go s.kind refl
    where
      go : (k : ℕ) → s.kind ≡ k → get_or s.offsets 0 0 ≡ 0
      go zero e = ap (λ (l : List ℕ). get_or l 0 0) (bare (omega arith))
      go (suc zero) e = ap (λ (l : List ℕ). get_or l 0 0) (bare (omega arith))
      go (suc (suc zero)) e = ap (λ (l : List ℕ). get_or l 0 0) (bare (omega arith))
      go (suc (suc (suc k))) e = (so.multi (omega arith)).2

  pub several : any (λ r. ltb 1 (length (row_values s r))) (up_to s.rows) ≡ not (singles s.offsets)
  unfolding singles
  several = go (singles_from 0 s.offsets) refl
    where
      low : singles_from 0 s.offsets ≡ true → (r : ℕ) → r < s.rows → ltb 1 (length (row_values s r)) ≡ false
      low e r h = le-ltb 1 (length (row_values s r)) (rw (row-width s so r h) (few so e r h))

      found : Step s.offsets → any (λ r. ltb 1 (length (row_values s r))) (up_to s.rows) ≡ true
      found t =
          let filled : (k : ℕ) → k < 3 → s.kind ≡ k → ⊥ = λ k h e. (let z : length s.offsets ≡ 0 = ap length (bare (omega arith)) in omega (arith, t.1)) in
          let r = many so (filled 0 (omega arith)) (filled 1 (omega arith)) (filled 2 (omega arith)) t in
          any_mem (λ r. ltb 1 (length (row_values s r))) (mem_up_to s.rows r.0 r.1) (lt-ltb 1 (length (row_values s r.0)) (rw (row-width s so r.0 r.1) r.2))

      high : (1 < get_or s.offsets 0 0) ⊎ Step s.offsets → any (λ r. ltb 1 (length (row_values s r))) (up_to s.rows) ≡ true
      high (inl h) = absurd (omega (arith, starts))
      high (inr t) = found t

      go : (b : Bool) → singles_from 0 s.offsets ≡ b → any (λ r. ltb 1 (length (row_values s r))) (up_to s.rows) ≡ not b
      go true e = any_none (λ r. ltb 1 (length (row_values s r))) (up_to s.rows) (λ r m. low e r (subst (λ (n : ℕ). r < n) (zero-add s.rows) (up_from-below 0 s.rows m)))
      go false e = high (singles-not 0 s.offsets e)
