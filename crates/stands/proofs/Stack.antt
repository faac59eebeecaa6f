-- All rows of a sound segment: their row ids and running totals, in bulk by the segment's kind. Assumes nothing.
use Prim.Native.Nat.{ℕ, zero, suc, ◌+◌, ◌-◌, ◌≤◌, ◌<◌}
use native.Mathlib.Nat.{not-suc-le-zero, add-zero, zero-add, add-suc, suc-add, add_assoc}
use native.Mathlib.Numerals.{add-one}
use native.Mathlib.Omega.{arith}
use mathlib.Core.Path.{◌≡◌, refl, sym, ap, ap₂, ◌∙◌, subst}
use mathlib.Core.List.{List, [], ◌∷◌, ◌++◌, map}
use mathlib.Core.Bool.{Bool, true, false, cond}
use lib.ListN.{length, get_or, drop, drop_of_length-le}
use lib.Seq.{drop-cons}
use lib.Dec.{T, ltb}
use Rattle.definitions.specs.Lists.{elem, all, ascending, up_from, sum}
use Rattle.definitions.specs.Row.{rank}
use Rattle.definitions.proofs.Fit.{rank_lt}
use Rattle.definitions.proofs.Ranks.{found, asc_step, rank-all, rank-suc}
use Rattle.runs.specs.Put.{shifted}
use Rattle.column_index.specs.Lookup.{rank_in, is_in, start_of, end_of, width_of}
use Rattle.column_index.proofs.Laws.{range_empty, range_full, range_none, range_optional, range_multi}
use Rattle.stands.specs.Width.{ids_of, totals_of}

-- ---- one row's width

module _ (kind : ℕ) (ids offsets : List ℕ) (r : ℕ) where
  width-of : (s e : ℕ) → (s ≡ start_of kind ids offsets r) × (e ≡ end_of kind ids offsets r) → width_of kind ids offsets r ≡ e - s
  unfolding width_of
  width-of s e t = ap₂ (λ (x y : ℕ). x - y) (sym t.1) (sym t.0)

  pub width-empty : kind ≡ 0 → width_of kind ids offsets r ≡ 0
  width-empty e = width-of 0 0 (range_empty kind ids offsets r e)

  pub width-full : kind ≡ 1 → width_of kind ids offsets r ≡ 1
  width-full e = width-of r (r + 1) (range_full kind ids offsets r r e refl) ∙ (let k : r + 1 - r ≡ 1 = omega arith in k)

  pub width-none : (kind ≡ 0 → ⊥) → (kind ≡ 1 → ⊥) → elem r ids ≡ false → width_of kind ids offsets r ≡ 0
  unfolding is_in
  width-none a b f = width-of 0 0 (range_none kind ids offsets r a b (sym f))

  pub width-optional : kind ≡ 2 → elem r ids ≡ true → width_of kind ids offsets r ≡ 1
  unfolding is_in rank_in
  width-optional e f = width-of (rank r ids) (rank r ids + 1) (range_optional kind ids offsets r (rank r ids) e refl (sym f)) ∙ (let k : rank r ids + 1 - rank r ids ≡ 1 = omega arith in k)

  pub width-multi : (kind ≡ 0 → ⊥) → (kind ≡ 1 → ⊥) → (kind ≡ 2 → ⊥) → elem r ids ≡ true → width_of kind ids offsets r ≡ get_or offsets (suc (rank r ids)) 0 - get_or offsets (rank r ids) 0
  unfolding is_in rank_in
  width-multi a b c f =
      width-of (get_or offsets (rank r ids) 0) (get_or offsets (suc (rank r ids)) 0)
      (range_multi kind ids offsets r (rank r ids) (get_or offsets (rank r ids) 0) (get_or offsets (suc (rank r ids)) 0) a b c refl (sym f) refl (ap (λ (n : ℕ). get_or offsets n 0) (sym (add-one (rank r ids)))))

-- ---- lists of widths

pub ids-append : (f : ℕ) (a b : List ℕ) → ids_of f (a ++ b) ≡ ids_of f a ++ ids_of (f + length a) b
unfolding ids_of
ids-append f [] b = ap (λ (n : ℕ). ids_of n b) (sym (add-zero f))
ids-append f (zero ∷ a) b = ids-append (suc f) a b ∙ ap (λ (n : ℕ). ids_of (suc f) a ++ ids_of n b) (suc-add f (length a) ∙ sym (add-suc f (length a)))
ids-append f (suc w ∷ a) b = ap (λ (l : List ℕ). f ∷ l) (ids-append (suc f) a b ∙ ap (λ (n : ℕ). ids_of (suc f) a ++ ids_of n b) (suc-add f (length a) ∙ sym (add-suc f (length a))))

pub totals_append : (t : ℕ) (a b : List ℕ) → totals_of t (a ++ b) ≡ totals_of t a ++ totals_of (t + sum a) b
unfolding totals_of
totals_append t [] b = ap (λ (n : ℕ). totals_of n b) (sym (add-zero t))
totals_append t (zero ∷ a) b = totals_append t a b ∙ ap (λ (n : ℕ). totals_of t a ++ totals_of (t + n) b) (sym (zero-add (sum a)))
totals_append t (suc w ∷ a) b = ap (λ (l : List ℕ). (t + suc w) ∷ l) (totals_append (t + suc w) a b ∙ ap (λ (n : ℕ). totals_of (t + suc w) a ++ totals_of n b) (add_assoc t (suc w) (sum a)))

-- a row's part, where its width is known to be or not to be 0
ids-zero : (f w : ℕ) (ws : List ℕ) → w ≡ 0 → ids_of f (w ∷ ws) ≡ ids_of (suc f) ws
unfolding ids_of
ids-zero f w ws e = rw e

ids-some : (f w : ℕ) (ws : List ℕ) → 0 < w → ids_of f (w ∷ ws) ≡ f ∷ ids_of (suc f) ws
unfolding ids_of
ids-some f zero ws h = absurd (not-suc-le-zero h)
ids-some f (suc w) ws h = refl

totals_zero : (t w : ℕ) (ws : List ℕ) → w ≡ 0 → totals_of t (w ∷ ws) ≡ totals_of t ws
unfolding totals_of
totals_zero t w ws e = rw e

totals_some : (t w u : ℕ) (ws : List ℕ) → 0 < w → t + w ≡ u → totals_of t (w ∷ ws) ≡ u ∷ totals_of u ws
unfolding totals_of
totals_some t zero u ws h e = absurd (not-suc-le-zero h)
totals_some t (suc w) u ws h e = rw e

-- ---- Empty and Full

pub ids-none : (w : ℕ → ℕ) → ((r : ℕ) → w r ≡ 0) → (f k m : ℕ) → ids_of f (map w (up_from k m)) ≡ []
unfolding ids_of
ids-none w e f k zero = refl
ids-none w e f k (suc m) = ids-zero f (w k) (map w (up_from (suc k) m)) (e k) ∙ ids-none w e (suc f) (suc k) m

pub totals_none : (w : ℕ → ℕ) → ((r : ℕ) → w r ≡ 0) → (t k m : ℕ) → totals_of t (map w (up_from k m)) ≡ []
unfolding totals_of
totals_none w e t k zero = refl
totals_none w e t k (suc m) = totals_zero t (w k) (map w (up_from (suc k) m)) (e k) ∙ totals_none w e t (suc k) m

pub ids_every : (w : ℕ → ℕ) → ((r : ℕ) → w r ≡ 1) → (f k m : ℕ) → ids_of f (map w (up_from k m)) ≡ up_from f m
unfolding ids_of
ids_every w e f k zero = refl
ids_every w e f k (suc m) = ids-some f (w k) (map w (up_from (suc k) m)) (let q = e k in omega arith) ∙ ap (λ (l : List ℕ). f ∷ l) (ids_every w e (suc f) (suc k) m)

pub totals_every : (w : ℕ → ℕ) → ((r : ℕ) → w r ≡ 1) → (t k m : ℕ) → totals_of t (map w (up_from k m)) ≡ up_from (suc t) m
unfolding totals_of
totals_every w e t k zero = refl
totals_every w e t k (suc m) =
    totals_some t (w k) (suc t) (map w (up_from (suc k) m)) (let q = e k in omega arith) (let q = e k in omega arith) ∙ ap (λ (l : List ℕ). suc t ∷ l) (totals_every w e (suc t) (suc k) m)

-- ---- Optional and multivalued: the listed rows have values

module _ (w : ℕ → ℕ) (ids : List ℕ) (h : T (ascending ids)) (some : (r : ℕ) → elem r ids ≡ true → 0 < w r) (none : (r : ℕ) → elem r ids ≡ false → w r ≡ 0) where
  pub ids_walk : (f k m : ℕ) → T (all (λ i. ltb i (k + m)) ids) → ids_of (f + k) (map w (up_from k m)) ≡ shifted f (drop (rank k ids) ids)
  unfolding ids_of shifted
  ids_walk f k zero below =
      let e : rank k ids ≡ length ids = rank-all k ids (rw (add-zero k) at below) in
      let g : length ids ≤ rank k ids = omega arith in
      ap (shifted f) (sym (drop_of_length-le ids g))
  ids_walk f k (suc m) below = go (elem k ids) refl (ids_walk f (suc k) m (subst (λ (n : ℕ). T (all (λ i. ltb i n) ids)) (omega arith) below)) (rank-suc k ids h)
    where
      go : (b : Bool) → elem k ids ≡ b → ids_of (f + suc k) (map w (up_from (suc k) m)) ≡ shifted f (drop (rank (suc k) ids) ids)
          → rank (suc k) ids ≡ cond b (suc (rank k ids)) (rank k ids) → ids_of (f + k) (w k ∷ map w (up_from (suc k) m)) ≡ shifted f (drop (rank k ids) ids)
      go true e ih q =
          let l : rank k ids < length ids = rank_lt k ids e in
          ids-some (f + k) (w k) (map w (up_from (suc k) m)) (some k e)
          ∙ ap (λ (n : ℕ). (f + k) ∷ ids_of n (map w (up_from (suc k) m))) (sym (add-suc f k))
          ∙ ap (λ (x : List ℕ). (f + k) ∷ x) (ih ∙ ap (λ (n : ℕ). shifted f (drop n ids)) q)
          ∙ ap (λ (n : ℕ). (f + n) ∷ shifted f (drop (suc (rank k ids)) ids)) (sym (found k ids h e))
          ∙ ap (shifted f) (sym (drop-cons ids (rank k ids) 0 l))
      go false e ih q =
          ids-zero (f + k) (w k) (map w (up_from (suc k) m)) (none k e) ∙ ap (λ (n : ℕ). ids_of n (map w (up_from (suc k) m))) (sym (add-suc f k)) ∙ ih ∙ ap (λ (n : ℕ). shifted f (drop n ids)) q

  -- one value each
  pub totals_ones : ((r : ℕ) → elem r ids ≡ true → w r ≡ 1) → (t k m : ℕ) → T (all (λ i. ltb i (k + m)) ids)
      → totals_of t (map w (up_from k m)) ≡ up_from (suc t) (length ids - rank k ids)
  unfolding totals_of
  totals_ones one t k zero below =
      let e : rank k ids ≡ length ids = rank-all k ids (rw (add-zero k) at below) in
      let z : 0 ≡ length ids - rank k ids = omega arith in
      ap (up_from (suc t)) z
  totals_ones one t k (suc m) below = go (elem k ids) refl (λ u. totals_ones one u (suc k) m (subst (λ (n : ℕ). T (all (λ i. ltb i n) ids)) (omega arith) below)) (rank-suc k ids h)
    where
      go : (b : Bool) → elem k ids ≡ b → ((u : ℕ) → totals_of u (map w (up_from (suc k) m)) ≡ up_from (suc u) (length ids - rank (suc k) ids))
          → rank (suc k) ids ≡ cond b (suc (rank k ids)) (rank k ids) → totals_of t (w k ∷ map w (up_from (suc k) m)) ≡ up_from (suc t) (length ids - rank k ids)
      go true e ih q =
          let l : rank k ids < length ids = rank_lt k ids e in
          let z : suc (length ids - rank (suc k) ids) ≡ length ids - rank k ids = omega arith in
          let v = one k e in
          totals_some t (w k) (suc t) (map w (up_from (suc k) m)) (omega arith) (omega arith) ∙ ap (λ (x : List ℕ). suc t ∷ x) (ih (suc t)) ∙ ap (up_from (suc t)) z
      go false e ih q = totals_zero t (w k) (map w (up_from (suc k) m)) (none k e) ∙ ih t ∙ ap (λ (n : ℕ). up_from (suc t) (length ids - n)) q

  -- those between the offsets
  module _ (offsets : List ℕ) (long : length offsets ≡ suc (length ids)) (rise : T (ascending offsets))
      (wide : (r : ℕ) → elem r ids ≡ true → w r ≡ get_or offsets (suc (rank r ids)) 0 - get_or offsets (rank r ids) 0) where
    pub totals_walk : (t k m : ℕ) → T (all (λ i. ltb i (k + m)) ids) → totals_of (t + get_or offsets (rank k ids) 0) (map w (up_from k m)) ≡ shifted t (drop (suc (rank k ids)) offsets)
    unfolding totals_of shifted
    totals_walk t k zero below =
        let e : rank k ids ≡ length ids = rank-all k ids (rw (add-zero k) at below) in
        let g : length offsets ≤ suc (rank k ids) = omega arith in
        ap (shifted t) (sym (drop_of_length-le offsets g))
    totals_walk t k (suc m) below = go (elem k ids) refl (totals_walk t (suc k) m (subst (λ (n : ℕ). T (all (λ i. ltb i n) ids)) (omega arith) below)) (rank-suc k ids h)
      where
        go : (b : Bool) → elem k ids ≡ b → totals_of (t + get_or offsets (rank (suc k) ids) 0) (map w (up_from (suc k) m)) ≡ shifted t (drop (suc (rank (suc k) ids)) offsets)
            → rank (suc k) ids ≡ cond b (suc (rank k ids)) (rank k ids)
            → totals_of (t + get_or offsets (rank k ids) 0) (w k ∷ map w (up_from (suc k) m)) ≡ shifted t (drop (suc (rank k ids)) offsets)
        go true e ih q =
            let l : rank k ids < length ids = rank_lt k ids e in
            let p : suc (rank k ids) < length offsets = omega arith in
            let a = asc_step offsets (rank k ids) rise p in
            let v = wide k e in
            totals_some (t + get_or offsets (rank k ids) 0) (w k) (t + get_or offsets (suc (rank k ids)) 0) (map w (up_from (suc k) m)) (omega arith) (omega arith)
            ∙ ap (λ (x : List ℕ). (t + get_or offsets (suc (rank k ids)) 0) ∷ x)
            (ap (λ (n : ℕ). totals_of (t + get_or offsets n 0) (map w (up_from (suc k) m))) (sym q) ∙ ih ∙ ap (λ (n : ℕ). shifted t (drop (suc n) offsets)) q)
            ∙ ap (shifted t) (sym (drop-cons offsets (suc (rank k ids)) 0 p))
        go false e ih q =
            totals_zero (t + get_or offsets (rank k ids) 0) (w k) (map w (up_from (suc k) m)) (none k e)
            ∙ ap (λ (n : ℕ). totals_of (t + get_or offsets n 0) (map w (up_from (suc k) m))) (sym q)
            ∙ ih
            ∙ ap (λ (n : ℕ). shifted t (drop (suc n) offsets)) q
