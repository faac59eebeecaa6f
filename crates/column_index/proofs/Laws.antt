-- Rank and membership in ascending ids, and a row's range by the segment's kind. Assumes nothing.
use Prim.Native.Nat.{ℕ, min, zero, suc, ◌+◌, ◌-◌, ◌≤◌, ◌<◌, zero-le}
use native.Mathlib.Numerals.{add-one}
use native.Mathlib.Omega.{arith}
use mathlib.Core.Path.{◌≡◌, refl, sym, ap, ◌∙◌, subst}
use mathlib.Core.List.Memᴰ
use mathlib.Core.List.{List, []}
use mathlib.Core.Bool.{Bool, true, false, cond}
use lib.ListN.{length, get_or, take, drop}
use lib.Seq.{slice, length-take-le}
use lib.Dec.{T, eqb, ltb}
use borrow.Author.Tests.{ne_eqb, ltb-true, ltb-false, eqb-true, eqb-false}
use Rattle.definitions.specs.Lists.{elem, ascending}
use Rattle.definitions.specs.Segment.{Segment}
use Rattle.definitions.specs.Row.{rank, one_at, between, if_listed, row_values}
use Rattle.definitions.proofs.Fit.{rank_lt, rank-le}
use Rattle.segment.proofs.Kind.{by_index_lem}
use Rattle.column_index.specs.Lookup.{rank_in, is_in, start_of, end_of}
use Rattle.definitions.proofs.Lists.{mem_elem, mem_at}
use Rattle.definitions.proofs.Ranks.{counts, asc-sorted, before-rank, after-rank, found}
use mathlib.Core.Logic.{◌⊎◌, inl, inr}
use Rattle.lists.proofs.Numbers.{le-lt}
use Rattle.std.specs.List.{prefix_len}
use Rattle.std.specs.List.Sorted.{IsPartitionedBy, IsPartitionPoint}
use Rattle.std.proofs.lemmas.List.{get_or-take, get_or-drop, length-drop}
use Rattle.std.proofs.lemmas.List.Folds.{length-prefix_len}
use Rattle.std.proofs.lemmas.List.Sums.{prefix_len-le-length, prefix_len_passes, prefix_len_stops}
use Rattle.std.proofs.lemmas.List.Sorted.{IsPartitionedBy-ltb, IsNonDecreasingBy-take, IsNonDecreasingBy-drop, IsNonDecreasingBy-from_default}

-- ---- ascending lists

-- ---- rank

pub counted : (row : ℕ) (xs : List ℕ) (r : ℕ) → r ≤ length xs → ((k : ℕ) → k < r → get_or xs k 0 < row) → ((k : ℕ) → r ≤ k → k < length xs → row ≤ get_or xs k 0) → r ≡ rank_in row xs
unfolding rank_in
counted row xs r h b a = counts row xs r h b a

pub rank-fits : (row : ℕ) (ids : List ℕ) → rank_in row ids ≤ length ids
unfolding rank_in
rank-fits row ids = rank-le row ids

module _ (row : ℕ) (ids : List ℕ) (h : T (ascending ids)) where
  pub below-rank : (k : ℕ) → k < rank_in row ids → get_or ids k 0 < row
  unfolding rank_in
  below-rank = before-rank row ids h

  pub above-rank : (k : ℕ) → rank_in row ids ≤ k → k < length ids → row ≤ get_or ids k 0
  unfolding rank_in
  above-rank = after-rank row ids h

  -- an id that is not below the row is not before the rank
  pub rank_most : (k : ℕ) → row ≤ get_or ids k 0 → rank_in row ids ≤ k
  rank_most k l = go (le-lt k (rank_in row ids))
    where
      go : (k < rank_in row ids) ⊎ (rank_in row ids ≤ k) → rank_in row ids ≤ k
      go (inl e) = let z = below-rank k e in absurd (omega arith)
      go (inr e) = e

  -- and one that is, is
  pub rank-least : (k : ℕ) → k < length ids → get_or ids k 0 < row → k < rank_in row ids
  rank-least k i l = go (le-lt k (rank_in row ids))
    where
      go : (k < rank_in row ids) ⊎ (rank_in row ids ≤ k) → k < rank_in row ids
      go (inl e) = e
      go (inr e) = let z = above-rank k e i in absurd (omega arith)

  -- k ids are below the row where the one before k is
  pub reached : (k : ℕ) → k ≤ length ids → get_or ids (k - 1) 0 < row → k ≤ rank_in row ids
  reached zero l b = zero-le
  reached (suc j) l b = let e : suc j - 1 ≡ j = omega arith in rank-least j l (subst (λ (m : ℕ). get_or ids m 0 < row) e b)

  -- a whole list is cut in two by the row
  pub list-cut : IsPartitionedBy (λ y. ltb y row) ids
  list-cut = IsPartitionedBy-ltb (λ y. y) ids row (IsNonDecreasingBy-from_default (λ y. y) ids 0 (asc-sorted ids h))

  -- the ids from lo to e, of which i from the front are below the row, and no more
  module _ (lo e i : ℕ) (at : lo ≤ rank_in row ids) (end : e ≤ length ids) (fit : i ≤ e - lo) where
    at-part : (k : ℕ) → k < e - lo → get_or (take (e - lo) (drop lo ids)) k 0 ≡ get_or ids (lo + k) 0
    at-part k l = get_or-take (e - lo) (drop lo ids) k 0 l ∙ get_or-drop lo ids k 0

    pub part-below : ((k : ℕ) → k < i → ltb (get_or (take (e - lo) (drop lo ids)) k 0) row ≡ true) → lo + i ≤ rank_in row ids
    part-below b = go i fit b
      where
        go : (j : ℕ) → j ≤ e - lo → ((k : ℕ) → k < j → ltb (get_or (take (e - lo) (drop lo ids)) k 0) row ≡ true) → lo + j ≤ rank_in row ids
        go zero l b = omega arith
        go (suc j) l b = let q = ltb-true (get_or (take (e - lo) (drop lo ids)) j 0) row (b j (omega arith)) in let z = at-part j l in let y = rank-least (lo + j) (omega arith) (omega arith) in omega arith

    pub part-above : (i < e - lo → ltb (get_or (take (e - lo) (drop lo ids)) i 0) row ≡ false) → i < e - lo → rank_in row ids ≤ lo + i
    part-above a l = let q = ltb-false (get_or (take (e - lo) (drop lo ids)) i 0) row (a l) in let z = at-part i l in rank_most (lo + i) (omega arith)

  -- a part of the ids is cut in two by the row
  pub part-cut : (lo e : ℕ) → IsPartitionedBy (λ y. ltb y row) (take (e - lo) (drop lo ids))
  part-cut lo e = IsPartitionedBy-ltb (λ y. y) (take (e - lo) (drop lo ids)) row (IsNonDecreasingBy-take (λ y. y) (e - lo) (drop lo ids) (IsNonDecreasingBy-drop (λ y. y) lo ids (IsNonDecreasingBy-from_default (λ y. y) ids 0 (asc-sorted ids h))))

pub point-rank : (row : ℕ) (ids : List ℕ) (i : ℕ) → i ≤ length ids → IsPartitionPoint (λ y. ltb y row ≡ true) (λ y. ltb y row ≡ false) ids i → i ≡ rank_in row ids
point-rank row ids i l p = counted row ids i l (λ k m. ltb-true (get_or ids k 0) row (p.0 k 0 zero-le m)) (λ k m n. ltb-false (get_or ids k 0) row (p.1 k 0 m n))

pub part-rank : (row : ℕ) (ids : List ℕ) → T (ascending ids) → (lo i : ℕ) → lo ≤ rank_in row ids → i ≤ length (take (length ids - lo) (drop lo ids))
    → IsPartitionPoint (λ y. ltb y row ≡ true) (λ y. ltb y row ≡ false) (take (length ids - lo) (drop lo ids)) i → lo + i ≡ rank_in row ids
part-rank row ids h lo i l f p =
    let r = rank-fits row ids in
    let z : length (take (length ids - lo) (drop lo ids)) ≡ length ids - lo = length-take-le (length ids - lo) (drop lo ids) (omega (arith, length-drop lo ids)) in
    let b = part-below row ids h lo (length ids) i l (omega arith) (omega arith) (λ k m. p.0 k 0 zero-le m) in
    let a = part-above row ids h lo (length ids) i l (omega arith) (omega arith) (λ m. p.1 i 0 (omega arith) (omega arith)) in
    grind arith

-- ---- eight steps up

-- short of eight steps, the end is the rank
meets : (from e n len r : ℕ) → e ≡ min len (from + 8) → r ≤ len → from + n ≤ r → (n < e - from → r ≤ from + n) → n ≤ e - from → from + n < from + 8 → from + n ≡ r
meets from e n len r q l b a f t = grind arith

-- the ids below the row among the next eight
pub climbed : (row : ℕ) (ids : List ℕ) → T (ascending ids) → (from e n : ℕ) → from ≤ rank_in row ids → e ≡ min (length ids) (from + 8)
    → n ≡ length (take (prefix_len (λ y. ltb y row) (take (e - from) (drop from ids))) (take (e - from) (drop from ids)))
    → (from + n ≤ rank_in row ids) × (from + n < from + 8 → from + n ≡ rank_in row ids)
climbed row ids h from e n l q s =
    let part = take (e - from) (drop from ids) in
    let r = rank-fits row ids in
    let z : length part ≡ e - from = length-take-le (e - from) (drop from ids) (omega (arith, length-drop from ids)) in
    let k : n ≡ prefix_len (λ y. ltb y row) part = s ∙ length-prefix_len (λ y. ltb y row) part in
    let f : n ≤ e - from = omega (arith, prefix_len-le-length (λ y. ltb y row) part) in
    let b = part-below row ids h from e n l (omega arith) f (λ j m. prefix_len_passes (λ y. ltb y row) part j 0 (omega arith)) in
    let a = part-above row ids h from e n l (omega arith) f (λ m. ap (λ (j : ℕ). ltb (get_or part j 0) row) k ∙ prefix_len_stops (λ y. ltb y row) part 0 (omega arith)) in
    (b, meets from e n (length ids) (rank_in row ids) q r b a f)

is-here : (row : ℕ) (ids : List ℕ) (k : ℕ) → k < length ids → get_or ids k 0 ≡ row → elem row ids ≡ true
is-here row ids k h e = mem_elem row ids (Memᴰ.cast (sym e) (mem_at ids k 0 h))

bool_false : (b : Bool) → (b ≡ true → ⊥) → b ≡ false
bool_false true f = absurd (f refl)
bool_false false f = refl

module _ (row : ℕ) (ids : List ℕ) (k : ℕ) (h : T (ascending ids)) (e : k ≡ rank_in row ids) where
  pub listed_past : length ids ≤ k → false ≡ is_in row ids
  unfolding rank_in is_in
  listed_past l = sym (bool_false (elem row ids) (λ t. let s = rank_lt row ids t in omega arith))

  pub listed-at : k < length ids → eqb (get_or ids k 0) row ≡ is_in row ids
  unfolding rank_in is_in
  listed-at l = go (eqb (get_or ids k 0) row) refl
    where
      go : (b : Bool) → eqb (get_or ids k 0) row ≡ b → b ≡ elem row ids
      go true q = sym (is-here row ids k l (eqb-true (get_or ids k 0) row q))
      go false q = sym (bool_false (elem row ids) (λ t. eqb-false (get_or ids k 0) row q (ap (λ (n : ℕ). get_or ids n 0) e ∙ found row ids h t)))

  pub listed_below : is_in row ids ≡ true → k < length ids
  unfolding rank_in is_in
  listed_below t = let s = rank_lt row ids t in omega arith

-- ---- a row's range by kind

abbrev RangeIs : ℕ → List ℕ → List ℕ → ℕ → ℕ → ℕ → Type 0
RangeIs kind ids offsets row start end = (start ≡ start_of kind ids offsets row) × (end ≡ end_of kind ids offsets row)

module _ (kind : ℕ) (ids offsets : List ℕ) (row : ℕ) where
  pub range_empty : kind ≡ 0 → RangeIs kind ids offsets row 0 0
  unfolding start_of end_of
  range_empty e = rw e (refl, refl)

  pub range_full : (r : ℕ) → kind ≡ 1 → r ≡ row → RangeIs kind ids offsets row r (r + 1)
  unfolding start_of end_of
  range_full r e q = rw (e, q, add-one row) (refl, refl)

  pub range_none : (kind ≡ 0 → ⊥) → (kind ≡ 1 → ⊥) → false ≡ is_in row ids → RangeIs kind ids offsets row 0 0
  unfolding start_of end_of
  range_none n0 n1 e = rw (ne_eqb kind 0 n0, ne_eqb kind 1 n1, ← e) (go (eqb kind 2), go (eqb kind 2))
    where
      go : (b : Bool) → ◌≡◌ {A = ℕ} 0 (cond b 0 0)
      go true = refl
      go false = refl

  pub range_optional : (k : ℕ) → kind ≡ 2 → k ≡ rank_in row ids → true ≡ is_in row ids → RangeIs kind ids offsets row k (k + 1)
  unfolding start_of end_of
  range_optional k e q t = rw (e, q, ← t, add-one (rank_in row ids)) (refl, refl)

  pub range_multi : (k s t : ℕ) → (kind ≡ 0 → ⊥) → (kind ≡ 1 → ⊥) → (kind ≡ 2 → ⊥) → k ≡ rank_in row ids → true ≡ is_in row ids
      → s ≡ get_or offsets k 0 → t ≡ get_or offsets (k + 1) 0 → RangeIs kind ids offsets row s t
  unfolding start_of end_of
  range_multi k s t n0 n1 n2 q e p o =
      rw (ne_eqb kind 0 n0, ne_eqb kind 1 n1, ne_eqb kind 2 n2, ← e, p, o, q, add-one (rank_in row ids)) (refl, refl)

-- ---- what stands there is the row's values

pub row-slice : (s : Segment) (r : ℕ) → eqb s.kind 3 ≡ false → row_values s r ≡ slice (start_of s.kind s.ids s.offsets r) (end_of s.kind s.ids s.offsets r) s.values
unfolding row_values start_of end_of rank_in is_in
row-slice s r current =
    by_index_lem s.kind [] (one_at s r) (if_listed s r (one_at s (rank r s.ids))) (between s r) (if_listed s r (between s (rank r s.ids))) current
    ∙ go (eqb s.kind 0) (eqb s.kind 1) (eqb s.kind 2) (elem r s.ids)
  where
    k : ℕ
    k = rank r s.ids

    go : (a b c e : Bool)
        → cond a [] (cond b (slice r (suc r) s.values) (cond c (cond e (slice k (suc k) s.values) []) (cond e (slice (get_or s.offsets k 0) (get_or s.offsets (suc k) 0) s.values) [])))
        ≡ slice (cond a 0 (cond b r (cond c (cond e k 0) (cond e (get_or s.offsets k 0) 0))))
        (cond a 0 (cond b (suc r) (cond c (cond e (suc k) 0) (cond e (get_or s.offsets (suc k) 0) 0)))) s.values
    go true b c e = refl
    go false true c e = refl
    go false false true true = refl
    go false false true false = refl
    go false false false true = refl
    go false false false false = refl

pub three_le : (kind : ℕ) → (kind ≡ 0 → ⊥) → (kind ≡ 1 → ⊥) → (kind ≡ 2 → ⊥) → 3 ≤ kind
three_le zero a b c = absurd (a refl)
three_le (suc zero) a b c = absurd (b refl)
three_le (suc (suc zero)) a b c = absurd (c refl)
three_le (suc (suc (suc k))) a b c = omega arith
