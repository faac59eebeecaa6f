-- The lookup of a row by the row ids says what 02, (b), says of the segment's rows; a pass by it looks up as many rows as it should; row ids, dropping and class by a
-- pass are those of the rules. Assumes nothing.
use Prim.Native.Nat.{ℕ, zero, suc, ◌+◌, ◌-◌, ◌≤◌, ◌<◌, zero-le, suc-le-suc, max}
use native.Mathlib.Nat.{le_refl, le_of_suc-le-suc, not-suc-le-zero, add-zero, zero-add, add-suc, suc-add}
use native.Mathlib.Omega.{arith}
use mathlib.Core.Path.{◌≡◌, refl, sym, ap, ap₂, ◌∙◌, subst}
use mathlib.Core.List.{List, [], ◌∷◌, map}
use mathlib.Core.Bool.{Bool, true, false, not, cond, ◌||◌, ◌&&◌, false≢true}
use lib.ListN.{length, get_or, drop, drop_of_length-le, length-drop}
use lib.Seq.{drop-cons, get_or-drop}
use lib.Dec.{T, eqb, ltb, ltb→lt, leb-suc-suc, lt→ltb}
use lib.Ieee.Fits.{and_i, and_l, and_r}
use borrow.Author.Tests.{ne_eqb, lt-ltb, le-ltb, ltb-true, ltb-false}
use Rattle.definitions.specs.Lists.{up_from, up_to, all, any, filter, count, elem, is_empty, ascending_from, ascending, greatest}
use Rattle.definitions.specs.Segment.{Segment}
use Rattle.definitions.specs.Row.{rank, row_values, has_value, is_alive, has_alive_set, alive_rows, is_dropped}
use Rattle.definitions.specs.Class.{row_class, alive_class}
use Rattle.definitions.specs.Answer.{ids_fit, index_fits}
use Rattle.definitions.specs.Lookup.{Next, nowhere, at_row, Lookup, first_row, row_lookup, next_id, id_at, id_lookup, pass_from, pass_rows, first_missed, lookups, pass_ids, pass_alive, pass_dropped, pass_class}
use Rattle.definitions.proofs.Fit.{rank_lt, rank-le, listed-row, listed-ids}
use Rattle.definitions.proofs.Decode.{rank-zero}
use Rattle.definitions.proofs.Ranks.{asc_tail, asc-room, rank-none, rank-all, found, elem_at, rank-at, rank-suc}

-- ---- the next id

pub at_some : (ids : List ℕ) (k : ℕ) → k < length ids → id_at k ids ≡ at_row (get_or ids k 0)
at_some [] k h = absurd (not-suc-le-zero h)
at_some (i ∷ is) zero h = refl
at_some (i ∷ is) (suc k) h = at_some is k (le_of_suc-le-suc h)

pub at_none : (ids : List ℕ) (k : ℕ) → length ids ≤ k → id_at k ids ≡ nowhere
at_none [] k h = refl
at_none (i ∷ is) zero h = absurd (not-suc-le-zero h)
at_none (i ∷ is) (suc k) h = at_none is k (le_of_suc-le-suc h)

-- it stands behind the ids up to the row
pub next-is : (r : ℕ) (ids : List ℕ) → T (ascending ids) → next_id r ids ≡ id_at (rank (suc r) ids) ids
next-is r [] h = refl
next-is r (i ∷ is) h = go (ltb r i) refl (next-is r is (asc_tail i is h))
  where
    go : (b : Bool) → ltb r i ≡ b → next_id r is ≡ id_at (rank (suc r) is) is
        → cond b (at_row i) (next_id r is) ≡ id_at (cond (ltb i (suc r)) (suc (rank (suc r) is)) (rank (suc r) is)) (i ∷ is)
    go true q ih = let l = ltb-true r i q in rw (le-ltb i (suc r) l, rank-none (suc r) i is h (omega arith)) refl
    go false q ih = let l = ltb-false r i q in rw (lt-ltb i (suc r) (omega arith)) ih

-- behind the id at place k
pub rank-behind : (ids : List ℕ) (k : ℕ) → T (ascending ids) → k < length ids → rank (suc (get_or ids k 0)) ids ≡ suc k
rank-behind ids k up h =
    rank-suc (get_or ids k 0) ids up ∙ ap (λ (b : Bool). cond b (suc (rank (get_or ids k 0) ids)) (rank (get_or ids k 0) ids)) (elem_at ids k h) ∙ ap suc (rank-at ids k up h)

-- ---- a pass

-- no rows have no ids, and a pass through them looks up none
pub none_below : (n : ℕ) (ids : List ℕ) → n ≡ 0 → T (all (λ i. ltb i n) ids) → ids ≡ []
none_below n [] e b = refl
none_below n (i ∷ is) e b = absurd (let l = ltb→lt i n (and_l (ltb i n) (all (λ i. ltb i n) is) b) in omega arith)

pass_none : (look : ℕ → Lookup) (n : ℕ) → n ≡ 0 → pass_rows look n ≡ []
unfolding pass_rows
pass_none look n e = ap (λ (m : ℕ). pass_from look m (at_row 0)) e

pub missed_none : (n : ℕ) (ids : List ℕ) → n ≡ 0 → first_missed n ids ≡ 0
unfolding first_missed
missed_none n ids e = rw e refl

-- ids above 0 behind it
behind-zero : (ids : List ℕ) → T (ascending ids) → T (ascending (0 ∷ drop (rank 1 ids) ids))
behind-zero [] h = tt
behind-zero (zero ∷ is) h = subst (λ (k : ℕ). T (ascending_from 0 (drop k is))) (sym (rank-none 1 0 is h (le_refl 1))) h
behind-zero (suc i ∷ is) h =
    rw (le-ltb (suc i) 1 (suc-le-suc zero-le), rank-none 1 (suc i) is h (suc-le-suc zero-le))
    (and_i (ltb 0 (suc i)) (ascending_from (suc i) is) (lt→ltb 0 (suc i) (suc-le-suc zero-le)) h)

module _ (ids : List ℕ) (up : T (ascending ids)) where
  pass-from : (n k : ℕ) → length ids ≤ n + k → pass_from (id_lookup ids) n (id_at k ids) ≡ drop k ids
  unfolding id_lookup
  pass-from zero k l = let h : length ids ≤ k = omega arith in sym (drop_of_length-le ids {i = k} h)
  pass-from (suc n) k l = go (ltb k (length ids)) refl (pass-from n (suc k) (omega arith))
    where
      go : (b : Bool) → ltb k (length ids) ≡ b → pass_from (id_lookup ids) n (id_at (suc k) ids) ≡ drop (suc k) ids → pass_from (id_lookup ids) (suc n) (id_at k ids) ≡ drop k ids
      go true q ih =
          let h = ltb-true k (length ids) q in
          ap (pass_from (id_lookup ids) (suc n)) (at_some ids k h)
          ∙ ap (λ (x : Next). get_or ids k 0 ∷ pass_from (id_lookup ids) n x) (next-is (get_or ids k 0) ids up ∙ ap (λ (j : ℕ). id_at j ids) (rank-behind ids k up h))
          ∙ ap (λ (x : List ℕ). get_or ids k 0 ∷ x) ih
          ∙ sym (drop-cons ids k 0 h)
      go false q ih = let h = ltb-false k (length ids) q in ap (pass_from (id_lookup ids) (suc n)) (at_none ids k h) ∙ sym (drop_of_length-le ids {i = k} h)

  module _ (rows : ℕ) (below : T (all (λ i. ltb i rows) ids)) where
    -- rows 1 and on hold all ids but 0
    room : (n : ℕ) → rows ≡ suc n → length ids ≤ n + rank 1 ids
    room n e = go ids up below
      where
        go : (is : List ℕ) → T (ascending is) → T (all (λ i. ltb i rows) is) → length is ≤ n + rank 1 is
        go [] h b = zero-le
        go (zero ∷ is) h b =
            let q = asc-room 0 rows is h (and_r (ltb 0 rows) (all (λ i. ltb i rows) is) b) (omega arith) in
            let z = rank-none 1 0 is h (le_refl 1) in
            omega arith
        go (suc i ∷ is) h b =
            let l = ltb→lt (suc i) rows (and_l (ltb (suc i) rows) (all (λ i. ltb i rows) is) b) in
            let q = asc-room (suc i) rows is h (and_r (ltb (suc i) rows) (all (λ i. ltb i rows) is) b) l in
            omega arith

    -- row 0, then the other rows that are ids
    pub pass-rows : 0 < rows → pass_rows (id_lookup ids) rows ≡ 0 ∷ drop (rank 1 ids) ids
    unfolding pass_rows id_lookup
    pass-rows h = go rows refl
      where
        go : (n : ℕ) → rows ≡ n → pass_from (id_lookup ids) n (at_row 0) ≡ 0 ∷ drop (rank 1 ids) ids
        go zero e = absurd (omega arith)
        go (suc n) e =
            ap (λ (x : List ℕ). 0 ∷ x)
            (ap (pass_from (id_lookup ids) n) (next-is 0 ids up) ∙ pass-from n (rank 1 ids) (room n e))

    pub missed_first : 0 < rows → first_missed rows ids + rank 1 ids ≡ 1
    unfolding first_missed
    missed_first h =
        ap₂ (λ (b : Bool) (n : ℕ). cond (not b && not (elem 0 ids)) 1 0 + n) (ne_eqb rows 0 (λ e. omega arith)) (rank-suc 0 ids up ∙ ap (λ (n : ℕ). cond (elem 0 ids) (suc n) n) (rank-zero ids))
        ∙ go (elem 0 ids)
      where
        go : (b : Bool) → cond (not b) 1 0 + cond b 1 0 ≡ 1
        go true = refl
        go false = refl

    -- as many rows as `lookups` says
    pub pass_many : length (pass_rows (id_lookup ids) rows) ≡ lookups rows ids
    unfolding lookups
    pass_many = go rows refl
      where
        go : (n : ℕ) → rows ≡ n → length (pass_rows (id_lookup ids) rows) ≡ length ids + first_missed rows ids
        go zero e = let z = ap length (none_below rows ids e below) in let m = missed_none rows ids e in ap length (pass_none (id_lookup ids) rows e) ∙ (omega arith)
        go (suc n) e =
            let h : 0 < rows = omega arith in
            let m = missed_first h in
            let r = rank-le 1 ids in
            ap length (pass-rows h) ∙ (let d = length-drop (rank 1 ids) ids in omega arith)

    -- in their order
    pub pass_ascends : T (ascending (pass_rows (id_lookup ids) rows))
    pass_ascends = go rows refl
      where
        go : (n : ℕ) → rows ≡ n → T (ascending (pass_rows (id_lookup ids) rows))
        go zero e = subst (λ (l : List ℕ). T (ascending l)) (sym (pass_none (id_lookup ids) rows e)) tt
        go (suc n) e = subst (λ (l : List ℕ). T (ascending l)) (sym (pass-rows (omega arith))) (behind-zero ids up)

-- at most one more than there are ids
pub pass_most : (rows : ℕ) (ids : List ℕ) → lookups rows ids ≤ suc (length ids)
unfolding lookups first_missed
pass_most rows ids = go (not (eqb rows 0) && not (elem 0 ids))
  where
    go : (b : Bool) → length ids + cond b 1 0 ≤ suc (length ids)
    go true = omega arith
    go false = omega arith

-- ---- the rows that are ids

module _ (ids : List ℕ) (up : T (ascending ids)) where
  -- of n rows from r on they are the ids behind those before r
  rows-from : (n r : ℕ) → T (all (λ i. ltb i (r + n)) ids) → filter (λ k. elem k ids) (up_from r n) ≡ drop (rank r ids) ids
  rows-from zero r b = sym (drop_of_length-le ids {i = rank r ids} (omega (arith, rank-all r ids (subst (λ (k : ℕ). T (all (λ i. ltb i k) ids)) (add-zero r) b))))
  rows-from (suc n) r b = go (elem r ids) refl (rows-from n (suc r) (subst (λ (k : ℕ). T (all (λ i. ltb i k) ids)) (add-suc r n ∙ sym (suc-add r n)) b))
    where
      go : (t : Bool) → elem r ids ≡ t → filter (λ k. elem k ids) (up_from (suc r) n) ≡ drop (rank (suc r) ids) ids
          → cond t (r ∷ filter (λ k. elem k ids) (up_from (suc r) n)) (filter (λ k. elem k ids) (up_from (suc r) n)) ≡ drop (rank r ids) ids
      go true e ih =
          ap₂ (λ (x : ℕ) (l : List ℕ). x ∷ l) (sym (found r ids up e)) (ih ∙ ap (λ (m : ℕ). drop m ids) (rank-suc r ids up ∙ ap (λ (t : Bool). cond t (suc (rank r ids)) (rank r ids)) e))
          ∙ sym (drop-cons ids (rank r ids) 0 (rank_lt r ids e))
      go false e ih = ih ∙ ap (λ (m : ℕ). drop m ids) (rank-suc r ids up ∙ ap (λ (t : Bool). cond t (suc (rank r ids)) (rank r ids)) e)

  pub rows_are : (rows : ℕ) → T (all (λ i. ltb i rows) ids) → filter (λ r. elem r ids) (up_to rows) ≡ ids
  rows_are rows b = rows-from rows 0 (subst (λ (k : ℕ). T (all (λ i. ltb i k) ids)) (sym (zero-add rows)) b) ∙ ap (λ (m : ℕ). drop m ids) (rank-zero ids)

-- ---- row ids by a pass

filter-at : (p : ℕ → Bool) (l : List ℕ) → ((j : ℕ) → j < length l → p (get_or l j 0) ≡ true) → filter p l ≡ l
filter-at p [] h = refl
filter-at p (x ∷ xs) h = rw (h 0 (suc-le-suc zero-le)) (ap (λ (l : List ℕ). x ∷ l) (filter-at p xs (λ j k. h (suc j) (suc-le-suc k))))

module _ (ids : List ℕ) (up : T (ascending ids)) (rows : ℕ) (below : T (all (λ i. ltb i rows) ids)) where
  behind-listed : (k : ℕ) → filter (λ r. elem r ids) (drop k ids) ≡ drop k ids
  behind-listed k =
      filter-at (λ r. elem r ids) (drop k ids)
      (λ j h. ap (λ (r : ℕ). elem r ids) (get_or-drop k ids j 0) ∙ elem_at ids (k + j) (let d = length-drop k ids in omega arith))

  -- they are the segment's ids
  pub pass-ids : pass_ids (id_lookup ids) rows ≡ ids
  unfolding pass_ids id_lookup
  pass-ids = go rows refl
    where
      first : (b : Bool) → elem 0 ids ≡ b → cond b (0 ∷ drop (rank 1 ids) ids) (drop (rank 1 ids) ids) ≡ ids
      first true e =
          ap₂ (λ (x : ℕ) (m : ℕ). x ∷ drop m ids) (sym (found 0 ids up e) ∙ ap (λ (m : ℕ). get_or ids m 0) (rank-zero ids)) (rank-suc 0 ids up ∙ ap₂ (λ (t : Bool) (m : ℕ). cond t (suc m) m) e (rank-zero ids))
          ∙ sym (drop-cons ids 0 0 (omega (arith, rank_lt 0 ids e)))
      first false e = ap (λ (m : ℕ). drop m ids) (rank-suc 0 ids up ∙ ap₂ (λ (t : Bool) (m : ℕ). cond t (suc m) m) e (rank-zero ids))

      go : (n : ℕ) → rows ≡ n → filter (λ r. elem r ids) (pass_rows (id_lookup ids) rows) ≡ ids
      go zero e = ap (filter (λ r. elem r ids)) (pass_none (id_lookup ids) rows e) ∙ sym (none_below rows ids e below)
      go (suc n) e =
          ap (filter (λ r. elem r ids)) (pass-rows ids up rows below (omega arith))
          ∙ ap (λ (l : List ℕ). cond (elem 0 ids) (0 ∷ l) l) (behind-listed (rank 1 ids))
          ∙ first (elem 0 ids) refl

-- ---- the lookup by the rows of a segment of kind 2 or 4 that has passed the checks

count_same : (p q : ℕ → Bool) → ((r : ℕ) → p r ≡ q r) → (l : List ℕ) → count p l ≡ count q l
count_same p q h [] = refl
count_same p q h (x ∷ xs) = ap₂ (λ (b : Bool) (n : ℕ). cond b (suc n) n) (h x) (count_same p q h xs)

first-same : (p q : ℕ → Bool) → ((r : ℕ) → p r ≡ q r) → (r n : ℕ) → first_row p r n ≡ first_row q r n
first-same p q h r zero = refl
first-same p q h r (suc n) = ap₂ (λ (b : Bool) (x : Next). cond b (at_row r) x) (h r) (first-same p q h (suc r) n)

module _ (ids : List ℕ) (up : T (ascending ids)) where
  -- the ids among the first rows
  rank-rows : (n r : ℕ) → rank r ids + count (λ k. elem k ids) (up_from r n) ≡ rank (r + n) ids
  rank-rows zero r = add-zero (rank r ids) ∙ ap (λ (k : ℕ). rank k ids) (sym (add-zero r))
  rank-rows (suc n) r = go (elem r ids) refl (rank-rows n (suc r))
    where
      go : (b : Bool) → elem r ids ≡ b → rank (suc r) ids + count (λ k. elem k ids) (up_from (suc r) n) ≡ rank (suc r + n) ids
          → rank r ids + cond b (suc (count (λ k. elem k ids) (up_from (suc r) n))) (count (λ k. elem k ids) (up_from (suc r) n)) ≡ rank (r + suc n) ids
      go b e ih =
          step b (rank r ids) (count (λ k. elem k ids) (up_from (suc r) n)) (rank-suc r ids up ∙ ap (λ (t : Bool). cond t (suc (rank r ids)) (rank r ids)) e)
          (ih ∙ ap (λ (k : ℕ). rank k ids) (suc-add r n ∙ sym (add-suc r n)))
        where
          step : (b : Bool) (m c : ℕ) {x z : ℕ} → x ≡ cond b (suc m) m → x + c ≡ z → m + cond b (suc c) c ≡ z
          step true m c p q = omega arith
          step false m c p q = omega arith

  -- the first id among the next rows
  next-rows : (n r : ℕ) → T (all (λ i. ltb i (r + n)) ids) → first_row (λ k. elem k ids) r n ≡ id_at (rank r ids) ids
  next-rows zero r b = sym (at_none ids (rank r ids) (omega (arith, rank-all r ids (subst (λ (k : ℕ). T (all (λ i. ltb i k) ids)) (add-zero r) b))))
  next-rows (suc n) r b = go (elem r ids) refl (next-rows n (suc r) (subst (λ (k : ℕ). T (all (λ i. ltb i k) ids)) (add-suc r n ∙ sym (suc-add r n)) b))
    where
      go : (t : Bool) → elem r ids ≡ t → first_row (λ k. elem k ids) (suc r) n ≡ id_at (rank (suc r) ids) ids → cond t (at_row r) (first_row (λ k. elem k ids) (suc r) n) ≡ id_at (rank r ids) ids
      go true e ih = sym (at_some ids (rank r ids) (rank_lt r ids e) ∙ ap at_row (found r ids up e))
      go false e ih = ih ∙ ap (λ (k : ℕ). id_at k ids) (rank-suc r ids up ∙ ap (λ (t : Bool). cond t (suc (rank r ids)) (rank r ids)) e)

below_more : (n m : ℕ) (ids : List ℕ) → n ≤ m → T (all (λ i. ltb i n) ids) → T (all (λ i. ltb i m) ids)
below_more n m [] l h = tt
below_more n m (i ∷ is) l h =
    and_i (ltb i m) (all (λ i. ltb i m) is) (lt→ltb i m (let k = ltb→lt i n (and_l (ltb i n) (all (λ i. ltb i n) is) h) in omega arith))
    (below_more n m is l (and_r (ltb i n) (all (λ i. ltb i n) is) h))

from-same : (look other : ℕ → Lookup) → ((r : ℕ) → look r ≡ other r) → (n : ℕ) (x : Next) → pass_from look n x ≡ pass_from other n x
from-same look other h zero x = refl
from-same look other h (suc n) nowhere = refl
from-same look other h (suc n) (at_row r) = ap (λ (l : List ℕ). r ∷ l) (ap (λ (l : Lookup). pass_from look n l.next) (h r) ∙ from-same look other h n (other r).next)

filter_ext : (p q : ℕ → Bool) → ((r : ℕ) → p r ≡ q r) → (l : List ℕ) → filter p l ≡ filter q l
filter_ext p q h [] = refl
filter_ext p q h (x ∷ xs) = ap₂ (λ (b : Bool) (l : List ℕ). cond b (x ∷ l) l) (h x) (filter_ext p q h xs)

filter_comm : (p q : ℕ → Bool) (l : List ℕ) → filter p (filter q l) ≡ filter q (filter p l)
filter_comm p q [] = refl
filter_comm p q (x ∷ xs) = go (p x) refl (q x) refl (filter_comm p q xs)
  where
    go : (a : Bool) → p x ≡ a → (b : Bool) → q x ≡ b → filter p (filter q xs) ≡ filter q (filter p xs)
        → filter p (cond b (x ∷ filter q xs) (filter q xs)) ≡ filter q (cond a (x ∷ filter p xs) (filter p xs))
    go true e true f ih = rw (e, f) (ap (λ (l : List ℕ). x ∷ l) ih)
    go true e false f ih = rw f ih
    go false e true f ih = rw e ih
    go false e false f ih = ih

filter_none : (p : ℕ → Bool) (l : List ℕ) → is_empty (filter p l) ≡ not (any p l)
filter_none p [] = refl
filter_none p (x ∷ xs) = go (p x) (filter_none p xs)
  where
    go : (b : Bool) → is_empty (filter p xs) ≡ not (any p xs) → is_empty (cond b (x ∷ filter p xs) (filter p xs)) ≡ not (b || any p xs)
    go true e = refl
    go false e = e

-- the greatest over all, where the others count 1
greatest-filter : (f : ℕ → ℕ) (p : ℕ → Bool) → ((r : ℕ) → p r ≡ false → f r ≡ 1) → (l : List ℕ)
    → max (greatest (map f (filter p l))) (cond (ltb (length (filter p l)) (length l)) 1 0) ≡ greatest (map f l)
greatest-filter f p h [] = refl
greatest-filter f p h (x ∷ xs) = go (p x) refl (greatest-filter f p h xs)
  where
    fewer : (l : List ℕ) → length (filter p l) ≤ length l
    fewer [] = zero-le
    fewer (y ∷ ys) = by (p y) (fewer ys)
      where
        by : (b : Bool) → length (filter p ys) ≤ length ys → length (cond b (y ∷ filter p ys) (filter p ys)) ≤ suc (length ys)
        by true l = suc-le-suc l
        by false l = omega arith

    least : (g c n : ℕ) → c ≤ 1 → max g c ≡ n → max g 1 ≡ max 1 n
    least g c n l e = omega arith

    at_most : (b : Bool) → cond b 1 0 ≤ 1
    at_most true = le_refl 1
    at_most false = zero-le

    go : (b : Bool) → p x ≡ b → max (greatest (map f (filter p xs))) (cond (ltb (length (filter p xs)) (length xs)) 1 0) ≡ greatest (map f xs)
        → max (greatest (map f (cond b (x ∷ filter p xs) (filter p xs)))) (cond (ltb (length (cond b (x ∷ filter p xs) (filter p xs))) (suc (length xs))) 1 0) ≡ max (f x) (greatest (map f xs))
    go true e ih =
        ap (λ (b : Bool). max (max (f x) (greatest (map f (filter p xs)))) (cond b 1 0)) (leb-suc-suc (suc (length (filter p xs))) (length xs))
        ∙ max_assoc (f x) (greatest (map f (filter p xs))) (cond (ltb (length (filter p xs)) (length xs)) 1 0) ∙ ap (max (f x)) ih
      where
        max_assoc : (a b c : ℕ) → max (max a b) c ≡ max a (max b c)
        max_assoc a b c = omega arith
    go false e ih =
        ap (λ (b : Bool). max (greatest (map f (filter p xs))) (cond b 1 0)) (lt-ltb (length (filter p xs)) (suc (length xs)) (suc-le-suc (fewer xs)))
        ∙ least (greatest (map f (filter p xs))) (cond (ltb (length (filter p xs)) (length xs)) 1 0) (greatest (map f xs)) (at_most (ltb (length (filter p xs)) (length xs))) ih
        ∙ ap (λ (n : ℕ). max n (greatest (map f xs))) (sym (h x e))

module _ (s : Segment) (fit : T (index_fits s)) (not-empty : s.kind ≡ 0 → ⊥) (not_full : s.kind ≡ 1 → ⊥) where
  ascends : T (ascending s.ids)
  unfolding ids_fit
  ascends = and_l (ascending s.ids) (all (λ n. ltb n s.rows) s.ids) (listed-ids s fit not-empty not_full)

  inside : T (all (λ n. ltb n s.rows) s.ids)
  unfolding ids_fit
  inside = and_r (ascending s.ids) (all (λ n. ltb n s.rows) s.ids) (listed-ids s fit not-empty not_full)

  has-is : (r : ℕ) → has_value s r ≡ elem r s.ids
  has-is r = ap not (listed-row s fit not-empty not_full r) ∙ twice (elem r s.ids)
    where
      twice : (b : Bool) → not (not b) ≡ b
      twice true = refl
      twice false = refl

  -- whether it has values, its rank, and the first row after it that has one, of any row
  pub lookup_is : (r : ℕ) → row_lookup s r ≡ id_lookup s.ids r
  unfolding row_lookup id_lookup
  lookup_is r =
      λ i. record {
        has = has-is r i;
        rank = (count_same (has_value s) (λ k. elem k s.ids) has-is (up_to r) ∙ sym (zero-add (count (λ k. elem k s.ids) (up_to r))) ∙ ap (λ (n : ℕ). n + count (λ k. elem k s.ids) (up_to r)) (sym (rank-zero s.ids)) ∙ rank-rows s.ids ascends r 0 ∙ ap (λ (k : ℕ). rank k s.ids) (zero-add r)) i;
        next = (first-same (has_value s) (λ k. elem k s.ids) has-is (suc r) (s.rows - suc r) ∙ next-rows s.ids ascends (s.rows - suc r) (suc r) (below_more s.rows (suc r + (s.rows - suc r)) s.ids (omega arith) inside) ∙ sym (next-is r s.ids ascends)) i;
      }

  -- ---- a pass by the rows

  -- it is the pass by the row ids
  pub pass_same : pass_rows (row_lookup s) s.rows ≡ pass_rows (id_lookup s.ids) s.rows
  unfolding pass_rows
  pass_same = from-same (row_lookup s) (id_lookup s.ids) lookup_is s.rows (at_row 0)

  -- so it looks up at most one row more than the segment has ids
  pub pass_few : length (pass_rows (row_lookup s) s.rows) ≤ suc (length s.ids)
  pass_few = subst (λ (n : ℕ). n ≤ suc (length s.ids)) (sym (ap length pass_same ∙ pass_many s.ids ascends s.rows inside)) (pass_most s.rows s.ids)

  -- the row ids are the rows that have values
  pub pass_listed : pass_ids (id_lookup s.ids) s.rows ≡ filter (has_value s) (up_to s.rows)
  pass_listed =
      pass-ids s.ids ascends s.rows inside ∙ sym (rows_are s.ids ascends s.rows inside)
      ∙ filter_ext (λ r. elem r s.ids) (has_value s) (λ r. sym (has-is r)) (up_to s.rows)

  -- ---- dropping and class by a pass

  alive-listed : pass_alive s ≡ filter (has_value s) (alive_rows s)
  unfolding pass_alive alive_rows
  alive-listed = ap (filter (is_alive s)) pass_listed ∙ filter_comm (is_alive s) (has_value s) (up_to s.rows)

  pub pass-dropped : pass_dropped s ≡ is_dropped s
  unfolding pass_dropped is_dropped
  pass-dropped = ap (λ (b : Bool). is_empty s.values || (has_alive_set s && b)) (ap is_empty alive-listed ∙ filter_none (has_value s) (alive_rows s))

  pub pass-class : pass_class s ≡ alive_class s
  unfolding pass_class alive_class
  pass-class =
      ap (λ (l : List ℕ). max (greatest (map (λ r. row_class (row_values s r)) l)) (cond (ltb (length l) (length (alive_rows s))) 1 0)) alive-listed
      ∙ greatest-filter (λ r. row_class (row_values s r)) (has_value s) (λ r e. ap row_class (nothing (row_values s r) e)) (alive_rows s)
    where
      nothing : (l : List ℕ) → not (is_empty l) ≡ false → l ≡ []
      nothing [] e = refl
      nothing (x ∷ xs) e = absurd (false≢true (sym e))
