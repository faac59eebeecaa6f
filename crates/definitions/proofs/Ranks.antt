-- Ascending lists, and the rank of a row among ascending ids: how many of them are below it. Assumes nothing.
use Prim.Native.Nat.{ℕ, zero, suc, ◌+◌, ◌≤◌, ◌<◌, zero-le, suc-le-suc}
use native.Mathlib.Nat.{le_of_suc-le-suc, not-suc-le-zero, le_refl}
use native.Mathlib.Omega.{arith}
use mathlib.Core.Path.{◌≡◌, refl, sym, ap, ◌∙◌}
use mathlib.Core.List.{List, [], ◌∷◌}
use mathlib.Core.Bool.{Bool, true, false, cond, ◌||◌, false≢true}
use lib.ListN.{length, get_or}
use lib.Dec.{T, eqb, ltb, ltb→lt}
use lib.Arith.{lt_of_le-ne}
use lib.Ieee.Fits.{and_l, and_r}
use lib.Ieee.Bits.{is_true}
use borrow.Author.Tests.{lt-ltb, le-ltb, ltb-true, ltb-false, eqb-true, eqb-false}
use Rattle.definitions.specs.Lists.{elem, all, ascending, ascending_from}
use Rattle.definitions.specs.Row.{rank}
use Rattle.definitions.proofs.Lists.{mem_elem, mem_at}

-- ---- ascending lists

pub asc_tail : (m : ℕ) (ns : List ℕ) → T (ascending_from m ns) → T (ascending ns)
asc_tail m [] h = tt
asc_tail m (n ∷ ns) h = and_r (ltb m n) (ascending_from n ns) h

pub asc_head : (m n : ℕ) (ns : List ℕ) → T (ascending_from m (n ∷ ns)) → m < n
asc_head m n ns h = ltb→lt m n (and_l (ltb m n) (ascending_from n ns) h)

pub asc-at : (m : ℕ) (ns : List ℕ) (k : ℕ) → T (ascending_from m ns) → k < length ns → m < get_or ns k 0
asc-at m [] k h l = absurd (not-suc-le-zero l)
asc-at m (n ∷ ns) zero h l = asc_head m n ns h
asc-at m (n ∷ ns) (suc k) h l =
    let p = asc_head m n ns h in
    let q = asc-at n ns k (and_r (ltb m n) (ascending_from n ns) h) (le_of_suc-le-suc l) in
    omega arith

pub asc-sorted : (ns : List ℕ) → T (ascending ns) → (p q : ℕ) → p ≤ q → q < length ns → get_or ns p 0 ≤ get_or ns q 0
asc-sorted [] h p q pq l = absurd (not-suc-le-zero l)
asc-sorted (n ∷ ns) h zero zero pq l = le_refl n
asc-sorted (n ∷ ns) h zero (suc q) pq l = let s = asc-at n ns q h (le_of_suc-le-suc l) in omega arith
asc-sorted (n ∷ ns) h (suc p) zero pq l = absurd (not-suc-le-zero pq)
asc-sorted (n ∷ ns) h (suc p) (suc q) pq l = asc-sorted ns (asc_tail n ns h) p q (le_of_suc-le-suc pq) (le_of_suc-le-suc l)

pub asc_step : (os : List ℕ) (k : ℕ) → T (ascending os) → suc k < length os → get_or os k 0 < get_or os (suc k) 0
asc_step [] k h l = absurd (not-suc-le-zero l)
asc_step (o ∷ []) k h l = absurd (not-suc-le-zero (le_of_suc-le-suc l))
asc_step (o ∷ p ∷ ps) zero h l = asc_head o p ps h
asc_step (o ∷ p ∷ ps) (suc k) h l = asc_step (p ∷ ps) k (asc_tail o (p ∷ ps) h) (le_of_suc-le-suc l)

-- numbers above m and below n are fewer than n - m
pub asc-room : (m n : ℕ) (ns : List ℕ) → T (ascending_from m ns) → T (all (λ k. ltb k n) ns) → m < n → length ns + m < n
asc-room m n [] h b l = let e : length {A = ℕ} [] ≡ 0 = refl in omega arith
asc-room m n (k ∷ ns) h b l =
    let p = asc_head m k ns h in
    let q = asc-room k n ns (and_r (ltb m k) (ascending_from k ns) h) (and_r (ltb k n) (all (λ j. ltb j n) ns) b) (ltb→lt k n (and_l (ltb k n) (all (λ j. ltb j n) ns) b)) in
    omega arith

-- ---- rank

pub rank-none : (row m : ℕ) (ns : List ℕ) → T (ascending_from m ns) → row ≤ suc m → rank row ns ≡ 0
rank-none row m [] h l = refl
rank-none row m (n ∷ ns) h l =
    let p = asc_head m n ns h in
    rw (le-ltb n row (omega arith)) (rank-none row n ns (and_r (ltb m n) (ascending_from n ns) h) (omega arith))

pub rank-all : (k : ℕ) (ids : List ℕ) → T (all (λ n. ltb n k) ids) → rank k ids ≡ length ids
rank-all k [] h = refl
rank-all k (i ∷ is) h = rw (is_true (ltb i k) (and_l (ltb i k) (all (λ n. ltb n k) is) h)) (ap suc (rank-all k is (and_r (ltb i k) (all (λ n. ltb n k) is) h)))

-- every element before r is below row, and every one from r on is not: then r elements are below row
pub counts : (row : ℕ) (xs : List ℕ) (r : ℕ) → r ≤ length xs → ((k : ℕ) → k < r → get_or xs k 0 < row) → ((k : ℕ) → r ≤ k → k < length xs → row ≤ get_or xs k 0) → r ≡ rank row xs
counts row [] r h b a = omega arith
counts row (x ∷ xs) zero h b a =
    let e = counts row xs zero zero-le (λ k l. b (suc k) (omega arith)) (λ k l m. a (suc k) zero-le (suc-le-suc m)) in
    rw (le-ltb x row (a 0 zero-le (suc-le-suc zero-le))) e
counts row (x ∷ xs) (suc r) h b a =
    let e = counts row xs r (le_of_suc-le-suc h) (λ k l. b (suc k) (suc-le-suc l)) (λ k l m. a (suc k) (suc-le-suc l) (suc-le-suc m)) in
    rw (lt-ltb x row (b 0 (suc-le-suc zero-le))) (ap suc e)

-- ids before the rank are below the row, those from it on are not
pub before-rank : (row : ℕ) (ids : List ℕ) → T (ascending ids) → (k : ℕ) → k < rank row ids → get_or ids k 0 < row
before-rank row [] h k l = absurd (not-suc-le-zero l)
before-rank row (x ∷ xs) h k l = go (before-rank row xs (asc_tail x xs h)) (ltb x row) refl k l
  where
    go : ((k : ℕ) → k < rank row xs → get_or xs k 0 < row) → (b : Bool) → ltb x row ≡ b → (k : ℕ) → k < cond b (suc (rank row xs)) (rank row xs) → get_or (x ∷ xs) k 0 < row
    go ih true q zero l = ltb-true x row q
    go ih true q (suc k) l = ih k (le_of_suc-le-suc l)
    go ih false q k l = absurd (let z = rank-none row x xs h (let y = ltb-false x row q in omega arith) in omega arith)

pub after-rank : (row : ℕ) (ids : List ℕ) → T (ascending ids) → (k : ℕ) → rank row ids ≤ k → k < length ids → row ≤ get_or ids k 0
after-rank row [] h k l m = absurd (not-suc-le-zero m)
after-rank row (x ∷ xs) h k l m = go (after-rank row xs (asc_tail x xs h)) (ltb x row) refl k l m
  where
    go : ((k : ℕ) → rank row xs ≤ k → k < length xs → row ≤ get_or xs k 0) → (b : Bool) → ltb x row ≡ b → (k : ℕ) → cond b (suc (rank row xs)) (rank row xs) ≤ k → k < length (x ∷ xs) → row ≤ get_or (x ∷ xs) k 0
    go ih true q zero l m = absurd (not-suc-le-zero l)
    go ih true q (suc k) l m = ih k (le_of_suc-le-suc l) (le_of_suc-le-suc m)
    go ih false q k l m = let y = ltb-false x row q in let z = asc-sorted (x ∷ xs) h 0 k zero-le m in omega arith

-- ---- members

pub elem-above : (row m : ℕ) (ns : List ℕ) → T (ascending_from m ns) → elem row ns ≡ true → m < row
elem-above row m [] h e = absurd (false≢true e)
elem-above row m (n ∷ ns) h e = go (eqb row n) refl e (λ t. elem-above row n ns (and_r (ltb m n) (ascending_from n ns) h) t)
  where
    go : (b : Bool) → eqb row n ≡ b → b || elem row ns ≡ true → (elem row ns ≡ true → n < row) → m < row
    go true q e ih = let p = asc_head m n ns h in let s = eqb-true row n q in omega arith
    go false q e ih = let p = asc_head m n ns h in let s = ih e in omega arith

-- an id stands at its rank
pub found : (row : ℕ) (ids : List ℕ) → T (ascending ids) → elem row ids ≡ true → get_or ids (rank row ids) 0 ≡ row
found row [] h e = absurd (false≢true e)
found row (x ∷ xs) h e = go (ltb x row) refl (λ t. found row xs (asc_tail x xs h) t)
  where
    here : (b : Bool) → eqb row x ≡ b → row ≤ x → b || elem row xs ≡ true → x ≡ row
    here true q l e = sym (eqb-true row x q)
    here false q l e = absurd (let s = elem-above row x xs h e in omega arith)

    there : (b : Bool) → eqb row x ≡ b → x < row → b || elem row xs ≡ true → elem row xs ≡ true
    there true q l e = absurd (let s = eqb-true row x q in omega arith)
    there false q l e = e

    go : (b : Bool) → ltb x row ≡ b → (elem row xs ≡ true → get_or xs (rank row xs) 0 ≡ row) → get_or (x ∷ xs) (cond b (suc (rank row xs)) (rank row xs)) 0 ≡ row
    go true q ih = ih (there (eqb row x) refl (ltb-true x row q) e)
    go false q ih =
        let l = ltb-false x row q in
        rw (rank-none row x xs h (omega arith)) (here (eqb row x) refl l e)

pub elem_at : (ids : List ℕ) (k : ℕ) → k < length ids → elem (get_or ids k 0) ids ≡ true
elem_at ids k h = mem_elem (get_or ids k 0) ids (mem_at ids k 0 h)

-- the rank of the id at place k
pub rank-at : (ids : List ℕ) (k : ℕ) → T (ascending ids) → k < length ids → rank (get_or ids k 0) ids ≡ k
rank-at ids k up h = sym (counts (get_or ids k 0) ids k (omega arith) (λ j l. below j l) (λ j l m. asc-sorted ids up k j l m))
  where
    below : (j : ℕ) → j < k → get_or ids j 0 < get_or ids k 0
    below j l = let p = asc_step ids j up (omega arith) in let q = asc-sorted ids up (suc j) k l h in omega arith

-- the rank one row further
pub rank-suc : (k : ℕ) (ids : List ℕ) → T (ascending ids) → rank (suc k) ids ≡ cond (elem k ids) (suc (rank k ids)) (rank k ids)
rank-suc k [] h = refl
rank-suc k (x ∷ xs) h = go (ltb x k) (eqb k x) refl refl (rank-suc k xs (asc_tail x xs h))
  where
    below : (b : Bool) → rank (suc k) xs ≡ cond b (suc (rank k xs)) (rank k xs) → suc (rank (suc k) xs) ≡ cond b (suc (suc (rank k xs))) (suc (rank k xs))
    below true e = ap suc e
    below false e = ap suc e

    past : (b : Bool) → elem k xs ≡ b → k < x → rank (suc k) xs ≡ cond b (suc (rank k xs)) (rank k xs)
    past true e p = absurd (let s = elem-above k x xs h e in omega arith)
    past false e p = rank-none (suc k) x xs h (omega arith) ∙ sym (rank-none k x xs h (omega arith))

    go : (b e : Bool) → ltb x k ≡ b → eqb k x ≡ e → rank (suc k) xs ≡ cond (elem k xs) (suc (rank k xs)) (rank k xs)
        → cond (ltb x (suc k)) (suc (rank (suc k) xs)) (rank (suc k) xs) ≡ cond (e || elem k xs) (suc (cond b (suc (rank k xs)) (rank k xs))) (cond b (suc (rank k xs)) (rank k xs))
    go true true p q ih = absurd (let s = ltb-true x k p in let t = eqb-true k x q in omega arith)
    go true false p q ih = let s = ltb-true x k p in rw (lt-ltb x (suc k) (omega arith)) (below (elem k xs) ih)
    go false true p q ih =
        let t = eqb-true k x q in
        rw (lt-ltb x (suc k) (omega arith)) (ap suc (rank-none (suc k) x xs h (omega arith) ∙ sym (rank-none k x xs h (omega arith))))
    go false false p q ih =
        let s = ltb-false x k p in
        let n : k < x = lt_of_le-ne s (eqb-false k x q) in
        rw (le-ltb x (suc k) n) (past (elem k xs) refl n)
