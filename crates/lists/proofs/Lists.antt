-- Lists: one element of many, tests of all elements, numbers in sequence. Assumes nothing.
use mathlib.Core.Path.{◌≡◌, refl, sym, ap, ◌∙◌}
use mathlib.Core.Bool.{Bool, true, false, cond, ◌&&◌}
use mathlib.Core.List.{List, [], ◌∷◌}
use Prim.Native.Nat.{ℕ, zero, suc, ◌+◌, ◌-◌, ◌≤◌, ◌<◌, zero-le}
use native.Mathlib.Nat.{le_of_suc-le-suc}
use native.Mathlib.Numerals.{add-one}
use native.Mathlib.Omega.{arith}
use lib.Dec.{eqb, T, eqb-suc-zero}
use lib.ListN.{length, take, drop, get_or, replicate}
use Rattle.definitions.specs.Lists.{all, count, is_empty, up_from}
use Rattle.definitions.proofs.Lists.{all_mem, mem_at}

pub empty-length : {A : Type 0} (xs : List A) → is_empty xs ≡ eqb (length xs) 0
empty-length [] = refl
empty-length (x ∷ xs) = sym (eqb-suc-zero (length xs))

pub none_is : {A : Type 0} (xs : List A) → T (is_empty xs) → xs ≡ []
none_is [] h = refl
none_is (x ∷ xs) h = absurd h

-- ---- a test for all of them

pub all_ext : {A : Type 0} (p q : A → Bool) (xs : List A) → ((x : A) → p x ≡ q x) → all p xs ≡ all q xs
all_ext p q [] h = refl
all_ext p q (x ∷ xs) h = λ i. h x i && all_ext p q xs h i

pub all-at : {A : Type 0} (p : A → Bool) (l : List A) (k : ℕ) (d : A) → T (all p l) → k < length l → T (p (get_or l k d))
all-at p l k d h q = all_mem p l h (mem_at l k d q)

-- ---- zeros

pub zeros-at : (n k : ℕ) → get_or {A = ℕ} (replicate n 0) k 0 ≡ 0
zeros-at zero k = refl
zeros-at (suc n) zero = refl
zeros-at (suc n) (suc k) = zeros-at n k

pub take-zeros : (n m : ℕ) → n ≤ m → take n (replicate {A = ℕ} m 0) ≡ replicate n 0
take-zeros zero m h = refl
take-zeros (suc n) zero h = absurd (omega arith)
take-zeros (suc n) (suc m) h = ap (λ (l : List ℕ). 0 ∷ l) (take-zeros n m (le_of_suc-le-suc h))

pub drop-zeros : (n m : ℕ) → drop n (replicate {A = ℕ} m 0) ≡ replicate (m - n) 0
drop-zeros zero m = ap (λ (k : ℕ). replicate k 0) (let e : m ≡ m - 0 = omega arith in e)
drop-zeros (suc n) zero = ap (λ (k : ℕ). replicate k 0) (let e : 0 ≡ 0 - suc n = omega arith in e)
drop-zeros (suc n) (suc m) = drop-zeros n m ∙ ap (λ (k : ℕ). replicate k 0) (let e : m - n ≡ suc m - suc n = omega arith in e)

-- ---- the last

-- ---- numbers in sequence

-- from k on, of those below n
pub up_step : (k n : ℕ) → k < n → up_from k (n - k) ≡ k ∷ up_from (k + 1) (n - (k + 1))
up_step k n h = rw (add-one k, let e : n - k ≡ suc (n - suc k) = omega arith in e)

pub up_end : (k n : ℕ) → n ≤ k → up_from k (n - k) ≡ []
up_end k n h = ap (up_from k) (let e : n - k ≡ 0 = omega arith in e)

pub count_most : (p : ℕ → Bool) (s n : ℕ) → count p (up_from s n) ≤ n
count_most p s zero = zero-le
count_most p s (suc n) = go (p s) (count_most p (suc s) n)
  where
    go : (b : Bool) → count p (up_from (suc s) n) ≤ n → cond b (suc (count p (up_from (suc s) n))) (count p (up_from (suc s) n)) ≤ suc n
    go true h = omega arith
    go false h = omega arith
