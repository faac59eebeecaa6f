-- Sums of numbers, and running sums. Assumes nothing.
use mathlib.Core.Path.{◌≡◌, refl, sym, ap₂, ◌∙◌}
use mathlib.Core.List.{List, [], ◌∷◌, ◌++◌, map}
use Prim.Native.Nat.{ℕ, zero, suc, ◌+◌, ◌-◌, ◌≤◌, ◌<◌}
use native.Mathlib.Nat.{le_of_suc-le-suc, add-zero}
use native.Mathlib.Numerals.{add-one}
use native.Mathlib.Omega.{arith}
use lib.ListN.{length, take, drop, get_or, drop_of_length-le}
use lib.Seq.{drop-cons}
use Rattle.definitions.specs.Lists.{sum}
use Rattle.lists.specs.Sums.{sum_below}

pub sum-append : (xs ys : List ℕ) → sum (xs ++ ys) ≡ sum xs + sum ys
sum-append [] ys = omega arith
sum-append (x ∷ xs) ys = let e = sum-append xs ys in omega arith

pub sum_split : (n : ℕ) (xs : List ℕ) → sum (take n xs) + sum (drop n xs) ≡ sum xs
sum_split zero xs = omega arith
sum_split (suc n) [] = refl
sum_split (suc n) (x ∷ xs) = let e = sum_split n xs in omega arith

pub sum-take-le : (xs : List ℕ) (n : ℕ) → sum (take n xs) ≤ sum xs
sum-take-le xs n = omega (arith, sum_split n xs)

-- a walk over the numbers: the next one, and the end
pub sum_step : (xs : List ℕ) (i : ℕ) → i < length xs → sum (drop i xs) ≡ get_or xs i 0 + sum (drop (i + 1) xs)
sum_step xs i h = rw (add-one i, drop-cons xs i 0 h)

pub sum-end : (xs : List ℕ) (i : ℕ) → length xs ≤ i → sum (drop i xs) ≡ 0
sum-end xs i h = rw (drop_of_length-le xs h)

pub sum-at : {A : Type 0} (f : A → ℕ) (l : List A) (k : ℕ) (d : A) → k < length l → f (get_or l k d) ≤ sum (map f l)
sum-at f [] k d h = absurd (omega arith)
sum-at f (x ∷ xs) zero d h = omega arith
sum-at f (x ∷ xs) (suc k) d h = let e = sum-at f xs k d (le_of_suc-le-suc h) in omega arith

pub sum-suc : {A : Type 0} (f : A → ℕ) (l : List A) (k : ℕ) (d : A) → k < length l → sum (map f (take (suc k) l)) ≡ sum (map f (take k l)) + f (get_or l k d)
sum-suc f [] k d h = absurd (omega arith)
sum-suc f (x ∷ xs) zero d h = omega arith
sum-suc f (x ∷ xs) (suc k) d h = let e = sum-suc f xs k d (le_of_suc-le-suc h) in omega arith

-- ---- running sums

pub below_shift : (g : ℕ → ℕ) (n : ℕ) → sum_below g (suc n) ≡ g 0 + sum_below (λ k. g (suc k)) n
below_shift g zero = omega arith
below_shift g (suc n) = let e = below_shift g n in omega arith

below_more : (g : ℕ → ℕ) (s d : ℕ) → sum_below g s ≤ sum_below g (s + d)
below_more g s zero = rw (add-zero s) (omega arith)
below_more g s (suc d) = let e : s + suc d ≡ suc (s + d) = omega arith in let h = below_more g s d in rw e (omega arith)

pub below_mono : (g : ℕ → ℕ) (s t : ℕ) → s ≤ t → sum_below g s ≤ sum_below g t
below_mono g s t h = let e : t ≡ s + (t - s) = omega arith in rw e (below_more g s (t - s))

pub below-same : (f g : ℕ → ℕ) (n : ℕ) → ((j : ℕ) → j < n → f j ≡ g j) → sum_below f n ≡ sum_below g n
below-same f g zero e = refl
below-same f g (suc n) e = ap₂ (λ (a b : ℕ). a + b) (below-same f g n (λ j h. e j (omega arith))) (e n (omega arith))

-- one over a list
pub sums_are : {A : Type 0} (g : ℕ → ℕ) (p : A → ℕ) (l : List A) (d : A) → ((j : ℕ) → j < length l → g j ≡ p (get_or l j d)) → (k : ℕ) → k ≤ length l → sum_below g k ≡ sum (map p (take k l))
sums_are g p l d e zero h = refl
sums_are g p l d e (suc k) h = ap₂ (λ (x y : ℕ). x + y) (sums_are g p l d e k (omega arith)) (e k h) ∙ sym (sum-suc p l k d h)
