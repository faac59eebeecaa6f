-- Parts of a list, as the code lends them: from a start to an end. Assumes nothing.
use mathlib.Core.Path.{◌≡◌, sym, ap, ◌∙◌}
use mathlib.Core.List.{List, [], ◌∷◌}
use Prim.Native.Nat.{ℕ, ◌+◌, ◌-◌, ◌≤◌, ◌<◌, zero, suc}
use native.Mathlib.Omega.{arith}
use lib.ListN.{length, take, drop, get_or, length-drop}
use lib.Seq.{drop-drop, take_all, length-take-le, get_or-take, get_or-drop, take-nil}

pub part-rest : (b : ℕ) (xs : List ℕ) → take (length xs - b) (drop b xs) ≡ drop b xs
part-rest b xs = take_all (length xs - b) (drop b xs) (rw (length-drop b xs) (omega arith))

pub part-is : (n a e : ℕ) (xs : List ℕ) → e ≡ a + n → take (e - a) (drop a xs) ≡ take n (drop a xs)
part-is n a e xs p = ap (λ (k : ℕ). take k (drop a xs)) (let z : e - a ≡ n = omega arith in z)

-- n elements, which the code counts as m
pub part-lent : (a m n : ℕ) (xs : List ℕ) → m ≡ n → take (a + m - a) (drop a xs) ≡ take n (drop a xs)
part-lent a m n xs e = part-is n a (a + m) xs (ap (λ (k : ℕ). a + k) e)

pub part_length : (n a : ℕ) (xs : List ℕ) → a + n ≤ length xs → length (take n (drop a xs)) ≡ n
part_length n a xs h = length-take-le n (drop a xs) (rw (length-drop a xs) (omega arith))

pub run_length : (a b : ℕ) (xs : List ℕ) → b ≤ length xs → length (take (b - a) (drop a xs)) ≡ b - a
run_length a b xs h = length-take-le (b - a) (drop a xs) (rw (length-drop a xs) (omega arith))

pub part_at : (n a : ℕ) (xs : List ℕ) (k : ℕ) → k < n → get_or (take n (drop a xs)) k 0 ≡ get_or xs (a + k) 0
part_at n a xs k h = get_or-take n (drop a xs) k 0 h ∙ get_or-drop a xs k 0

pub part-long : (n a : ℕ) (xs : List ℕ) → a + n ≤ length xs → length (take (a + n - a) (drop a xs)) ≡ n
part-long n a xs h = ap length (part-is n a (a + n) xs (omega arith)) ∙ part_length n a xs h

pub rest-is : (n a e : ℕ) (xs : List ℕ) → e ≡ a + n → drop e xs ≡ drop n (drop a xs)
rest-is n a e xs p = ap (λ (k : ℕ). drop k xs) p ∙ sym (drop-drop n a xs)

-- a part of the front
pub drop-take : (s e : ℕ) (l : List ℕ) → drop s (take e l) ≡ take (e - s) (drop s l)
drop-take zero e l = ap (λ (n : ℕ). take n l) (let k : e ≡ e - 0 = omega arith in k)
drop-take (suc s) zero l = ap (λ (n : ℕ). take n (drop (suc s) l)) (let k : 0 ≡ 0 - suc s = omega arith in k)
drop-take (suc s) (suc e) [] = sym (take-nil {A = ℕ} (suc e - suc s))
drop-take (suc s) (suc e) (x ∷ l) = drop-take s e l ∙ ap (λ (n : ℕ). take n (drop s l)) (let k : e - s ≡ suc e - suc s = omega arith in k)
