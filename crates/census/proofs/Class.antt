-- The class by kind, and by the census: what the definitions say of the rows follows from the three numbers. Assumes nothing.
use Prim.Native.Nat.{ℕ, zero, suc, max, ◌+◌, ◌≤◌, ◌<◌}
use native.Mathlib.Omega.{arith}
use mathlib.Core.Path.{◌≡◌, refl, sym, ap, ap₂, ◌∙◌, subst}
use mathlib.Core.List.{List, [], ◌∷◌, map}
use mathlib.Core.Bool.{Bool, true, false, cond, not, ◌||◌}
use lib.ListN.{length, length-map}
use lib.Dec.{eqb, ltb}
use borrow.Author.Tests.{ne_eqb, lt-ltb, le-ltb, ltb-false, ltb-true}
use Rattle.definitions.specs.Lists.{greatest, any, is_empty, sum}
use Rattle.definitions.specs.Class.{row_class}
use Rattle.stands.specs.Width.{id_part}
use Rattle.census.specs.Census.{census_of}
use Rattle.census.specs.Class.{count_class}
use Rattle.census.proofs.Rows.{count_of, count-is, count-nil, count-cons, count-sum}

-- the class of a row of so many values
abbrev row_class_by : ℕ → ℕ
row_class_by zero = 1
row_class_by (suc zero) = 0
row_class_by (suc (suc w)) = 2

row-class : (l : List ℕ) → row_class l ≡ row_class_by (length l)
row-class [] = refl
row-class (v ∷ []) = refl
row-class (v ∷ w ∷ vs) = refl

-- ---- with one

-- the class of n rows of which m have a value, v values in all
abbrev by_count : ℕ → ℕ → ℕ → ℕ
by_count m v n = cond (ltb m v) 2 (cond (ltb m n) 1 0)

pub count-two : (m v n : ℕ) → m < v → 2 ≡ by_count m v n
count-two m v n h = rw (lt-ltb m v h)

pub count-one : (m v n : ℕ) → v ≤ m → m < n → 1 ≡ by_count m v n
count-one m v n h k = rw (le-ltb m v h, lt-ltb m n k)

pub count-zero : (m v n : ℕ) → v ≤ m → n ≤ m → 0 ≡ by_count m v n
count-zero m v n h k = rw (le-ltb m v h, le-ltb m n k)

-- one row more, of so many values
more : (w m v n : ℕ) → m ≤ v → m ≤ n → by_count (length (id_part 0 w) + m) (w + v) (suc n) ≡ max (row_class_by w) (by_count m v n)
more zero m v n h k = go (ltb m v) refl
  where
    go : (b : Bool) → ltb m v ≡ b → by_count (0 + m) (0 + v) (suc n) ≡ max 1 (by_count m v n)
    go true e =
        let l = ltb-true m v e in
        let x = count-two (0 + m) (0 + v) (suc n) (omega arith) in
        let y = count-two m v n l in
        omega arith
    go false e =
        let l = ltb-false m v e in
        let x = count-one (0 + m) (0 + v) (suc n) (omega arith) (omega arith) in
        let y = small (ltb m n) in
        let z : by_count m v n ≡ cond (ltb m n) 1 0 = rw (le-ltb m v l) in
        omega arith
      where
        small : (b : Bool) → cond b 1 0 ≤ 1
        small true = omega arith
        small false = omega arith
more (suc zero) m v n h k = go (ltb m v) refl (ltb m n) refl
  where
    go : (b : Bool) → ltb m v ≡ b → (d : Bool) → ltb m n ≡ d → by_count (1 + m) (1 + v) (suc n) ≡ max 0 (by_count m v n)
    go true e d f =
        let l = ltb-true m v e in
        let x = count-two (1 + m) (1 + v) (suc n) (omega arith) in
        let y = count-two m v n l in
        omega arith
    go false e true f =
        let l = ltb-false m v e in
        let q = ltb-true m n f in
        let x = count-one (1 + m) (1 + v) (suc n) (omega arith) (omega arith) in
        let y = count-one m v n l q in
        omega arith
    go false e false f =
        let l = ltb-false m v e in
        let q = ltb-false m n f in
        let x = count-zero (1 + m) (1 + v) (suc n) (omega arith) (omega arith) in
        let y = count-zero m v n l q in
        omega arith
more (suc (suc w)) m v n h k =
    let x = count-two (1 + m) (suc (suc w) + v) (suc n) (omega arith) in
    let y = small (ltb m v) (ltb m n) in
    omega arith
  where
    small : (b d : Bool) → cond b 2 (cond d 1 0) ≤ 2
    small true d = omega arith
    small false true = omega arith
    small false false = omega arith

count_fits : (ws : List ℕ) → count_of ws ≤ length ws
count_fits [] = let z = count-nil in omega arith
count_fits (zero ∷ ws) = let x = count-cons 0 ws in let y = count_fits ws in omega arith
count_fits (suc w ∷ ws) = let x = count-cons (suc w) ws in let y = count_fits ws in omega arith

-- the greatest class of rows is the class by their count
module _ {A : Type 0} (f : A → List ℕ) where
  by_count_lem : (l : List A) → by_count (count_of (map (λ a. length (f a)) l)) (sum (map (λ a. length (f a)) l)) (length l) ≡ greatest (map (λ a. row_class (f a)) l)
  by_count_lem [] = let z = count-nil in ap (λ (n : ℕ). by_count n 0 0) z
  by_count_lem (a ∷ l) =
      ap (λ (n : ℕ). by_count n (length (f a) + sum (map (λ x. length (f x)) l)) (suc (length l))) (count-cons (length (f a)) (map (λ x. length (f x)) l))
      ∙ more (length (f a)) (count_of (map (λ x. length (f x)) l)) (sum (map (λ x. length (f x)) l)) (length l) (count-sum (map (λ x. length (f x)) l)) (fits l)
      ∙ ap₂ max (sym (row-class (f a))) (by_count_lem l)
    where
      fits : (l : List A) → count_of (map (λ x. length (f x)) l) ≤ length l
      fits l = subst (λ (n : ℕ). count_of (map (λ x. length (f x)) l) ≤ n) (length-map l (λ x. length (f x))) (count_fits (map (λ x. length (f x)) l))

  pub class_by_count : (l : List A) → count_class (census_of (length l) (map (λ a. length (f a)) l)) ≡ greatest (map (λ a. row_class (f a)) l)
  unfolding count_class
  class_by_count l = ap (λ (n : ℕ). by_count n (sum (map (λ a. length (f a)) l)) (length l)) (sym (count-is (map (λ a. length (f a)) l))) ∙ by_count_lem l

  -- a row has a value if there is one at all
  pub some-value : (l : List A) → not (eqb (sum (map (λ a. length (f a)) l)) 0) ≡ any (λ a. not (is_empty (f a))) l
  some-value [] = refl
  some-value (a ∷ l) = go (f a) (some-value l)
    where
      go : (vs : List ℕ) → not (eqb (sum (map (λ x. length (f x)) l)) 0) ≡ any (λ x. not (is_empty (f x))) l
          → not (eqb (length vs + sum (map (λ x. length (f x)) l)) 0) ≡ not (is_empty vs) || any (λ x. not (is_empty (f x))) l
      go [] e = ap (λ (n : ℕ). not (eqb n 0)) (let z : 0 + sum (map (λ x. length (f x)) l) ≡ sum (map (λ x. length (f x)) l) = omega arith in z) ∙ e
      go (v ∷ vs) e = ap not (ne_eqb (suc (length vs) + sum (map (λ x. length (f x)) l)) 0 (λ q. omega arith))
