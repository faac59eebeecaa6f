-- The code's comparisons are the logic's. Assumes nothing.
use Rattle.std.proofs.Common.{◌≡◌, ℕ, List, [], ◌∷◌, refl, ap, ap₂, ◌∙◌, arith, cond}
use Rattle.std.proofs.lemmas.Bool.Decides.{nat_tests}
use Prim.Native.Nat.{compare, Ordering}
use Rattle.std.specs.declared.cmp.Ordering as std
use Rattle.std.specs.Ordering.{nat_cmp, ordering_then, ordering_reverse, ord_min, on, is_lt, is_eq}
use Rattle.std.specs.Borrow.{Bor}
use Rattle.std.proofs.lemmas.Cmp.{nat_list_cmp_total}
use Rattle.std.specs.Cmp.Lexicographic.{slice_cmp}
use Rattle.definitions.specs.Lists.{and_then, compare_bytes, is_below, is_same, by_ordering}
use Rattle.definitions.proofs.Terms.{Cmp, cmp}
use Rattle.term_order.specs.Order.{order_of}

-- ---- the library's comparisons

pub numbers-order : (n m : ℕ) → nat_cmp n m ≡ order_of (compare n m)
numbers-order n m = go (compare n m) (cmp n m)
  where
    go : (o : Ordering) → Cmp o n m → nat_cmp n m ≡ order_of o
    go Ordering.lt h = grind (arith, nat_tests)
    go Ordering.eq h = grind (arith, nat_tests)
    go Ordering.gt h = grind (arith, nat_tests)

pub then-order : (o p : Ordering) → ordering_then (order_of o) (order_of p) ≡ order_of (and_then o p)
then-order Ordering.lt p = refl
then-order Ordering.eq p = refl
then-order Ordering.gt p = refl

pub lists-order : (a b : List ℕ) → slice_cmp nat_cmp a b ≡ order_of (compare_bytes a b)
lists-order [] [] = refl
lists-order [] (y ∷ ys) = refl
lists-order (x ∷ xs) [] = refl
lists-order (x ∷ xs) (y ∷ ys) = ap₂ ordering_then (numbers-order x y) (lists-order xs ys) ∙ then-order (compare x y) (compare_bytes xs ys)

-- ---- what an answer says

pub below-is : (o : Ordering) → is_lt (order_of o) ≡ is_below o
below-is Ordering.lt = refl
below-is Ordering.eq = refl
below-is Ordering.gt = refl

pub same-is : (o : Ordering) → is_eq (order_of o) ≡ is_same o
same-is Ordering.lt = refl
same-is Ordering.eq = refl
same-is Ordering.gt = refl

-- ---- the lower of two lists

pub lower : (a b : Bor (List ℕ)) {r : Bor (List ℕ)} → r ≡ ord_min (on (λ x. x.now) (slice_cmp nat_cmp)) a b → r ≡ by_ordering (compare_bytes a.now b.now) a a b
lower a b {r} e = e ∙ ap (λ (o : std.Ordering). cond (is_lt o) b a) ((nat_list_cmp_total).antisymm b.now a.now ∙ ap ordering_reverse (lists-order a.now b.now)) ∙ go (compare_bytes a.now b.now)
  where
    go : (o : Ordering) → cond (is_lt (ordering_reverse (order_of o))) b a ≡ by_ordering o a a b
    go Ordering.lt = refl
    go Ordering.eq = refl
    go Ordering.gt = refl
