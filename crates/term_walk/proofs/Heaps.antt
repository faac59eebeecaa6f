-- Laws of ties, of ascending lists of terms, and of lists with one more. Assumes nothing.
use mathlib.Core.Path.{◌≡◌, sym, ap, ◌∙◌, subst}
use mathlib.Core.Logic.{◌⊎◌, inl, inr}
use mathlib.Core.List.{List, [], ◌∷◌, ◌++◌, append-nil}
use Prim.Native.Nat.{ℕ, zero, suc, ◌+◌, ◌≤◌, ◌<◌, zero-le}
use native.Mathlib.Nat.{le_of_suc-le-suc}
use native.Mathlib.Omega.{arith}
use native.Mathlib.Numerals.{add-one}
use lib.Dec.{T}
use lib.Ieee.Fits.{and_l, and_r}
use lib.ListN.{length, get_or, length-append}
use Rattle.definitions.specs.Lists.{compare_bytes, is_below, terms_ascending, terms_ascending_from, concat}
use Rattle.definitions.proofs.Terms.{Before, lower, behind, below-before, before-some}
use Rattle.definitions.proofs.Lists.{concat-append}

-- ---- ties

pub tie_rank : (a b x y : ℕ) → Before (a ∷ x ∷ []) (b ∷ y ∷ []) ⊎ (◌≡◌ {A = List ℕ} (a ∷ x ∷ []) (b ∷ y ∷ [])) → a ≤ b
tie_rank a b x y (inl (lower h)) = omega arith
tie_rank a b x y (inl (behind h)) = omega arith
tie_rank a b x y (inr e) = let f : a ≡ b = ap (λ (l : List ℕ). get_or l 0 0) e in omega arith

-- ---- ascending lists

pub asc-next : (l : List (List ℕ)) (p : ℕ) → T (terms_ascending l) → p + 1 < length l → Before (get_or l p []) (get_or l (p + 1) [])
asc-next [] p h k = absurd (omega arith)
asc-next (x ∷ xs) p h k = subst (λ (z : ℕ). Before (get_or (x ∷ xs) p []) (get_or (x ∷ xs) z [])) (sym (add-one p)) (go x xs p h (omega (arith, add-one p)))
  where
    go : (x : List ℕ) (xs : List (List ℕ)) (p : ℕ) → T (terms_ascending_from x xs) → suc p < suc (length xs) → Before (get_or {A = List ℕ} (x ∷ xs) p []) (get_or {A = List ℕ} (x ∷ xs) (suc p) [])
    go x [] p h k = absurd (omega arith)
    go x (y ∷ ys) zero h k = below-before x y (and_l (is_below (compare_bytes x y)) (terms_ascending_from y ys) h)
    go x (y ∷ ys) (suc p) h k = go y ys p (and_r (is_below (compare_bytes x y)) (terms_ascending_from y ys) h) (le_of_suc-le-suc k)

from-count : (x : List ℕ) (l : List (List ℕ)) → T (terms_ascending_from x l) → length l ≤ length (concat l)
from-count x [] h = zero-le
from-count x (y ∷ ys) h =
    let a = before-some x y (below-before x y (and_l (is_below (compare_bytes x y)) (terms_ascending_from y ys) h)) in
    let b = from-count y ys (and_r (is_below (compare_bytes x y)) (terms_ascending_from y ys) h) in
    omega (arith, length-append y (concat ys))

-- only the first of an ascending list can be empty
pub asc-count : (l : List (List ℕ)) → T (terms_ascending l) → length l ≤ length (concat l) + 1
asc-count [] h = zero-le
asc-count (y ∷ ys) h = let b = from-count y ys h in omega (arith, length-append y (concat ys))

-- ---- lists with one more

pub concat_snoc : (l : List (List ℕ)) (t : List ℕ) → concat (l ++ (t ∷ [])) ≡ concat l ++ t
concat_snoc l t = concat-append l (t ∷ []) ∙ ap (λ (z : List ℕ). concat l ++ z) (append-nil t)
