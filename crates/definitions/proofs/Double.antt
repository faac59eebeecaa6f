-- A number rounded to a multiple of b lies at most half of b away. Assumes nothing.
use Prim.Native.Nat.{ℕ, zero, suc, ◌+◌, ◌*◌, ◌/◌, ◌%◌, ◌≤◌, ◌<◌, compare, Ordering}
use native.Mathlib.Nat.{div-add-mod', mod-lt, add-mul, suc-mul, one-mul, zero-mul}
use native.Mathlib.Omega.{arith}
use mathlib.Core.Path.{◌≡◌, sym, subst}
use lib.Ieee.{nearest}
use lib.Ieee.Nearest.{closest}
use Rattle.definitions.proofs.Terms.{Cmp, cmp}

-- two numbers differ by at most half of b
pub record Half (x a b : ℕ) : Type 0 where
  pub not_above : x * 2 ≤ a * 2 + b
  pub not_below : a * 2 ≤ x * 2 + b

zero-or-one : (m b : ℕ) → m < 2 → (P : ℕ → Type 0) → P 0 → P b → P (m * b)
zero-or-one zero b h P x y = subst P (sym (zero-mul b)) x
zero-or-one (suc zero) b h P x y = subst P (sym (one-mul b)) y
zero-or-one (suc (suc m)) b h P x y = absurd (omega arith)

near : (a b q r : ℕ) (o : Ordering) → Cmp o (r * 2) b → q * b + r ≡ a → r < b → Half (nearest q o * b) a b
near a b q r Ordering.lt c e l = record { not_above = omega arith; not_below = omega arith }
near a b q r Ordering.eq c e l =
    let h : q % 2 < 2 = omega arith in
    subst (λ (x : ℕ). Half x a b) (sym (add-mul q (q % 2) b))
    (zero-or-one (q % 2) b h (λ (w : ℕ). Half (q * b + w) a b) (record { not_above = omega arith; not_below = omega arith }) (record { not_above = omega arith; not_below = omega arith }))
near a b q r Ordering.gt c e l =
    subst (λ (x : ℕ). Half x a b) (sym (suc-mul q b)) (record { not_above = omega arith; not_below = omega arith })

pub closest_near : (a b : ℕ) → 0 < b → Half (closest a b * b) a b
closest_near a b h = near a b (a / b) (a % b) (compare (a % b * 2) b) (cmp (a % b * 2) b) (div-add-mod' a b) (mod-lt a h)
