-- Two numbers compared, and a difference times a number. Assumes nothing.
use mathlib.Core.Path.{◌≡◌, refl, sym, ap₂, ◌∙◌}
use mathlib.Core.Logic.{◌⊎◌, inl, inr}
use mathlib.Core.Bool.{Bool, true, false, not}
use Prim.Native.Nat.{ℕ, suc, ◌-◌, ◌*◌, ◌≤◌, ◌<◌}
use native.Mathlib.Nat.{mul_comm, mul-sub}
use lib.Dec.{eqb, leb, ltb, leb-suc-suc}
use borrow.Author.Tests.{lt-ltb, le-ltb, lt-leb, le-leb, ltb-true, ltb-false, leb-true, leb-false, eqb-true, eqb-false}

pub le-lt : (a b : ℕ) → (a < b) ⊎ (b ≤ a)
le-lt a b = go (ltb a b) refl
  where
    go : (t : Bool) → ltb a b ≡ t → (a < b) ⊎ (b ≤ a)
    go true e = inl (ltb-true a b e)
    go false e = inr (ltb-false a b e)

pub same? : (a b : ℕ) → (a ≡ b) ⊎ (a ≡ b → ⊥)
same? a b = go (eqb a b) refl
  where
    go : (t : Bool) → eqb a b ≡ t → (a ≡ b) ⊎ (a ≡ b → ⊥)
    go true e = inl (eqb-true a b e)
    go false e = inr (eqb-false a b e)

-- ---- tests that say the same

pub not-ltb : (n m : ℕ) → not (ltb m n) ≡ leb n m
not-ltb n m = go (ltb m n) refl
  where
    go : (b : Bool) → ltb m n ≡ b → not b ≡ leb n m
    go true e = sym (lt-leb n m (ltb-true m n e))
    go false e = sym (le-leb n m (ltb-false m n e))

pub not-leb : (n m : ℕ) → not (leb n m) ≡ ltb m n
not-leb n m = go (leb n m) refl
  where
    go : (b : Bool) → leb n m ≡ b → not b ≡ ltb m n
    go true e = sym (le-ltb m n (leb-true n m e))
    go false e = sym (lt-ltb m n (leb-false n m e))

pub leb-suc : (m n : ℕ) → leb m n ≡ ltb m (suc n)
leb-suc m n = sym (leb-suc-suc m n)

-- ---- products

pub sub-times : (m n k : ℕ) → (m - n) * k ≡ m * k - n * k
sub-times m n k = mul_comm (m - n) k ∙ mul-sub k m n ∙ ap₂ (λ (a b : ℕ). a - b) (mul_comm k m) (mul_comm k n)
