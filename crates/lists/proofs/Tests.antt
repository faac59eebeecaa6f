-- Tests made one after another, and choices between two values. Laws of one Boolean are the kit's (mathlib.Core.Bool, borrow.Author.Tests). Assumes nothing.
use mathlib.Core.Path.{◌≡◌, sym, ◌∙◌, subst}
use mathlib.Core.Bool.{Bool, true, false, not, ◌&&◌, ◌||◌, cond, and-eq-true_iff}
use Prim.Native.Nat.{ℕ}
use lib.Dec.{T, eqb}
use borrow.Author.Tests.{eq-eqb, ne_eqb, not-true, not-false}
use Rattle.definitions.proofs.Lists.{or_left, or_right}

pub true-T : (b : Bool) → b ≡ true → T b
true-T b e = subst T (sym e) tt

pub both_true : (a b : Bool) → a && b ≡ true → (a ≡ true) × (b ≡ true)
both_true a b h = (and-eq-true_iff a b).0 h

pub neither : (a b : Bool) → a || b ≡ false → (a ≡ false) × (b ≡ false)
neither a b h = (or_left a b h, or_right a b h)

-- ---- one that fails decides, and one that holds leaves the rest

pub stop : {a : Bool} (rest : Bool) → a ≡ false → false ≡ a && rest
stop rest e = rw e

pub past : {a x rest : Bool} → a ≡ true → x ≡ rest → x ≡ a && rest
past e r = rw e r

-- the same by a call's result t, which the code asks for `!t`
pub denied : {t a : Bool} (rest : Bool) → t ≡ a → not t ≡ true → false ≡ a && rest
denied {t} rest e h = stop rest (sym e ∙ not-true t h)

pub granted : {t a x rest : Bool} → t ≡ a → not t ≡ false → x ≡ rest → x ≡ a && rest
granted {t} e h r = past (sym e ∙ not-false t h) r

-- a walk whose first test fails, and one whose first test holds
pub fell : {b f w : Bool} (rest : Bool) → b ≡ f → w ≡ f && rest → b ≡ false → false ≡ w
fell rest p s q = rw (s, ← p, q)

pub went : {b f w : Bool} (rest : Bool) → b ≡ f → w ≡ f && rest → b ≡ true → rest ≡ w
went rest p s q = rw (s, ← p, q)

-- ---- one that is asked only where another holds

pub spared : {a : Bool} (b : Bool) → a ≡ false → true ≡ not a || b
spared b e = rw e

pub asked : {a x b : Bool} → a ≡ true → x ≡ b → x ≡ not a || b
asked e r = rw e r

-- ---- a choice

module _ {A : Type 0} {b : Bool} where
  pub taken : (x y : A) → b ≡ true → x ≡ cond b x y
  taken x y e = rw e

  pub left : (x y : A) → b ≡ false → y ≡ cond b x y
  left x y e = rw e

  -- of a value in another form
  pub chosen : {z x : A} (y : A) → b ≡ true → z ≡ x → z ≡ cond b x y
  chosen y e q = rw e q

  pub other : {z y : A} (x : A) → b ≡ false → z ≡ y → z ≡ cond b x y
  other x e q = rw e q

-- by a number
module _ {A : Type 0} (m n : ℕ) (x y : A) where
  pub at_code : m ≡ n → x ≡ cond (eqb m n) x y
  at_code e = taken x y (eq-eqb m n e)

  pub past_code : (m ≡ n → ⊥) → y ≡ cond (eqb m n) x y
  past_code e = left x y (ne_eqb m n e)
