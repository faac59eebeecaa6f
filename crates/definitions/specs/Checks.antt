-- Checks in their order (document 01, "Answers of the joiner"): each has its number and a test that is true where the number is to be given.
-- A list of them is a table of answers; a test is read only where those before it have passed. Assumes nothing.
use Rattle.std.specs.Prelude.{ℕ, ◌≡◌, List, [], ◌∷◌, Bool, false, cond, not, eqb}
use Rattle.definitions.specs.Lists.{all, any}

pub record Check : Type 0 where
  pub number : ℕ
  pub fails : Bool

abbrev pub check : ℕ → Bool → Check
check number fails = record { number = number; fails = fails }

-- the number of the first check that fails; the number given where none does
abbrev pub first_else : List Check → ℕ → ℕ
first_else [] rest = rest
first_else (c ∷ cs) rest = cond c.fails c.number (first_else cs rest)

-- the number of the first check that fails, or 0
abbrev pub first_of : List Check → ℕ
first_of cs = first_else cs 0

-- no check fails: what has passed
pub record Passed (cs : List Check) : Type 0 where
  pub none : any (λ (c : Check). c.fails) cs ≡ false

-- whether the check of this number fails
abbrev pub fails_at : ℕ → List Check → Bool
fails_at n [] = false
fails_at n (c ∷ cs) = cond (eqb c.number n) c.fails (fails_at n cs)

-- 0 is the number of no check: it stands for acceptance
abbrev pub are_numbered : List Check → Bool
are_numbered cs = all (λ (c : Check). not (eqb c.number 0)) cs
