-- Which rows of an old multivalued segment have a value, by its offsets: those where the next offset is above the row's own. Assumes nothing.
use Rattle.std.specs.Prelude.{ℕ, suc, ◌+◌, ◌*◌, ◌≤◌, ◌≡◌, List, [], ◌∷◌, Bool, cond, length, ltb}

-- as a number to add
abbrev pub one_if : Bool → ℕ
one_if b = cond b 1 0

-- the rows with a value; the first row has number n
unfoldable pub risen_ids : ℕ → List ℕ → List ℕ
risen_ids n [] = []
risen_ids n (o ∷ []) = []
risen_ids n (o ∷ p ∷ ps) = cond (ltb o p) (n ∷ risen_ids (suc n) (p ∷ ps)) (risen_ids (suc n) (p ∷ ps))

-- the offset behind each of them
unfoldable pub risen_ends : List ℕ → List ℕ
risen_ends [] = []
risen_ends (o ∷ []) = []
risen_ends (o ∷ p ∷ ps) = cond (ltb o p) (p ∷ risen_ends (p ∷ ps)) (risen_ends (p ∷ ps))

-- how many neighbours are as the test says
unfoldable pub steps_by : (ℕ → ℕ → Bool) → List ℕ → ℕ
steps_by t [] = 0
steps_by t (o ∷ []) = 0
steps_by t (o ∷ p ∷ ps) = one_if (t o p) + steps_by t (p ∷ ps)

-- how many offsets are above the one before them, and how many below it
abbrev pub rises : List ℕ → ℕ
rises os = steps_by (λ o p. ltb o p) os

abbrev pub falls : List ℕ → ℕ
falls os = steps_by (λ o p. ltb p o) os

-- four runs of one length, of fewer than 2^32 steps in all
pub record SideBySide (a b c d : List ℕ) : Type 0 where
  pub second : length b ≡ length a
  pub third : length c ≡ length a
  pub fourth : length d ≡ length a
  pub few : 4 * length a ≤ 4294967299
