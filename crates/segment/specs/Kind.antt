-- The kinds that a join and the time order take: 0 Empty, 1 Full, 2 Optional, 4 multivalued. Kind 3 has gone by 19. Assumes nothing.
use Rattle.std.specs.Prelude.{ℕ, cond, eqb}

-- what is said of such a kind; of all above 2 the same
abbrev pub by_index : {A : Type 0} → ℕ → A → A → A → A → A
by_index kind empty full optional multi = cond (eqb kind 0) empty (cond (eqb kind 1) full (cond (eqb kind 2) optional multi))
