-- The pairs of the held columns, put together one after another. Assumes nothing.
use Rattle.std.specs.Prelude.{ℕ, List, [], ◌∷◌, cond, Option, None, Some}
use Rattle.definitions.specs.Segment.{Pair, no_pair}
use Rattle.min_max.specs.Pairs.{both_pairs}
use Rattle.stands.specs.declared.Stand.{Stand}
use Rattle.stands.specs.Stand.{stand_of}
use Rattle.stands.specs.Look.{pair_at}
use Rattle.merge_type.specs.Parts.{is_part}

-- 0 and 0 where none is found
abbrev pub found_pair : Option Pair → Pair
found_pair None = no_pair
found_pair (Some p) = p

-- what is found, and one pair more
abbrev pub joined_pair : ℕ → Option Pair → Pair → Pair
joined_pair to None q = q
joined_pair to (Some p) q = both_pairs to p q

-- one column more
unfoldable pub found_with : ℕ → Option Pair → Stand → Option Pair
found_with to f p = cond (is_part p) (Some (joined_pair to f (pair_at p))) f

-- all of them
abbrev pub found_from : ℕ → Option Pair → List (List ℕ) → Pair
found_from to f [] = found_pair f
found_from to f (r ∷ rs) = found_from to (found_with to f (stand_of r)) rs
