-- The map as the fills find it. Assumes nothing.
use Rattle.std.specs.Prelude.{ℕ, ◌≤◌, ◌≡◌, List, length, take}
use Rattle.definitions.specs.Segment.{Segment}
use Rattle.definitions.specs.Join.{map_of}

-- the map stands at the front of a table
pub record Mapped (table : List ℕ) (ss : List Segment) : Type 0 where
  pub room : length (map_of ss) ≤ length table
  pub front : take (length (map_of ss)) table ≡ map_of ss
