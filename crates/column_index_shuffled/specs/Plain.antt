-- Columns of which each row's one word is copied as it stands. Assumes nothing.
use Rattle.std.specs.Prelude.{ℕ, ◌+◌, ◌<◌, List, [], map, Bool, ◌&&◌, ◌||◌, not, eqb, length, get_or}
use Rattle.definitions.specs.Lists.{all}
use Rattle.definitions.specs.Types.{F64, has_terms}
use Rattle.stands.specs.declared.Stand.{Stand}
use Rattle.stands.specs.Stand.{stand_of}
use Rattle.stands.specs.Look.{addressed, row_of}

-- Full, of one word a value that is no ordinal and is not made a double
unfoldable pub is_plain : ℕ → Stand → Bool
is_plain to p = eqb p.kind 1 && eqb p.unit 1 && not (has_terms p.typ) && (not (eqb to F64) || eqb p.typ F64)

unfoldable pub all_plain : ℕ → List (List ℕ) → Bool
all_plain to stands = all (λ r. is_plain to (stand_of r)) stands

-- where the word of an addressed row stands
abbrev pub place_of : List (List ℕ) → List ℕ → ℕ
place_of stands a = (addressed stands a).values.from + row_of a

unfoldable pub plain_words : List (List ℕ) → List ℕ → List (List ℕ) → List ℕ
plain_words stands values addresses = map (λ a. get_or values (place_of stands a) 0) addresses

-- every address is of a segment, and its word in the section
pub record Placed (addresses stands : List (List ℕ)) (values : List ℕ) : Type 0 where
  pub each : (k : ℕ) → k < length addresses → (get_or (get_or addresses k []) 0 0 < length stands) × (place_of stands (get_or addresses k []) < length values)
