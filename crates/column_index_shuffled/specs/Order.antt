-- The words of an ordered join's values, row by row as the addresses say. Assumes nothing.
use Rattle.std.specs.Prelude.{ℕ, ◌≤◌, ◌<◌, List, [], ◌∷◌, ◌++◌, length, get_or}
use Rattle.definitions.specs.Lists.{sum}
use Rattle.stands.specs.Look.{addressed, row_of, cell_in, widths, Inside}
use Rattle.column_values_merge.specs.Word.{new_words, Worded}

-- the words of the addressed rows' values, as the joined column has them
unfoldable pub ordered_words : ℕ → List (List ℕ) → List ℕ → List ℕ → List ℕ → List ℕ → List (List ℕ) → List ℕ
ordered_words to stands ids offsets values table [] = []
ordered_words to stands ids offsets values table (a ∷ as') =
    new_words to (addressed stands a) table (cell_in (addressed stands a) ids offsets values (row_of a)) ++ ordered_words to stands ids offsets values table as'

-- every address is of a row that can be looked up, and its words within the segment's part of the map
pub record Ordered (addresses stands : List (List ℕ)) (ids offsets values table : List ℕ) : Type 0 where
  pub rows : length addresses ≤ 4294967295
  pub count : sum (widths stands ids offsets addresses) ≤ 4294967295
  pub each : (k : ℕ) → k < length addresses
      → (get_or (get_or addresses k []) 0 0 < length stands)
      × Inside (addressed stands (get_or addresses k [])) ids offsets values (row_of (get_or addresses k []))
      × Worded (addressed stands (get_or addresses k [])) table (cell_in (addressed stands (get_or addresses k [])) ids offsets values (row_of (get_or addresses k [])))
