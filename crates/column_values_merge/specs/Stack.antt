-- The words of the segments' values as the joined column has them, one segment after another. Assumes nothing.
use Rattle.std.specs.Prelude.{ℕ, ◌<◌, List, [], ◌∷◌, ◌++◌, length}
use Rattle.stands.specs.Stand.{Lies, stand_of, stand_at}
use Rattle.stands.specs.Look.{values_at}
use Rattle.column_values_merge.specs.Word.{new_words, Worded}

unfoldable pub stacked_words : ℕ → List (List ℕ) → List ℕ → List ℕ → List ℕ
stacked_words to [] values table = []
stacked_words to (r ∷ rs) values table = new_words to (stand_of r) table (values_at (stand_of r) values) ++ stacked_words to rs values table

-- the runs lie within the section
pub record AllWorded (stands : List (List ℕ)) (values table : List ℕ) : Type 0 where
  pub lie : (k : ℕ) → k < length stands → Lies (stand_at stands k).values values
  pub worded : (k : ℕ) → k < length stands → Worded (stand_at stands k) table (values_at (stand_at stands k) values)
