-- What a stacked join takes as given of the segments. Assumes nothing.
use Rattle.std.specs.Prelude.{ℕ, ◌<◌, List}
use Rattle.definitions.specs.Lists.{sum}
use Rattle.stands.specs.Stack.{stacked_widths, all_rows, AllSound}
use Rattle.column_values_merge.specs.Stack.{AllWorded}

pub record Stacked (stands : List (List ℕ)) (ids offsets values table : List ℕ) : Type 0 where
  pub sound : AllSound stands ids offsets
  pub worded : AllWorded stands values table
  pub rows : all_rows stands < 4294967296
  pub count : sum (stacked_widths stands ids offsets) < 4294967295
