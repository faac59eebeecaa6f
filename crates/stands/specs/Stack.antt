-- Rows of segments, one segment after another: how many values each has. Assumes nothing.
use Rattle.std.specs.Prelude.{ℕ, ◌+◌, ◌<◌, List, [], ◌∷◌, ◌++◌, map, length}
use Rattle.definitions.specs.Lists.{up_to}
use Rattle.column_index.specs.Lookup.{Sound}
use Rattle.stands.specs.declared.Stand.{Stand}
use Rattle.stands.specs.Stand.{Lies, stand_of, stand_at}
use Rattle.stands.specs.Look.{ids_at, offsets_at, width_in}

-- how many values each row of the segment has
unfoldable pub segment_widths : Stand → List ℕ → List ℕ → List ℕ
segment_widths p ids offsets = map (width_in p ids offsets) (up_to p.rows)

unfoldable pub stacked_widths : List (List ℕ) → List ℕ → List ℕ → List ℕ
stacked_widths [] ids offsets = []
stacked_widths (r ∷ rs) ids offsets = segment_widths (stand_of r) ids offsets ++ stacked_widths rs ids offsets

unfoldable pub all_rows : List (List ℕ) → ℕ
all_rows [] = 0
all_rows (r ∷ rs) = (stand_of r).rows + all_rows rs

-- the runs lie within the sections, and what the checks 19 and 4 say of them
pub record SoundAt (p : Stand) (ids offsets : List ℕ) : Type 0 where
  pub ids-lie : Lies p.ids ids
  pub offsets-lie : Lies p.offsets offsets
  pub sound : Sound p.kind p.rows p.count (ids_at p ids) (offsets_at p offsets)

pub record AllSound (stands : List (List ℕ)) (ids offsets : List ℕ) : Type 0 where
  pub each : (k : ℕ) → k < length stands → SoundAt (stand_at stands k) ids offsets
