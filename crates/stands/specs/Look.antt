-- A row looked up where its segment stands. Assumes nothing.
use Rattle.std.specs.Prelude.{ℕ, ◌+◌, ◌-◌, ◌*◌, ◌≤◌, ◌≡◌, List, [], ◌∷◌, length, get_or}
use Rattle.std.proofs.Math.Seq.{slice}
use Rattle.definitions.specs.Words.{words_per_value, values_in}
use Rattle.definitions.specs.Segment.{Segment, Pair, pair}
use Rattle.column_index.specs.Lookup.{start_of, end_of, Readable}
use Rattle.stands.specs.declared.Span.{Span}
use Rattle.stands.specs.declared.Stand.{Stand}
use Rattle.stands.specs.Stand.{part, many, Lies, stand_at}

abbrev pub ids_at : Stand → List ℕ → List ℕ
ids_at p ids = part p.ids ids

abbrev pub offsets_at : Stand → List ℕ → List ℕ
offsets_at p offsets = part p.offsets offsets

-- the words of its values
abbrev pub values_at : Stand → List ℕ → List ℕ
values_at p values = part p.values values

-- the least and the greatest of its values
abbrev pub pair_at : Stand → Pair
pair_at p = pair p.least p.greatest

abbrev pub alive_set_at : Stand → List ℕ → List ℕ
alive_set_at p words = part p.alive words

unfoldable pub start_in : Stand → List ℕ → List ℕ → ℕ → ℕ
start_in p ids offsets row = start_of p.kind (ids_at p ids) (offsets_at p offsets) row

unfoldable pub end_in : Stand → List ℕ → List ℕ → ℕ → ℕ
end_in p ids offsets row = end_of p.kind (ids_at p ids) (offsets_at p offsets) row

-- how many values a row of the segment has
unfoldable pub width_in : Stand → List ℕ → List ℕ → ℕ → ℕ
unfolding start_in end_in
width_in p ids offsets row = end_in p ids offsets row - start_in p ids offsets row

-- an address is of a row of a segment
abbrev pub addressed : List (List ℕ) → List ℕ → Stand
addressed stands address = stand_at stands (get_or address 0 0)

abbrev pub row_of : List ℕ → ℕ
row_of address = get_or address 1 0

-- how many values each addressed row has
unfoldable pub widths : List (List ℕ) → List ℕ → List ℕ → List (List ℕ) → List ℕ
unfolding width_in
widths stands ids offsets [] = []
widths stands ids offsets (a ∷ as') = width_in (addressed stands a) ids offsets (row_of a) ∷ widths stands ids offsets as'

-- where the words of the segment's values from x to y stand in the section
abbrev pub words_of : Stand → ℕ → ℕ → Span
words_of p x y = record { from = p.values.from + x * p.unit; to = p.values.from + y * p.unit }

-- the words of the row's values
unfoldable pub cell_in : Stand → List ℕ → List ℕ → List ℕ → ℕ → List ℕ
cell_in p ids offsets values row = slice (start_in p ids offsets row * p.unit) (end_in p ids offsets row * p.unit) (values_at p values)

-- the runs lie within the sections, and the row can be looked up
pub record Within (p : Stand) (ids offsets : List ℕ) (row : ℕ) : Type 0 where
  pub ids-lie : Lies p.ids ids
  pub offsets-lie : Lies p.offsets offsets
  pub readable : Readable p.kind (ids_at p ids) (offsets_at p offsets)
  pub rises : start_in p ids offsets row ≤ end_in p ids offsets row

-- the row's values lie within the segment's own
pub record Inside (p : Stand) (ids offsets values : List ℕ) (row : ℕ) : Type 0 where
  pub within : Within p ids offsets row
  pub values-lie : Lies p.values values
  pub inside : end_in p ids offsets row ≤ p.count
  pub long : many p.values ≡ p.count * p.unit

-- where p says, the segment's runs lie; what the words there say are its values
pub record Stands (p : Stand) (ids offsets values words : List ℕ) (s : Segment) : Type 0 where
  pub kind : p.kind ≡ s.kind
  pub rows : p.rows ≡ s.rows
  pub flag : p.flag ≡ s.flag
  pub live : p.live ≡ s.alive_count
  pub pair : pair_at p ≡ s.pair
  pub ids_are : ids_at p ids ≡ s.ids
  pub offsets_are : offsets_at p offsets ≡ s.offsets
  pub values_are : values_in s.type (values_at p values) ≡ s.values
  pub count : p.count ≡ length s.values
  pub unit : p.unit ≡ words_per_value s.type
  pub long : many p.values ≡ p.count * p.unit
  pub alive_are : alive_set_at p words ≡ s.alive
  pub ids-lie : Lies p.ids ids
  pub offsets-lie : Lies p.offsets offsets
  pub values-lie : Lies p.values values
  pub alive-lie : Lies p.alive words
  pub enough : s.flag ≡ 1 → s.rows ≤ 64 * many p.alive
