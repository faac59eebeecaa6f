-- How many values the alive rows of a segment have, where the segment stands; a withdrawn row counts as one of none. Assumes nothing.
use Rattle.std.specs.Prelude.{ℕ, ◌+◌, ◌-◌, ◌*◌, ◌≤◌, ◌<◌, ◌≡◌, List, [], ◌∷◌, ◌++◌, map, cond, length, get_or, eqb}
use Rattle.definitions.specs.Lists.{count, up_to, up_from, sum}
use Rattle.definitions.specs.Row.{bit_at}
use Rattle.segment.specs.Kind.{by_index}
use Rattle.runs.specs.Put.{Below}
use Rattle.stands.specs.declared.Stand.{Stand}
use Rattle.stands.specs.Stand.{many, Lies, stand_of}
use Rattle.stands.specs.Look.{alive_set_at, width_in}
use Rattle.stands.specs.Width.{ids_of}
use Rattle.stands.specs.Stack.{segment_widths, SoundAt}
use Rattle.lists.specs.Sums.{sum_below}
use Rattle.census.specs.declared.Census.{Census}

-- of n alive rows, by how many values each row has
abbrev pub census_of : ℕ → List ℕ → Census
census_of n ws = record { alive = n; listed = length (ids_of 0 ws); values = sum ws }

-- ---- one segment

unfoldable pub alive_width : Stand → List ℕ → List ℕ → List ℕ → ℕ → ℕ
alive_width p ids offsets words r = cond (bit_at words r) (width_in p ids offsets r) 0

-- of n rows from r on
abbrev pub alive_widths : Stand → List ℕ → List ℕ → List ℕ → ℕ → ℕ → List ℕ
alive_widths p ids offsets words r n = map (alive_width p ids offsets words) (up_from r n)

unfoldable pub counted_in : Stand → List ℕ → List ℕ → List ℕ → List ℕ
counted_in p ids offsets words = cond (eqb p.flag 1) (alive_widths p ids offsets (alive_set_at p words) 0 p.rows) (segment_widths p ids offsets)

unfoldable pub alive_in : Stand → List ℕ → ℕ
alive_in p words = cond (eqb p.flag 1) (count (bit_at (alive_set_at p words)) (up_to p.rows)) p.rows

unfoldable pub census_in : Stand → List ℕ → List ℕ → List ℕ → Census
census_in p ids offsets words = census_of (alive_in p words) (counted_in p ids offsets words)

-- with an alive set
abbrev pub alive_census : Stand → List ℕ → List ℕ → List ℕ → Census
alive_census p ids offsets words =
    census_of (count (bit_at (alive_set_at p words)) (up_to p.rows)) (alive_widths p ids offsets (alive_set_at p words) 0 p.rows)

-- all segments
unfoldable pub counted_all : List (List ℕ) → List ℕ → List ℕ → List ℕ → List ℕ
counted_all [] ids offsets words = []
counted_all (r ∷ rs) ids offsets words = counted_in (stand_of r) ids offsets words ++ counted_all rs ids offsets words

-- ---- what the code counts

-- how many rows have a value: none of Empty, all of Full, else as many as there are ids
unfoldable pub listed_at : Stand → ℕ
listed_at p = by_index p.kind 0 p.rows (many p.ids) (many p.ids)

-- how many values the row of id k has
unfoldable pub id_width : ℕ → List ℕ → ℕ → ℕ
id_width kind offsets k = cond (eqb kind 2) 1 (get_or offsets (k + 1) 0 - get_or offsets k 0)

-- it is listed if it is alive, and its values count
abbrev pub listed_by : List ℕ → List ℕ → ℕ → ℕ
listed_by ids words k = cond (bit_at words (get_or ids k 0)) 1 0

abbrev pub values_by : ℕ → List ℕ → List ℕ → List ℕ → ℕ → ℕ
values_by kind ids offsets words k = cond (bit_at words (get_or ids k 0)) (id_width kind offsets k) 0

-- two offsets from k on
pub record Offsets (offsets : List ℕ) (k : ℕ) : Type 0 where
  pub there : k + 1 < length offsets
  pub rise : get_or offsets k 0 ≤ get_or offsets (k + 1) 0

-- each id has its bit, and two offsets in kind 4
pub record Ids (kind : ℕ) (ids offsets words : List ℕ) : Type 0 where
  pub below : Below (64 * length words) ids
  pub several : (kind ≡ 2 → ⊥) → (k : ℕ) → k < length ids → Offsets offsets k
  pub small : sum_below (values_by kind ids offsets words) (length ids) ≤ 4294967296
  pub few : length ids ≤ 4294967296

-- what the checks up to 7 say of it
pub record Countable (p : Stand) (ids offsets words : List ℕ) : Type 0 where
  pub sound : SoundAt p ids offsets
  pub rows : p.rows ≤ 4294967296
  pub few : p.count ≤ 4294967296
  pub alive-lie : Lies p.alive words
  pub enough : p.flag ≡ 1 → p.rows ≤ 64 * many p.alive
  pub number : p.flag ≡ 1 → p.live ≡ count (bit_at (alive_set_at p words)) (up_to p.rows)
