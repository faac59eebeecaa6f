-- Runs: rows of one segment, the heap's top, that come before the next row of every other one. Assumes nothing.
use Rattle.std.specs.Prelude.{ℕ, ◌+◌, ◌-◌, ◌≤◌, ◌<◌, ◌≡◌, ◌⊎◌, Bool, true, false, cond, List, [], ◌∷◌, map, length, get_or, eqb, ltb}
use Rattle.definitions.specs.Lists.{up_from, filter}
use Rattle.definitions.specs.TimeOrder.{time_of}
use Rattle.segment.specs.Kind.{by_index}
use Rattle.stands.specs.declared.Stand.{Stand}
use Rattle.stands.specs.Look.{ids_at, values_at}
use Rattle.term_merger.specs.declared.Cursor.{Cursor}
use Rattle.term_merger.specs.Order.{cursor_in}
use Rattle.term_merger.specs.Heap.{FirstChild}
use Rattle.time_cursors.specs.Cursors.{alive_bit, times_before}
use Rattle.time_merge.specs.declared.Bound.{Bound}
use Rattle.time_merge.specs.declared.Run.{Run}

-- ---- what is written of a run

-- the alive rows from r up to the end
unfoldable pub alive_up_to : ℕ → List ℕ → ℕ → ℕ → List ℕ
alive_up_to flag alive r end = filter (alive_bit flag alive) (up_from r (end - r))

-- the rows from r on are withdrawn, and the one before it is alive
pub record LastListed (flag : ℕ) (alive : List ℕ) (from end r : ℕ) : Type 0 where
  pub low : from ≤ r
  pub high : r ≤ end
  pub same : alive_up_to flag alive from r ≡ alive_up_to flag alive from end
  pub last : from < r → alive_bit flag alive (r - 1) ≡ true

-- the addresses of rows of segment s
unfoldable pub addresses : ℕ → List ℕ → List (List ℕ)
addresses s rows = map (λ r. s ∷ r ∷ []) rows

-- ---- where it ends

-- a time comes before the bound's row: it is lower, or the same one and the segment's number decides; none is before a row without any time
unfoldable pub within : Bound → ℕ → Bool
within b w = cond (eqb b.first 0) false (cond (eqb (time_of w) b.second) b.ties (ltb (time_of w) b.second))

-- the first of the others: the row at which segment c stands is the bound for rows of segment s
abbrev pub bound_at : List Cursor → ℕ → ℕ → Bound
bound_at cursors s c = record { first = (cursor_in cursors c).key.first; second = (cursor_in cursors c).key.second; ties = ltb s c }

-- the bound is the first of the top's children, if the heap has others
abbrev pub Bounds : List ℕ → List Cursor → List ℕ → ℕ → ℕ → Bound → Type 0
Bounds bytes cursors seg len s b = (len ≤ 1) ⊎ ((c : ℕ) × FirstChild bytes cursors seg 1 len c × (b ≡ bound_at cursors s (get_or seg c 0)))

-- a step of some times from time m on ends within the bound
unfoldable pub steps_within : List ℕ → Bound → ℕ → ℕ → Bool
unfolding within
steps_within values b m step = cond (ltb (length values - m) step) false (within b (get_or values (m + step - 1) 0))

-- of the times after the first n those up to r come within the bound, and the next one doesn't
pub record Reach (values : List ℕ) (b : Bound) (n r : ℕ) : Type 0 where
  pub low : n ≤ r
  pub high : r ≤ length values
  pub last : n < r → within b (get_or values (r - 1) 0) ≡ true
  pub next : r < length values → within b (get_or values r 0) ≡ false

-- the row of time m, or the number of rows where there is none
unfoldable pub row_of_time : ℕ → List ℕ → ℕ → ℕ → ℕ
row_of_time kind ids rows m = by_index kind rows m (get_or ids m rows) (get_or ids m rows)

-- the run goes beyond the row at which segment s stands; its last row has that row's key, or a time within the bound
pub record RunTo (bytes : List ℕ) (cursors : List Cursor) (seg : List ℕ) (len s : ℕ) (p : Stand) (ids values : List ℕ) (r : Run) : Type 0 where
  pub low : (cursor_in cursors s).pos < r.end
  pub high : r.end ≤ p.rows
  pub times : r.times ≡ times_before p.kind (ids_at p ids) r.end
  pub before : (r.times ≡ (cursor_in cursors s).to) ⊎ ((0 < r.times) × (b : Bound) × Bounds bytes cursors seg len s b × (within b (get_or (values_at p values) (r.times - 1) 0) ≡ true))
