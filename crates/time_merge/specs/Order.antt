-- The merge of placed segments by time. Assumes nothing.
use Rattle.std.specs.Prelude.{ℕ, ◌≤◌, ◌<◌, ◌≡◌, List, [], ◌∷◌, map, length, get_or, T}
use Rattle.definitions.specs.Lists.{not_falling}
use Rattle.definitions.specs.Segment.{Segment, Address}
use Rattle.definitions.specs.Join.{absent}
use Rattle.definitions.specs.TimeOrder.{time_of, time_order}
use Rattle.definitions.specs.Outcome.{written}
use Rattle.stands.specs.Stand.{table, stand_at}
use Rattle.term_merger.specs.declared.Cursor.{Cursor}
use Rattle.term_merger.specs.Order.{cursor_in}
use Rattle.time_cursors.specs.Cursors.{cursor_at, first_from, segment_in, Timed}

-- an address as its two numbers
abbrev pub pair_of : Address → List ℕ
pair_of a = a.segment ∷ a.row ∷ []

-- segment x by its stand
abbrev pub placed : List (List ℕ) → List ℕ → List ℕ → List ℕ → ℕ → Segment
placed stands ids values alive x = segment_in (stand_at stands x) ids values alive

-- all segments that have a stand
unfoldable pub placed_segments : List (List ℕ) → List ℕ → List ℕ → List ℕ → List Segment
placed_segments stands ids values alive = table (placed stands ids values alive) (length stands)

-- the addresses of the time order from the start of the output
unfoldable pub time_written : List Segment → List (List ℕ) → List (List ℕ)
time_written ss out = written (map pair_of (time_order ss)) out

-- what the checks up to 7 say, and that no row has several times
pub record Ready (stands : List (List ℕ)) (ids values alive : List ℕ) : Type 0 where
  pub few : length stands ≤ 256
  pub timed : (x : ℕ) → x < length stands → Timed (stand_at stands x) ids values alive

-- what 11 says, and 12 of falling times
pub record Rising (stands : List (List ℕ)) (ids values alive : List ℕ) (out : List (List ℕ)) : Type 0 where
  pub rising : (x : ℕ) → x < length stands → T (not_falling (map time_of (placed stands ids values alive x).values))
  pub room : length (time_order (placed_segments stands ids values alive)) ≤ length out

-- each segment's first cursor; places without a segment have none left
pub record Begins (ss : List Segment) (cursors : List Cursor) : Type 0 where
  pub size : length cursors ≡ 256
  pub cursor : (x : ℕ) → x < 256 → cursor_in cursors x ≡ first_from (get_or ss x absent) 0

-- the same where every row is written
pub record Ends (ss : List Segment) (cursors : List Cursor) : Type 0 where
  pub size : length cursors ≡ 256
  pub cursor : (x : ℕ) → x < 256 → cursor_in cursors x ≡ cursor_at (get_or ss x absent) (get_or ss x absent).rows
