-- One segment's rows in time order: the next alive row, its key, and both as the cursor that the heap orders by (term_merger, Order).
-- Assumes nothing.
use Rattle.std.specs.Prelude.{ℕ, zero, suc, ◌-◌, ◌*◌, ◌≤◌, ◌<◌, ◌≡◌, List, [], ◌∷◌, Bool, true, cond, length, get_or, eqb, ltb}
use Rattle.definitions.specs.Segment.{Segment, no_pair}
use Rattle.segment.specs.Kind.{by_index}
use Rattle.definitions.specs.Row.{bit_at}
use Rattle.definitions.specs.TimeOrder.{time_of}
use Rattle.column_index.specs.Lookup.{rank_in, Sound}
use Rattle.term_merger.specs.declared.Cursor.{Cursor}
use Rattle.stands.specs.declared.Stand.{Stand}
use Rattle.stands.specs.Stand.{many, Lies}
use Rattle.stands.specs.Look.{ids_at, values_at, alive_set_at}

-- ---- the next alive row

-- the first of m numbers from n on that passes, else the one after them
abbrev pub seek : (ℕ → Bool) → ℕ → ℕ → ℕ
seek p n zero = n
seek p n (suc m) = cond (p n) n (seek p (suc n) m)

abbrev pub alive_bit : ℕ → List ℕ → ℕ → Bool
alive_bit flag alive r = cond (eqb flag 1) (bit_at alive r) true

-- the first alive row from the given one on, or the number of rows
unfoldable pub next_row : ℕ → List ℕ → ℕ → ℕ → ℕ
next_row flag alive rows from = seek (alive_bit flag alive) from (rows - from)

-- ---- its key

-- how many times stand in the rows before n; a row has one at most
unfoldable pub times_before : ℕ → List ℕ → ℕ → ℕ
times_before kind ids n = by_index kind 0 n (rank_in n ids) (rank_in n ids)

-- the key of the last of the first n times, else of the first one: the time, above 0; and 0 if there is none
abbrev pub last_key : List ℕ → ℕ → ℕ
last_key [] n = 0
last_key (v ∷ vs) n = suc (time_of (get_or (v ∷ vs) (n - 1) 0))

-- ---- the cursor
-- an empty term, and no tie before the segment's number; the row, and the number of rows; how many times stand up to the row's end
-- the key's words: 0 before all times, else 1; the time in the order of two's complement

unfoldable pub key_cursor : ℕ → ℕ → ℕ → ℕ → Cursor
key_cursor zero row rows k = record { key = record { from = 0; till = 0; first = 0; second = 0 }; unmarked = 0; pos = row; end = rows; to = k }
key_cursor (suc t) row rows k = record { key = record { from = 0; till = 0; first = 1; second = t }; unmarked = 0; pos = row; end = rows; to = k }

-- of a row of the segment; no row is left at the number of rows
unfoldable pub cursor_at : Segment → ℕ → Cursor
unfolding key_cursor times_before
cursor_at s n =
    cond (ltb n s.rows)
    (key_cursor (last_key s.values (times_before s.kind s.ids (suc n))) n s.rows (times_before s.kind s.ids (suc n)))
    (key_cursor 0 s.rows s.rows 0)

-- of the first alive row from the given one on
unfoldable pub first_from : Segment → ℕ → Cursor
unfolding cursor_at next_row
first_from s from = cursor_at s (next_row s.flag s.alive s.rows from)

-- ---- a segment by its stand

-- no row has several times, so kind 4 is as good as kind 2: the offsets say nothing more
abbrev pub time_kind : ℕ → ℕ
time_kind kind = by_index kind 0 1 2 2

-- the segment that stands there, without its type, offsets, terms and pair
unfoldable pub segment_in : Stand → List ℕ → List ℕ → List ℕ → Segment
segment_in p ids values alive =
    record {
      type = 0;
      kind = time_kind p.kind;
      rows = p.rows;
      ids = ids_at p ids;
      offsets = [];
      values = values_at p values;
      terms = [];
      flag = p.flag;
      alive_count = p.live;
      pair = no_pair;
      alive = alive_set_at p alive;
    }

-- the runs of ids and times lie within the sections, and what the checks say of them
pub record TimesAt (p : Stand) (ids values : List ℕ) : Type 0 where
  pub ids-lie : Lies p.ids ids
  pub values-lie : Lies p.values values
  pub sound : Sound (time_kind p.kind) p.rows (length (values_at p values)) (ids_at p ids) []
  pub small : p.rows < 4294967296

-- and of the alive words
pub record Timed (p : Stand) (ids values alive : List ℕ) : Type 0 where
  pub times : TimesAt p ids values
  pub alive-lie : Lies p.alive alive
  pub enough : p.flag ≡ 1 → p.rows ≤ 64 * many p.alive

-- the rows from the given one on are left, and k times stand before it
pub record Left (p : Stand) (ids : List ℕ) (from k : ℕ) : Type 0 where
  pub row : from ≤ p.rows
  pub times : k ≡ times_before p.kind (ids_at p ids) from
