-- Record structs, and the rows of numbers that stand for them. Assumes nothing.
use Rattle.std.specs.Prelude.{ℕ, zero, suc, List, map, cond, ltb, get_or, set, replicate}
use Rattle.definitions.specs.Segment.{SegmentRecord}
use Rattle.segment.specs.Records.{row_width, record_row, record_in}
use Rattle.segment.specs.declared.Record.{Record}

-- what stands past the end
abbrev pub none : Record
none = record { typ = 0; kind = 0; rows = 0; ids = 0; offsets = 0; values = 0; terms = 0; flag = 0; alive = 0; least = 0; greatest = 0 }

-- how many bytes a struct has: nine numbers of four, up to a multiple of eight, and two of eight
abbrev pub struct_size : ℕ
struct_size = 56

-- its row of numbers
abbrev pub numbers_of : Record → List ℕ
numbers_of r = record_row (record_in r)

-- a row for each record
abbrev pub rows_of : List Record → List (List ℕ)
rows_of rs = map numbers_of rs

-- the records in the words of the definitions
abbrev pub records_in : List Record → List SegmentRecord
records_in rs = map record_in rs

-- at most 257
unfoldable pub count_of : ℕ → ℕ
count_of n = cond (ltb n 257) n 257

-- a table of 257 rows
abbrev pub blank : List (List ℕ)
blank = replicate 257 (replicate row_width 0)

-- with the first i records laid out in it
unfoldable pub laid_to : List Record → ℕ → List (List ℕ)
laid_to rs zero = blank
laid_to rs (suc i) = set (laid_to rs i) i (numbers_of (get_or rs i none))
