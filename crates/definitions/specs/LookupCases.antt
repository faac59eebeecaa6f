-- Lookups of rows, and passes through a segment's rows by them, in small cases (document 02, (b)). Each table is proved by one computation. Assumes nothing.
use Rattle.std.specs.Prelude.{ℕ, ◌≡◌, refl, List, [], ◌∷◌, map, Bool, true, false}
use Rattle.definitions.specs.Segment.{Segment}
use Rattle.definitions.specs.Row.{row_values, bit_at, set_bits, is_alive, alive_rows, is_dropped}
use Rattle.definitions.specs.Types.{is_less, pair_of}
use Rattle.definitions.specs.Class.{alive_class}
use Rattle.definitions.specs.Lookup.{Next, nowhere, at_row, Lookup, row_lookup, id_lookup, pass_rows, first_missed, lookups, pass_ids, pass_alive, pass_dropped, pass_class}
use Rattle.definitions.specs.Sheet.{plain, with_alive}

-- ---- how the tables are written

-- Optional, with a value for each id
abbrev optional : ℕ → List ℕ → Segment
optional rows ids = plain 1 2 rows ids [] ids []

-- new multivalued: rows, ids, offsets; nothing of a lookup depends on the values but how many they are
abbrev several : ℕ → List ℕ → List ℕ → List ℕ → Segment
several rows ids offsets values = plain 1 4 rows ids offsets values []

-- has, rank, next
abbrev tells : Bool → ℕ → Next → Lookup
tells has rank next = record { has = has; rank = rank; next = next }

-- ---- a row

-- before the first id, at it, behind it; before the last, at it, behind it; the last row, and one beyond the rows
rows_asked : List ℕ
rows_asked = 0 ∷ 2 ∷ 3 ∷ 4 ∷ 69 ∷ 70 ∷ 71 ∷ 99 ∷ 100 ∷ []

-- ids 3 70 of 100 rows
rows_told : List Lookup
rows_told =
    tells false 0 (at_row 3)
    ∷ tells false 0 (at_row 3)
    ∷ tells true 0 (at_row 70)
    ∷ tells false 1 (at_row 70)
    ∷ tells false 1 (at_row 70)
    ∷ tells true 1 nowhere
    ∷ tells false 2 nowhere
    ∷ tells false 2 nowhere
    ∷ tells false 2 nowhere
    ∷ []

abbrev few : Segment
few = optional 100 (3 ∷ 70 ∷ [])

-- by the rows of an Optional segment and of a multivalued one, by those of segments whose first id, last id or every row is withdrawn, and by the ids
rows_hold :
    (map (row_lookup few) rows_asked
    ∷ map (row_lookup (several 100 (3 ∷ 70 ∷ []) (0 ∷ 2 ∷ 3 ∷ []) (5 ∷ 6 ∷ 7 ∷ []))) rows_asked
    ∷ map (row_lookup (with_alive (0 ∷ 64 ∷ []) few)) rows_asked
    ∷ map (row_lookup (with_alive (8 ∷ 0 ∷ []) few)) rows_asked
    ∷ map (row_lookup (with_alive (0 ∷ 0 ∷ []) few)) rows_asked
    ∷ map (id_lookup (3 ∷ 70 ∷ [])) rows_asked
    ∷ [])
    ≡ (rows_told ∷ rows_told ∷ rows_told ∷ rows_told ∷ rows_told ∷ rows_told ∷ [])
unfolding rows_asked rows_told row_lookup id_lookup row_values
rows_hold = refl

-- no id; row 0 the only one; ids side by side; the last row the only one; of two multivalued rows both, and none
small_hold :
    (map (row_lookup (optional 1 [])) (0 ∷ [])
    ∷ map (row_lookup (optional 1 (0 ∷ []))) (0 ∷ [])
    ∷ map (row_lookup (optional 2 (0 ∷ []))) (0 ∷ 1 ∷ [])
    ∷ map (row_lookup (optional 3 (0 ∷ 1 ∷ 2 ∷ []))) (0 ∷ 1 ∷ 2 ∷ [])
    ∷ map (row_lookup (optional 3 (2 ∷ []))) (0 ∷ 1 ∷ 2 ∷ [])
    ∷ map (row_lookup (several 2 (0 ∷ 1 ∷ []) (0 ∷ 2 ∷ 3 ∷ []) (5 ∷ 6 ∷ 7 ∷ []))) (0 ∷ 1 ∷ [])
    ∷ map (row_lookup (several 2 [] (0 ∷ []) [])) (0 ∷ 1 ∷ [])
    ∷ [])
    ≡ ((tells false 0 nowhere ∷ [])
    ∷ (tells true 0 nowhere ∷ [])
    ∷ (tells true 0 nowhere ∷ tells false 1 nowhere ∷ [])
    ∷ (tells true 0 (at_row 1) ∷ tells true 1 (at_row 2) ∷ tells true 2 nowhere ∷ [])
    ∷ (tells false 0 (at_row 2) ∷ tells false 0 (at_row 2) ∷ tells true 0 nowhere ∷ [])
    ∷ (tells true 0 (at_row 1) ∷ tells true 1 nowhere ∷ [])
    ∷ (tells false 0 nowhere ∷ tells false 0 nowhere ∷ [])
    ∷ [])
unfolding row_lookup row_values
small_hold = refl

-- the same by the ids, and the greatest row numbers
ids_hold :
    (map (id_lookup []) (0 ∷ 1 ∷ [])
    ∷ map (id_lookup (0 ∷ [])) (0 ∷ 1 ∷ [])
    ∷ map (id_lookup (0 ∷ 1 ∷ 2 ∷ [])) (0 ∷ 1 ∷ 2 ∷ [])
    ∷ map (id_lookup (2 ∷ [])) (0 ∷ 1 ∷ 2 ∷ [])
    ∷ map (id_lookup (3 ∷ 4294967293 ∷ [])) (4 ∷ 4294967292 ∷ 4294967293 ∷ 4294967295 ∷ [])
    ∷ [])
    ≡ ((tells false 0 nowhere ∷ tells false 0 nowhere ∷ [])
    ∷ (tells true 0 nowhere ∷ tells false 1 nowhere ∷ [])
    ∷ (tells true 0 (at_row 1) ∷ tells true 1 (at_row 2) ∷ tells true 2 nowhere ∷ [])
    ∷ (tells false 0 (at_row 2) ∷ tells false 0 (at_row 2) ∷ tells true 0 nowhere ∷ [])
    ∷ (tells false 1 (at_row 4294967293) ∷ tells false 1 (at_row 4294967293) ∷ tells true 1 nowhere ∷ tells false 2 nowhere ∷ [])
    ∷ [])
unfolding id_lookup
ids_hold = refl

-- ---- a pass

-- the rows looked up, by the ids and by the rows; how many; and the rows that are listed
record Passed : Type 0 where
  by_ids : List ℕ
  by_rows : List ℕ
  number : ℕ
  ids : List ℕ

pass_of : ℕ → List ℕ → Passed
unfolding row_lookup row_values id_lookup pass_rows first_missed lookups pass_ids
pass_of rows ids =
    record {
      by_ids = pass_rows (id_lookup ids) rows;
      by_rows = pass_rows (row_lookup (optional rows ids)) rows;
      number = lookups rows ids;
      ids = pass_ids (id_lookup ids) rows;
    }

abbrev looks_up : List ℕ → ℕ → List ℕ → Passed
looks_up rows number ids = record { by_ids = rows; by_rows = rows; number = number; ids = ids }

passes_hold :
    -- no rows; no ids in one row and in many
    (pass_of 0 []
    ∷ pass_of 1 []
    ∷ pass_of 100 []
    -- one row with a value; row 0 of two; row 1 of two
    ∷ pass_of 1 (0 ∷ [])
    ∷ pass_of 2 (0 ∷ [])
    ∷ pass_of 2 (1 ∷ [])
    -- row 0 is an id, and is none: one lookup for each id, and one more
    ∷ pass_of 100 (0 ∷ 99 ∷ [])
    ∷ pass_of 100 (3 ∷ 70 ∷ [])
    -- every row; the last alone
    ∷ pass_of 3 (0 ∷ 1 ∷ 2 ∷ [])
    ∷ pass_of 3 (2 ∷ [])
    -- rows at the ends of 64
    ∷ pass_of 130 (63 ∷ 64 ∷ 128 ∷ 129 ∷ [])
    ∷ pass_of 130 (0 ∷ 64 ∷ 128 ∷ [])
    ∷ [])
    ≡ (looks_up [] 0 []
    ∷ looks_up (0 ∷ []) 1 []
    ∷ looks_up (0 ∷ []) 1 []
    ∷ looks_up (0 ∷ []) 1 (0 ∷ [])
    ∷ looks_up (0 ∷ []) 1 (0 ∷ [])
    ∷ looks_up (0 ∷ 1 ∷ []) 2 (1 ∷ [])
    ∷ looks_up (0 ∷ 99 ∷ []) 2 (0 ∷ 99 ∷ [])
    ∷ looks_up (0 ∷ 3 ∷ 70 ∷ []) 3 (3 ∷ 70 ∷ [])
    ∷ looks_up (0 ∷ 1 ∷ 2 ∷ []) 3 (0 ∷ 1 ∷ 2 ∷ [])
    ∷ looks_up (0 ∷ 2 ∷ []) 2 (2 ∷ [])
    ∷ looks_up (0 ∷ 63 ∷ 64 ∷ 128 ∷ 129 ∷ []) 5 (63 ∷ 64 ∷ 128 ∷ 129 ∷ [])
    ∷ looks_up (0 ∷ 64 ∷ 128 ∷ []) 3 (0 ∷ 64 ∷ 128 ∷ [])
    ∷ [])
unfolding pass_of
passes_hold = refl

-- as many rows as a join takes, the last of them with a value
long_hold : pass_rows (id_lookup (4294967293 ∷ [])) 4294967294 ≡ 0 ∷ 4294967293 ∷ []
unfolding id_lookup pass_rows
long_hold = refl

-- ---- dropping and class by a pass

record Judged : Type 0 where
  dropped : Bool
  class : ℕ

by_pass : Segment → Judged
unfolding row_values bit_at is_alive alive_rows id_lookup pass_rows pass_ids pass_alive pass_dropped pass_class
by_pass s = record { dropped = pass_dropped s; class = pass_class s }

by_rules : Segment → Judged
unfolding row_values bit_at is_alive alive_rows is_dropped alive_class
by_rules s = record { dropped = is_dropped s; class = alive_class s }

abbrev is : Bool → ℕ → Judged
is dropped class = record { dropped = dropped; class = class }

record Case : Type 0 where
  segment : Segment
  expected : Judged

abbrev case : Bool → ℕ → List ℕ → Segment → Case
case dropped class words s = record { segment = with_alive words s; expected = is dropped class }

-- three rows, ids 0 2: one value each; two and one; one and two
abbrev gap : Segment
gap = optional 3 (0 ∷ 2 ∷ [])

abbrev wide_first : Segment
wide_first = several 3 (0 ∷ 2 ∷ []) (0 ∷ 2 ∷ 3 ∷ []) (5 ∷ 6 ∷ 7 ∷ [])

abbrev wide_last : Segment
wide_last = several 3 (0 ∷ 2 ∷ []) (0 ∷ 1 ∷ 3 ∷ []) (5 ∷ 6 ∷ 7 ∷ [])

judged_cases : List Case
judged_cases =
    -- row 1, which a pass jumps over, is alive: class 1; withdrawn: class 0; it alone is alive: dropped
    case false 1 (7 ∷ []) gap
    ∷ case false 0 (5 ∷ []) gap
    ∷ case true 1 (2 ∷ []) gap
    -- no row is alive; the last id's row alone
    ∷ case true 0 (0 ∷ []) gap
    ∷ case false 0 (4 ∷ []) gap
    -- a row of two values; without it the row that is jumped over decides
    ∷ case false 2 (7 ∷ []) wide_first
    ∷ case false 2 (1 ∷ []) wide_first
    ∷ case false 1 (6 ∷ []) wide_first
    ∷ case false 0 (4 ∷ []) wide_first
    ∷ case true 1 (2 ∷ []) wide_first
    ∷ case false 2 (5 ∷ []) wide_last
    ∷ case false 2 (4 ∷ []) wide_last
    ∷ case false 1 (3 ∷ []) wide_last
    ∷ case false 0 (1 ∷ []) wide_last
    -- row 0, which has no value and is looked up: alive with the other, not alive, alone alive
    ∷ case false 1 (3 ∷ []) (optional 2 (1 ∷ []))
    ∷ case false 0 (2 ∷ []) (optional 2 (1 ∷ []))
    ∷ case true 1 (1 ∷ []) (optional 2 (1 ∷ []))
    ∷ case true 0 (0 ∷ []) (optional 2 (1 ∷ []))
    ∷ case false 2 (3 ∷ []) (several 2 (1 ∷ []) (0 ∷ 2 ∷ []) (5 ∷ 6 ∷ []))
    ∷ case true 1 (1 ∷ []) (several 2 (1 ∷ []) (0 ∷ 2 ∷ []) (5 ∷ 6 ∷ []))
    -- a row behind the last id
    ∷ case false 1 (3 ∷ []) (optional 2 (0 ∷ []))
    ∷ case false 0 (1 ∷ []) (optional 2 (0 ∷ []))
    ∷ case true 1 (2 ∷ []) (optional 2 (0 ∷ []))
    -- every row has a value
    ∷ case false 0 (3 ∷ []) (optional 2 (0 ∷ 1 ∷ []))
    ∷ case true 0 (0 ∷ []) (optional 2 (0 ∷ 1 ∷ []))
    -- two alive words: both ids alive, one of them, a row before the first, behind the last, between them, none
    ∷ case false 0 (8 ∷ 64 ∷ []) few
    ∷ case false 0 (0 ∷ 64 ∷ []) few
    ∷ case false 0 (8 ∷ 0 ∷ []) few
    ∷ case false 1 (9 ∷ 0 ∷ []) few
    ∷ case false 1 (0 ∷ 192 ∷ []) few
    ∷ case true 1 (16 ∷ 0 ∷ []) few
    ∷ case true 0 (0 ∷ 0 ∷ []) few
    -- no rows; no ids
    ∷ case true 0 [] (optional 0 [])
    ∷ case true 1 (7 ∷ []) (optional 3 [])
    ∷ case true 1 (3 ∷ []) (several 2 [] (0 ∷ []) [])
    ∷ case true 0 (0 ∷ []) (several 2 [] (0 ∷ []) [])
    ∷ []

judged_hold :
    (map (λ c. by_pass c.segment) judged_cases ∷ map (λ c. by_rules c.segment) judged_cases ∷ [])
    ≡ (map (λ c. c.expected) judged_cases ∷ map (λ c. c.expected) judged_cases ∷ [])
unfolding by_pass by_rules judged_cases set_bits pair_of is_less
judged_hold = refl

-- without an alive set values decide
values_hold : (pass_dropped gap ∷ pass_dropped (optional 3 []) ∷ is_dropped gap ∷ is_dropped (optional 3 []) ∷ []) ≡ (false ∷ true ∷ false ∷ true ∷ [])
unfolding pass_dropped is_dropped
values_hold = refl
