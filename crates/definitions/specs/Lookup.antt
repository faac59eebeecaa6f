-- The lookup of a row in kinds 2 and 4, which also finds the next play, and a pass through a segment's rows by it (document 02, (b)). Assumes nothing.
use Rattle.std.specs.Prelude.{ℕ, zero, suc, ◌+◌, ◌-◌, max, List, [], ◌∷◌, map, Bool, ◌&&◌, ◌||◌, cond, not, length, eqb, ltb}
use Rattle.definitions.specs.Lists.{greatest, up_to, filter, count, elem, is_empty}
use Rattle.definitions.specs.Segment.{Segment}
use Rattle.definitions.specs.Row.{rank, row_values, has_value, is_alive, has_alive_set, alive_rows}
use Rattle.definitions.specs.Class.{row_class}

-- ---- what the lookup of a row tells

-- the first row after it that has a value, or that there is none
pub data Next : Type 0 where
  nowhere : Next
  at_row : ℕ → Next

-- whether it has values, its rank, and from (b) on the next row
pub record Lookup : Type 0 where
  pub has : Bool
  pub rank : ℕ
  pub next : Next

-- the first of n rows from r on that passes the test
abbrev pub first_row : (ℕ → Bool) → ℕ → ℕ → Next
first_row p r zero = nowhere
first_row p r (suc n) = cond (p r) (at_row r) (first_row p (suc r) n)

-- by the segment's rows: whether it has values, how many rows before it have some, the first row after it that has one
unfoldable pub row_lookup : Segment → ℕ → Lookup
row_lookup s r = record { has = has_value s r; rank = count (has_value s) (up_to r); next = first_row (has_value s) (suc r) (s.rows - suc r) }

-- the first of the ids that is above the row
abbrev pub next_id : ℕ → List ℕ → Next
next_id r [] = nowhere
next_id r (i ∷ is) = cond (ltb r i) (at_row i) (next_id r is)

-- the id at place k, or none
abbrev pub id_at : ℕ → List ℕ → Next
id_at k [] = nowhere
id_at zero (i ∷ is) = at_row i
id_at (suc k) (i ∷ is) = id_at k is

-- by the row ids: for a segment of kind 2 or 4 that has passed the checks the same (`lookup_is` in proofs/Lookup)
unfoldable pub id_lookup : List ℕ → ℕ → Lookup
id_lookup ids r = record { has = elem r ids; rank = rank r ids; next = next_id r ids }

-- ---- a pass through a segment's rows in order

-- the rows looked up, each the next one of the row before; at most n
abbrev pub pass_from : (ℕ → Lookup) → ℕ → Next → List ℕ
pass_from look zero next = []
pass_from look (suc n) nowhere = []
pass_from look (suc n) (at_row r) = r ∷ pass_from look n (look r).next

-- row 0 if there is one, then each next one
unfoldable pub pass_rows : (ℕ → Lookup) → ℕ → List ℕ
pass_rows look rows = pass_from look rows (at_row 0)

-- 1 if there are rows and row 0 is no id
unfoldable pub first_missed : ℕ → List ℕ → ℕ
first_missed rows ids = cond (not (eqb rows 0) && not (elem 0 ids)) 1 0

-- how many rows those are: as many as there are ids, and one more exactly if there are rows and row 0 has no value
unfoldable pub lookups : ℕ → List ℕ → ℕ
lookups rows ids = length ids + first_missed rows ids

-- ---- row ids, dropping and class by a pass, of a segment of kind 2 or 4 that has passed the checks. They are those of the rules (`pass_listed`, `pass-dropped` and
-- `pass-class` in proofs/Lookup); contracts speak of the rules' own

-- the row ids: the rows looked up that have values
unfoldable pub pass_ids : (ℕ → Lookup) → ℕ → List ℕ
pass_ids look rows = filter (λ r. (look r).has) (pass_rows look rows)

-- those that are alive
unfoldable pub pass_alive : Segment → List ℕ
pass_alive s = filter (is_alive s) (pass_ids (id_lookup s.ids) s.rows)

-- dropped: no values, or an alive set and no such row
unfoldable pub pass_dropped : Segment → Bool
pass_dropped s = is_empty s.values || (has_alive_set s && is_empty (pass_alive s))

-- the class with an alive set: the greatest over such rows, and at least 1 if more rows are alive than these, for every other row has no value
unfoldable pub pass_class : Segment → ℕ
pass_class s = max (greatest (map (λ r. row_class (row_values s r)) (pass_alive s))) (cond (ltb (length (pass_alive s)) (length (alive_rows s))) 1 0)
