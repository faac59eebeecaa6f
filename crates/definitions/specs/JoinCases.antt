-- Each rule of the join by small cases (document 01, "The join"): a row's values, dropped columns, type, class, terms; and the term bytes copied (document 02, (d)). Each
-- table is proved by one computation. Assumes nothing.
use Rattle.std.specs.Prelude.{ℕ, ◌≡◌, refl, List, [], ◌∷◌, map}
use Rattle.definitions.specs.Lists.{up_to}
use Rattle.definitions.specs.Sheet.{plain, with_alive, none, full, one, str, dropped, a, b, five, nine, new_kind, memory, stacked, in_order, lending, outcome_of, sheet_of, accepts, carrying, refuses, Case, case}
use Rattle.definitions.specs.Outcome.{Lent, Answer, accepted, refused}
use Rattle.definitions.specs.Segment.{address as at}

-- ---- a row's values

row_cases : List Case
row_cases =
    -- kind 4: the values between the offsets by rank, none for a row that is not listed
    case (stacked 255 (new_kind ∷ [])) (carrying 7 9 (accepts 1 2 4 (1 ∷ 3 ∷ []) (0 ∷ 2 ∷ 3 ∷ []) (7 ∷ 8 ∷ 9 ∷ []) [] []))
    ∷ case (in_order 255 (new_kind ∷ []) (at 0 3 ∷ at 0 2 ∷ at 0 1 ∷ at 0 0 ∷ []))
    (carrying 7 9 (accepts 1 2 4 (0 ∷ 2 ∷ []) (0 ∷ 1 ∷ 3 ∷ []) (9 ∷ 7 ∷ 8 ∷ []) [] []))
    -- Optional: the value at the rank, none for a row that is not listed
    ∷ case (stacked 255 (plain 1 2 5 (1 ∷ 3 ∷ []) [] (7 ∷ 8 ∷ []) [] ∷ [])) (carrying 7 8 (accepts 1 1 5 (1 ∷ 3 ∷ []) [] (7 ∷ 8 ∷ []) [] []))
    -- Full: the value at the row's number; rows stand as the addresses say, over both segments
    ∷ case (in_order 255 (full 1 (5 ∷ 6 ∷ []) ∷ full 1 (7 ∷ 8 ∷ []) ∷ []) (at 1 1 ∷ at 0 0 ∷ at 1 0 ∷ at 0 1 ∷ []))
    (carrying 5 8 (accepts 1 0 4 [] [] (8 ∷ 5 ∷ 7 ∷ 6 ∷ []) [] []))
    -- each segment's runs follow the previous segment's: ids, offsets, values and alive words
    ∷ case
    (in_order 255
    (with_alive (2 ∷ []) new_kind
    ∷ with_alive (1 ∷ []) five
    ∷ plain 1 4 2 (1 ∷ []) (0 ∷ 2 ∷ []) (5 ∷ 6 ∷ []) []
    ∷ [])
    (at 2 0 ∷ at 2 1 ∷ at 1 0 ∷ at 0 1 ∷ []))
    (carrying 5 8 (accepts 1 2 4 (1 ∷ 2 ∷ 3 ∷ []) (0 ∷ 2 ∷ 4 ∷ 6 ∷ []) (5 ∷ 6 ∷ 7 ∷ 8 ∷ 7 ∷ 8 ∷ []) [] []))
    -- 64 rows have one alive word, row 63 in its highest bit
    ∷ case (lending (memory 12 64) (in_order 255 (with_alive (0x8000000000000000 ∷ []) (full 1 (up_to 64)) ∷ []) (at 0 63 ∷ [])))
    (carrying 63 63 (accepts 1 0 1 [] [] (63 ∷ []) [] []))
    -- 65 rows have two, row 64 in the second one's lowest bit
    ∷ case (lending (memory 12 65) (in_order 255 (with_alive (0 ∷ 1 ∷ []) (full 1 (up_to 65)) ∷ []) (at 0 64 ∷ [])))
    (carrying 64 64 (accepts 1 0 1 [] [] (64 ∷ []) [] []))
    -- 0 rows have none
    ∷ case (in_order 255 (with_alive [] (full 1 []) ∷ one 1 5 ∷ []) (at 1 0 ∷ [])) (carrying 5 5 (accepts 1 0 1 [] [] (5 ∷ []) [] []))
    ∷ []

row_cases_hold : map (λ c. sheet_of c.lent) row_cases ≡ map (λ c. c.expected) row_cases
unfolding sheet_of row_cases
row_cases_hold = refl

-- ---- dropped columns

dropped_cases : List Case
dropped_cases =
    -- no values, no type is required: type 255, class 0, and the row count
    case (stacked 255 (dropped 1 2 ∷ [])) (accepts 255 0 2 [] [] [] [] [])
    -- its type does not count, and its rows do
    ∷ case (stacked 255 (dropped 2 1 ∷ one 0 5 ∷ [])) (carrying 5 5 (accepts 0 1 2 (1 ∷ []) [] (5 ∷ []) [] []))
    -- nor does the type of one without a value in an alive row
    ∷ case (in_order 255 (with_alive (1 ∷ []) (plain 2 2 2 (1 ∷ []) [] (0x3ff8000000000000 ∷ []) []) ∷ one 0 5 ∷ []) (at 1 0 ∷ at 0 0 ∷ []))
    (carrying 5 5 (accepts 0 1 2 (0 ∷ []) [] (5 ∷ []) [] []))
    -- its category counts
    ∷ case (stacked 255 (dropped 5 1 ∷ one 1 5 ∷ [])) (refuses 10)
    -- its values need no coercion
    ∷ case (in_order 0 (with_alive (0 ∷ []) (one 1 9223372036854775808) ∷ one 0 5 ∷ []) (at 1 0 ∷ [])) (carrying 5 5 (accepts 0 0 1 [] [] (5 ∷ []) [] []))
    -- its terms do not count, nor do they stand in the map
    ∷ case (stacked 255 (plain 4 2 2 [] [] [] (a ∷ []) ∷ str (0 ∷ []) (b ∷ []) ∷ [])) (accepts 4 1 3 (2 ∷ []) [] (0 ∷ []) (b ∷ []) (0 ∷ []))
    ∷ case (in_order 255 (with_alive (0 ∷ []) (str (0 ∷ []) (a ∷ [])) ∷ str (0 ∷ []) (b ∷ []) ∷ []) (at 1 0 ∷ []))
    (accepts 4 0 1 [] [] (0 ∷ []) (b ∷ []) (0 ∷ []))
    -- it counts as Empty: kind 4 without values is of class 1, Optional of 0 rows of class 0
    ∷ case (stacked 255 (plain 1 4 1 [] (0 ∷ []) [] [] ∷ one 1 5 ∷ [])) (carrying 5 5 (accepts 1 1 2 (1 ∷ []) [] (5 ∷ []) [] []))
    ∷ case (stacked 255 (dropped 1 0 ∷ one 1 5 ∷ [])) (carrying 5 5 (accepts 1 0 1 [] [] (5 ∷ []) [] []))
    -- with its alive set: of class 0 if no row is alive; so is no column
    ∷ case (in_order 255 (with_alive (0 ∷ []) five ∷ one 1 5 ∷ []) (at 1 0 ∷ [])) (carrying 5 5 (accepts 1 0 1 [] [] (5 ∷ []) [] []))
    ∷ case (in_order 255 (with_alive (0 ∷ []) (none 2) ∷ one 1 5 ∷ []) (at 1 0 ∷ [])) (carrying 5 5 (accepts 1 0 1 [] [] (5 ∷ []) [] []))
    -- held, for one alive row has a value, though another has none
    ∷ case (in_order 255 (with_alive (6 ∷ []) five ∷ []) (at 0 1 ∷ at 0 2 ∷ [])) (carrying 9 9 (accepts 1 1 2 (1 ∷ []) [] (9 ∷ []) [] []))
    -- none is held, and a type is required: the class is by the rows
    ∷ case (stacked 2 (dropped 1 1 ∷ [])) (accepts 2 1 1 [] [] [] [] [])
    ∷ []

dropped_cases_hold : map (λ c. sheet_of c.lent) dropped_cases ≡ map (λ c. c.expected) dropped_cases
unfolding sheet_of dropped_cases
dropped_cases_hold = refl

-- ---- type and coercion

type_cases : List Case
type_cases =
    -- the only held type, of two segments and beside no column, though the values would fit I64
    case (stacked 255 (one 1 5 ∷ none 0 ∷ one 1 6 ∷ [])) (carrying 5 6 (accepts 1 0 2 [] [] (5 ∷ 6 ∷ []) [] []))
    -- I64 if every held U64 value is below 9223372036854775807, the second value too
    ∷ case (stacked 255 (one 0 5 ∷ full 1 (6 ∷ 7 ∷ []) ∷ [])) (carrying 5 7 (accepts 0 0 3 [] [] (5 ∷ 6 ∷ 7 ∷ []) [] []))
    ∷ case (stacked 255 (one 0 5 ∷ full 1 (6 ∷ 9223372036854775807 ∷ []) ∷ [])) (carrying 5 9223372036854775807 (accepts 1 0 3 [] [] (5 ∷ 6 ∷ 9223372036854775807 ∷ []) [] []))
    -- else U64 if no I64 value is negative
    ∷ case (stacked 255 (one 0 5 ∷ one 1 9223372036854775808 ∷ [])) (carrying 5 9223372036854775808 (accepts 1 0 2 [] [] (5 ∷ 9223372036854775808 ∷ []) [] []))
    -- else F64: the second value is negative; the least I64 value is
    ∷ case (stacked 255 (full 0 (5 ∷ 0xffffffffffffffff ∷ []) ∷ one 1 9223372036854775808 ∷ []))
    (accepts 2 0 3 [] [] (0x4014000000000000 ∷ 0xbff0000000000000 ∷ 0x43e0000000000000 ∷ []) [] [])
    ∷ case (stacked 255 (one 0 0x8000000000000000 ∷ one 1 9223372036854775808 ∷ []))
    (accepts 2 0 2 [] [] (0xc3e0000000000000 ∷ 0x43e0000000000000 ∷ []) [] [])
    -- a held F64 makes it F64, with I64 and with U64, first or last; its own words stay
    ∷ case (stacked 255 (one 2 0x3ff8000000000000 ∷ one 0 5 ∷ [])) (accepts 2 0 2 [] [] (0x3ff8000000000000 ∷ 0x4014000000000000 ∷ []) [] [])
    ∷ case (stacked 255 (one 1 9223372036854775808 ∷ one 2 0x3ff8000000000000 ∷ []))
    (accepts 2 0 2 [] [] (0x43e0000000000000 ∷ 0x3ff8000000000000 ∷ []) [] [])
    -- the required one, before the only held type: to U64, to I64 and to F64
    ∷ case (stacked 1 (one 0 9223372036854775807 ∷ [])) (carrying 9223372036854775807 9223372036854775807 (accepts 1 0 1 [] [] (9223372036854775807 ∷ []) [] []))
    ∷ case (stacked 0 (one 1 5 ∷ one 1 6 ∷ [])) (carrying 5 6 (accepts 0 0 2 [] [] (5 ∷ 6 ∷ []) [] []))
    ∷ case (stacked 2 (one 0 5 ∷ one 0 0xffffffffffffffff ∷ [])) (accepts 2 0 2 [] [] (0x4014000000000000 ∷ 0xbff0000000000000 ∷ []) [] [])
    -- and with a column that has it already
    ∷ case (stacked 0 (one 1 5 ∷ one 0 0xffffffffffffffff ∷ [])) (carrying 0xffffffffffffffff 5 (accepts 0 0 2 [] [] (5 ∷ 0xffffffffffffffff ∷ []) [] []))
    ∷ case (stacked 2 (one 0 5 ∷ one 2 0x3ff8000000000000 ∷ [])) (accepts 2 0 2 [] [] (0x4014000000000000 ∷ 0x3ff8000000000000 ∷ []) [] [])
    -- integer to double, the nearest, ties to even: 0, 2^53 + 1, 2^53 + 2, 2^53 + 3, 2^63 + 1024, 2^63 + 1025, 2^64 - 1
    ∷ case
    (stacked 2
    (full 1
    (0 ∷ 9007199254740993 ∷ 9007199254740994 ∷ 9007199254740995 ∷ 9223372036854776832 ∷ 9223372036854776833 ∷ 18446744073709551615 ∷ [])
    ∷ []))
    (accepts 2 0 7 [] []
    (0 ∷ 0x4340000000000000 ∷ 0x4340000000000001 ∷ 0x4340000000000002 ∷ 0x43e0000000000000 ∷ 0x43e0000000000001 ∷ 0x43f0000000000000 ∷ [])
    []
    [])
    -- the same below zero: -(2^53 + 1), -(2^53 + 3)
    ∷ case (stacked 2 (full 0 (0xffdfffffffffffff ∷ 0xffdffffffffffffd ∷ []) ∷ [])) (accepts 2 0 2 [] [] (0xc340000000000000 ∷ 0xc340000000000002 ∷ []) [] [])
    -- Bool, DateTime and Bytes stay what they are
    ∷ case (stacked 255 (one 5 1 ∷ one 5 0 ∷ [])) (accepts 5 0 2 [] [] (1 ∷ 0 ∷ []) [] [])
    ∷ case (stacked 7 (one 7 0xffffffffffffffff ∷ one 7 5 ∷ [])) (accepts 7 0 2 [] [] (0xffffffffffffffff ∷ 5 ∷ []) [] [])
    ∷ case (stacked 255 (plain 3 1 1 [] [] (0 ∷ []) (b ∷ []) ∷ plain 3 1 1 [] [] (0 ∷ []) (a ∷ []) ∷ []))
    (accepts 3 0 2 [] [] (1 ∷ 0 ∷ []) (a ∷ b ∷ []) (1 ∷ 0 ∷ []))
    ∷ []

type_cases_hold : map (λ c. sheet_of c.lent) type_cases ≡ map (λ c. c.expected) type_cases
unfolding sheet_of type_cases
type_cases_hold = refl

-- ---- class

class_cases : List Case
class_cases =
    -- without an alive set: 0 for Empty with 0 rows, 1 for other Empty
    case (stacked 255 (one 1 5 ∷ none 0 ∷ [])) (carrying 5 5 (accepts 1 0 1 [] [] (5 ∷ []) [] []))
    ∷ case (stacked 255 (one 1 5 ∷ none 1 ∷ [])) (carrying 5 5 (accepts 1 1 2 (0 ∷ []) [] (5 ∷ []) [] []))
    -- 2 for kind 4, though each row has one value
    ∷ case (stacked 255 (plain 1 4 2 (0 ∷ 1 ∷ []) (0 ∷ 1 ∷ 2 ∷ []) (7 ∷ 8 ∷ []) [] ∷ []))
    (carrying 7 8 (accepts 1 2 2 (0 ∷ 1 ∷ []) (0 ∷ 1 ∷ 2 ∷ []) (7 ∷ 8 ∷ []) [] []))
    -- with one: a row of one value 0, of no value 1, of more 2
    ∷ case (in_order 255 (with_alive (8 ∷ []) new_kind ∷ []) (at 0 3 ∷ [])) (carrying 9 9 (accepts 1 0 1 [] [] (9 ∷ []) [] []))
    ∷ case (in_order 255 (with_alive (9 ∷ []) new_kind ∷ []) (at 0 0 ∷ at 0 3 ∷ [])) (carrying 9 9 (accepts 1 1 2 (1 ∷ []) [] (9 ∷ []) [] []))
    ∷ case (in_order 255 (with_alive (15 ∷ []) new_kind ∷ []) (at 0 0 ∷ at 0 1 ∷ at 0 2 ∷ at 0 3 ∷ []))
    (carrying 7 9 (accepts 1 2 4 (1 ∷ 3 ∷ []) (0 ∷ 2 ∷ 3 ∷ []) (7 ∷ 8 ∷ 9 ∷ []) [] []))
    ∷ case (in_order 255 (with_alive (1 ∷ []) five ∷ []) (at 0 0 ∷ [])) (carrying 7 8 (accepts 1 2 1 (0 ∷ []) (0 ∷ 2 ∷ []) (7 ∷ 8 ∷ []) [] []))
    ∷ case (in_order 255 (with_alive (1 ∷ []) (none 1) ∷ one 1 5 ∷ []) (at 0 0 ∷ at 1 0 ∷ [])) (carrying 5 5 (accepts 1 1 2 (1 ∷ []) [] (5 ∷ []) [] []))
    -- the greatest over the segments, wherever it stands
    ∷ case (stacked 255 (one 1 5 ∷ five ∷ nine ∷ [])) (carrying 5 9 (accepts 1 2 6 (0 ∷ 1 ∷ 3 ∷ 4 ∷ 5 ∷ []) (0 ∷ 1 ∷ 3 ∷ 4 ∷ 5 ∷ 6 ∷ []) (5 ∷ 7 ∷ 8 ∷ 9 ∷ 5 ∷ 6 ∷ []) [] []))
    ∷ case (stacked 255 (one 1 4 ∷ nine ∷ [])) (carrying 4 6 (accepts 1 1 3 (0 ∷ 1 ∷ 2 ∷ []) [] (4 ∷ 5 ∷ 6 ∷ []) [] []))
    ∷ []

class_cases_hold : map (λ c. sheet_of c.lent) class_cases ≡ map (λ c. c.expected) class_cases
unfolding sheet_of class_cases
class_cases_hold = refl

-- ---- terms

term_cases : List Case
term_cases =
    -- bytewise ascending, each once: the empty term, a, aa, b, and a byte above 127 last
    case
    (stacked 255
    (str (0 ∷ 1 ∷ 2 ∷ []) (a ∷ b ∷ (255 ∷ []) ∷ [])
    ∷ str (0 ∷ 1 ∷ []) ((97 ∷ 97 ∷ []) ∷ b ∷ [])
    ∷ str (1 ∷ 0 ∷ []) ([] ∷ a ∷ [])
    ∷ []))
    (accepts 4 0 7 [] [] (1 ∷ 3 ∷ 4 ∷ 2 ∷ 3 ∷ 1 ∷ 0 ∷ []) ([] ∷ a ∷ (97 ∷ 97 ∷ []) ∷ b ∷ (255 ∷ []) ∷ []) (1 ∷ 3 ∷ 4 ∷ 2 ∷ 3 ∷ 0 ∷ 1 ∷ []))
    -- a term that begins another comes before it, though zero bytes alone follow
    ∷ case
    (stacked 255 (str (0 ∷ []) ((97 ∷ 0 ∷ []) ∷ []) ∷ str (0 ∷ 1 ∷ []) (a ∷ (97 ∷ 0 ∷ 0 ∷ []) ∷ []) ∷ str (0 ∷ []) ((97 ∷ 0 ∷ []) ∷ []) ∷ []))
    (accepts 4 0 4 [] [] (1 ∷ 0 ∷ 2 ∷ 1 ∷ []) (a ∷ (97 ∷ 0 ∷ []) ∷ (97 ∷ 0 ∷ 0 ∷ []) ∷ []) (1 ∷ 0 ∷ 2 ∷ 1 ∷ []))
    -- a term that no row uses is kept by a segment without an alive set
    ∷ case (stacked 255 (str (1 ∷ []) (a ∷ b ∷ []) ∷ [])) (accepts 4 0 1 [] [] (1 ∷ []) (a ∷ b ∷ []) (0 ∷ 1 ∷ []))
    -- a term that one segment does not keep and another one keeps has its new ordinal in both parts of the map
    ∷ case (in_order 255 (with_alive (1 ∷ []) (str (0 ∷ 1 ∷ []) (a ∷ b ∷ [])) ∷ str (0 ∷ []) (b ∷ []) ∷ []) (at 0 0 ∷ at 1 0 ∷ []))
    (accepts 4 0 2 [] [] (0 ∷ 1 ∷ []) (a ∷ b ∷ []) (0 ∷ 1 ∷ 1 ∷ []))
    -- an alive row of two values uses both; 0 stands for the unkept term between them, and for one after the kept ones
    ∷ case
    (in_order 255 (with_alive (1 ∷ []) (plain 4 4 1 (0 ∷ []) (0 ∷ 2 ∷ []) (2 ∷ 0 ∷ []) (a ∷ b ∷ (99 ∷ []) ∷ (100 ∷ []) ∷ [])) ∷ []) (at 0 0 ∷ []))
    (accepts 4 2 1 (0 ∷ []) (0 ∷ 2 ∷ []) (1 ∷ 0 ∷ []) (a ∷ (99 ∷ []) ∷ []) (0 ∷ 0 ∷ 1 ∷ 0 ∷ []))
    -- with an alive set in which all rows are alive, a term that no row uses is not kept
    ∷ case (in_order 255 (with_alive (1 ∷ []) (str (1 ∷ []) (a ∷ b ∷ [])) ∷ []) (at 0 0 ∷ [])) (accepts 4 0 1 [] [] (0 ∷ []) (b ∷ []) (0 ∷ 0 ∷ []))
    ∷ []

term_cases_hold : map (λ c. sheet_of c.lent) term_cases ≡ map (λ c. c.expected) term_cases
unfolding sheet_of term_cases
term_cases_hold = refl

-- ---- the term bytes copied (document 02, (d)): each joined term's, once

-- what an accepted join tells; a refused one has no such count
abbrev copied_by : Answer → List ℕ
copied_by (accepted n) = n.copied ∷ []
copied_by (refused k) = []

copied_of : Lent → List ℕ
unfolding outcome_of
copied_of l = copied_by (outcome_of l).answer

record Copies : Type 0 where
  lent : Lent
  expected : List ℕ

abbrev copies : Lent → List ℕ → Copies
copies l n = record { lent = l; expected = n }

abbrev ab : List ℕ
ab = 97 ∷ 98 ∷ []

copy_cases : List Copies
copy_cases =
    -- C1: a and b, which stands in both segments
    copies (stacked 255 (plain 4 2 2 (1 ∷ []) [] (0 ∷ []) (b ∷ []) ∷ str (1 ∷ 0 ∷ []) (a ∷ b ∷ []) ∷ [])) (2 ∷ [])
    -- C12: b alone
    ∷ copies (in_order 255 (with_alive (2 ∷ []) (str (0 ∷ 1 ∷ []) (a ∷ b ∷ [])) ∷ []) (at 0 1 ∷ [])) (1 ∷ [])
    -- ab in each of two segments
    ∷ copies (stacked 255 (str (0 ∷ []) (ab ∷ []) ∷ str (0 ∷ []) (ab ∷ []) ∷ [])) (2 ∷ [])
    -- the same with place for 4 bytes, which 11 asks for, and for 3
    ∷ copies (lending (memory 4 9) (stacked 255 (str (0 ∷ []) (ab ∷ []) ∷ str (0 ∷ []) (ab ∷ []) ∷ []))) (2 ∷ [])
    ∷ copies (lending (memory 3 9) (stacked 255 (str (0 ∷ []) (ab ∷ []) ∷ str (0 ∷ []) (ab ∷ []) ∷ []))) []
    -- a term of 25 bytes in each of two segments
    ∷ copies (lending (memory 50 9) (stacked 255 (str (0 ∷ []) (up_to 25 ∷ []) ∷ str (0 ∷ []) (up_to 25 ∷ []) ∷ []))) (25 ∷ [])
    -- ab and b, which the first segment does not keep and the second one keeps
    ∷ copies (in_order 255 (with_alive (1 ∷ []) (str (0 ∷ 1 ∷ []) (ab ∷ b ∷ [])) ∷ str (0 ∷ []) (b ∷ []) ∷ []) (at 0 0 ∷ at 1 0 ∷ [])) (3 ∷ [])
    -- the empty term
    ∷ copies (stacked 255 (str (0 ∷ []) ([] ∷ []) ∷ [])) (0 ∷ [])
    -- a dropped column's term is none of them: one without values, and one whose alive row has none
    ∷ copies (stacked 255 (plain 4 2 1 [] [] [] (ab ∷ []) ∷ str (0 ∷ []) (a ∷ []) ∷ [])) (1 ∷ [])
    ∷ copies (in_order 255 (with_alive (2 ∷ []) (plain 4 2 2 (0 ∷ []) [] (0 ∷ []) (ab ∷ [])) ∷ str (0 ∷ []) (a ∷ []) ∷ []) (at 0 1 ∷ at 1 0 ∷ [])) (1 ∷ [])
    -- no terms; no column, and where Str is required
    ∷ copies (stacked 255 (one 1 5 ∷ [])) (0 ∷ [])
    ∷ copies (stacked 255 (none 1 ∷ [])) (0 ∷ [])
    ∷ copies (stacked 4 (none 1 ∷ [])) (0 ∷ [])
    ∷ []

copy_cases_hold : map (λ c. copied_of c.lent) copy_cases ≡ map (λ c. c.expected) copy_cases
unfolding copied_of copy_cases
copy_cases_hold = refl
