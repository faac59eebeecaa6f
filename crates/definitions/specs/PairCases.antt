-- Least and greatest values by small cases (document 02, (j)), with pairs that are written by hand: which pair of a segment is true, what is answered where it is not, and the
-- pair of the joined column. Each table is proved by one computation. Assumes nothing.
use Rattle.std.specs.Prelude.{ℕ, ◌≡◌, refl, List, [], ◌∷◌, map}
use Rattle.definitions.specs.Words.{ip_addr_of}
use Rattle.definitions.specs.Segment.{Segment, Pair, pair, no_pair, address as at}
use Rattle.definitions.specs.Types.{is_less, pair_of}
use Rattle.definitions.specs.Outcome.{Lent, Answer, accepted, refused}
use Rattle.definitions.specs.TimeOrder.{time_number_of}
use Rattle.definitions.specs.Sheet.{plain, with_alive, counted, with_pair, none, full, one, str, dropped, a, old_five, nine, new_kind, stacked, in_order, outcome_of, time_sheet_of}

-- ---- the pair of values of a type

record Values : Type 0 where
  type : ℕ
  values : List ℕ
  expected : Pair

abbrev values : ℕ → List ℕ → Pair → Values
values t vs p = record { type = t; values = vs; expected = p }

pairs : List Values
pairs =
    -- I64 is signed: -1 and 1; -2^63 and 2^63 - 1, in both sequences; the least of two negative ones, and the greatest
    values 0 (0xffffffffffffffff ∷ 1 ∷ []) (pair 0xffffffffffffffff 1)
    ∷ values 0 (9223372036854775807 ∷ 0x8000000000000000 ∷ []) (pair 0x8000000000000000 9223372036854775807)
    ∷ values 0 (0x8000000000000000 ∷ 9223372036854775807 ∷ []) (pair 0x8000000000000000 9223372036854775807)
    ∷ values 0 (0xffffffffffffffff ∷ 0xfffffffffffffffe ∷ []) (pair 0xfffffffffffffffe 0xffffffffffffffff)
    ∷ values 0 (3 ∷ 0 ∷ 5 ∷ []) (pair 0 5)
    -- U64 is not
    ∷ values 1 (0xffffffffffffffff ∷ 1 ∷ []) (pair 1 0xffffffffffffffff)
    ∷ values 1 (9223372036854775807 ∷ 0x8000000000000000 ∷ []) (pair 9223372036854775807 0x8000000000000000)
    -- 0 is not the least unless a value is 0, nor the greatest of negative ones; wherever they stand
    ∷ values 1 (5 ∷ []) (pair 5 5)
    ∷ values 1 (6 ∷ 5 ∷ 7 ∷ []) (pair 5 7)
    ∷ values 1 (5 ∷ 7 ∷ 6 ∷ []) (pair 5 7)
    ∷ values 1 (7 ∷ 6 ∷ 5 ∷ []) (pair 5 7)
    ∷ values 0 (0xffffffffffffffff ∷ []) (pair 0xffffffffffffffff 0xffffffffffffffff)
    -- no values
    ∷ values 0 [] no_pair
    ∷ values 1 [] no_pair
    -- other types hold 0 and 0: F64, Bytes, Str, Bool, addresses, times, though they are signed, and no column
    ∷ values 2 (0x3ff8000000000000 ∷ []) no_pair
    ∷ values 3 (1 ∷ []) no_pair
    ∷ values 4 (1 ∷ 2 ∷ []) no_pair
    ∷ values 5 (1 ∷ []) no_pair
    ∷ values 6 (ip_addr_of 1 2 ∷ []) no_pair
    ∷ values 7 (5 ∷ 6 ∷ []) no_pair
    ∷ values 7 (0xffffffffffffffff ∷ []) no_pair
    ∷ values 255 [] no_pair
    ∷ []

pairs_hold : map (λ v. pair_of v.type v.values) pairs ≡ map (λ v. v.expected) pairs
unfolding is_less pair_of pairs
pairs_hold = refl

-- ---- what a call answers, and the joined column's pair with acceptance

data Told : Type 0 where
  joins : Pair → Told
  fails : ℕ → Told

abbrev told_by : Answer → Told
told_by (accepted n) = joins n.pair
told_by (refused k) = fails k

told_of : Lent → Told
unfolding outcome_of
told_of l = told_by (outcome_of l).answer

record Case : Type 0 where
  lent : Lent
  expected : Told

abbrev case : Lent → Told → Case
case l t = record { lent = l; expected = t }

-- one segment with this pair, stacked
abbrev alone : ℕ → ℕ → Segment → Lent
alone least greatest s = stacked 255 (with_pair least greatest s ∷ [])

-- ---- 5: an untrue pair

untrue_cases : List Case
untrue_cases =
    -- I64 -1 and 1, and with the two exchanged; U64 2^64 - 1 and 1
    case (alone 0xffffffffffffffff 1 (full 0 (0xffffffffffffffff ∷ 1 ∷ []))) (joins (pair 0xffffffffffffffff 1))
    ∷ case (alone 1 0xffffffffffffffff (full 0 (0xffffffffffffffff ∷ 1 ∷ []))) (fails 5)
    ∷ case (alone 1 0xffffffffffffffff (full 1 (0xffffffffffffffff ∷ 1 ∷ []))) (joins (pair 1 0xffffffffffffffff))
    ∷ case (alone 0xffffffffffffffff 1 (full 1 (0xffffffffffffffff ∷ 1 ∷ []))) (fails 5)
    -- a bound that no value reaches, below and above; one inside; 0 and 0; only one of the two wrong
    ∷ case (alone 3 4 (full 1 (3 ∷ 4 ∷ []))) (joins (pair 3 4))
    ∷ case (alone 0 4 (full 1 (3 ∷ 4 ∷ []))) (fails 5)
    ∷ case (alone 3 5 (full 1 (3 ∷ 4 ∷ []))) (fails 5)
    ∷ case (alone 4 4 (full 1 (3 ∷ 4 ∷ []))) (fails 5)
    ∷ case (alone 3 3 (full 1 (3 ∷ 4 ∷ []))) (fails 5)
    ∷ case (alone 0 0 (full 1 (3 ∷ 4 ∷ []))) (fails 5)
    -- a value of a withdrawn row counts, and for the joined column it does not
    ∷ case (in_order 255 (with_pair 3 9 (with_alive (1 ∷ []) (full 1 (3 ∷ 9 ∷ []))) ∷ []) (at 0 0 ∷ [])) (joins (pair 3 3))
    ∷ case (in_order 255 (with_pair 3 3 (with_alive (1 ∷ []) (full 1 (3 ∷ 9 ∷ []))) ∷ []) (at 0 0 ∷ [])) (fails 5)
    -- the values of kinds 2 and 4: all of them
    ∷ case (alone 5 6 nine) (joins (pair 5 6))
    ∷ case (alone 5 5 nine) (fails 5)
    ∷ case (alone 7 9 new_kind) (joins (pair 7 9))
    ∷ case (alone 7 8 new_kind) (fails 5)
    -- other types: F64, Str, Bytes, Bool, an address, a time
    ∷ case (alone 0x3ff8000000000000 0x3ff8000000000000 (one 2 0x3ff8000000000000)) (fails 5)
    ∷ case (alone 0 1 (str (0 ∷ []) (a ∷ []))) (fails 5)
    ∷ case (alone 0 1 (plain 3 1 1 [] [] (0 ∷ []) (a ∷ []))) (fails 5)
    ∷ case (alone 1 1 (one 5 1)) (fails 5)
    ∷ case (alone 5 5 (one 6 5)) (fails 5)
    ∷ case (alone 5 5 (one 7 5)) (fails 5)
    ∷ case (alone 0 0 (one 7 5)) (joins no_pair)
    -- columns without values, of each kind and another type too; no column
    ∷ case (alone 1 0 (dropped 1 1)) (fails 5)
    ∷ case (alone 0 1 (dropped 0 1)) (fails 5)
    ∷ case (alone 0 1 (plain 1 0 1 [] [] [] [])) (fails 5)
    ∷ case (alone 0 1 (plain 1 4 1 [] (0 ∷ []) [] [])) (fails 5)
    ∷ case (alone 0 1 (dropped 2 1)) (fails 5)
    ∷ case (alone 0 1 (none 1)) (fails 5)
    ∷ case (alone 1 0 (none 0)) (fails 5)
    -- a column that is dropped for its alive set: its pair is that of its values
    ∷ case (in_order 255 (with_pair 5 5 (with_alive (0 ∷ []) (one 1 5)) ∷ one 1 6 ∷ []) (at 1 0 ∷ [])) (joins (pair 6 6))
    ∷ case (in_order 255 (with_pair 0 0 (with_alive (0 ∷ []) (one 1 5)) ∷ one 1 6 ∷ []) (at 1 0 ∷ [])) (fails 5)
    -- each segment's own: in the second one, and two that would be right together
    ∷ case (stacked 255 (one 1 5 ∷ with_pair 5 6 (one 1 6) ∷ [])) (fails 5)
    ∷ case (stacked 255 (with_pair 5 6 (one 1 5) ∷ with_pair 5 6 (one 1 6) ∷ [])) (fails 5)
    -- 3, 19 and 4 come before it, and 6 and 10 after it: type 255 with a kind; kind 3; ids 1 1; a wrong number of alive rows; Str with U64
    ∷ case (alone 0 1 (plain 255 1 1 [] [] [] [])) (fails 3)
    ∷ case (alone 0 1 old_five) (fails 19)
    ∷ case (alone 0 0 (plain 1 2 2 (1 ∷ 1 ∷ []) [] (5 ∷ 6 ∷ []) [])) (fails 4)
    ∷ case (alone 0 0 (counted 0 (one 1 5))) (fails 5)
    ∷ case (stacked 255 (str (0 ∷ []) (a ∷ []) ∷ with_pair 0 0 (one 1 5) ∷ [])) (fails 5)
    ∷ []

untrue_cases_hold : map (λ c. told_of c.lent) untrue_cases ≡ map (λ c. c.expected) untrue_cases
unfolding told_of untrue_cases
untrue_cases_hold = refl

-- the time order tests it too, of another type before 12
times_hold :
    map (λ s. time_number_of (time_sheet_of (s ∷ []) 1).answer) (with_pair 5 5 (one 7 5) ∷ with_pair 0 0 (one 7 5) ∷ with_pair 4 5 (one 1 5) ∷ with_pair 5 5 (one 1 5) ∷ with_pair 0 1 (none 1) ∷ [])
    ≡ 5 ∷ 0 ∷ 5 ∷ 12 ∷ 5 ∷ []
unfolding time_sheet_of
times_hold = refl

-- ---- the joined column's pair, over the joined values after coercion

joined_cases : List Case
joined_cases =
    -- of both segments, whichever has the least and the greatest
    case (stacked 255 (full 1 (5 ∷ 9 ∷ []) ∷ full 1 (3 ∷ 7 ∷ []) ∷ [])) (joins (pair 3 9))
    ∷ case (stacked 255 (full 1 (3 ∷ 9 ∷ []) ∷ full 1 (5 ∷ 7 ∷ []) ∷ [])) (joins (pair 3 9))
    ∷ case (stacked 255 (full 0 (0xffffffffffffffff ∷ 0 ∷ []) ∷ full 0 (0xfffffffffffffffe ∷ 1 ∷ []) ∷ [])) (joins (pair 0xfffffffffffffffe 1))
    -- a column without values has none to give, nor has no column: 0 is not the least
    ∷ case (stacked 255 (one 1 5 ∷ dropped 1 1 ∷ none 1 ∷ [])) (joins (pair 5 5))
    ∷ case (stacked 255 (dropped 1 1 ∷ one 1 5 ∷ [])) (joins (pair 5 5))
    ∷ case (stacked 255 (none 1 ∷ one 0 0xffffffffffffffff ∷ [])) (joins (pair 0xffffffffffffffff 0xffffffffffffffff))
    -- as the addresses say, whichever comes first
    ∷ case (in_order 255 (full 1 (5 ∷ 9 ∷ []) ∷ full 1 (3 ∷ 7 ∷ []) ∷ []) (at 0 1 ∷ at 1 1 ∷ at 0 0 ∷ at 1 0 ∷ [])) (joins (pair 3 9))
    ∷ case (in_order 255 (new_kind ∷ []) (at 0 3 ∷ at 0 2 ∷ at 0 1 ∷ at 0 0 ∷ [])) (joins (pair 7 9))
    -- without what is withdrawn: the greatest; the least, in one of two segments; a row of several values; a segment that is dropped with it
    ∷ case (in_order 255 (with_alive (1 ∷ []) (full 1 (1 ∷ 9 ∷ [])) ∷ []) (at 0 0 ∷ [])) (joins (pair 1 1))
    ∷ case (in_order 255 (with_alive (2 ∷ []) (full 1 (1 ∷ 9 ∷ [])) ∷ full 1 (4 ∷ 5 ∷ []) ∷ []) (at 0 1 ∷ at 1 0 ∷ at 1 1 ∷ [])) (joins (pair 4 9))
    ∷ case (in_order 255 (with_alive (8 ∷ []) new_kind ∷ []) (at 0 3 ∷ [])) (joins (pair 9 9))
    ∷ case (in_order 255 (with_alive (0 ∷ []) (full 1 (1 ∷ 9 ∷ [])) ∷ one 1 5 ∷ []) (at 1 0 ∷ [])) (joins (pair 5 5))
    -- signed, with and without an alive set: -1 and 3, and -9, which is withdrawn; U64 7, 9 withdrawn, as I64 beside -1; a dropped -1
    ∷ case (in_order 255 (full 0 (0xffffffffffffffff ∷ 3 ∷ []) ∷ []) (at 0 1 ∷ at 0 0 ∷ [])) (joins (pair 0xffffffffffffffff 3))
    ∷ case (in_order 255 (with_alive (3 ∷ []) (full 0 (0xffffffffffffffff ∷ 3 ∷ 0xfffffffffffffff7 ∷ [])) ∷ []) (at 0 1 ∷ at 0 0 ∷ [])) (joins (pair 0xffffffffffffffff 3))
    ∷ case (in_order 255 (with_alive (1 ∷ []) (full 1 (7 ∷ 9 ∷ [])) ∷ one 0 0xffffffffffffffff ∷ []) (at 1 0 ∷ at 0 0 ∷ [])) (joins (pair 0xffffffffffffffff 7))
    ∷ case (in_order 255 (with_alive (0 ∷ []) (one 0 0xffffffffffffffff) ∷ one 0 3 ∷ []) (at 1 0 ∷ [])) (joins (pair 3 3))
    -- with an alive set of all rows
    ∷ case (in_order 255 (with_alive (3 ∷ []) (full 1 (1 ∷ 9 ∷ [])) ∷ []) (at 0 1 ∷ at 0 0 ∷ [])) (joins (pair 1 9))
    -- of the joined type: U64 7 as I64; I64 3 as U64, though 2^63 - 1 and 2^63 stand beside it; I64 5 required as U64, U64 6 as I64
    ∷ case (stacked 255 (one 0 0xffffffffffffffff ∷ one 1 7 ∷ [])) (joins (pair 0xffffffffffffffff 7))
    ∷ case (stacked 255 (one 0 3 ∷ one 1 9223372036854775807 ∷ [])) (joins (pair 3 9223372036854775807))
    ∷ case (stacked 255 (one 1 9223372036854775808 ∷ one 0 3 ∷ [])) (joins (pair 3 9223372036854775808))
    ∷ case (stacked 1 (one 0 5 ∷ [])) (joins (pair 5 5))
    ∷ case (stacked 0 (one 1 6 ∷ one 0 0xffffffffffffffff ∷ [])) (joins (pair 0xffffffffffffffff 6))
    -- joined to F64: 0 and 0
    ∷ case (stacked 255 (one 0 0xffffffffffffffff ∷ one 1 9223372036854775807 ∷ [])) (joins no_pair)
    ∷ case (stacked 2 (one 1 5 ∷ [])) (joins no_pair)
    ∷ case (stacked 255 (one 1 5 ∷ one 2 0x3ff8000000000000 ∷ [])) (joins no_pair)
    -- other types, and no column
    ∷ case (stacked 255 (one 7 5 ∷ one 7 6 ∷ [])) (joins no_pair)
    ∷ case (stacked 255 (str (0 ∷ []) (a ∷ []) ∷ [])) (joins no_pair)
    ∷ case (stacked 255 (one 6 (ip_addr_of 1 2) ∷ [])) (joins no_pair)
    ∷ case (stacked 255 (dropped 1 2 ∷ [])) (joins no_pair)
    -- none held, and a type required
    ∷ case (stacked 0 []) (joins no_pair)
    ∷ case (stacked 1 (dropped 1 1 ∷ [])) (joins no_pair)
    ∷ case (in_order 1 (with_alive (0 ∷ []) (one 1 5) ∷ []) []) (joins no_pair)
    ∷ []

joined_cases_hold : map (λ c. told_of c.lent) joined_cases ≡ map (λ c. c.expected) joined_cases
unfolding told_of joined_cases
joined_cases_hold = refl

-- ---- the type rule reads the pair and decides as before

record TypeCase : Type 0 where
  lent : Lent
  expected : ℕ

abbrev typed : Lent → ℕ → TypeCase
typed l t = record { lent = l; expected = t }

abbrev type_by : Answer → ℕ
type_by (accepted n) = n.type
type_by (refused k) = k

type_for : Lent → ℕ
unfolding outcome_of
type_for l = type_by (outcome_of l).answer

type_cases : List TypeCase
type_cases =
    -- a withdrawn negative value counts: I64 3 and -1 withdrawn, U64 2^63 - 1
    typed (in_order 255 (with_alive (1 ∷ []) (full 0 (3 ∷ 0xffffffffffffffff ∷ [])) ∷ one 1 9223372036854775807 ∷ []) (at 0 0 ∷ at 1 0 ∷ [])) 2
    -- a dropped column's does not: I64 -1, none alive, beside I64 3 and U64 2^63 - 1
    ∷ typed (in_order 255 (with_alive (0 ∷ []) (one 0 0xffffffffffffffff) ∷ one 0 3 ∷ one 1 9223372036854775807 ∷ []) (at 1 0 ∷ at 2 0 ∷ [])) 1
    -- nor does one of U64: 2^63 - 1, none alive, beside U64 5 and I64 -1
    ∷ typed (in_order 255 (with_alive (0 ∷ []) (one 1 9223372036854775807) ∷ one 1 5 ∷ one 0 0xffffffffffffffff ∷ []) (at 1 0 ∷ at 2 0 ∷ [])) 0
    -- every column of a type counts, the first as the last: U64 1 and 2^63 - 1 beside I64 5, I64 -1 and 5 beside U64 2^63 - 1
    ∷ typed (stacked 255 (one 1 1 ∷ one 1 9223372036854775807 ∷ one 0 5 ∷ [])) 1
    ∷ typed (stacked 255 (one 1 9223372036854775807 ∷ one 1 1 ∷ one 0 5 ∷ [])) 1
    ∷ typed (stacked 255 (one 0 0xffffffffffffffff ∷ one 0 5 ∷ one 1 9223372036854775807 ∷ [])) 2
    ∷ typed (stacked 255 (one 0 5 ∷ one 0 0xffffffffffffffff ∷ one 1 9223372036854775807 ∷ [])) 2
    -- the greatest U64 value decides for I64, not the least, and the least I64 value for U64
    ∷ typed (stacked 255 (full 1 (1 ∷ 9223372036854775807 ∷ []) ∷ one 0 5 ∷ [])) 1
    ∷ typed (stacked 255 (full 1 (1 ∷ 9223372036854775806 ∷ []) ∷ one 0 5 ∷ [])) 0
    ∷ typed (stacked 255 (full 0 (0xffffffffffffffff ∷ 5 ∷ []) ∷ one 1 9223372036854775807 ∷ [])) 2
    -- coercion: the greatest U64 value to I64, the least I64 value to U64
    ∷ typed (stacked 0 (full 1 (1 ∷ 9223372036854775807 ∷ []) ∷ [])) 0
    ∷ typed (stacked 0 (full 1 (1 ∷ 9223372036854775808 ∷ []) ∷ [])) 10
    ∷ typed (stacked 1 (full 0 (5 ∷ 0 ∷ []) ∷ [])) 1
    ∷ typed (stacked 1 (full 0 (5 ∷ 0xffffffffffffffff ∷ []) ∷ [])) 10
    ∷ []

type_cases_hold : map (λ c. type_for c.lent) type_cases ≡ map (λ c. c.expected) type_cases
unfolding type_for type_cases
type_cases_hold = refl
