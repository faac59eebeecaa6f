-- The time order by small cases (document 01, "Time order", and 02, (e)), and its answers. Each table is proved by one computation. Assumes nothing.
use Rattle.std.specs.Prelude.{ℕ, ◌≡◌, refl, List, [], ◌∷◌, map, length, replicate}
use Rattle.definitions.specs.Segment.{Segment, Address, address as at}
use Rattle.definitions.specs.TimeOrder.{sorted, unsorted, TimeOutcome}
use Rattle.definitions.specs.Sheet.{plain, with_alive, counted, none, full, one, dropped, time_sheet_of}

-- ---- how the tables are written

record TimeCase : Type 0 where
  segments : List Segment
  space : ℕ
  expected : TimeOutcome

-- the segments' order; the output has place for it, and no more
abbrev sorted_as : List Segment → List Address → TimeCase
sorted_as ss addresses = record { segments = ss; space = length addresses; expected = record { answer = sorted (length addresses); addresses = addresses } }

-- a refusal of a call with place for so many addresses, which changes none
abbrev unsorted_by : ℕ → List Segment → ℕ → TimeCase
unsorted_by n ss space = record { segments = ss; space = space; expected = record { answer = unsorted n; addresses = replicate space (at 9 9) } }

-- ---- the order

order_cases : List TimeCase
order_cases =
    -- no segments
    sorted_as [] []
    -- by key first; a time is signed: -1 is before 0
    ∷ sorted_as (full 7 (0 ∷ 5 ∷ []) ∷ full 7 (0xffffffffffffffff ∷ 4 ∷ []) ∷ []) (at 1 0 ∷ at 0 0 ∷ at 1 1 ∷ at 0 1 ∷ [])
    -- then by segment, then by row
    ∷ sorted_as (full 7 (1 ∷ 5 ∷ []) ∷ full 7 (5 ∷ []) ∷ []) (at 0 0 ∷ at 0 1 ∷ at 1 0 ∷ [])
    ∷ sorted_as (full 7 (5 ∷ 5 ∷ []) ∷ []) (at 0 0 ∷ at 0 1 ∷ [])
    -- a row without a time has the last time before it
    ∷ sorted_as (plain 7 2 3 (0 ∷ 1 ∷ []) [] (10 ∷ 20 ∷ []) [] ∷ one 7 15 ∷ []) (at 0 0 ∷ at 1 0 ∷ at 0 1 ∷ at 0 2 ∷ [])
    -- a withdrawn row is not listed and still gives its time: 0; (5) -, and as the last time before a row: 3 (5) -; 4
    ∷ sorted_as (one 7 0 ∷ with_alive (2 ∷ []) (plain 7 2 2 (0 ∷ []) [] (5 ∷ []) []) ∷ []) (at 0 0 ∷ at 1 1 ∷ [])
    ∷ sorted_as (with_alive (5 ∷ []) (plain 7 2 3 (0 ∷ 1 ∷ []) [] (3 ∷ 5 ∷ []) []) ∷ one 7 4 ∷ []) (at 0 0 ∷ at 1 0 ∷ at 0 2 ∷ [])
    -- kind 4
    ∷ sorted_as (plain 7 4 2 (1 ∷ []) (0 ∷ 1 ∷ []) (5 ∷ []) [] ∷ plain 7 4 2 (1 ∷ []) (0 ∷ 1 ∷ []) (4 ∷ []) [] ∷ []) (at 1 0 ∷ at 1 1 ∷ at 0 0 ∷ at 0 1 ∷ [])
    ∷ []

order_cases_hold : map (λ c. time_sheet_of c.segments c.space) order_cases ≡ map (λ c. c.expected) order_cases
unfolding time_sheet_of order_cases
order_cases_hold = refl

-- ---- 02, (e): "untimed rows at a segment's start take the first time after them in that segment"

start_cases : List TimeCase
start_cases =
    -- several of them, and one after the time, which still has the last time before it: - - 7 -; 6
    sorted_as (plain 7 2 4 (2 ∷ []) [] (7 ∷ []) [] ∷ one 7 6 ∷ []) (at 1 0 ∷ at 0 0 ∷ at 0 1 ∷ at 0 2 ∷ at 0 3 ∷ [])
    -- the first time after them, not the last one: - 3 9; 5. A later untimed row of such a segment still has the last time before it: - 3 - 9; 5
    ∷ sorted_as (plain 7 2 3 (1 ∷ 2 ∷ []) [] (3 ∷ 9 ∷ []) [] ∷ one 7 5 ∷ []) (at 0 0 ∷ at 0 1 ∷ at 1 0 ∷ at 0 2 ∷ [])
    ∷ sorted_as (plain 7 2 4 (1 ∷ 3 ∷ []) [] (3 ∷ 9 ∷ []) [] ∷ one 7 5 ∷ []) (at 0 0 ∷ at 0 1 ∷ at 0 2 ∷ at 1 0 ∷ at 0 3 ∷ [])
    -- the time of a withdrawn row counts, and be it the segment's only one: - (20); 10
    ∷ sorted_as (with_alive (1 ∷ []) (plain 7 2 2 (1 ∷ []) [] (20 ∷ []) []) ∷ one 7 10 ∷ []) (at 1 0 ∷ at 0 0 ∷ [])
    -- it is the first one though a later row is alive: - (3) 9; 5
    ∷ sorted_as (with_alive (5 ∷ []) (plain 7 2 3 (1 ∷ 2 ∷ []) [] (3 ∷ 9 ∷ []) []) ∷ one 7 5 ∷ []) (at 0 0 ∷ at 1 0 ∷ at 0 2 ∷ [])
    -- an untimed row at the start that is withdrawn is not listed: (-) - 20; 10
    ∷ sorted_as (with_alive (6 ∷ []) (plain 7 2 3 (2 ∷ []) [] (20 ∷ []) []) ∷ one 7 10 ∷ []) (at 1 0 ∷ at 0 1 ∷ at 0 2 ∷ [])
    -- equal keys across segments go by segment, then by row: 20; - 20, then - 20; 20, then - 20; - 20
    ∷ sorted_as (one 7 20 ∷ plain 7 2 2 (1 ∷ []) [] (20 ∷ []) [] ∷ []) (at 0 0 ∷ at 1 0 ∷ at 1 1 ∷ [])
    ∷ sorted_as (plain 7 2 2 (1 ∷ []) [] (20 ∷ []) [] ∷ one 7 20 ∷ []) (at 0 0 ∷ at 0 1 ∷ at 1 0 ∷ [])
    ∷ sorted_as (plain 7 2 2 (1 ∷ []) [] (20 ∷ []) [] ∷ plain 7 2 2 (1 ∷ []) [] (20 ∷ []) [] ∷ []) (at 0 0 ∷ at 0 1 ∷ at 1 0 ∷ at 1 1 ∷ [])
    -- times are signed: 0; - -1
    ∷ sorted_as (one 7 0 ∷ plain 7 2 2 (1 ∷ []) [] (0xffffffffffffffff ∷ []) [] ∷ []) (at 1 0 ∷ at 1 1 ∷ at 0 0 ∷ [])
    -- the least time is a time: - -2^63 is after a segment without any time, and with it goes by segment
    ∷ sorted_as (plain 7 2 2 (1 ∷ []) [] (0x8000000000000000 ∷ []) [] ∷ one 7 0x8000000000000000 ∷ none 1 ∷ []) (at 2 0 ∷ at 0 0 ∷ at 0 1 ∷ at 1 0 ∷ [])
    -- "a segment without any time keeps its place before all times": -2^63; - -
    ∷ sorted_as (one 7 0x8000000000000000 ∷ plain 7 2 2 [] [] [] [] ∷ []) (at 1 0 ∷ at 1 1 ∷ at 0 0 ∷ [])
    -- no column, Empty, and kind 4 without ids, each among times; among themselves they go by segment
    ∷ sorted_as (none 1 ∷ one 7 0x8000000000000000 ∷ plain 7 0 1 [] [] [] [] ∷ plain 7 4 1 [] (0 ∷ []) [] [] ∷ []) (at 0 0 ∷ at 2 0 ∷ at 3 0 ∷ at 1 0 ∷ [])
    -- kind 4: - 5 -; 4
    ∷ sorted_as (plain 7 4 3 (1 ∷ []) (0 ∷ 1 ∷ []) (5 ∷ []) [] ∷ one 7 4 ∷ []) (at 1 0 ∷ at 0 0 ∷ at 0 1 ∷ at 0 2 ∷ [])
    -- 10; - 20; 15: the untimed row goes with 20 here, and with 10 once the first two are joined (docs/DECISIONS)
    ∷ sorted_as (one 7 10 ∷ plain 7 2 2 (1 ∷ []) [] (20 ∷ []) [] ∷ one 7 15 ∷ []) (at 0 0 ∷ at 2 0 ∷ at 1 0 ∷ at 1 1 ∷ [])
    ∷ sorted_as (plain 7 2 3 (0 ∷ 2 ∷ []) [] (10 ∷ 20 ∷ []) [] ∷ one 7 15 ∷ []) (at 0 0 ∷ at 0 1 ∷ at 1 0 ∷ at 0 2 ∷ [])
    ∷ []

start_cases_hold : map (λ c. time_sheet_of c.segments c.space) start_cases ≡ map (λ c. c.expected) start_cases
unfolding time_sheet_of start_cases
start_cases_hold = refl

-- ---- 1 to 7, 19 and 11: an output shorter than the list. "And n after it": that check fails too, and is not the answer

answer_cases : List TimeCase
answer_cases =
    -- 1, and 2 after it: an alive set without its word
    unsorted_by 1 (replicate 257 (with_alive [] (one 7 5))) 0
    ∷ sorted_as (replicate 256 (none 0)) []
    -- 2, and 3 after it
    ∷ unsorted_by 2 (with_alive [] (one 8 5) ∷ []) 1
    -- 3: an unknown type; type 255 with a kind; 4 after it
    ∷ unsorted_by 3 (one 8 5 ∷ []) 1
    ∷ unsorted_by 3 (plain 255 1 0 [] [] [] [] ∷ []) 0
    ∷ unsorted_by 3 (plain 8 1 2 [] [] (5 ∷ []) [] ∷ []) 2
    -- 19: kind 3, in the second segment; 3 before it, in the second segment; 4 after it, in the first
    ∷ unsorted_by 19 (one 7 5 ∷ plain 7 3 1 [] (0 ∷ 1 ∷ []) (6 ∷ []) [] ∷ []) 2
    ∷ unsorted_by 3 (plain 7 3 1 [] (0 ∷ 1 ∷ []) (6 ∷ []) [] ∷ one 8 5 ∷ []) 2
    ∷ unsorted_by 19 (plain 7 1 2 [] [] (5 ∷ []) [] ∷ plain 7 3 1 [] (0 ∷ 1 ∷ []) (6 ∷ []) [] ∷ []) 3
    -- 4: too few values; 5 after it
    ∷ unsorted_by 4 (plain 5 1 2 [] [] (2 ∷ []) [] ∷ []) 2
    -- 5: a Bool above 1; 6 after it
    ∷ unsorted_by 5 (with_alive (2 ∷ []) (one 5 2) ∷ []) 1
    -- 6: a bit past the rows; 7 after it
    ∷ unsorted_by 6 (none 4294967295 ∷ with_alive (2 ∷ []) (one 7 5) ∷ []) 1
    -- a wrong number of alive rows: without an alive set, with one, of two that make the right sum; right among the rows, with a bit past them; 7 and 11 after it
    ∷ unsorted_by 6 (counted 0 (one 7 5) ∷ []) 2
    ∷ unsorted_by 6 (counted 2 (with_alive (1 ∷ []) (full 7 (5 ∷ 6 ∷ []))) ∷ []) 2
    ∷ unsorted_by 6 (counted 0 (one 7 5) ∷ counted 2 (one 7 6) ∷ []) 2
    ∷ unsorted_by 6 (counted 1 (with_alive (3 ∷ []) (one 7 5)) ∷ []) 2
    ∷ unsorted_by 6 (counted 0 (none 4294967295) ∷ []) 0
    ∷ unsorted_by 6 (counted 0 (one 7 5) ∷ []) 0
    -- 7, and 11 after it
    ∷ unsorted_by 7 (none 4294967295 ∷ []) 2
    -- 11, and 12 after it: one place too few, for times that fall
    ∷ unsorted_by 11 (full 7 (5 ∷ 4 ∷ []) ∷ []) 1
    ∷ unsorted_by 11 (none 1 ∷ []) 0
    -- a withdrawn row needs no place
    ∷ sorted_as (with_alive (1 ∷ []) (full 7 (5 ∷ 6 ∷ [])) ∷ []) (at 0 0 ∷ [])
    ∷ []

answer_cases_hold : map (λ c. time_sheet_of c.segments c.space) answer_cases ≡ map (λ c. c.expected) answer_cases
unfolding time_sheet_of answer_cases
answer_cases_hold = refl

-- ---- 12: another type, a row of several times, or times falling within a segment

time_checks : List TimeCase
time_checks =
    -- another type, in the second segment, and of a column without values
    unsorted_by 12 (one 7 5 ∷ one 0 5 ∷ []) 2
    ∷ unsorted_by 12 (dropped 1 1 ∷ []) 1
    ∷ unsorted_by 12 (one 7 5 ∷ one 6 5 ∷ []) 2
    ∷ unsorted_by 12 (dropped 6 1 ∷ []) 1
    -- a row of several times, though they are equal; a withdrawn one
    ∷ unsorted_by 12 (plain 7 4 1 (0 ∷ []) (0 ∷ 2 ∷ []) (5 ∷ 5 ∷ []) [] ∷ []) 1
    ∷ unsorted_by 12 (with_alive (1 ∷ []) (plain 7 4 2 (0 ∷ 1 ∷ []) (0 ∷ 1 ∷ 3 ∷ []) (5 ∷ 6 ∷ 6 ∷ []) []) ∷ []) 1
    -- times that fall, each against the one before it, over a row without a time
    ∷ unsorted_by 12 (full 7 (4 ∷ 6 ∷ 5 ∷ []) ∷ []) 3
    ∷ unsorted_by 12 (plain 7 2 3 (0 ∷ 2 ∷ []) [] (5 ∷ 4 ∷ []) [] ∷ []) 3
    -- the times of withdrawn rows too
    ∷ unsorted_by 12 (with_alive (1 ∷ []) (full 7 (5 ∷ 4 ∷ [])) ∷ []) 2
    ∷ unsorted_by 12 (with_alive (2 ∷ []) (full 7 (5 ∷ 4 ∷ [])) ∷ []) 2
    -- from 0 to -1 is falling, from -1 to 0 is not
    ∷ unsorted_by 12 (full 7 (0 ∷ 0xffffffffffffffff ∷ []) ∷ []) 2
    ∷ sorted_as (full 7 (0xffffffffffffffff ∷ 0 ∷ []) ∷ []) (at 0 0 ∷ at 0 1 ∷ [])
    -- from one segment to the next they may fall
    ∷ sorted_as (one 7 5 ∷ one 7 4 ∷ []) (at 1 0 ∷ at 0 0 ∷ [])
    ∷ []

time_checks_hold : map (λ c. time_sheet_of c.segments c.space) time_checks ≡ map (λ c. c.expected) time_checks
unfolding time_sheet_of time_checks
time_checks_hold = refl
