-- Log sheets C1 to C13 of document 01, the slips to shut out, the example of every answer, what a call leaves in the lent memory, and joins in turn: each
-- table proved by one computation. Assumes nothing.
use Rattle.std.specs.Prelude.{ℕ, ◌≡◌, refl, List, [], ◌∷◌, map, replicate}
use Rattle.definitions.specs.Words.{ip_addr_of}
use Rattle.definitions.specs.Segment.{Segment, Pair, pair, no_pair, Address, address as at}
use Rattle.definitions.specs.Join.{kind_of, as_segment}
use Rattle.definitions.specs.Outcome.{Lent, lent_of, Outcome, accepted, refused}
use Rattle.definitions.specs.TimeOrder.{sorted, time_number_of}
use Rattle.definitions.specs.Book.{Call, Standing, first, result, Entry, call_lent, call_outcome, call_answer, after_call, answers_of, stands_after, first_entry, one_join, standing_of, joined_entry, book_answer, book_after_call, book_answers, book_after}
use Rattle.definitions.specs.Sheet.{plain, with_alive, with_pair, none, full, one, str, dropped, a, b, five, old_five, nine, new_kind, numbered, memory, call, stacked, in_order, lending, outcome_of, sheet_of, time_sheet_of, accepts, carrying, refuses, Case, case}

-- ---- C1 to C12

-- C1's two segments
sheet_one : List Segment
sheet_one = plain 4 2 2 (1 ∷ []) [] (0 ∷ []) (b ∷ []) ∷ str (1 ∷ 0 ∷ []) (a ∷ b ∷ []) ∷ []

cases : List Case
cases =
    -- C1
    case (stacked 255 sheet_one) (accepts 4 1 4 (1 ∷ 2 ∷ 3 ∷ []) [] (1 ∷ 1 ∷ 0 ∷ []) (a ∷ b ∷ []) (1 ∷ 0 ∷ 1 ∷ []))
    -- C2
    ∷ case (stacked 255 []) (accepts 255 0 0 [] [] [] [] [])
    -- C3
    ∷ case (stacked 1 []) (accepts 1 0 0 [] [] [] [] [])
    -- C4
    ∷ case (stacked 1 (none 3 ∷ [])) (accepts 1 1 3 [] [] [] [] [])
    -- C5
    ∷ case (stacked 255 (five ∷ [])) (carrying 7 9 (accepts 1 2 3 (0 ∷ 2 ∷ []) (0 ∷ 2 ∷ 3 ∷ []) (7 ∷ 8 ∷ 9 ∷ []) [] []))
    -- C6
    ∷ case (in_order 255 (with_alive (5 ∷ []) five ∷ []) (at 0 2 ∷ at 0 0 ∷ []))
    (carrying 7 9 (accepts 1 2 2 (0 ∷ 1 ∷ []) (0 ∷ 1 ∷ 3 ∷ []) (9 ∷ 7 ∷ 8 ∷ []) [] []))
    -- C7
    ∷ case (in_order 255 (with_alive (4 ∷ []) five ∷ []) (at 0 2 ∷ [])) (carrying 9 9 (accepts 1 0 1 [] [] (9 ∷ []) [] []))
    -- C8
    ∷ case (in_order 255 (with_alive (2 ∷ []) five ∷ []) (at 0 1 ∷ [])) (accepts 255 0 1 [] [] [] [] [])
    -- C9, without and with an alive set
    ∷ case (in_order 255 (nine ∷ []) (at 0 1 ∷ at 0 0 ∷ [])) (carrying 5 6 (accepts 1 1 2 (0 ∷ 1 ∷ []) [] (6 ∷ 5 ∷ []) [] []))
    ∷ case (in_order 255 (with_alive (3 ∷ []) nine ∷ []) (at 0 1 ∷ at 0 0 ∷ [])) (carrying 5 6 (accepts 1 0 2 [] [] (6 ∷ 5 ∷ []) [] []))
    -- C10
    ∷ case (stacked 255 (one 0 0xffffffffffffffff ∷ one 1 9223372036854775806 ∷ []))
    (carrying 0xffffffffffffffff 9223372036854775806 (accepts 0 0 2 [] [] (0xffffffffffffffff ∷ 9223372036854775806 ∷ []) [] []))
    ∷ case (stacked 255 (one 0 0xffffffffffffffff ∷ one 1 9223372036854775807 ∷ []))
    (accepts 2 0 2 [] [] (0xbff0000000000000 ∷ 0x43e0000000000000 ∷ []) [] [])
    -- C11
    ∷ case (stacked 0 (one 1 9223372036854775807 ∷ [])) (carrying 9223372036854775807 9223372036854775807 (accepts 0 0 1 [] [] (9223372036854775807 ∷ []) [] []))
    ∷ case (stacked 0 (one 1 9223372036854775808 ∷ [])) (refuses 10)
    -- C12
    ∷ case (in_order 255 (with_alive (2 ∷ []) (str (0 ∷ 1 ∷ []) (a ∷ b ∷ [])) ∷ []) (at 0 1 ∷ [])) (accepts 4 0 1 [] [] (0 ∷ []) (b ∷ []) (0 ∷ 0 ∷ []))
    ∷ []

cases_hold : map (λ c. sheet_of c.lent) cases ≡ map (λ c. c.expected) cases
unfolding sheet_of sheet_one cases
cases_hold = refl

-- ---- C13 as 02, (e), has it: times 10 none 30, and none 20; one place more than it needs

thirteen_holds :
    time_sheet_of (plain 7 2 3 (0 ∷ 2 ∷ []) [] (10 ∷ 30 ∷ []) [] ∷ plain 7 2 2 (1 ∷ []) [] (20 ∷ []) [] ∷ []) 6
    ≡ record { answer = sorted 5; addresses = at 0 0 ∷ at 0 1 ∷ at 1 0 ∷ at 1 1 ∷ at 0 2 ∷ at 9 9 ∷ [] }
unfolding time_sheet_of
thirteen_holds = refl

-- ---- the four slips that document 01 names

slips : List Case
slips =
    -- the offset of a row without values is not kept: C5's segment, which has one, before one and after one
    case (stacked 255 (five ∷ none 1 ∷ five ∷ []))
    (carrying 7 9 (accepts 1 2 7 (0 ∷ 2 ∷ 4 ∷ 6 ∷ []) (0 ∷ 2 ∷ 3 ∷ 5 ∷ 6 ∷ []) (7 ∷ 8 ∷ 9 ∷ 7 ∷ 8 ∷ 9 ∷ []) [] []))
    -- the value of a withdrawn row counts for the type: a U64 value above all of I64, a negative I64 value, and in the coercion to a required type
    ∷ case (in_order 255 (with_alive (1 ∷ []) (full 1 (5 ∷ 0xffffffffffffffff ∷ [])) ∷ one 0 0xffffffffffffffff ∷ []) (at 1 0 ∷ at 0 0 ∷ []))
    (accepts 2 0 2 [] [] (0xbff0000000000000 ∷ 0x4014000000000000 ∷ []) [] [])
    ∷ case (in_order 255 (one 1 9223372036854775808 ∷ with_alive (2 ∷ []) (full 0 (0xffffffffffffffff ∷ 5 ∷ [])) ∷ []) (at 0 0 ∷ at 1 1 ∷ []))
    (accepts 2 0 2 [] [] (0x43e0000000000000 ∷ 0x4014000000000000 ∷ []) [] [])
    ∷ case (in_order 0 (with_alive (1 ∷ []) (full 1 (5 ∷ 9223372036854775808 ∷ [])) ∷ []) (at 0 0 ∷ [])) (refuses 10)
    -- an Optional segment without an alive set is of class 1, though every row has a value
    ∷ case (stacked 255 (nine ∷ [])) (carrying 5 6 (accepts 1 1 2 (0 ∷ 1 ∷ []) [] (5 ∷ 6 ∷ []) [] []))
    -- terms are not compared by their lengths first
    ∷ case (stacked 255 (str (0 ∷ []) (b ∷ []) ∷ str (0 ∷ []) ((97 ∷ 97 ∷ []) ∷ []) ∷ []))
    (accepts 4 0 2 [] [] (1 ∷ 0 ∷ []) ((97 ∷ 97 ∷ []) ∷ b ∷ []) (1 ∷ 0 ∷ []))
    ∷ []

slips_hold : map (λ c. sheet_of c.lent) slips ≡ map (λ c. c.expected) slips
unfolding sheet_of slips
slips_hold = refl

-- ---- the example of every answer, 1 to 12 and 19

-- what is asked: a join, or the time order of some segments with place for so many addresses
data Example : Type 0 where
  joins : Lent → Example
  orders : List Segment → ℕ → Example

abbrev example_answer : Example → ℕ
example_answer (joins l) = (sheet_of l).answer
example_answer (orders ss space) = time_number_of (time_sheet_of ss space).answer

examples : List Example
examples =
    joins (stacked 255 (replicate 257 (none 0)))
    ∷ joins (announced ((1 ∷ 1 ∷ 1 ∷ 0 ∷ 0 ∷ 1 ∷ 0 ∷ 0 ∷ 1 ∷ 5 ∷ 5 ∷ []) ∷ []))
    ∷ joins (stacked 255 (one 8 0 ∷ []))
    ∷ joins (stacked 255 (plain 1 2 2 (1 ∷ 1 ∷ []) [] (5 ∷ 6 ∷ []) [] ∷ []))
    ∷ joins (stacked 255 (str (0 ∷ 1 ∷ []) (b ∷ a ∷ []) ∷ []))
    ∷ joins (in_order 255 (with_alive (2 ∷ []) (one 1 5) ∷ []) [])
    ∷ joins (stacked 255 (none 4294967295 ∷ []))
    ∷ joins (lending (memory 9 2) (in_order 255 (five ∷ []) []))
    ∷ joins (in_order 255 (nine ∷ []) (at 0 0 ∷ at 0 0 ∷ []))
    ∷ joins (stacked 255 (str (0 ∷ []) (a ∷ []) ∷ one 5 1 ∷ []))
    ∷ joins (lending (memory 1 9) (stacked 255 (full 1 (5 ∷ 6 ∷ []) ∷ [])))
    ∷ orders (full 7 (5 ∷ 4 ∷ []) ∷ []) 2
    -- C5's segment as it was, in a join, and a time in kind 3
    ∷ joins (stacked 255 (old_five ∷ []))
    ∷ orders (plain 7 3 1 [] (0 ∷ 1 ∷ []) (5 ∷ []) [] ∷ []) 2
    ∷ []
  where
    announced : List (List ℕ) → Lent
    announced records = lent_of 0 255 (numbered records) [] [] [] [] [] [] [] (memory 9 9)

examples_hold : map example_answer examples ≡ (1 ∷ 2 ∷ 3 ∷ 4 ∷ 5 ∷ 6 ∷ 7 ∷ 8 ∷ 9 ∷ 10 ∷ 11 ∷ 12 ∷ 19 ∷ 19 ∷ [])
unfolding time_sheet_of sheet_of examples
examples_hold = refl

-- ---- the whole outcome of a call: its numbers, and the lent memory, where nines stand in every place before

outcomes : List Outcome
outcomes =
    -- C1: what stands beyond the lists stays, and the working bytes are zero
    record {
      answer = accepted (record { type = 4; class = 1; rows = 4; ids = 3; offsets = 0; values = 3; terms = 2; term_bytes = 2; map = 3; copied = 2; pair = no_pair });
      buffers =
          record {
            ids = 1 ∷ 2 ∷ 3 ∷ 9 ∷ [];
            offsets = 9 ∷ 9 ∷ 9 ∷ 9 ∷ [];
            values = 1 ∷ 1 ∷ 0 ∷ 9 ∷ [];
            term_lengths = 1 ∷ 1 ∷ 9 ∷ 9 ∷ [];
            term_bytes = 97 ∷ 98 ∷ 9 ∷ 9 ∷ [];
            map = 1 ∷ 0 ∷ 1 ∷ 9 ∷ [];
            working = 0 ∷ 0 ∷ 0 ∷ [];
          };
    }
    -- its refusal for want of space: no output changes, and the working bytes are zero
    ∷ record {
      answer = refused 11;
      buffers =
          record {
            ids = 9 ∷ 9 ∷ [];
            offsets = 9 ∷ 9 ∷ [];
            values = 9 ∷ 9 ∷ [];
            term_lengths = 9 ∷ 9 ∷ [];
            term_bytes = 9 ∷ 9 ∷ [];
            map = 9 ∷ 9 ∷ [];
            working = 0 ∷ 0 ∷ 0 ∷ [];
          };
    }
    -- C5's segment as it was, refused by 19
    ∷ record {
      answer = refused 19;
      buffers =
          record {
            ids = 9 ∷ 9 ∷ [];
            offsets = 9 ∷ 9 ∷ [];
            values = 9 ∷ 9 ∷ [];
            term_lengths = 9 ∷ 9 ∷ [];
            term_bytes = 9 ∷ 9 ∷ [];
            map = 9 ∷ 9 ∷ [];
            working = 0 ∷ 0 ∷ 0 ∷ [];
          };
    }
    -- Bytes: a row of three values between rows of none, terms aaa b c d; then a row of one, terms b e. Each list's number is its own, and no two are the same
    ∷ record {
      answer = accepted (record { type = 3; class = 2; rows = 4; ids = 2; offsets = 3; values = 4; terms = 5; term_bytes = 7; map = 6; copied = 7; pair = no_pair });
      buffers =
          record {
            ids = 1 ∷ 3 ∷ replicate 6 9;
            offsets = 0 ∷ 3 ∷ 4 ∷ replicate 5 9;
            values = 1 ∷ 0 ∷ 1 ∷ 1 ∷ replicate 4 9;
            term_lengths = 3 ∷ 1 ∷ 1 ∷ 1 ∷ 1 ∷ replicate 3 9;
            term_bytes = 97 ∷ 97 ∷ 97 ∷ 98 ∷ 99 ∷ 100 ∷ 101 ∷ replicate 1 9;
            map = 0 ∷ 1 ∷ 2 ∷ 3 ∷ 1 ∷ 4 ∷ replicate 2 9;
            working = [];
          };
    }
    -- I64 -1 and 7, and U64 3: the pair comes with the numbers, and no list has it
    ∷ record {
      answer = accepted (record { type = 0; class = 0; rows = 3; ids = 0; offsets = 0; values = 3; terms = 0; term_bytes = 0; map = 0; copied = 0; pair = pair 0xffffffffffffffff 7 });
      buffers =
          record {
            ids = replicate 4 9;
            offsets = replicate 4 9;
            values = 0xffffffffffffffff ∷ 7 ∷ 3 ∷ 9 ∷ [];
            term_lengths = replicate 4 9;
            term_bytes = replicate 4 9;
            map = replicate 4 9;
            working = 0 ∷ [];
          };
    }
    ∷ []

outcomes_hold :
    (outcome_of (lending (memory 4 3) (stacked 255 sheet_one))
    ∷ outcome_of (lending (memory 2 3) (stacked 255 sheet_one))
    ∷ outcome_of (lending (memory 2 3) (stacked 255 (old_five ∷ [])))
    ∷ outcome_of
    (lending (memory 8 0)
    (stacked 255
    (plain 3 4 3 (1 ∷ []) (0 ∷ 3 ∷ []) (1 ∷ 0 ∷ 1 ∷ []) ((97 ∷ 97 ∷ 97 ∷ []) ∷ b ∷ (99 ∷ []) ∷ (100 ∷ []) ∷ [])
    ∷ plain 3 1 1 [] [] (0 ∷ []) (b ∷ (101 ∷ []) ∷ [])
    ∷ [])))
    ∷ outcome_of (lending (memory 4 1) (stacked 255 (full 0 (0xffffffffffffffff ∷ 7 ∷ []) ∷ one 1 3 ∷ [])))
    ∷ [])
    ≡ outcomes
unfolding outcome_of sheet_one outcomes
outcomes_hold = refl

-- ---- joins in turn against their book: what is compared

-- the answers, and what stands, each as run and by the book; and the sources and origins of what stands
record Turns : Type 0 where
  answers : List ℕ
  booked : List ℕ
  standing : List Standing
  defined : List Standing
  sources : List (List ℕ)
  origins : List (List Address)

turns_of : List Segment → List Call → Turns
unfolding outcome_of kind_of as_segment call_lent call_outcome call_answer after_call first_entry one_join standing_of joined_entry book_answer book_after_call
turns_of firsts cs =
    record {
      answers = answers_of cs (map first firsts);
      booked = book_answers firsts cs;
      standing = stands_after cs (map first firsts);
      defined = map (standing_of firsts) (book_after firsts cs);
      sources = map (λ (e : Entry). e.sources) (book_after firsts cs);
      origins = map (λ (e : Entry). e.origins) (book_after firsts cs);
    }

-- what is expected: the answers, what stands, its sources and its origins
abbrev agree : List ℕ → List Standing → List (List ℕ) → List (List Address) → Turns
agree answers standing sources origins =
    record { answers = answers; booked = answers; standing = standing; defined = standing; sources = sources; origins = origins }

record Turn : Type 0 where
  firsts : List Segment
  calls : List Call
  expected : Turns

abbrev turn : List Segment → List Call → Turns → Turn
turn firsts calls expected = record { firsts = firsts; calls = calls; expected = expected }

-- type, class, rows, ids, offsets, values, terms, pair
abbrev gave : ℕ → ℕ → ℕ → List ℕ → List ℕ → List ℕ → List (List ℕ) → Pair → Standing
gave type class rows ids offsets values terms p =
    result (record { type = type; class = class; rows = rows; ids = ids; offsets = offsets; values = values; terms = terms; pair = p })

-- ---- joins in turn: the table

turns : List Turn
turns =
    -- C1's two segments and C12's. The withdrawn play's segment and the first one stacked, which is refused; alone and ordered; the others stacked; then both results, ordered
    turn
    (plain 4 2 2 (1 ∷ []) [] (0 ∷ []) (b ∷ []) ∷ str (1 ∷ 0 ∷ []) (a ∷ b ∷ []) ∷ with_alive (2 ∷ []) (str (0 ∷ 1 ∷ []) (a ∷ b ∷ [])) ∷ [])
    (call (2 ∷ 0 ∷ []) 0 255 []
    ∷ call (2 ∷ []) 1 255 (at 0 1 ∷ [])
    ∷ call (1 ∷ 0 ∷ []) 0 255 []
    ∷ call (1 ∷ 0 ∷ []) 1 255 (at 0 3 ∷ at 1 0 ∷ at 0 0 ∷ at 0 1 ∷ at 0 2 ∷ [])
    ∷ [])
    (agree (6 ∷ 0 ∷ 0 ∷ 0 ∷ []) (gave 4 1 5 (0 ∷ 1 ∷ 2 ∷ 3 ∷ []) [] (1 ∷ 1 ∷ 1 ∷ 0 ∷ []) (a ∷ b ∷ []) no_pair ∷ []) ((1 ∷ 0 ∷ 2 ∷ []) ∷ [])
    ((at 0 1 ∷ at 2 1 ∷ at 1 0 ∷ at 1 1 ∷ at 0 0 ∷ []) ∷ []))
    -- a result of class 2 and one of type 255 are handed on: as kinds 4 and 0
    ∷ turn (new_kind ∷ dropped 1 2 ∷ one 1 5 ∷ [])
    (call (0 ∷ []) 1 255 (at 0 3 ∷ at 0 1 ∷ at 0 0 ∷ at 0 2 ∷ []) ∷ call (0 ∷ []) 0 255 [] ∷ call (1 ∷ 2 ∷ 0 ∷ []) 0 255 [] ∷ [])
    (agree (0 ∷ 0 ∷ 0 ∷ []) (gave 1 2 7 (0 ∷ 1 ∷ 6 ∷ []) (0 ∷ 1 ∷ 3 ∷ 4 ∷ []) (9 ∷ 7 ∷ 8 ∷ 5 ∷ []) [] (pair 5 9) ∷ []) ((0 ∷ 1 ∷ 2 ∷ []) ∷ [])
    ((at 0 3 ∷ at 0 1 ∷ at 0 0 ∷ at 0 2 ∷ at 1 0 ∷ at 1 1 ∷ at 2 0 ∷ []) ∷ []))
    -- a result of class 0 is handed on: as kind 1
    ∷ turn (with_alive (8 ∷ []) new_kind ∷ full 1 (5 ∷ 6 ∷ []) ∷ [])
    (call (0 ∷ []) 1 255 (at 0 3 ∷ []) ∷ call (1 ∷ 0 ∷ []) 1 255 (at 1 1 ∷ at 0 0 ∷ at 1 0 ∷ []) ∷ [])
    (agree (0 ∷ 0 ∷ []) (gave 1 0 3 [] [] (6 ∷ 9 ∷ 5 ∷ []) [] (pair 5 9) ∷ []) ((0 ∷ 1 ∷ []) ∷ []) ((at 1 1 ∷ at 0 3 ∷ at 1 0 ∷ []) ∷ []))
    -- entries that are not handed over stay, in their sequence, before the result; a join of none has no sources
    ∷ turn (one 1 5 ∷ one 1 6 ∷ one 1 7 ∷ []) (call (1 ∷ []) 0 255 [] ∷ call [] 0 255 [] ∷ [])
    (agree (0 ∷ 0 ∷ []) (first (one 1 5) ∷ first (one 1 7) ∷ gave 1 0 1 [] [] (6 ∷ []) [] (pair 6 6) ∷ gave 255 0 0 [] [] [] [] no_pair ∷ [])
    ((0 ∷ []) ∷ (2 ∷ []) ∷ (1 ∷ []) ∷ [] ∷ [])
    ((at 0 0 ∷ []) ∷ (at 2 0 ∷ []) ∷ (at 1 0 ∷ []) ∷ [] ∷ []))
    -- a first segment's origins are all its rows, withdrawn ones too
    ∷ turn (with_alive (2 ∷ []) (full 1 (5 ∷ 6 ∷ [])) ∷ []) []
    (agree [] (first (with_alive (2 ∷ []) (full 1 (5 ∷ 6 ∷ []))) ∷ []) ((0 ∷ []) ∷ []) ((at 0 0 ∷ at 0 1 ∷ []) ∷ []))
    -- an old segment stands, and each join that is handed it is refused with 19; the others go on
    ∷ turn (old_five ∷ one 1 5 ∷ []) (call (1 ∷ 0 ∷ []) 0 255 [] ∷ call (1 ∷ []) 0 255 [] ∷ call (0 ∷ 1 ∷ []) 1 255 [] ∷ [])
    (agree (19 ∷ 0 ∷ 19 ∷ []) (first old_five ∷ gave 1 0 1 [] [] (5 ∷ []) [] (pair 5 5) ∷ []) ((0 ∷ []) ∷ (1 ∷ []) ∷ [])
    ((at 0 0 ∷ at 0 1 ∷ at 0 2 ∷ []) ∷ (at 1 0 ∷ []) ∷ []))
    -- addresses: two weeks in order, a play of the one withdrawn; an order that lists no row is refused; behind a third week, of kind 4, the result is handed on
    ∷ turn
    (with_alive (2 ∷ []) (full 6 (ip_addr_of 1 2 ∷ ip_addr_of 3 4 ∷ [])) ∷ plain 6 2 2 (1 ∷ []) [] (ip_addr_of 0xffffffffffffffff 0 ∷ []) [] ∷ plain 6 4 1 (0 ∷ []) (0 ∷ 2 ∷ []) (ip_addr_of 7 8 ∷ ip_addr_of 5 6 ∷ []) [] ∷ [])
    (call (1 ∷ 0 ∷ []) 1 255 (at 0 1 ∷ at 1 1 ∷ at 0 0 ∷ []) ∷ call (0 ∷ 1 ∷ []) 1 255 [] ∷ call (0 ∷ 1 ∷ []) 0 255 [] ∷ [])
    (agree (0 ∷ 9 ∷ 0 ∷ [])
    (gave 6 2 4 (0 ∷ 1 ∷ 2 ∷ []) (0 ∷ 2 ∷ 3 ∷ 4 ∷ []) (ip_addr_of 7 8 ∷ ip_addr_of 5 6 ∷ ip_addr_of 0xffffffffffffffff 0 ∷ ip_addr_of 3 4 ∷ []) [] no_pair ∷ [])
    ((2 ∷ 1 ∷ 0 ∷ []) ∷ [])
    ((at 2 0 ∷ at 1 1 ∷ at 0 1 ∷ at 1 0 ∷ []) ∷ []))
    -- pairs: I64 -1, withdrawn, and 3; -9 and 8; 5. The first one joined alone, its result then behind the last: each joined pair is that of the values that are left
    ∷ turn (with_alive (2 ∷ []) (full 0 (0xffffffffffffffff ∷ 3 ∷ [])) ∷ full 0 (0xfffffffffffffff7 ∷ 8 ∷ []) ∷ one 0 5 ∷ [])
    (call (0 ∷ []) 1 255 (at 0 1 ∷ []) ∷ call (1 ∷ 2 ∷ []) 0 255 [] ∷ [])
    (agree (0 ∷ 0 ∷ []) (first (full 0 (0xfffffffffffffff7 ∷ 8 ∷ [])) ∷ gave 0 0 2 [] [] (5 ∷ 3 ∷ []) [] (pair 3 5) ∷ []) ((1 ∷ []) ∷ (2 ∷ 0 ∷ []) ∷ [])
    ((at 1 0 ∷ at 1 1 ∷ []) ∷ (at 2 0 ∷ at 0 1 ∷ []) ∷ []))
    -- a first segment with an untrue pair stands, and each join that is handed it is refused with 5
    ∷ turn (with_pair 4 5 (one 1 5) ∷ one 1 6 ∷ []) (call (0 ∷ 1 ∷ []) 0 255 [] ∷ call (1 ∷ []) 0 255 [] ∷ call (1 ∷ 0 ∷ []) 0 255 [] ∷ [])
    (agree (5 ∷ 0 ∷ 5 ∷ []) (first (with_pair 4 5 (one 1 5)) ∷ gave 1 0 1 [] [] (6 ∷ []) [] (pair 6 6) ∷ []) ((0 ∷ []) ∷ (1 ∷ []) ∷ [])
    ((at 0 0 ∷ []) ∷ (at 1 0 ∷ []) ∷ []))
    -- both joins require F64; the one join requires it too
    ∷ turn (one 0 5 ∷ one 1 7 ∷ []) (call (0 ∷ []) 0 2 [] ∷ call (1 ∷ 0 ∷ []) 0 2 [] ∷ [])
    (agree (0 ∷ 0 ∷ []) (gave 2 0 2 [] [] (0x4014000000000000 ∷ 0x401c000000000000 ∷ []) [] no_pair ∷ []) ((0 ∷ 1 ∷ []) ∷ []) ((at 0 0 ∷ at 1 0 ∷ []) ∷ []))
    ∷ []

turns_hold : map (λ t. turns_of t.firsts t.calls) turns ≡ map (λ t. t.expected) turns
unfolding turns_of turns
turns_hold = refl

-- ---- why the claim on joins in turn has a premise: without it the result differs from the one join

-- the type that stands
abbrev type_in : Standing → ℕ
type_in (first s) = s.type
type_in (result c) = c.type

-- answers, the type that stands, and the type of the one join
record Need : Type 0 where
  answers : List ℕ
  stands : List ℕ
  defined : List ℕ

need_of : List Segment → List Call → Need
unfolding turns_of
need_of firsts cs =
    record {
      answers = (turns_of firsts cs).answers;
      stands = map type_in (turns_of firsts cs).standing;
      defined = map type_in (turns_of firsts cs).defined;
    }

-- U64 9223372036854775808, withdrawn, and 5; and I64 -1: joined alone the first leaves the withdrawn value behind, and then both give I64, but one join gives F64
mixed : List Segment
mixed = with_alive (2 ∷ []) (full 1 (9223372036854775808 ∷ 5 ∷ [])) ∷ one 0 0xffffffffffffffff ∷ []

mixed_calls : List Call
mixed_calls = call (0 ∷ []) 1 255 (at 0 1 ∷ []) ∷ call (0 ∷ 1 ∷ []) 0 255 [] ∷ []

-- I64 5 and I64 7; the first join requires F64, the second none
unlike : List Segment
unlike = one 0 5 ∷ one 0 7 ∷ []

unlike_calls : List Call
unlike_calls = call (0 ∷ []) 0 2 [] ∷ call (0 ∷ 1 ∷ []) 0 255 [] ∷ []

premise_needed :
    (need_of mixed mixed_calls ∷ need_of unlike unlike_calls ∷ [])
    ≡ (record { answers = 0 ∷ 0 ∷ []; stands = 0 ∷ []; defined = 2 ∷ [] } ∷ record { answers = 0 ∷ 0 ∷ []; stands = 2 ∷ []; defined = 0 ∷ [] } ∷ [])
unfolding need_of mixed mixed_calls unlike unlike_calls
premise_needed = refl
