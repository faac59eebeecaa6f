-- The answers 1 to 11 and 19 by small cases (document 01, "Answers of the joiner"): each phrase of the table's rows, with what just passes it, and the order of the
-- checks. Each table is proved by one computation. Assumes nothing.
use Rattle.std.specs.Prelude.{ℕ, ◌≡◌, refl, List, [], ◌∷◌, map, Bool, true, false, length, replicate}
use Rattle.definitions.specs.Lists.{concat}
use Rattle.definitions.specs.Segment.{Segment, address as at}
use Rattle.definitions.specs.Answer.{sums_too_large}
use Rattle.definitions.specs.Outcome.{Buffers, Lent, lent_of, number_of}
use Rattle.definitions.specs.Book.{lent_to}
use Rattle.definitions.specs.Sheet.{plain, with_alive, counted, none, full, one, str, dropped, a, b, five, old_five, nine, numbered, memory, call, stacked, in_order, lending, outcome_of}

-- ---- how the tables are written

-- a call, and the number that it is answered with
record AnswerCase : Type 0 where
  number : ℕ
  lent : Lent

abbrev gives : ℕ → Lent → AnswerCase
gives n l = record { number = n; lent = l }

number_for : Lent → ℕ
unfolding outcome_of
number_for l = number_of (outcome_of l).answer

-- one segment, stacked, and no type is required
abbrev alone : Segment → Lent
alone s = stacked 255 (s ∷ [])

-- ---- 1: more than 256 segments

segment_cases : List AnswerCase
segment_cases = gives 0 (stacked 255 (replicate 256 (none 0))) ∷ gives 1 (stacked 255 (replicate 257 (none 0))) ∷ []

segment_cases_hold : map (λ c. number_for c.lent) segment_cases ≡ map (λ c. c.number) segment_cases
unfolding number_for segment_cases
segment_cases_hold = refl

-- ---- 2: section lengths differ from the records' sums, or term bytes from the term lengths' sum

-- one record, Str kind 4 of 2 rows: 2 ids, 3 offsets, 3 values, 1 term, the flag as given, 2 alive rows; then the sections
abbrev laid : ℕ → List ℕ → List ℕ → List ℕ → List ℕ → List ℕ → List ℕ → Lent
laid flag ids offsets values term_lengths term_bytes alive =
    lent_of 1 255 (numbered ((4 ∷ 4 ∷ 2 ∷ 2 ∷ 3 ∷ 3 ∷ 1 ∷ flag ∷ 2 ∷ 0 ∷ 0 ∷ []) ∷ [])) ids offsets values term_lengths term_bytes alive ((0 ∷ 0 ∷ []) ∷ (0 ∷ 1 ∷ []) ∷ []) (memory 12 12)

length_cases : List AnswerCase
length_cases =
    -- as announced; then each section one too short and one too long
    gives 0 (laid 1 (0 ∷ 1 ∷ []) (0 ∷ 1 ∷ 3 ∷ []) (0 ∷ 0 ∷ 0 ∷ []) (1 ∷ []) (97 ∷ []) (3 ∷ []))
    ∷ gives 2 (laid 1 (0 ∷ []) (0 ∷ 1 ∷ 3 ∷ []) (0 ∷ 0 ∷ 0 ∷ []) (1 ∷ []) (97 ∷ []) (3 ∷ []))
    ∷ gives 2 (laid 1 (0 ∷ 1 ∷ 2 ∷ []) (0 ∷ 1 ∷ 3 ∷ []) (0 ∷ 0 ∷ 0 ∷ []) (1 ∷ []) (97 ∷ []) (3 ∷ []))
    ∷ gives 2 (laid 1 (0 ∷ 1 ∷ []) (0 ∷ 1 ∷ []) (0 ∷ 0 ∷ 0 ∷ []) (1 ∷ []) (97 ∷ []) (3 ∷ []))
    ∷ gives 2 (laid 1 (0 ∷ 1 ∷ []) (0 ∷ 1 ∷ 3 ∷ 4 ∷ []) (0 ∷ 0 ∷ 0 ∷ []) (1 ∷ []) (97 ∷ []) (3 ∷ []))
    ∷ gives 2 (laid 1 (0 ∷ 1 ∷ []) (0 ∷ 1 ∷ 3 ∷ []) (0 ∷ 0 ∷ []) (1 ∷ []) (97 ∷ []) (3 ∷ []))
    ∷ gives 2 (laid 1 (0 ∷ 1 ∷ []) (0 ∷ 1 ∷ 3 ∷ []) (0 ∷ 0 ∷ 0 ∷ 0 ∷ []) (1 ∷ []) (97 ∷ []) (3 ∷ []))
    ∷ gives 2 (laid 1 (0 ∷ 1 ∷ []) (0 ∷ 1 ∷ 3 ∷ []) (0 ∷ 0 ∷ 0 ∷ []) [] [] (3 ∷ []))
    ∷ gives 2 (laid 1 (0 ∷ 1 ∷ []) (0 ∷ 1 ∷ 3 ∷ []) (0 ∷ 0 ∷ 0 ∷ []) (1 ∷ 0 ∷ []) (97 ∷ []) (3 ∷ []))
    ∷ gives 2 (laid 1 (0 ∷ 1 ∷ []) (0 ∷ 1 ∷ 3 ∷ []) (0 ∷ 0 ∷ 0 ∷ []) (2 ∷ []) (97 ∷ []) (3 ∷ []))
    ∷ gives 2 (laid 1 (0 ∷ 1 ∷ []) (0 ∷ 1 ∷ 3 ∷ []) (0 ∷ 0 ∷ 0 ∷ []) (1 ∷ []) (97 ∷ 97 ∷ []) (3 ∷ []))
    ∷ gives 2 (laid 1 (0 ∷ 1 ∷ []) (0 ∷ 1 ∷ 3 ∷ []) (0 ∷ 0 ∷ 0 ∷ []) (1 ∷ []) (97 ∷ []) [])
    ∷ gives 2 (laid 1 (0 ∷ 1 ∷ []) (0 ∷ 1 ∷ 3 ∷ []) (0 ∷ 0 ∷ 0 ∷ []) (1 ∷ []) (97 ∷ []) (3 ∷ 0 ∷ []))
    -- only flag 1 adds alive words: flag 0 and flag 2 add none
    ∷ gives 0 (laid 0 (0 ∷ 1 ∷ []) (0 ∷ 1 ∷ 3 ∷ []) (0 ∷ 0 ∷ 0 ∷ []) (1 ∷ []) (97 ∷ []) [])
    ∷ gives 2 (laid 0 (0 ∷ 1 ∷ []) (0 ∷ 1 ∷ 3 ∷ []) (0 ∷ 0 ∷ 0 ∷ []) (1 ∷ []) (97 ∷ []) (3 ∷ []))
    ∷ gives 3 (laid 2 (0 ∷ 1 ∷ []) (0 ∷ 1 ∷ 3 ∷ []) (0 ∷ 0 ∷ 0 ∷ []) (1 ∷ []) (97 ∷ []) [])
    ∷ gives 2 (laid 2 (0 ∷ 1 ∷ []) (0 ∷ 1 ∷ 3 ∷ []) (0 ∷ 0 ∷ 0 ∷ []) (1 ∷ []) (97 ∷ []) (3 ∷ []))
    ∷ []

length_cases_hold : map (λ c. number_for c.lent) length_cases ≡ map (λ c. c.number) length_cases
unfolding number_for length_cases
length_cases_hold = refl

-- ---- 3: unknown mode, type, required type, kind or flag; type 255 with a kind or lengths

code_cases : List AnswerCase
code_cases =
    -- modes 0 and 1 are known
    gives 0 (in_order 255 [] [])
    ∷ gives 3 (lent_to (call [] 2 255 []) [])
    -- the known types, and some that are not, as the required one
    ∷ gives 0 (stacked 0 [])
    ∷ gives 0 (stacked 1 [])
    ∷ gives 0 (stacked 2 [])
    ∷ gives 0 (stacked 3 [])
    ∷ gives 0 (stacked 4 [])
    ∷ gives 0 (stacked 5 [])
    ∷ gives 0 (stacked 6 [])
    ∷ gives 0 (stacked 7 [])
    ∷ gives 3 (stacked 8 [])
    ∷ gives 3 (stacked 254 [])
    ∷ gives 3 (stacked 256 [])
    -- an unknown type, kind and flag, in the second segment
    ∷ gives 3 (stacked 255 (one 1 5 ∷ full 8 [] ∷ []))
    ∷ gives 3 (stacked 255 (one 1 5 ∷ plain 1 5 0 [] (0 ∷ []) [] [] ∷ []))
    ∷ gives 3 (lent_of 0 255 (numbered ((255 ∷ 0 ∷ 1 ∷ 0 ∷ 0 ∷ 0 ∷ 0 ∷ 0 ∷ 1 ∷ 0 ∷ 0 ∷ []) ∷ (255 ∷ 0 ∷ 1 ∷ 0 ∷ 0 ∷ 0 ∷ 0 ∷ 2 ∷ 1 ∷ 0 ∷ 0 ∷ []) ∷ [])) [] [] [] [] [] [] [] (memory 12 12))
    -- type 255 with a kind whose lists fit, and with each of the lists
    ∷ gives 3 (alone (plain 255 1 0 [] [] [] []))
    ∷ gives 3 (alone (plain 255 2 1 [] [] [] []))
    ∷ gives 3 (alone (plain 255 0 1 (0 ∷ []) [] [] []))
    ∷ gives 3 (alone (plain 255 0 1 [] (0 ∷ []) [] []))
    ∷ gives 3 (alone (plain 255 0 1 [] [] (5 ∷ []) []))
    ∷ gives 3 (alone (plain 255 0 1 [] [] [] (a ∷ [])))
    ∷ []

code_cases_hold : map (λ c. number_for c.lent) code_cases ≡ map (λ c. c.number) code_cases
unfolding number_for code_cases
code_cases_hold = refl

-- ---- 19: a record of kind 3; "tested right after 3"

old_cases : List AnswerCase
old_cases =
    -- in the second segment; of 0 rows; with an alive set, in a join as the addresses say
    gives 19 (stacked 255 (one 1 5 ∷ old_five ∷ []))
    ∷ gives 19 (alone (plain 1 3 0 [] (0 ∷ []) [] []))
    ∷ gives 19 (in_order 255 (with_alive (5 ∷ []) old_five ∷ []) (at 0 2 ∷ at 0 0 ∷ []))
    -- all its rows withdrawn; without any offset
    ∷ gives 19 (in_order 255 (with_alive (0 ∷ []) old_five ∷ []) [])
    ∷ gives 19 (alone (plain 1 3 1 [] [] [] []))
    -- 1, 2 and 3 come before it: 257 records of kind 3; a value that is not there; type 9 beside it; type 255; an unknown mode and required type
    ∷ gives 1 (stacked 255 (replicate 257 old_five))
    ∷ gives 2 (lent_of 0 255 (numbered ((1 ∷ 3 ∷ 1 ∷ 0 ∷ 2 ∷ 1 ∷ 0 ∷ 0 ∷ 1 ∷ 0 ∷ 0 ∷ []) ∷ [])) [] (0 ∷ 1 ∷ []) [] [] [] [] [] (memory 12 12))
    ∷ gives 3 (stacked 255 (old_five ∷ one 9 5 ∷ []))
    ∷ gives 3 (alone (plain 255 3 0 [] [] [] []))
    ∷ gives 3 (lent_to (call [] 2 255 []) (old_five ∷ []))
    ∷ gives 3 (stacked 8 (old_five ∷ []))
    -- it comes before 4 to 7: ids 1 1 beside it; lists of its own that are wrong; a Bool above 1; an alive set in a stacked join; too many rows
    ∷ gives 19 (stacked 255 (plain 1 2 2 (1 ∷ 1 ∷ []) [] (5 ∷ 6 ∷ []) [] ∷ old_five ∷ []))
    ∷ gives 19 (alone (plain 1 3 3 [] (0 ∷ 2 ∷ 1 ∷ 3 ∷ []) (5 ∷ 6 ∷ 7 ∷ []) []))
    ∷ gives 19 (alone (plain 5 3 1 [] (0 ∷ 1 ∷ []) (2 ∷ []) []))
    ∷ gives 19 (stacked 255 (with_alive (1 ∷ []) (one 1 5) ∷ old_five ∷ []))
    ∷ gives 19 (stacked 255 (none 4294967295 ∷ old_five ∷ []))
    -- no other kind is meant
    ∷ gives 0 (stacked 255 (none 1 ∷ one 1 5 ∷ nine ∷ five ∷ []))
    ∷ []

old_cases_hold : map (λ c. number_for c.lent) old_cases ≡ map (λ c. c.number) old_cases
unfolding number_for old_cases
old_cases_hold = refl

-- ---- 4: ids not ascending or not below rows; wrong number of ids, offsets or values; offsets not from 0 or not rising (kind 4). Kind 3 is the converter's (ConvertCases)

list_cases : List AnswerCase
list_cases =
    -- Empty has no lists
    gives 0 (alone (plain 1 0 1 [] [] [] []))
    ∷ gives 4 (alone (plain 1 0 1 (0 ∷ []) [] [] []))
    ∷ gives 4 (alone (plain 1 0 1 [] (0 ∷ []) [] []))
    ∷ gives 4 (alone (plain 1 0 1 [] [] (5 ∷ []) []))
    -- Full has a value for each row, and nothing else
    ∷ gives 4 (alone (plain 1 1 1 (0 ∷ []) [] (5 ∷ []) []))
    ∷ gives 4 (alone (plain 1 1 1 [] (0 ∷ []) (5 ∷ []) []))
    ∷ gives 4 (alone (plain 1 1 2 [] [] (5 ∷ []) []))
    ∷ gives 4 (alone (plain 1 1 1 [] [] (5 ∷ 6 ∷ []) []))
    -- Optional has a value for each id, and no offsets
    ∷ gives 4 (alone (plain 1 2 1 (0 ∷ []) (0 ∷ 1 ∷ []) (5 ∷ []) []))
    ∷ gives 4 (alone (plain 1 2 2 (0 ∷ 1 ∷ []) [] (5 ∷ []) []))
    ∷ gives 4 (alone (plain 1 2 2 (0 ∷ []) [] (5 ∷ 6 ∷ []) []))
    -- its ids ascend, each above the one before it, and are below the rows
    ∷ gives 4 (alone (plain 1 2 3 (0 ∷ 2 ∷ 1 ∷ []) [] (5 ∷ 6 ∷ 7 ∷ []) []))
    ∷ gives 4 (alone (plain 1 2 3 (0 ∷ 2 ∷ 2 ∷ []) [] (5 ∷ 6 ∷ 7 ∷ []) []))
    ∷ gives 4 (alone (plain 1 2 2 (0 ∷ 2 ∷ []) [] (5 ∷ 6 ∷ []) []))
    -- kind 4's ids ascend and are below the rows
    ∷ gives 4 (alone (plain 1 4 2 (1 ∷ 1 ∷ []) (0 ∷ 1 ∷ 2 ∷ []) (5 ∷ 6 ∷ []) []))
    ∷ gives 4 (alone (plain 1 4 2 (2 ∷ []) (0 ∷ 1 ∷ []) (5 ∷ []) []))
    -- one offset more than ids, also of no ids
    ∷ gives 0 (alone (plain 1 4 1 [] (0 ∷ []) [] []))
    ∷ gives 4 (alone (plain 1 4 1 [] [] [] []))
    ∷ gives 4 (alone (plain 1 4 2 (0 ∷ 1 ∷ []) (0 ∷ 2 ∷ []) (5 ∷ 6 ∷ []) []))
    ∷ gives 4 (alone (plain 1 4 2 (0 ∷ []) (0 ∷ 1 ∷ 2 ∷ []) (5 ∷ 6 ∷ []) []))
    -- they begin with 0, rise, and end with the number of values
    ∷ gives 4 (alone (plain 1 4 1 (0 ∷ []) (1 ∷ 2 ∷ []) (5 ∷ 6 ∷ []) []))
    ∷ gives 4 (alone (plain 1 4 2 (0 ∷ 1 ∷ []) (0 ∷ 0 ∷ 1 ∷ []) (5 ∷ []) []))
    ∷ gives 4 (alone (plain 1 4 1 (0 ∷ []) (0 ∷ 1 ∷ []) (5 ∷ 6 ∷ []) []))
    ∷ gives 4 (alone (plain 1 4 1 (0 ∷ []) (0 ∷ 2 ∷ []) (5 ∷ []) []))
    -- in the second segment
    ∷ gives 4 (stacked 255 (one 1 5 ∷ plain 1 1 2 [] [] (5 ∷ []) [] ∷ []))
    ∷ []

list_cases_hold : map (λ c. number_for c.lent) list_cases ≡ map (λ c. c.number) list_cases
unfolding number_for list_cases
list_cases_hold = refl

-- ---- 5: Bool above 1, ordinal not below the terms, terms not strictly ascending, terms on another type or on kind 0 (an untrue pair: PairCases)

value_cases : List AnswerCase
value_cases =
    -- a Bool above 1, the second value too
    gives 5 (alone (full 5 (1 ∷ 2 ∷ [])))
    -- an ordinal not below the terms, of Str and of Bytes, the second value too
    ∷ gives 5 (alone (str (0 ∷ 1 ∷ []) (a ∷ [])))
    ∷ gives 5 (alone (plain 3 1 1 [] [] (1 ∷ []) (a ∷ [])))
    ∷ gives 5 (alone (str (0 ∷ []) []))
    -- terms ascend strictly and bytewise, each above the one before it
    ∷ gives 0 (alone (str (0 ∷ []) ([] ∷ a ∷ (97 ∷ 97 ∷ []) ∷ b ∷ (255 ∷ []) ∷ [])))
    ∷ gives 5 (alone (str (0 ∷ []) (a ∷ a ∷ [])))
    ∷ gives 5 (alone (str (0 ∷ []) ((97 ∷ 97 ∷ []) ∷ a ∷ [])))
    ∷ gives 5 (alone (str (0 ∷ []) (a ∷ (99 ∷ []) ∷ b ∷ [])))
    ∷ gives 5 (alone (str (0 ∷ []) ((255 ∷ []) ∷ a ∷ [])))
    ∷ gives 5 (alone (plain 3 1 1 [] [] (0 ∷ []) (b ∷ a ∷ [])))
    -- terms on another type, and on kind 0
    ∷ gives 5 (alone (plain 6 1 1 [] [] (0 ∷ []) (a ∷ [])))
    ∷ gives 5 (alone (plain 1 1 1 [] [] (0 ∷ []) (a ∷ [])))
    ∷ gives 5 (alone (plain 5 1 1 [] [] (0 ∷ []) (a ∷ [])))
    ∷ gives 5 (alone (plain 7 1 1 [] [] (0 ∷ []) (a ∷ [])))
    ∷ gives 5 (alone (plain 4 0 1 [] [] [] (a ∷ [])))
    ∷ gives 0 (alone (plain 4 0 1 [] [] [] []))
    -- in the second segment
    ∷ gives 5 (stacked 255 (one 5 1 ∷ one 5 2 ∷ []))
    ∷ []

value_cases_hold : map (λ c. number_for c.lent) value_cases ≡ map (λ c. c.number) value_cases
unfolding number_for value_cases
value_cases_hold = refl

-- ---- 6: an alive bit past the rows, a wrong number of alive rows, or an alive set in a stacked join

alive_cases : List AnswerCase
alive_cases =
    -- bit 1 of 1 row, in the second segment; bit 65 of 65 rows
    gives 6 (in_order 255 (with_alive (1 ∷ []) (one 1 5) ∷ with_alive (3 ∷ []) (one 1 5) ∷ []) (at 0 0 ∷ at 1 0 ∷ []))
    ∷ gives 6 (lending (memory 12 65) (in_order 255 (with_alive (1 ∷ 2 ∷ []) (none 65) ∷ []) (at 0 0 ∷ [])))
    -- stacked: an alive set of all rows, in the second segment, and one of 0 rows, which has no words
    ∷ gives 6 (stacked 255 (one 1 5 ∷ with_alive (1 ∷ []) (one 1 5) ∷ []))
    ∷ gives 6 (stacked 255 (with_alive [] (none 0) ∷ []))
    -- and where the number is right among the rows
    ∷ gives 6 (in_order 255 (counted 1 (with_alive (3 ∷ []) (one 1 5)) ∷ []) (at 0 0 ∷ []))
    -- without an alive set the number is the rows, in both modes, of no column and of a dropped one too; before 7
    ∷ gives 0 (stacked 255 (counted 1 (one 1 5) ∷ counted 2 (none 2) ∷ []))
    ∷ gives 6 (alone (counted 0 (one 1 5)))
    ∷ gives 6 (in_order 255 (counted 0 (one 1 5) ∷ []) (at 0 0 ∷ []))
    ∷ gives 6 (in_order 255 (counted 0 (one 1 5) ∷ []) [])
    ∷ gives 6 (alone (counted 2 (one 1 5)))
    ∷ gives 6 (alone (counted 1 (none 2)))
    ∷ gives 6 (alone (counted 1 (dropped 1 2)))
    ∷ gives 6 (alone (counted 1 (none 0)))
    ∷ gives 6 (alone (counted 0 (none 4294967295)))
    -- with one it is the set bits, not the rows: one less, and one more, which is the rows; of two words
    ∷ gives 0 (in_order 255 (counted 1 (with_alive (2 ∷ []) nine) ∷ []) (at 0 1 ∷ []))
    ∷ gives 6 (in_order 255 (counted 0 (with_alive (2 ∷ []) nine) ∷ []) (at 0 1 ∷ []))
    ∷ gives 6 (in_order 255 (counted 2 (with_alive (2 ∷ []) nine) ∷ []) (at 0 1 ∷ []))
    ∷ gives 0 (lending (memory 12 66) (in_order 255 (counted 3 (with_alive (0x8000000000000001 ∷ 2 ∷ []) (none 66)) ∷ []) (at 0 65 ∷ at 0 0 ∷ at 0 63 ∷ [])))
    ∷ gives 6 (lending (memory 12 66) (in_order 255 (counted 2 (with_alive (0x8000000000000001 ∷ 2 ∷ []) (none 66)) ∷ []) (at 0 65 ∷ at 0 0 ∷ at 0 63 ∷ [])))
    -- all rows withdrawn
    ∷ gives 0 (in_order 255 (counted 0 (with_alive (0 ∷ []) nine) ∷ []) [])
    ∷ gives 6 (in_order 255 (counted 2 (with_alive (0 ∷ []) nine) ∷ []) [])
    -- each segment's own: the sum of two that are wrong is right
    ∷ gives 6 (stacked 255 (counted 0 (one 1 5) ∷ counted 2 (one 1 5) ∷ []))
    ∷ gives 6 (in_order 255 (counted 0 (one 1 5) ∷ counted 2 (one 1 5) ∷ []) (at 0 0 ∷ at 1 0 ∷ []))
    -- 5 comes before it, and 19
    ∷ gives 19 (stacked 255 (counted 0 (one 1 5) ∷ old_five ∷ []))
    ∷ gives 5 (stacked 255 (counted 0 (one 5 1) ∷ one 5 2 ∷ []))
    ∷ []

alive_cases_hold : map (λ c. number_for c.lent) alive_cases ≡ map (λ c. c.number) alive_cases
unfolding number_for alive_cases
alive_cases_hold = refl

-- ---- 7: rows, values or term bytes sum above 4294967294

sum_cases : List AnswerCase
sum_cases =
    -- rows of no column, of a dropped one, and of two segments
    gives 7 (in_order 255 (none 4294967295 ∷ []) [])
    ∷ gives 7 (in_order 255 (dropped 1 4294967295 ∷ []) [])
    ∷ gives 7 (in_order 255 (none 2147483647 ∷ none 2147483648 ∷ []) [])
    ∷ []

sum_cases_hold : map (λ c. number_for c.lent) sum_cases ≡ map (λ c. c.number) sum_cases
unfolding number_for sum_cases
sum_cases_hold = refl

-- the check alone: what follows it would list each row
above_sum : List Segment → Bool
unfolding sums_too_large
above_sum ss = sums_too_large ss

-- 4294967294 rows are not too many, of one segment and of two
fewer_rows : (above_sum (none 4294967294 ∷ []) ∷ above_sum (none 2147483647 ∷ none 2147483647 ∷ []) ∷ []) ≡ (false ∷ false ∷ [])
unfolding above_sum
fewer_rows = refl

-- So many values, or term bytes, are no list that can be computed: these hold of any list that is as long, beside a segment with one value and one byte
many-values : (values : List ℕ) → length values ≡ 4294967294 → above_sum (plain 4 4 1 [] [] values [] ∷ str (0 ∷ []) (a ∷ []) ∷ []) ≡ true
unfolding above_sum
many-values values h = rw h refl

fewer_values : (values : List ℕ) → length values ≡ 4294967293 → above_sum (plain 4 4 1 [] [] values [] ∷ str (0 ∷ []) (a ∷ []) ∷ []) ≡ false
unfolding above_sum
fewer_values values h = rw h refl

-- addresses are counted, and not their words
many-addresses : (values : List ℕ) → length values ≡ 4294967294 → above_sum (plain 6 1 4294967294 [] [] values [] ∷ plain 6 2 0 (0 ∷ []) [] (5 ∷ []) [] ∷ []) ≡ true
unfolding above_sum
many-addresses values h = rw h refl

fewer_addresses : (values : List ℕ) → length values ≡ 4294967293 → above_sum (plain 6 1 4294967293 [] [] values [] ∷ plain 6 2 0 (0 ∷ []) [] (5 ∷ []) [] ∷ []) ≡ false
unfolding above_sum
fewer_addresses values h = rw h refl

many-bytes : (terms : List (List ℕ)) → length (concat terms) ≡ 4294967294 → above_sum (plain 4 4 1 [] [] [] terms ∷ str (0 ∷ []) (a ∷ []) ∷ []) ≡ true
unfolding above_sum
many-bytes terms h = rw h refl

fewer_bytes : (terms : List (List ℕ)) → length (concat terms) ≡ 4294967293 → above_sum (plain 4 4 1 [] [] [] terms ∷ str (0 ∷ []) (a ∷ []) ∷ []) ≡ false
unfolding above_sum
fewer_bytes terms h = rw h refl

-- ---- 8: ordered, working bytes fewer than all rows plus all terms

working_cases : List AnswerCase
working_cases =
    -- rows plus terms
    gives 8 (lending (memory 12 2) (in_order 255 (str (0 ∷ []) (a ∷ b ∷ []) ∷ []) (at 0 0 ∷ [])))
    ∷ gives 0 (lending (memory 12 3) (in_order 255 (str (0 ∷ []) (a ∷ b ∷ []) ∷ []) (at 0 0 ∷ [])))
    -- a term counts once, whatever its bytes
    ∷ gives 0 (lending (memory 12 2) (in_order 255 (str (0 ∷ []) ((97 ∷ 97 ∷ []) ∷ []) ∷ []) (at 0 0 ∷ [])))
    -- of both segments
    ∷ gives 8 (lending (memory 12 3) (in_order 255 (str (0 ∷ []) (a ∷ []) ∷ str (0 ∷ []) (a ∷ []) ∷ []) (at 0 0 ∷ at 1 0 ∷ [])))
    -- a dropped column's terms and rows, withdrawn rows, and rows of no column count
    ∷ gives 8 (lending (memory 12 1) (in_order 255 (plain 4 2 1 [] [] [] (a ∷ []) ∷ []) (at 0 0 ∷ [])))
    ∷ gives 8 (lending (memory 12 1) (in_order 255 (with_alive (1 ∷ []) (full 1 (5 ∷ 6 ∷ [])) ∷ []) (at 0 0 ∷ [])))
    ∷ gives 8 (lending (memory 12 1) (in_order 255 (none 2 ∷ []) (at 0 0 ∷ at 0 1 ∷ [])))
    -- stacked, none is needed
    ∷ gives 0 (lending (memory 12 0) (stacked 255 (str (0 ∷ []) (a ∷ []) ∷ [])))
    ∷ []

working_cases_hold : map (λ c. number_for c.lent) working_cases ≡ map (λ c. c.number) working_cases
unfolding number_for working_cases
working_cases_hold = refl

-- ---- 9: an address absent from the segments, withdrawn or repeated; an alive row not listed; any address when stacked

address_cases : List AnswerCase
address_cases =
    -- no such segment, no such row
    gives 9 (in_order 255 (one 1 5 ∷ []) (at 0 0 ∷ at 1 0 ∷ []))
    ∷ gives 9 (in_order 255 (one 1 5 ∷ []) (at 0 0 ∷ at 0 1 ∷ []))
    ∷ gives 9 (in_order 255 [] (at 0 0 ∷ []))
    -- withdrawn
    ∷ gives 9 (in_order 255 (with_alive (1 ∷ []) (full 1 (5 ∷ 6 ∷ [])) ∷ []) (at 0 0 ∷ at 0 1 ∷ []))
    -- repeated, though all rows are listed
    ∷ gives 9 (in_order 255 (one 1 5 ∷ []) (at 0 0 ∷ at 0 0 ∷ []))
    ∷ gives 9 (in_order 255 (nine ∷ []) (at 0 0 ∷ at 0 1 ∷ at 0 0 ∷ []))
    ∷ gives 9 (in_order 255 (nine ∷ []) (at 0 0 ∷ at 0 1 ∷ at 0 1 ∷ []))
    -- the same row of two segments is not repeated, nor are two rows of one
    ∷ gives 0 (in_order 255 (nine ∷ nine ∷ []) (at 1 0 ∷ at 0 1 ∷ at 0 0 ∷ at 1 1 ∷ []))
    -- an alive row not listed: the last, the second segment's, one of no column
    ∷ gives 9 (in_order 255 (nine ∷ []) (at 0 0 ∷ []))
    ∷ gives 9 (in_order 255 (one 1 5 ∷ with_alive (2 ∷ []) nine ∷ []) (at 0 0 ∷ []))
    ∷ gives 9 (in_order 255 (one 1 5 ∷ none 1 ∷ []) (at 0 0 ∷ []))
    -- any address when stacked
    ∷ gives 9 (lent_to (call [] 0 255 (at 0 0 ∷ [])) (one 1 5 ∷ []))
    ∷ []

address_cases_hold : map (λ c. number_for c.lent) address_cases ≡ map (λ c. c.number) address_cases
unfolding number_for address_cases
address_cases_hold = refl

-- ---- 10: present or required types of two categories, or a held column that can't be coerced

type_cases : List AnswerCase
type_cases =
    -- each type that is not numerical is a category alone
    gives 10 (stacked 255 (plain 3 1 1 [] [] (0 ∷ []) (a ∷ []) ∷ str (0 ∷ []) (a ∷ []) ∷ []))
    ∷ gives 10 (stacked 255 (one 1 5 ∷ one 2 5 ∷ plain 3 1 1 [] [] (0 ∷ []) (a ∷ []) ∷ []))
    ∷ gives 10 (stacked 255 (one 7 5 ∷ one 0 5 ∷ []))
    ∷ gives 10 (stacked 255 (one 5 1 ∷ one 7 5 ∷ []))
    ∷ gives 10 (stacked 255 (one 5 1 ∷ one 1 1 ∷ []))
    -- of dropped columns too
    ∷ gives 10 (stacked 255 (dropped 3 1 ∷ dropped 4 1 ∷ []))
    ∷ gives 10 (stacked 255 (one 2 5 ∷ dropped 3 1 ∷ []))
    ∷ gives 10 (stacked 255 (dropped 7 1 ∷ one 0 5 ∷ []))
    ∷ gives 10 (stacked 255 (dropped 5 1 ∷ one 1 1 ∷ []))
    -- the required type's category against a present column, held or dropped
    ∷ gives 10 (stacked 5 (one 1 1 ∷ []))
    ∷ gives 10 (stacked 5 (dropped 1 1 ∷ []))
    ∷ gives 0 (stacked 5 (none 1 ∷ []))
    ∷ gives 0 (stacked 0 (dropped 2 1 ∷ []))
    -- a held F64 column becomes no other type
    ∷ gives 10 (stacked 0 (one 2 0 ∷ []))
    ∷ gives 10 (stacked 1 (one 2 0 ∷ []))
    -- a negative I64 value doesn't become U64, the least one and the second value too
    ∷ gives 10 (stacked 1 (full 0 (5 ∷ 0xffffffffffffffff ∷ []) ∷ []))
    ∷ gives 10 (stacked 1 (one 1 5 ∷ one 0 0x8000000000000000 ∷ []))
    -- a U64 value above 9223372036854775807 doesn't become I64, the second one too
    ∷ gives 10 (stacked 0 (full 1 (5 ∷ 9223372036854775808 ∷ []) ∷ []))
    ∷ []

type_cases_hold : map (λ c. number_for c.lent) type_cases ≡ map (λ c. c.number) type_cases
unfolding number_for type_cases
type_cases_hold = refl

-- ---- 11: an output shorter than its list; for terms and map, than the held columns' sums

-- lent memory: ids, offsets, values, term lengths, term bytes, map
abbrev lent_space : ℕ → ℕ → ℕ → ℕ → ℕ → ℕ → Buffers
lent_space ids offsets values term_lengths term_bytes m =
    record {
      ids = replicate ids 9;
      offsets = replicate offsets 9;
      values = replicate values 9;
      term_lengths = replicate term_lengths 9;
      term_bytes = replicate term_bytes 9;
      map = replicate m 9;
      working = replicate 12 9;
    }

-- Str kind 4, 2 rows of 2 and no values, terms aa b: 1 id, 2 offsets, 2 values, 2 terms of 3 bytes, a map of 2
abbrev multi : Lent
multi = alone (plain 4 4 2 (0 ∷ []) (0 ∷ 2 ∷ []) (0 ∷ 1 ∷ []) ((97 ∷ 97 ∷ []) ∷ b ∷ []))

-- two segments with term a each: 2 values, 1 term, and sums of 2
abbrev twice : Lent
twice = stacked 255 (str (0 ∷ []) (a ∷ []) ∷ str (0 ∷ []) (a ∷ []) ∷ [])

space_cases : List AnswerCase
space_cases =
    -- as much as the lists need, and each output one element shorter
    gives 0 (lending (lent_space 1 2 2 2 3 2) multi)
    ∷ gives 11 (lending (lent_space 0 2 2 2 3 2) multi)
    ∷ gives 11 (lending (lent_space 1 1 2 2 3 2) multi)
    ∷ gives 11 (lending (lent_space 1 2 1 2 3 2) multi)
    ∷ gives 11 (lending (lent_space 1 2 2 1 3 2) multi)
    ∷ gives 11 (lending (lent_space 1 2 2 2 2 2) multi)
    ∷ gives 11 (lending (lent_space 1 2 2 2 3 1) multi)
    -- terms and map by the held columns' sums, not by the joined terms
    ∷ gives 0 (lending (lent_space 0 0 2 2 2 2) twice)
    ∷ gives 11 (lending (lent_space 0 0 2 1 2 2) twice)
    ∷ gives 11 (lending (lent_space 0 0 2 2 1 2) twice)
    ∷ gives 11 (lending (lent_space 0 0 2 2 2 1) twice)
    -- a dropped column's terms need no space
    ∷ gives 0 (lending (lent_space 1 0 1 1 1 1) (stacked 255 (plain 4 2 1 [] [] [] (a ∷ []) ∷ str (0 ∷ []) (b ∷ []) ∷ [])))
    -- terms that are not kept do
    ∷ gives 11 (lending (lent_space 0 0 1 1 2 2) (in_order 255 (with_alive (2 ∷ []) (str (0 ∷ 1 ∷ []) (a ∷ b ∷ [])) ∷ []) (at 0 1 ∷ [])))
    ∷ gives 11 (lending (lent_space 0 0 1 2 1 2) (in_order 255 (with_alive (2 ∷ []) (str (0 ∷ 1 ∷ []) (a ∷ b ∷ [])) ∷ []) (at 0 1 ∷ [])))
    -- withdrawn values need none
    ∷ gives 0 (lending (lent_space 0 0 1 0 0 0) (in_order 255 (with_alive (4 ∷ []) five ∷ []) (at 0 2 ∷ [])))
    ∷ []

space_cases_hold : map (λ c. number_for c.lent) space_cases ≡ map (λ c. c.number) space_cases
unfolding number_for space_cases
space_cases_hold = refl

-- ---- checks run in their order, each over all segments: of two that fail the first one answers (19: above)

order_cases : List AnswerCase
order_cases =
    -- 1 and 2: 257 records that announce a value each
    gives 1 (lent_of 0 255 (numbered (replicate 257 (1 ∷ 1 ∷ 1 ∷ 0 ∷ 0 ∷ 1 ∷ 0 ∷ 0 ∷ 1 ∷ 0 ∷ 0 ∷ []))) [] [] [] [] [] [] [] (memory 12 12))
    -- 2 and 3: type 8 with a value that is not there
    ∷ gives 2 (lent_of 0 255 (numbered ((8 ∷ 1 ∷ 1 ∷ 0 ∷ 0 ∷ 1 ∷ 0 ∷ 0 ∷ 1 ∷ 0 ∷ 0 ∷ []) ∷ [])) [] [] [] [] [] [] [] (memory 12 12))
    -- 3 and 4: the first segment has a value too few, and the second has type 8
    ∷ gives 3 (stacked 255 (plain 1 1 2 [] [] (5 ∷ []) [] ∷ one 8 5 ∷ []))
    -- 4 and 5: the first has a Bool above 1, and the second a value too few
    ∷ gives 4 (stacked 255 (one 5 2 ∷ plain 5 1 2 [] [] (1 ∷ []) [] ∷ []))
    -- 5 and 6: the first has an alive set, and the second a Bool above 1
    ∷ gives 5 (stacked 255 (with_alive (1 ∷ []) (one 5 1) ∷ one 5 2 ∷ []))
    -- 6 and 7: the first has too many rows, and the second an alive bit past its rows
    ∷ gives 6 (in_order 255 (none 4294967295 ∷ with_alive (2 ∷ []) (one 1 5) ∷ []) [])
    -- 7 and 8
    ∷ gives 7 (in_order 255 (none 4294967295 ∷ []) [])
    -- 8 and 9: 2 rows and 1 byte, and none listed
    ∷ gives 8 (lending (memory 12 1) (in_order 255 (nine ∷ []) []))
    -- 9 and 10: none listed, of Str and Bool
    ∷ gives 9 (in_order 255 (str (0 ∷ []) (a ∷ []) ∷ one 5 1 ∷ []) [])
    -- 10 and 11: no space, of Str and Bool
    ∷ gives 10 (lending (memory 0 12) (stacked 255 (str (0 ∷ []) (a ∷ []) ∷ one 5 1 ∷ [])))
    ∷ []

order_cases_hold : map (λ c. number_for c.lent) order_cases ≡ map (λ c. c.number) order_cases
unfolding number_for order_cases
order_cases_hold = refl
