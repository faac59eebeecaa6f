-- The converter by small cases (document 02, (k)): what it gives and leaves in the lent outputs, where nines stand before, and each of its answers with what just
-- passes it. Each table is proved by one computation. Assumes nothing.
use Rattle.std.specs.Prelude.{ℕ, ◌≡◌, refl, List, [], ◌∷◌, map, replicate}
use Rattle.definitions.specs.Words.{ip_addr_of}
use Rattle.definitions.specs.Segment.{Segment, SegmentRecord, Sections, Address, record_of, record_from, sections_of, address as at}
use Rattle.definitions.specs.Convert.{converted, is_convertible, convert_too_short, convert_checks, convert_answer, converted_to, unconverted, ConvertOutcome, convert_outcome}
use Rattle.definitions.specs.Sheet.{plain, with_alive, counted, with_pair, a, b, five, old_five, nine, outcome_of, accepts, carrying}
use Rattle.definitions.specs.Join.{Column, join_rules}

-- ---- how the tables are written

-- a call that is lent outputs of so many ids and offsets, all nines
given : ℕ → ℕ → SegmentRecord → Sections → ConvertOutcome
unfolding outcome_of converted is_convertible convert_too_short convert_checks convert_answer convert_outcome
given ids offsets r s = convert_outcome (record { given = r; sections = s; ids = ids; offsets = offsets }) (replicate ids 9) (replicate offsets 9)

-- a segment with its runs
conversion : ℕ → ℕ → Segment → ConvertOutcome
unfolding given
conversion ids offsets s = given ids offsets (record_of s) (sections_of (s ∷ []))

-- the converted segment's record, and the outputs
abbrev gives : List ℕ → List ℕ → List ℕ → ConvertOutcome
gives r ids offsets = record { answer = converted_to (record_from r); ids = ids; offsets = offsets }

-- a refusal leaves the outputs as they were
abbrev refuses : ℕ → ℕ → ℕ → ConvertOutcome
refuses n ids offsets = record { answer = unconverted n; ids = replicate ids 9; offsets = replicate offsets 9 }

record Case : Type 0 where
  call : ConvertOutcome
  expected : ConvertOutcome

abbrev case : ConvertOutcome → ConvertOutcome → Case
case call expected = record { call = call; expected = expected }

-- ---- what is given: type, kind, rows, ids, offsets, values, terms, flag, alive rows, least, greatest

conversions : List Case
conversions =
    -- C5's segment as it was; what stands beyond the lists stays
    case (conversion 3 4 old_five) (gives (1 ∷ 4 ∷ 3 ∷ 2 ∷ 3 ∷ 3 ∷ 0 ∷ 0 ∷ 3 ∷ 7 ∷ 9 ∷ []) (0 ∷ 2 ∷ 9 ∷ []) (0 ∷ 2 ∷ 3 ∷ 9 ∷ []))
    -- with as much space as the lists need
    ∷ case (conversion 2 3 old_five) (gives (1 ∷ 4 ∷ 3 ∷ 2 ∷ 3 ∷ 3 ∷ 0 ∷ 0 ∷ 3 ∷ 7 ∷ 9 ∷ []) (0 ∷ 2 ∷ []) (0 ∷ 2 ∷ 3 ∷ []))
    -- no rows; rows without values
    ∷ case (conversion 1 1 (plain 1 3 0 [] (0 ∷ []) [] [])) (gives (1 ∷ 4 ∷ 0 ∷ 0 ∷ 1 ∷ 0 ∷ 0 ∷ 0 ∷ 0 ∷ 0 ∷ 0 ∷ []) (9 ∷ []) (0 ∷ []))
    ∷ case (conversion 0 1 (plain 1 3 2 [] (0 ∷ 0 ∷ 0 ∷ []) [] [])) (gives (1 ∷ 4 ∷ 2 ∷ 0 ∷ 1 ∷ 0 ∷ 0 ∷ 0 ∷ 2 ∷ 0 ∷ 0 ∷ []) [] (0 ∷ []))
    -- rows without values at the start, in the middle and at the end
    ∷ case (conversion 5 5 (plain 0 3 5 [] (0 ∷ 0 ∷ 1 ∷ 1 ∷ 4 ∷ 4 ∷ []) (7 ∷ 8 ∷ 9 ∷ 6 ∷ []) []))
    (gives (0 ∷ 4 ∷ 5 ∷ 2 ∷ 3 ∷ 4 ∷ 0 ∷ 0 ∷ 5 ∷ 6 ∷ 9 ∷ []) (1 ∷ 3 ∷ 9 ∷ 9 ∷ 9 ∷ []) (0 ∷ 1 ∷ 4 ∷ 9 ∷ 9 ∷ []))
    -- every row has a value
    ∷ case (conversion 2 3 (plain 2 3 2 [] (0 ∷ 1 ∷ 2 ∷ []) (7 ∷ 8 ∷ []) [])) (gives (2 ∷ 4 ∷ 2 ∷ 2 ∷ 3 ∷ 2 ∷ 0 ∷ 0 ∷ 2 ∷ 0 ∷ 0 ∷ []) (0 ∷ 1 ∷ []) (0 ∷ 1 ∷ 2 ∷ []))
    -- an alive set is no fault, and a withdrawn row's values stay
    ∷ case (conversion 1 2 (with_alive (2 ∷ []) (plain 1 3 2 [] (0 ∷ 1 ∷ 1 ∷ []) (7 ∷ []) []))) (gives (1 ∷ 4 ∷ 2 ∷ 1 ∷ 2 ∷ 1 ∷ 0 ∷ 1 ∷ 1 ∷ 7 ∷ 7 ∷ []) (0 ∷ []) (0 ∷ 1 ∷ []))
    -- terms
    ∷ case (conversion 1 2 (plain 4 3 1 [] (0 ∷ 3 ∷ []) (1 ∷ 0 ∷ 1 ∷ []) (a ∷ b ∷ []))) (gives (4 ∷ 4 ∷ 1 ∷ 1 ∷ 2 ∷ 3 ∷ 2 ∷ 0 ∷ 1 ∷ 0 ∷ 0 ∷ []) (0 ∷ []) (0 ∷ 3 ∷ []))
    -- addresses: the record counts them, and not their words
    ∷ case (conversion 1 2 (plain 6 3 2 [] (0 ∷ 2 ∷ 2 ∷ []) (ip_addr_of 1 2 ∷ ip_addr_of 3 4 ∷ []) [])) (gives (6 ∷ 4 ∷ 2 ∷ 1 ∷ 2 ∷ 2 ∷ 0 ∷ 0 ∷ 2 ∷ 0 ∷ 0 ∷ []) (0 ∷ []) (0 ∷ 2 ∷ []))
    -- DateTime, Bytes and Bool
    ∷ case (conversion 1 2 (plain 7 3 1 [] (0 ∷ 1 ∷ []) (5 ∷ []) [])) (gives (7 ∷ 4 ∷ 1 ∷ 1 ∷ 2 ∷ 1 ∷ 0 ∷ 0 ∷ 1 ∷ 0 ∷ 0 ∷ []) (0 ∷ []) (0 ∷ 1 ∷ []))
    ∷ case (conversion 1 2 (plain 3 3 1 [] (0 ∷ 1 ∷ []) (0 ∷ []) (a ∷ []))) (gives (3 ∷ 4 ∷ 1 ∷ 1 ∷ 2 ∷ 1 ∷ 1 ∷ 0 ∷ 1 ∷ 0 ∷ 0 ∷ []) (0 ∷ []) (0 ∷ 1 ∷ []))
    ∷ case (conversion 1 2 (plain 5 3 1 [] (0 ∷ 1 ∷ []) (1 ∷ []) [])) (gives (5 ∷ 4 ∷ 1 ∷ 1 ∷ 2 ∷ 1 ∷ 0 ∷ 0 ∷ 1 ∷ 0 ∷ 0 ∷ []) (0 ∷ []) (0 ∷ 1 ∷ []))
    -- space for one id, or for two offsets
    ∷ case (conversion 1 3 old_five) (refuses 11 1 3)
    ∷ case (conversion 2 2 old_five) (refuses 11 2 2)
    ∷ []

conversions_hold : map (λ c. c.call) conversions ≡ map (λ c. c.expected) conversions
unfolding given conversion conversions
conversions_hold = refl

-- ---- each answer; "and n after it": that check fails too, and is not the answer

-- refused by n, of a call that is lent nine ids and nine offsets
abbrev answers : ℕ → ConvertOutcome → Case
answers n call = case call (refuses n 9 9)

-- one record of type 4 with one row, which is alive, as given: flag, numbers of ids, offsets, values and terms; then the sections
abbrev laid : ℕ → ℕ → ℕ → ℕ → ℕ → List ℕ → List ℕ → List ℕ → List ℕ → List ℕ → List ℕ → ConvertOutcome
laid flag i o v t ids offsets values term_lengths term_bytes alive =
    given 9 9 (record_from (4 ∷ 3 ∷ 1 ∷ i ∷ o ∷ v ∷ t ∷ flag ∷ 1 ∷ 0 ∷ 0 ∷ []))
    (record { ids = ids; offsets = offsets; values = values; term_lengths = term_lengths; term_bytes = term_bytes; alive = alive })

-- one row of the type, with so many values and the last offset; then the words of the values
abbrev listening : ℕ → ℕ → ℕ → List ℕ → ConvertOutcome
listening type v end words =
    given 9 9 (record_from (type ∷ 3 ∷ 1 ∷ 0 ∷ 2 ∷ v ∷ 0 ∷ 0 ∷ 1 ∷ 0 ∷ 0 ∷ []))
    (record { ids = []; offsets = 0 ∷ end ∷ []; values = words; term_lengths = []; term_bytes = []; alive = [] })

answer_cases : List Case
answer_cases =
    -- 2: as announced; then each section too short or too long
    case (laid 1 0 2 1 1 [] (0 ∷ 1 ∷ []) (0 ∷ []) (1 ∷ []) (97 ∷ []) (1 ∷ []))
    (gives (4 ∷ 4 ∷ 1 ∷ 1 ∷ 2 ∷ 1 ∷ 1 ∷ 1 ∷ 1 ∷ 0 ∷ 0 ∷ []) (0 ∷ replicate 8 9) (0 ∷ 1 ∷ replicate 7 9))
    ∷ answers 2 (laid 1 0 2 1 1 (0 ∷ []) (0 ∷ 1 ∷ []) (0 ∷ []) (1 ∷ []) (97 ∷ []) (1 ∷ []))
    ∷ answers 2 (laid 1 0 2 1 1 [] (0 ∷ []) (0 ∷ []) (1 ∷ []) (97 ∷ []) (1 ∷ []))
    ∷ answers 2 (laid 1 0 2 1 1 [] (0 ∷ 1 ∷ 1 ∷ []) (0 ∷ []) (1 ∷ []) (97 ∷ []) (1 ∷ []))
    ∷ answers 2 (laid 1 0 2 1 1 [] (0 ∷ 1 ∷ []) [] (1 ∷ []) (97 ∷ []) (1 ∷ []))
    ∷ answers 2 (laid 1 0 2 1 1 [] (0 ∷ 1 ∷ []) (0 ∷ []) [] [] (1 ∷ []))
    ∷ answers 2 (laid 1 0 2 1 1 [] (0 ∷ 1 ∷ []) (0 ∷ []) (2 ∷ []) (97 ∷ []) (1 ∷ []))
    ∷ answers 2 (laid 1 0 2 1 1 [] (0 ∷ 1 ∷ []) (0 ∷ []) (1 ∷ []) (97 ∷ []) [])
    ∷ answers 2 (laid 0 0 2 1 1 [] (0 ∷ 1 ∷ []) (0 ∷ []) (1 ∷ []) (97 ∷ []) (1 ∷ []))
    ∷ answers 2 (laid 1 1 2 1 1 [] (0 ∷ 1 ∷ []) (0 ∷ []) (1 ∷ []) (97 ∷ []) (1 ∷ []))
    ∷ answers 2 (laid 1 0 2 1 1 [] (0 ∷ 1 ∷ []) (0 ∷ 0 ∷ []) (1 ∷ []) (97 ∷ []) (1 ∷ []))
    ∷ answers 2 (laid 1 0 2 1 1 [] (0 ∷ 1 ∷ []) (0 ∷ []) (1 ∷ 0 ∷ []) (97 ∷ []) (1 ∷ []))
    ∷ answers 2 (laid 1 0 2 1 1 [] (0 ∷ 1 ∷ []) (0 ∷ []) (1 ∷ []) (97 ∷ 97 ∷ []) (1 ∷ []))
    ∷ answers 2 (laid 1 0 2 1 1 [] (0 ∷ 1 ∷ []) (0 ∷ []) (1 ∷ []) (97 ∷ []) (1 ∷ 0 ∷ []))
    -- 2, and 3 after it: kind 1 with a value that is not there
    ∷ answers 2 (given 9 9 (record_from (1 ∷ 1 ∷ 1 ∷ 0 ∷ 0 ∷ 1 ∷ 0 ∷ 0 ∷ 1 ∷ 5 ∷ 5 ∷ [])) (sections_of []))
    -- 2, and 3 after it: flag 2 adds no alive words
    ∷ answers 2 (laid 2 0 2 1 1 [] (0 ∷ 1 ∷ []) (0 ∷ []) (1 ∷ []) (97 ∷ []) (1 ∷ []))
    -- addresses: 2 counts words, one too few and one too many; an unknown type has one a value
    ∷ answers 2 (listening 6 1 1 (1 ∷ []))
    ∷ answers 2 (listening 6 1 1 (1 ∷ 2 ∷ 3 ∷ []))
    ∷ answers 2 (listening 8 1 1 (1 ∷ 2 ∷ []))
    -- 3: the flag; the type; no column, with lists and without; each other kind, and an unknown one
    ∷ answers 3 (laid 2 0 2 1 1 [] (0 ∷ 1 ∷ []) (0 ∷ []) (1 ∷ []) (97 ∷ []) [])
    ∷ answers 3 (conversion 9 9 (plain 8 3 1 [] (0 ∷ 1 ∷ []) (5 ∷ []) []))
    ∷ answers 3 (conversion 9 9 (plain 255 3 0 [] (0 ∷ []) [] []))
    ∷ answers 3 (conversion 9 9 (plain 255 3 0 [] [] [] []))
    ∷ answers 3 (conversion 9 9 (plain 255 0 3 [] [] [] []))
    ∷ answers 3 (conversion 9 9 (plain 1 0 1 [] [] [] []))
    ∷ answers 3 (conversion 9 9 (plain 1 1 1 [] [] (5 ∷ []) []))
    ∷ answers 3 (conversion 9 9 nine)
    ∷ answers 3 (conversion 9 9 five)
    ∷ answers 3 (conversion 9 9 (plain 1 5 3 [] (0 ∷ 2 ∷ 2 ∷ 3 ∷ []) (7 ∷ 8 ∷ 9 ∷ []) []))
    ∷ answers 3 (conversion 9 9 (plain 1 7 3 [] (0 ∷ 2 ∷ 2 ∷ 3 ∷ []) (7 ∷ 8 ∷ 9 ∷ []) []))
    -- 3, and 4 after it: kind 1 of a value too few
    ∷ answers 3 (conversion 9 9 (plain 1 1 2 [] [] (5 ∷ []) []))
    ∷ answers 3 (conversion 9 9 (plain 8 3 2 [] (0 ∷ 1 ∷ []) (5 ∷ []) []))
    -- 4: no ids, and rows + 1 offsets, also of 0 rows; 4294967295 rows would need more than a record can announce
    ∷ answers 4 (conversion 9 9 (plain 1 3 0 [] [] [] []))
    ∷ answers 4 (conversion 9 9 (plain 1 3 1 (0 ∷ []) (0 ∷ 1 ∷ []) (5 ∷ []) []))
    ∷ answers 4 (conversion 9 9 (plain 1 3 2 [] (0 ∷ 1 ∷ []) (5 ∷ []) []))
    ∷ answers 4 (conversion 9 9 (plain 1 3 1 [] (0 ∷ 1 ∷ 1 ∷ []) (5 ∷ []) []))
    ∷ answers 4 (conversion 9 9 (plain 1 3 4294967295 [] (0 ∷ []) [] []))
    -- they begin with 0, do not fall, and end with the number of values
    ∷ answers 4 (conversion 9 9 (plain 1 3 1 [] (1 ∷ 1 ∷ []) (5 ∷ []) []))
    ∷ answers 4 (conversion 9 9 (plain 1 3 1 [] (1 ∷ 3 ∷ []) (5 ∷ 6 ∷ 7 ∷ []) []))
    ∷ answers 4 (conversion 9 9 (plain 1 3 3 [] (0 ∷ 2 ∷ 1 ∷ 3 ∷ []) (5 ∷ 6 ∷ 7 ∷ []) []))
    ∷ answers 4 (conversion 9 9 (plain 1 3 1 [] (0 ∷ 1 ∷ []) (5 ∷ 6 ∷ []) []))
    ∷ answers 4 (conversion 9 9 (plain 1 3 1 [] (0 ∷ 2 ∷ []) (5 ∷ []) []))
    -- the number of addresses, not of their words
    ∷ answers 4 (listening 6 2 4 (1 ∷ 2 ∷ 3 ∷ 4 ∷ []))
    -- 4, and 5 after it
    ∷ answers 4 (conversion 9 9 (plain 5 3 2 [] (0 ∷ 1 ∷ []) (2 ∷ []) []))
    -- 5: a Bool above 1; an ordinal not below the terms; terms that fall; terms on another type; 6 after it
    ∷ answers 5 (conversion 9 9 (plain 5 3 1 [] (0 ∷ 1 ∷ []) (2 ∷ []) []))
    ∷ answers 5 (conversion 9 9 (plain 4 3 1 [] (0 ∷ 1 ∷ []) (1 ∷ []) (a ∷ [])))
    ∷ answers 5 (conversion 9 9 (plain 3 3 1 [] (0 ∷ 1 ∷ []) (0 ∷ []) (b ∷ a ∷ [])))
    ∷ answers 5 (conversion 9 9 (plain 1 3 1 [] (0 ∷ 1 ∷ []) (0 ∷ []) (a ∷ [])))
    ∷ answers 5 (conversion 9 9 (plain 6 3 1 [] (0 ∷ 1 ∷ []) (0 ∷ []) (a ∷ [])))
    ∷ answers 5 (conversion 9 9 (with_alive (2 ∷ []) (plain 5 3 1 [] (0 ∷ 1 ∷ []) (2 ∷ []) [])))
    -- an untrue pair: one that is a bound and not reached, the two exchanged, one of alive rows alone, one of no values, one of DateTime; 4 before it, 6 after it
    ∷ answers 5 (conversion 9 9 (with_pair 6 9 old_five))
    ∷ answers 5 (conversion 9 9 (with_pair 9 7 old_five))
    ∷ answers 5 (conversion 9 9 (with_pair 9 9 (with_alive (4 ∷ []) old_five)))
    ∷ answers 5 (conversion 9 9 (with_pair 0 1 (plain 0 3 1 [] (0 ∷ 0 ∷ []) [] [])))
    ∷ answers 5 (conversion 9 9 (with_pair 5 5 (plain 7 3 1 [] (0 ∷ 1 ∷ []) (5 ∷ []) [])))
    ∷ answers 4 (conversion 9 9 (with_pair 6 9 (plain 1 3 3 [] (0 ∷ 2 ∷ 1 ∷ 3 ∷ []) (7 ∷ 8 ∷ 9 ∷ []) [])))
    ∷ answers 5 (conversion 9 9 (counted 2 (with_pair 6 9 old_five)))
    -- 6: a bit past the rows; 11 after it
    ∷ case (conversion 0 0 (with_alive (4 ∷ []) (plain 1 3 2 [] (0 ∷ 1 ∷ 1 ∷ []) (7 ∷ []) []))) (refuses 6 0 0)
    ∷ answers 6 (conversion 9 9 (with_alive (0x8000000000000000 ∷ []) (plain 1 3 2 [] (0 ∷ 1 ∷ 1 ∷ []) (7 ∷ []) [])))
    -- a wrong number of alive rows: without an alive set, and with one; a number that is right among the rows, with a bit past them; 5 before it, 11 after it
    ∷ answers 6 (conversion 9 9 (counted 2 old_five))
    ∷ answers 6 (conversion 9 9 (counted 3 (with_alive (5 ∷ []) old_five)))
    ∷ answers 6 (conversion 9 9 (counted 1 (with_alive (5 ∷ []) (plain 1 3 2 [] (0 ∷ 1 ∷ 1 ∷ []) (7 ∷ []) []))))
    ∷ answers 5 (conversion 9 9 (counted 0 (plain 5 3 1 [] (0 ∷ 1 ∷ []) (2 ∷ []) [])))
    ∷ case (conversion 0 0 (counted 2 old_five)) (refuses 6 0 0)
    -- 11 alone
    ∷ case (conversion 0 9 old_five) (refuses 11 0 9)
    ∷ case (conversion 9 0 (plain 1 3 0 [] (0 ∷ []) [] [])) (refuses 11 9 0)
    ∷ []

answer_cases_hold : map (λ c. c.call) answer_cases ≡ map (λ c. c.expected) answer_cases
unfolding given conversion answer_cases
answer_cases_hold = refl

-- ---- the whole converted segment, its values, terms and alive words too

segment_of : Segment → Segment
unfolding outcome_of converted
segment_of s = converted s

segments_hold :
    (segment_of old_five
    ∷ segment_of (with_alive (5 ∷ []) old_five)
    ∷ segment_of (plain 4 3 2 [] (0 ∷ 0 ∷ 3 ∷ []) (1 ∷ 0 ∷ 1 ∷ []) (a ∷ b ∷ []))
    ∷ [])
    ≡ (five ∷ with_alive (5 ∷ []) five ∷ plain 4 4 2 (1 ∷ []) (0 ∷ 3 ∷ []) (1 ∷ 0 ∷ 1 ∷ []) (a ∷ b ∷ []) ∷ [])
unfolding segment_of
segments_hold = refl

-- ---- the old rule: what C5 to C8 gave in kind 3

old_join : ℕ → List Segment → List Address → Column
unfolding outcome_of
old_join mode ss addresses = (join_rules 255 mode ss addresses).column

old_joins_hold :
    (old_join 0 (old_five ∷ []) []
    ∷ old_join 1 (with_alive (5 ∷ []) old_five ∷ []) (at 0 2 ∷ at 0 0 ∷ [])
    ∷ old_join 1 (with_alive (4 ∷ []) old_five ∷ []) (at 0 2 ∷ [])
    ∷ old_join 1 (with_alive (2 ∷ []) old_five ∷ []) (at 0 1 ∷ [])
    ∷ [])
    ≡ ((carrying 7 9 (accepts 1 2 3 (0 ∷ 2 ∷ []) (0 ∷ 2 ∷ 3 ∷ []) (7 ∷ 8 ∷ 9 ∷ []) [] [])).column
    ∷ (carrying 7 9 (accepts 1 2 2 (0 ∷ 1 ∷ []) (0 ∷ 1 ∷ 3 ∷ []) (9 ∷ 7 ∷ 8 ∷ []) [] [])).column
    ∷ (carrying 9 9 (accepts 1 0 1 [] [] (9 ∷ []) [] [])).column
    ∷ (accepts 255 0 1 [] [] [] [] []).column
    ∷ [])
unfolding old_join
old_joins_hold = refl
