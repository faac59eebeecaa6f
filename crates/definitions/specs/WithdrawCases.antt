-- Withdraw and reinstate by small cases (document 02, (f)): each answer with what just passes it, and the whole record and all words as a call leaves them; runs of
-- rows; and calls in turn. Each table is proved by one computation. Assumes nothing.
use Rattle.std.specs.Prelude.{ℕ, ◌≡◌, refl, List, [], ◌∷◌, map, Bool, true, false}
use Rattle.definitions.specs.Lists.{all_below}
use Rattle.definitions.specs.Segment.{alive_words, record_from}
use Rattle.definitions.specs.Row.{bit_at, set_bits, alive_number}
use Rattle.definitions.specs.Answer.{bit_past_rows, alive_set_wrong}
use Rattle.definitions.specs.Withdraw.{AliveSet, alive_words_wrong, row_absent, mark_checks, mark_number, reinstated, withdrawn, marked_row, changed, unmarked, Marking, withdrawing, reinstating, MarkOutcome, mark_outcome, withdraw_outcome, reinstate_outcome, after_markings, last_word}

-- ---- how the tables are written

-- rows, flag, alive rows and alive words, in a record whose type and kind a join would refuse, and whose lengths and pair stand for nothing that is lent
abbrev set : ℕ → ℕ → ℕ → List ℕ → AliveSet
set rows flag alive words = record { given = record_from (9 ∷ 3 ∷ rows ∷ 1 ∷ 2 ∷ 3 ∷ 4 ∷ flag ∷ alive ∷ 6 ∷ 5 ∷ []); words = words }

outcome : Marking → AliveSet → MarkOutcome
unfolding all_below alive_words bit_at set_bits alive_number bit_past_rows alive_set_wrong alive_words_wrong row_absent mark_checks mark_number reinstated withdrawn marked_row mark_outcome
outcome c m = mark_outcome c m

withdraw : ℕ → AliveSet → MarkOutcome
unfolding outcome
withdraw row m = withdraw_outcome row m

reinstate : ℕ → AliveSet → MarkOutcome
unfolding outcome
reinstate row m = reinstate_outcome row m

record Case : Type 0 where
  call : MarkOutcome
  expected : MarkOutcome

-- so many rows changed, and what is left
abbrev changes : ℕ → AliveSet → MarkOutcome → Case
changes n m call = record { call = call; expected = record { answer = changed n; left = m } }

-- a refusal leaves what was lent as it was
abbrev refuses : ℕ → (AliveSet → MarkOutcome) → AliveSet → Case
refuses n call m = record { call = call m; expected = record { answer = unmarked n; left = m } }

-- ---- one row

row_cases : List Case
row_cases =
    -- the bit and the number change; the row is so already
    changes 1 (set 3 1 2 (5 ∷ [])) (withdraw 1 (set 3 1 3 (7 ∷ [])))
    ∷ changes 0 (set 3 1 2 (5 ∷ [])) (withdraw 1 (set 3 1 2 (5 ∷ [])))
    ∷ changes 1 (set 3 1 3 (7 ∷ [])) (reinstate 1 (set 3 1 2 (5 ∷ [])))
    ∷ changes 0 (set 3 1 2 (5 ∷ [])) (reinstate 2 (set 3 1 2 (5 ∷ [])))
    -- the last alive row, and the last of all rows
    ∷ changes 1 (set 3 1 0 (0 ∷ [])) (withdraw 2 (set 3 1 1 (4 ∷ [])))
    ∷ changes 1 (set 1 1 1 (1 ∷ [])) (reinstate 0 (set 1 1 0 (0 ∷ [])))
    -- rows of the first of two words, of the second, and the highest bit of a word
    ∷ changes 1 (set 65 1 1 (0x8000000000000000 ∷ 0 ∷ [])) (reinstate 63 (set 65 1 0 (0 ∷ 0 ∷ [])))
    ∷ changes 1 (set 65 1 1 (0 ∷ 1 ∷ [])) (withdraw 0 (set 65 1 2 (1 ∷ 1 ∷ [])))
    ∷ changes 1 (set 65 1 1 (0 ∷ 1 ∷ [])) (reinstate 64 (set 65 1 0 (0 ∷ 0 ∷ [])))
    ∷ changes 1 (set 66 1 64 (0xffffffffffffffff ∷ 0 ∷ [])) (withdraw 65 (set 66 1 65 (0xffffffffffffffff ∷ 2 ∷ [])))
    ∷ changes 1 (set 64 1 63 (0x7fffffffffffffff ∷ [])) (withdraw 63 (set 64 1 64 (0xffffffffffffffff ∷ [])))
    ∷ changes 1 (set 64 1 64 (0xffffffffffffffff ∷ [])) (reinstate 63 (set 64 1 63 (0x7fffffffffffffff ∷ [])))
    -- 2: a word too few, one too many, any without an alive set, any with an unknown flag
    ∷ refuses 2 (withdraw 0) (set 65 1 1 (1 ∷ []))
    ∷ refuses 2 (withdraw 0) (set 1 1 1 (1 ∷ 0 ∷ []))
    ∷ refuses 2 (reinstate 0) (set 0 1 0 (0 ∷ []))
    ∷ refuses 2 (withdraw 1) (set 3 0 3 (7 ∷ []))
    ∷ refuses 2 (reinstate 1) (set 3 2 3 (7 ∷ []))
    -- 2, and 6, 15 and 16 after it
    ∷ refuses 2 (withdraw 3) (set 3 0 2 (7 ∷ []))
    ∷ refuses 2 (reinstate 65) (set 65 1 9 (1 ∷ []))
    -- 3: an unknown flag; 6 and 15 after it
    ∷ refuses 3 (withdraw 1) (set 3 2 3 [])
    ∷ refuses 3 (reinstate 3) (set 3 4294967295 2 [])
    -- 6: a bit past the rows, counted or not; a wrong number, of set bits or of rows
    ∷ refuses 6 (withdraw 0) (set 3 1 4 (15 ∷ []))
    ∷ refuses 6 (withdraw 0) (set 3 1 3 (15 ∷ []))
    ∷ refuses 6 (reinstate 0) (set 65 1 1 (0 ∷ 2 ∷ []))
    ∷ refuses 6 (withdraw 0) (set 3 1 2 (7 ∷ []))
    ∷ refuses 6 (reinstate 1) (set 3 1 3 (5 ∷ []))
    ∷ refuses 6 (reinstate 0) (set 3 1 1 (0 ∷ []))
    ∷ refuses 6 (withdraw 1) (set 3 0 2 [])
    -- 6, and 15 after it, with an alive set and without one
    ∷ refuses 6 (withdraw 3) (set 3 1 2 (7 ∷ []))
    ∷ refuses 6 (reinstate 3) (set 3 0 2 [])
    -- 15: the row is the number of rows; of no rows; far above; and 16 after it
    ∷ refuses 15 (withdraw 3) (set 3 1 3 (7 ∷ []))
    ∷ refuses 15 (reinstate 3) (set 3 1 3 (7 ∷ []))
    ∷ refuses 15 (reinstate 0) (set 0 1 0 [])
    ∷ refuses 15 (withdraw 4294967295) (set 3 1 3 (7 ∷ []))
    ∷ refuses 15 (withdraw 3) (set 3 0 3 [])
    ∷ refuses 15 (reinstate 0) (set 0 0 0 [])
    -- 16: no alive set
    ∷ refuses 16 (withdraw 1) (set 3 0 3 [])
    ∷ refuses 16 (reinstate 2) (set 3 0 3 [])
    ∷ []

row_cases_hold : map (λ c. c.call) row_cases ≡ map (λ c. c.expected) row_cases
unfolding withdraw reinstate row_cases
row_cases_hold = refl

-- ---- a run of rows: all of them, or none

run_cases : List Case
run_cases =
    -- one of them is withdrawn already; the same row twice changes once; none at all
    changes 2 (set 3 1 0 (0 ∷ [])) (outcome (withdrawing (0 ∷ 1 ∷ 2 ∷ [])) (set 3 1 2 (5 ∷ [])))
    ∷ changes 1 (set 3 1 2 (5 ∷ [])) (outcome (withdrawing (1 ∷ 1 ∷ [])) (set 3 1 3 (7 ∷ [])))
    ∷ changes 0 (set 3 1 2 (5 ∷ [])) (outcome (withdrawing []) (set 3 1 2 (5 ∷ [])))
    ∷ changes 2 (set 66 1 3 (1 ∷ 3 ∷ [])) (outcome (reinstating (65 ∷ 0 ∷ 64 ∷ [])) (set 66 1 1 (1 ∷ 0 ∷ [])))
    ∷ changes 0 (set 3 1 2 (5 ∷ [])) (outcome (reinstating (2 ∷ 0 ∷ 2 ∷ [])) (set 3 1 2 (5 ∷ [])))
    -- a row that is absent, the last too; it comes before 16, and 16 is given for no rows at all
    ∷ refuses 15 (outcome (withdrawing (0 ∷ 1 ∷ 3 ∷ []))) (set 3 1 3 (7 ∷ []))
    ∷ refuses 15 (outcome (reinstating (3 ∷ 0 ∷ []))) (set 3 1 0 (0 ∷ []))
    ∷ refuses 15 (outcome (withdrawing (0 ∷ 3 ∷ []))) (set 3 0 3 [])
    ∷ refuses 16 (outcome (withdrawing [])) (set 3 0 3 [])
    ∷ refuses 6 (outcome (reinstating [])) (set 3 1 3 (5 ∷ []))
    ∷ []

run_cases_hold : map (λ c. c.call) run_cases ≡ map (λ c. c.expected) run_cases
unfolding outcome run_cases
run_cases_hold = refl

-- ---- calls in turn: withdrawn, reinstated, withdrawn again, two refused, one that changes nothing

turn : List Marking
turn = withdrawing (1 ∷ []) ∷ reinstating (1 ∷ []) ∷ withdrawing (3 ∷ []) ∷ withdrawing (1 ∷ 2 ∷ []) ∷ reinstating (0 ∷ []) ∷ reinstating (2 ∷ []) ∷ withdrawing (0 ∷ 3 ∷ []) ∷ []

turn-left : AliveSet
unfolding outcome turn
turn-left = after_markings turn (set 3 1 3 (7 ∷ []))

turn-words : List Bool
unfolding outcome turn
turn-words = map (λ r. last_word (set 3 1 3 (7 ∷ [])) turn r (bit_at (7 ∷ []) r)) (0 ∷ 1 ∷ 2 ∷ 3 ∷ [])

turn_holds : turn-left ≡ set 3 1 2 (5 ∷ [])
unfolding turn-left
turn_holds = refl

words_hold : turn-words ≡ (true ∷ false ∷ true ∷ false ∷ [])
unfolding turn-words
words_hold = refl
