-- The code's answer and output, in the words of the definitions. Assumes nothing.
use Rattle.std.specs.Prelude.{ℕ, cond, List, eqb, Result, Ok, Err}
use Rattle.definitions.specs.TimeOrder.{TimeInput, time_answer, TimeAnswer, sorted, unsorted, TimeOutcome}
use Rattle.definitions.specs.Segment.{segments_from}
use Rattle.segment.specs.Lent.{addresses_of}
use Rattle.time_merge.specs.Order as merged
use Rattle.refusal.specs.declared.Refusal.{Refusal}
use Rattle.refusal.specs.Number.{number_of}

-- the number of addresses with acceptance, else the number of the check that fails
abbrev pub answer_of : Result ℕ Refusal → TimeAnswer
answer_of (Ok n) = sorted n
answer_of (Err e) = unsorted (number_of e)

abbrev pub outcome_of : Result ℕ Refusal → List (List ℕ) → TimeOutcome
outcome_of a out = record { answer = answer_of a; addresses = addresses_of out }

-- the lent output at exit, as pairs of numbers
unfoldable pub output_of : TimeInput → List (List ℕ) → List (List ℕ)
output_of i out = cond (eqb (time_answer i) 0) (merged.time_written (segments_from i.records i.sections) out) out
