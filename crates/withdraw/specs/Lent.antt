-- What a call is lent and gives, in the words of the definitions. Assumes nothing.
use Rattle.std.specs.Prelude.{ℕ, ◌≡◌, List, Bool, Result, Ok, Err}
use Rattle.definitions.specs.Withdraw.{AliveSet, Marking, MarkAnswer, changed, unmarked, MarkOutcome, Sound}
use Rattle.segment.specs.Records.{row_record, record_row, record_in}
use Rattle.segment.specs.declared.Record.{Record}
use Rattle.refusal.specs.declared.Refusal.{Refusal}
use Rattle.refusal.specs.Number.{number_of}

-- a record by value and its alive words
abbrev pub set_by : Record → List ℕ → AliveSet
set_by r words = record { given = record_in r; words = words }

-- a record's numbers and its alive words
abbrev pub lent_set : List ℕ → List ℕ → AliveSet
lent_set numbers words = record { given = row_record numbers; words = words }

abbrev pub marking_of : Bool → List ℕ → Marking
marking_of alive rows = record { rows = rows; alive = alive }

-- how many rows changed, else the number of the check that fails
abbrev pub answer_of : Result ℕ Refusal → MarkAnswer
answer_of (Ok n) = changed n
answer_of (Err e) = unmarked (number_of e)

abbrev pub outcome_of : Result ℕ Refusal → List ℕ → List ℕ → MarkOutcome
outcome_of a numbers words = record { answer = answer_of a; left = lent_set numbers words }

-- the record's numbers as a call leaves them in lent memory: those of the record, or as they were
abbrev pub record_by : MarkAnswer → List ℕ → List ℕ → List ℕ
record_by (changed n) new old = new
record_by (unmarked k) new old = old

abbrev pub record_left : MarkOutcome → List ℕ → List ℕ
record_left o old = record_by o.answer (record_row o.left.given) old

-- what the checks say of a set whose rows may be marked
pub record Markable (m : AliveSet) : Type 0 where
  pub sound : Sound m
  pub flagged : m.given.flag ≡ 1
