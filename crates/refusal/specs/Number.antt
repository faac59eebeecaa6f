-- The number of each refusal in document 01's table of answers. Assumes nothing.
use Rattle.std.specs.Prelude.{ℕ, Result, Ok, Err}
use Rattle.refusal.specs.declared.Refusal.{Refusal}
use Rattle.refusal.specs.declared.Refusal.TheVariants as R

abbrev pub number_of : Refusal → ℕ
number_of R.TooManySegments = 1
number_of R.Lengths = 2
number_of R.UnknownCode = 3
number_of R.OldMultivalued = 19
number_of R.RowLists = 4
number_of R.Contents = 5
number_of R.AliveSet = 6
number_of R.TooLarge = 7
number_of R.WorkingSpace = 8
number_of R.Addresses = 9
number_of R.Types = 10
number_of R.OutputSpace = 11
number_of R.Times = 12
number_of R.AbsentRow = 15
number_of R.NoAliveSet = 16

-- 0 for acceptance, else the number of the check that fails
abbrev pub answer_number : {T : Type 0} → Result T Refusal → ℕ
answer_number (Ok _) = 0
answer_number (Err e) = number_of e
