-- No refusal has the number of acceptance. Assumes nothing.
use Rattle.std.proofs.Common.{◌≡◌, arith}
use Rattle.refusal.specs.declared.Refusal.{Refusal}
use Rattle.refusal.specs.declared.Refusal.TheVariants as R
use Rattle.refusal.specs.Number.{number_of}

pub number_not-zero : (e : Refusal) → number_of e ≡ 0 → ⊥
number_not-zero R.TooManySegments p = omega arith
number_not-zero R.Lengths p = omega arith
number_not-zero R.UnknownCode p = omega arith
number_not-zero R.OldMultivalued p = omega arith
number_not-zero R.RowLists p = omega arith
number_not-zero R.Contents p = omega arith
number_not-zero R.AliveSet p = omega arith
number_not-zero R.TooLarge p = omega arith
number_not-zero R.WorkingSpace p = omega arith
number_not-zero R.Addresses p = omega arith
number_not-zero R.Types p = omega arith
number_not-zero R.OutputSpace p = omega arith
number_not-zero R.Times p = omega arith
number_not-zero R.AbsentRow p = omega arith
number_not-zero R.NoAliveSet p = omega arith
