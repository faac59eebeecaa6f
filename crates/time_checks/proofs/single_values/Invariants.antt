use Rattle.std.proofs.Common.{◌≡◌, drop}
use Rattle.time_checks.specs.Times.{singles, singles_from}
use Rattle.time_checks.proofs.single_values.Given as goal

abbrev pub invariant-loop-n : goal.invariant-loop-n
invariant-loop-n l = singles_from l.last (drop l.n-index l.offsets) ≡ singles l.offsets
