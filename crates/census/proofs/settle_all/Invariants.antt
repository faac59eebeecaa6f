use Rattle.census.proofs.Settled.{Going}
use Rattle.census.proofs.settle_all.Given as goal

abbrev pub invariant-loop-r : goal.invariant-loop-r
invariant-loop-r l = Going l.initial.stands l.ids l.offsets l.lengths l.words l.stands l.t l.r-index
