use native.Mathlib.Omega.{arith}
use Rattle.time_merge.proofs.Filled.{filled_start, all_left, filled-end}
use Rattle.time_merge.proofs.fill_cursors.Goals as goal

pub loop-s-init : goal.loop-s-init
loop-s-init c =
    filled_start c.requires.ready _ c.requires.cursors_value

pub first_from-requires-clause-left : goal.first_from-requires-clause-left
first_from-requires-clause-left c =
    all_left _ _

pub returns : goal.returns
returns c =
    filled-end c.requires.ready c.loop-s.invariant c.loop-s-test.false (omega arith)
