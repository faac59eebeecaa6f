use Rattle.term_cursors.proofs.Begin.{Filling}
use Rattle.term_cursors.proofs.fill_cursors.Given as goal

abbrev pub invariant-loop-s : goal.invariant-loop-s
invariant-loop-s l = Filling l.stands l.lengths l.bytes l.marks l.all l.cursors l.s
