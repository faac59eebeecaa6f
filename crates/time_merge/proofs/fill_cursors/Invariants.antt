use Rattle.time_merge.proofs.Filled.{Filled}
use Rattle.time_merge.proofs.fill_cursors.Given as goal

abbrev pub invariant-loop-s : goal.invariant-loop-s
invariant-loop-s l = Filled l.stands l.ids l.values l.alive l.cursors l.s
