use Rattle.runs.proofs.Laws.{Filling}
use Rattle.time_merge.proofs.Rows.{rest}
use Rattle.time_merge.proofs.write_rows.Given as goal

abbrev pub invariant-loop-row : goal.invariant-loop-row
invariant-loop-row l = Filling l.k (rest l.s l.flag l.alive l.stop l.from) l.initial.out (rest l.s l.flag l.alive l.stop l.row) l.out l.n
