use mathlib.Core.Path.{◌≡◌}
use Rattle.time_cursors.specs.Cursors.{next_row}
use Rattle.time_cursors.proofs.next_alive.Given as goal

abbrev pub invariant-loop-n : goal.invariant-loop-n
invariant-loop-n l = next_row l.flag l.alive l.rows l.n ≡ next_row l.flag l.alive l.rows l.from
