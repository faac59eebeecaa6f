use mathlib.Core.Path.{◌≡◌}
use Rattle.time_merge.specs.Runs.{alive_up_to}
use Rattle.time_merge.proofs.last_listed.Given as goal

abbrev pub invariant-loop-row : goal.invariant-loop-row
invariant-loop-row l = alive_up_to l.flag l.alive l.from l.row ≡ alive_up_to l.flag l.alive l.from l.end
