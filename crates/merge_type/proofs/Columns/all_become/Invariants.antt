use mathlib.Core.Path.{◌≡◌}
use lib.ListN.{drop}
use Rattle.merge_type.specs.Parts.{held_in, all_become}
use Rattle.merge_type.proofs.Columns.all_become.Given as goal

abbrev pub invariant-loop-row : goal.invariant-loop-row
invariant-loop-row l = all_become l.u (held_in (drop l.row-index l.self.stands.now)) ≡ all_become l.u (held_in l.self.stands.now)
