use mathlib.Core.Path.{◌≡◌}
use lib.ListN.{drop}
use Rattle.merge_type.specs.Only.{types_from}
use Rattle.merge_type.proofs.Columns.only_type.Given as goal

abbrev pub invariant-loop-row : goal.invariant-loop-row
invariant-loop-row l = types_from l.first (drop l.row-index l.self.stands.now) ≡ types_from 255 l.self.stands.now
