use mathlib.Core.Path.{◌≡◌}
use lib.ListN.{drop}
use Rattle.merge_type.specs.Parts.{types_in, same_from}
use Rattle.merge_type.proofs.Columns.one_category.Given as goal

abbrev pub invariant-loop-row : goal.invariant-loop-row
invariant-loop-row l = same_from l.first (types_in (drop l.row-index l.self.stands.now)) ≡ same_from l.required (types_in l.self.stands.now)
