use Rattle.std.proofs.Common.{◌≡◌}
use Rattle.records.specs.Rows.{laid_to}
use Rattle.records.proofs.rows_of.Given as goal

abbrev pub invariant-loop-i : goal.invariant-loop-i
invariant-loop-i l = l.table ≡ laid_to l.records l.i
