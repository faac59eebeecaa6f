use Rattle.std.proofs.Common.{◌≡◌}
use Rattle.runs.proofs.Laws.{putting}
use Rattle.column_values_merge.specs.Word.{doubles}
use Rattle.column_values_merge.proofs.append_doubles.Given as goal

abbrev pub invariant-loop-j : goal.invariant-loop-j
invariant-loop-j l = l.out ≡ putting l.at (doubles l.t l.vs) l.initial.out l.j
