use mathlib.Core.Path.{◌≡◌}
use Rattle.runs.specs.Put.{looked}
use Rattle.runs.proofs.Laws.{putting}
use Rattle.runs.proofs.append_mapped.Given as goal

abbrev pub invariant-loop-j : goal.invariant-loop-j
invariant-loop-j l = l.out ≡ putting l.at (looked l.table l.vs) l.initial.out l.j
