use mathlib.Core.Path.{◌≡◌}
use Rattle.definitions.specs.Lists.{up_from}
use Rattle.runs.proofs.Laws.{putting}
use Rattle.runs.proofs.append_range.Given as goal

abbrev pub invariant-loop-j : goal.invariant-loop-j
invariant-loop-j l = l.out ≡ putting l.at (up_from l.first l.n) l.initial.out l.j
