use mathlib.Core.Path.{◌≡◌}
use Rattle.runs.specs.Put.{shifted}
use Rattle.runs.proofs.Laws.{putting}
use Rattle.runs.proofs.append_shifted.Given as goal

abbrev pub invariant-loop-j : goal.invariant-loop-j
invariant-loop-j l = l.out ≡ putting l.at (shifted l.by l.xs) l.initial.out l.j
