use mathlib.Core.Path.{◌≡◌}
use mathlib.Core.List.{map}
use Rattle.runs.proofs.Laws.{putting}
use Rattle.wire.proofs.fill.Given as goal

abbrev pub invariant-loop-j : goal.invariant-loop-j
invariant-loop-j g l = l.out ≡ putting 0 (map g.T.Narrowed.narrowed l.words) l.initial.out l.j
