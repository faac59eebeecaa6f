use mathlib.Core.Path.{◌≡◌}
use Rattle.runs.proofs.Laws.{putting}
use Rattle.runs.proofs.append.Given as goal

abbrev pub invariant-loop-v : goal.invariant-loop-v
invariant-loop-v g l = (l.copied ≡ l.v-index) × (l.out ≡ putting l.at l.vs l.initial.out l.v-index)
