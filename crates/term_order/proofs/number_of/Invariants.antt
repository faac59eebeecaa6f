use mathlib.Core.Path.{◌≡◌}
use Rattle.term_order.specs.Key.{value_of}
use Rattle.term_order.proofs.number_of.Given as goal

abbrev pub invariant-loop-b : goal.invariant-loop-b
invariant-loop-b l = l.w ≡ value_of l.b-index l.bytes
