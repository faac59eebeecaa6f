use mathlib.Core.Path.{◌≡◌}
use lib.Dec.{eqb}
use lib.ListN.{drop}
use Rattle.definitions.specs.Lists.{sum}
use Rattle.runs.proofs.adds_up.Given as goal

abbrev pub invariant-loop-x : goal.invariant-loop-x
invariant-loop-x l = eqb (sum (drop l.x-index l.xs)) l.left ≡ eqb (sum l.xs) l.n
