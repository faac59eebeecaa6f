use mathlib.Core.Path.{◌≡◌}
use Prim.Native.Nat.{◌≤◌}
use Rattle.lists.specs.Sums.{sum_below}
use Rattle.census.specs.Census.{listed_by, values_by}
use Rattle.census.proofs.id_counts.Given as goal

abbrev pub invariant-loop-k : goal.invariant-loop-k
invariant-loop-k l = (l.listed ≡ sum_below (listed_by l.ids l.words) l.k) × (l.values ≡ sum_below (values_by l.kind l.ids l.offsets l.words) l.k) × (l.listed ≤ l.k)
