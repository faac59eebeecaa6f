use Prim.Native.Nat.{◌+◌, ◌-◌, ◌≤◌}
use lib.ListN.{length, drop}
use Rattle.runs.proofs.Laws.{Filling}
use Rattle.convert.specs.Risen.{risen_ids, risen_ends}
use Rattle.convert.proofs.fill.Given as goal

abbrev pub invariant-loop-k : goal.invariant-loop-k
invariant-loop-k l = (l.row ≤ length l.offsets) × Filling 0 (risen_ids 0 l.offsets) l.initial.out_ids (risen_ids l.row (drop l.row l.offsets)) l.out_ids l.k × Filling 1 (risen_ends l.offsets) l.initial.out_offsets (risen_ends (drop l.row l.offsets)) l.out_offsets (l.k + 1)

abbrev pub decreases-loop-k : goal.decreases-loop-k
decreases-loop-k l = length l.offsets - l.row
