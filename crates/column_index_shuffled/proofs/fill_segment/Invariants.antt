use Rattle.std.proofs.Common.{◌≤◌, length}
use Rattle.column_index_shuffled.proofs.fill_segment.Given as goal

abbrev pub invariant-loop-j : goal.invariant-loop-j
invariant-loop-j l =
    (goal.iterator-loop-j).can_next l.j-iterator × (goal.iterator-loop-j).is_finite l.j-iterator × (l.k ≤ length l.ids)
