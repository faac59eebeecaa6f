use Rattle.std.proofs.Common.{◌≡◌, ◌*◌, drop}
use Rattle.min_max.specs.Keys.{range_from, all_keys}
use Rattle.min_max.proofs.Ranges.{of_four}
use Rattle.min_max.proofs.range_of.Given as goal

abbrev pub invariant-loop-w : goal.invariant-loop-w
invariant-loop-w l =
    range_from (of_four l.a l.b l.c l.d) (all_keys l.shift (drop (l.w-index * 4) l.words)) ≡ range_from l.initial.a (all_keys l.shift l.words)
