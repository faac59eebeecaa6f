use Rattle.std.proofs.Common.{◌≡◌, ◌&&◌, drop}
use Rattle.definitions.specs.Lists.{all_below}
use Rattle.merge_mapping.proofs.none_left.Given as goal

abbrev pub invariant-loop-b : goal.invariant-loop-b
invariant-loop-b l = all_below 1 (drop l.b-index l.bits) && l.none ≡ all_below 1 l.bits
