use Rattle.std.proofs.Common.{◌≡◌, drop}
use Rattle.min_max.specs.Keys.{range_from, all_keys}
use Rattle.min_max.proofs.with_words.Given as goal

abbrev pub invariant-loop-w : goal.invariant-loop-w
invariant-loop-w l = range_from l.q (all_keys l.shift (drop l.w-index l.words)) ≡ range_from l.initial.q (all_keys l.shift l.words)
