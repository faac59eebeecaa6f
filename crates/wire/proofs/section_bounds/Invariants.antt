use Prim.Native.Nat.{◌+◌, ◌≤◌}
use lib.ListN.{length}
use Rattle.definitions.specs.Wire.{word_sections, ends_from}
use Rattle.runs.proofs.Laws.{Filling}
use Rattle.wire.proofs.Sections as laws
use Rattle.wire.proofs.section_bounds.Given as goal

abbrev pub invariant-loop-k : goal.invariant-loop-k
invariant-loop-k l = (l.at ≤ length l.words) × Filling 1 (ends_from 0 (word_sections l.words)) l.initial.bounds (laws.ends_left l.words l.k l.at) l.bounds (l.k + 1)
