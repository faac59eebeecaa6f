use Rattle.std.proofs.Common.{◌≡◌}
use Rattle.runs.proofs.Laws.{putting}
use Rattle.merge_mapping.specs.Mapping.{alive_bytes}
use Rattle.merge_mapping.proofs.fill_bits.Given as goal

abbrev pub invariant-loop-i : goal.invariant-loop-i
invariant-loop-i l = l.bits ≡ putting l.at (alive_bytes l.flag l.words l.rows) l.initial.bits l.i
