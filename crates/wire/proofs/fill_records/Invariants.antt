use mathlib.Core.Path.{◌≡◌}
use mathlib.Core.List.{map}
use Prim.Native.Nat.{◌/◌}
use lib.ListN.{length}
use Rattle.definitions.specs.Segment.{record_width}
use Rattle.definitions.specs.Wire.{grouped}
use Rattle.segment.specs.Records.{row_of}
use Rattle.runs.proofs.Laws.{putting}
use Rattle.wire.proofs.fill_records.Given as goal

abbrev pub invariant-loop-i : goal.invariant-loop-i
invariant-loop-i l = l.out ≡ putting 0 (map row_of (grouped record_width (length l.words / record_width) l.words)) l.initial.out l.i
