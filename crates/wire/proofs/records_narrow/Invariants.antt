use mathlib.Core.Path.{◌≡◌}
use Prim.Native.Nat.{◌/◌}
use lib.ListN.{length, drop}
use Rattle.definitions.specs.Segment.{record_width}
use Rattle.definitions.specs.Wire.{grouped, records_narrow}
use Rattle.wire.proofs.records_narrow.Given as goal

abbrev pub invariant-loop-i : goal.invariant-loop-i
invariant-loop-i l = records_narrow (drop l.i (grouped record_width (length l.words / record_width) l.words)) ≡ records_narrow (grouped record_width (length l.words / record_width) l.words)
