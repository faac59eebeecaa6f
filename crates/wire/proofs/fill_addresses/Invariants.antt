use mathlib.Core.Path.{◌≡◌}
use Prim.Native.Nat.{◌/◌}
use lib.ListN.{length}
use Rattle.definitions.specs.Wire.{grouped}
use Rattle.runs.proofs.Laws.{putting}
use Rattle.wire.proofs.fill_addresses.Given as goal

abbrev pub invariant-loop-i : goal.invariant-loop-i
invariant-loop-i l = l.out ≡ putting 0 (grouped 2 (length l.words / 2) l.words) l.initial.out l.i
