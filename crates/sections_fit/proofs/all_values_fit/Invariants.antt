use mathlib.Core.Path.{◌≡◌}
use Prim.Native.Nat.{◌≤◌}
use lib.ListN.{length, drop}
use Rattle.sections_fit.specs.Walks.{values_from, HoldsValues}
use Rattle.segment.specs.Records.{records_of}
use Rattle.sections_fit.proofs.all_values_fit.Given as goal

abbrev pub invariant-loop-r : goal.invariant-loop-r
invariant-loop-r l = HoldsValues (records_of (drop l.r-index l.records)) l.values l.lengths l.bytes × (length l.bytes ≤ length l.fn.bytes) × (values_from (records_of (drop l.r-index l.records)) l.values l.lengths l.bytes ≡ values_from (records_of l.records) l.fn.values l.fn.lengths l.fn.bytes)
