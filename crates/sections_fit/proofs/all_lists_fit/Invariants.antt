use mathlib.Core.Path.{◌≡◌}
use lib.ListN.{drop}
use Rattle.sections_fit.specs.Walks.{lists_from, HoldsLists}
use Rattle.segment.specs.Records.{records_of}
use Rattle.sections_fit.proofs.all_lists_fit.Given as goal

abbrev pub invariant-loop-r : goal.invariant-loop-r
invariant-loop-r l = HoldsLists (records_of (drop l.r-index l.records)) l.ids l.offsets × (lists_from (records_of (drop l.r-index l.records)) l.ids l.offsets ≡ lists_from (records_of l.records) l.fn.ids l.fn.offsets)
