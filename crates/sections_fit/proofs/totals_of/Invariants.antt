use mathlib.Core.Path.{◌≡◌}
use Prim.Native.Nat.{◌*◌}
use lib.ListN.{drop}
use Rattle.sections_fit.proofs.Walks.{totals_from, no_totals}
use Rattle.sections_fit.specs.Walks.{Below}
use Rattle.segment.specs.Records.{records_of}
use Rattle.sections_fit.proofs.totals_of.Given as goal

abbrev pub invariant-loop-r : goal.invariant-loop-r
invariant-loop-r l = (totals_from l.t (records_of (drop l.r-index l.records)) ≡ totals_from no_totals (records_of l.records)) × Below l.t (l.r-index * 8589934592)
