use mathlib.Core.Path.{◌≡◌}
use Prim.Native.Nat.{◌≤◌}
use lib.ListN.{length, drop}
use Rattle.sections_fit.specs.Walks.{alive_fits_from}
use Rattle.segment.specs.Records.{records_of}
use Rattle.definitions.specs.Segment.{alive_words}
use Rattle.definitions.specs.Answer.{total}
use Rattle.sections_fit.proofs.all_alive_fit.Given as goal

abbrev pub invariant-loop-r : goal.invariant-loop-r
invariant-loop-r l = (total alive_words (records_of (drop l.r-index l.records)) ≤ length l.alive) × (alive_fits_from l.mode (records_of (drop l.r-index l.records)) l.alive ≡ alive_fits_from l.mode (records_of l.records) l.fn.alive)
