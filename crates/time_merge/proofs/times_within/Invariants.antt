use Prim.Native.Nat.{◌+◌, ◌-◌, ◌*◌}
use lib.ListN.{length}
use Rattle.time_merge.proofs.Reaching.{Stepping}
use Rattle.time_merge.proofs.times_within.Given as goal

abbrev pub invariant-loop-step : goal.invariant-loop-step
invariant-loop-step l = Stepping l.values l.bound l.n l.m l.step

abbrev pub decreases-loop-step : goal.decreases-loop-step
decreases-loop-step l = 2 * (length l.values - l.m) + l.step
