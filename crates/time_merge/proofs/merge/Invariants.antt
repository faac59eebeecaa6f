use mathlib.Core.List.{List}
use Prim.Native.Nat.{ℕ, ◌-◌}
use lib.ListN.{length}
use Rattle.definitions.specs.Segment.{Address}
use Rattle.time_merge.specs.Order.{placed_segments}
use Rattle.time_merge.proofs.Going.{Going}
use Rattle.time_merge.proofs.merge.Given as goal

abbrev pub invariant-loop-h : goal.invariant-loop-h
invariant-loop-h l = (P : ℕ → ℕ) × (done : List Address) × Going (placed_segments l.stands l.ids l.values l.alive) l.bytes l.initial.out l.cursors l.out l.h l.k P done

abbrev pub decreases-loop-h : goal.decreases-loop-h
decreases-loop-h l = length l.initial.out - l.k
