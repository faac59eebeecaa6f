use mathlib.Core.Path.{◌≡◌}
use Prim.Native.Nat.{ℕ, ◌+◌, ◌<◌}
use lib.ListN.{length, take}
use Rattle.term_merger.specs.Heap.{count}
use Rattle.term_merger.proofs.Laws.{Up}
use Rattle.term_merger.proofs.sift_up.Given as goal

abbrev pub invariant-loop-i : goal.invariant-loop-i
invariant-loop-i l = (l.i < l.from + 1) × (length l.seg ≡ 256) × ((x : ℕ) → count x (take (l.from + 1) l.seg) ≡ count x (take (l.from + 1) l.initial.seg)) × Up l.bytes l.cursors l.seg l.i (l.from + 1)

abbrev pub decreases-loop-i : goal.decreases-loop-i
decreases-loop-i l = l.i
