use mathlib.Core.Path.{◌≡◌}
use Prim.Native.Nat.{ℕ, ◌-◌, ◌≤◌}
use lib.ListN.{length, take}
use Rattle.term_merger.specs.Heap.{count, Sinking}
use Rattle.term_merger.proofs.sift_down.Given as goal

abbrev pub invariant-loop-i : goal.invariant-loop-i
invariant-loop-i l = (l.i ≤ 256) × (length l.seg ≡ 256) × ((x : ℕ) → count x (take l.n l.seg) ≡ count x (take l.n l.initial.seg)) × Sinking l.bytes l.cursors l.seg l.i l.n

abbrev pub decreases-loop-i : goal.decreases-loop-i
decreases-loop-i l = l.n - l.i
