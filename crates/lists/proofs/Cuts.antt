-- Bytes cut into terms by the terms' lengths. Assumes nothing.
use mathlib.Core.Path.{◌≡◌, refl, ap₂, ◌∙◌}
use mathlib.Core.List.{List, [], ◌∷◌}
use Prim.Native.Nat.{ℕ, ◌+◌, ◌≤◌}
use native.Mathlib.Omega.{arith}
use lib.ListN.{length, take, drop, length-append, length-drop}
use lib.Seq.{length-take-le}
use Rattle.definitions.specs.Lists.{sum, concat}
use Rattle.definitions.specs.Segment.{cut}

pub cut-bytes : (ls bytes : List ℕ) → sum ls ≤ length bytes → length (concat (cut ls bytes)) ≡ sum ls
cut-bytes [] bytes h = refl
cut-bytes (n ∷ ns) bytes h =
    length-append (take n bytes) (concat (cut ns (drop n bytes)))
    ∙ ap₂ (λ (a b : ℕ). a + b) (length-take-le n bytes (omega arith)) (cut-bytes ns (drop n bytes) (rw (length-drop n bytes) (omega arith)))
