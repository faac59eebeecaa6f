use mathlib.Core.Path.{◌≡◌, sym}
use Prim.Native.Nat.{ℕ}
use lib.ListN.{length, replicate, length-replicate}
use Rattle.replay.proofs.input_buffer.Goals as goal

sized : (n : ℕ) → n ≡ length (replicate {A = ℕ} n 0)
sized n = sym (length-replicate {A = ℕ} n 0)

pub returns : goal.returns
returns c =
    sized 262144
