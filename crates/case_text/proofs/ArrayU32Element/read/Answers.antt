use Prim.Native.Nat.{ℕ}
use lib.ListN.{length-replicate}
use Rattle.case_text.proofs.Reading.{row_is}
use Rattle.case_text.proofs.ArrayU32Element.read.Goals as goal

pub returns : goal.returns
returns g c =
    row_is g.row.N _ (length-replicate {A = ℕ} g.row.N 0) c.fill.ensures.read c.fill.ensures.left
