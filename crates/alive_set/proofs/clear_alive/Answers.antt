use Rattle.std.proofs.Common.{ℕ, ap, ◌/◌, ◌<◌, ◌^◌, slice_set, slice_index_or, arith}
use Rattle.alive_set.proofs.Weight.{and_weight}
use Rattle.alive_set.proofs.clear_alive.Goals as goal

pub returns : goal.returns
returns c =
    let h : slice_index_or c.args.words.now (c.args.row / 64) 0 < 2 ^ 64 = omega arith in
    ap (λ (n : ℕ). slice_set c.args.words.now (c.args.row / 64) n) (and_weight _ _ h c.requires.row_value)
