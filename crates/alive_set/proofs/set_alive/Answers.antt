use Rattle.std.proofs.Common.{ℕ, ap, ◌/◌, slice_set}
use Rattle.alive_set.proofs.Weight.{or_weight}
use Rattle.alive_set.proofs.set_alive.Goals as goal

pub returns : goal.returns
returns c = ap (λ (n : ℕ). slice_set c.args.words.now (c.args.row / 64) n) (or_weight _ _ c.requires.row_value)
