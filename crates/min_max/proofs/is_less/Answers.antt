use Rattle.std.proofs.Common.{arith}
use Rattle.min_max.proofs.Order.{key_less}
use Rattle.min_max.proofs.is_less.Goals as goal

pub returns : goal.returns
returns c = let e = key_less c.args.t c.args.v c.args.w (omega arith) (omega arith) in cc
