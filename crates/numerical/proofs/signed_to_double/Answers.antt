use Rattle.std.proofs.Common.{arith}
use Rattle.numerical.proofs.Laws.{signed_low, signed_high}
use Rattle.numerical.proofs.signed_to_double.Goals as goal

pub returns-then-w-lt-SIGN : goal.returns-then-w-lt-SIGN
returns-then-w-lt-SIGN c =
    let e = signed_low c.args.w c.if-w-lt-SIGN.true in cc

pub returns-else-w-lt-SIGN : goal.returns-else-w-lt-SIGN
returns-else-w-lt-SIGN c =
    let e = signed_high c.args.w c.if-w-lt-SIGN.false (omega arith) in cc
