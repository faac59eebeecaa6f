use Rattle.std.proofs.Common.{ℕ, ◌-◌, ◌<◌, ◌^◌, pos, sym, ap, ◌∙◌, arith}
use lib.Count.{count_leading_zeros}
use Rattle.std.proofs.Math.Pow.{shl_exact}
use Rattle.definitions.specs.Types.{double_of}
use Rattle.numerical.proofs.Laws.{shifted, double_zero, double_some}
use Rattle.numerical.proofs.unsigned_to_double.Goals as goal

pub returns-then-n-eq0-clause-value : goal.returns-then-n-eq0-clause-value
returns-then-n-eq0-clause-value c = double_zero ∙ ap (λ (x : ℕ). double_of (pos x)) (sym c.if-n-eq0.true)

pub returns-clause-value : goal.returns-clause-value
returns-clause-value c =
    let n = c.args.n in
    let z = c.if-n-eq0.false in
    let e : 1085 - count_leading_zeros 64 n < 2 ^ 11 = omega arith in
    let a = shl_exact 11 52 64 e (omega arith) in
    let m = shifted n z c.ranges.n.fits in
    let d = double_some n z c.ranges.n.fits in
    cc
