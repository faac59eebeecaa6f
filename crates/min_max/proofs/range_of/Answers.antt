use Rattle.std.proofs.Common.{◌<◌, ◌/◌, length, arith}
use Rattle.min_max.proofs.Ranges.{four_more}
use Rattle.min_max.proofs.range_of.Goals as goal

pub loop-w-preserved : goal.loop-w-preserved
loop-w-preserved c =
    let l = c.loop-w in
    let h : l.w-index < length c.args.words.now / 4 = omega arith in
    let e = four_more c.args.shift c.args.words.now l.w-index h l.a l.b l.c l.d in cc
