use Rattle.min_max.proofs.Ranges.{from_step, from_end}
use Rattle.min_max.proofs.with_words.Goals as goal

pub loop-w-preserved : goal.loop-w-preserved
loop-w-preserved c =
    let e = from_step c.loop-w.q c.args.shift c.args.words.now c.loop-w.w-index c.loop-w-test.true in cc

pub returns : goal.returns
returns c =
    let e = from_end c.loop-w.q c.args.shift c.args.words.now c.loop-w.w-index c.loop-w-test.false in cc
