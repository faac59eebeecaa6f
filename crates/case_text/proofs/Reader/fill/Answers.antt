use Rattle.case_text.proofs.Reading.{reading_step, reading_end}
use Rattle.case_text.proofs.Reader.fill.Goals as goal

pub loop-x-preserved : goal.loop-x-preserved
loop-x-preserved g c =
    reading_step c.loop-x.invariant c.loop-x-test.true c.read.ensures

pub returns-clause-read : goal.returns-clause-read
returns-clause-read g c =
    (reading_end c.loop-x.invariant c.loop-x-test.false).0

pub returns-clause-left : goal.returns-clause-left
returns-clause-left g c =
    (reading_end c.loop-x.invariant c.loop-x-test.false).1
