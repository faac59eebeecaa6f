use lib.Seq.{length-take-le}
use Rattle.case_text.proofs.Reading.{listed}
use Rattle.case_text.proofs.Reader.list.Goals as goal

pub returns-clause-listed : goal.returns-clause-listed
returns-clause-listed g c =
    listed c.count-n.ensures.read (length-take-le _ _ c.count-n.ensures.capped) c.fill.ensures.read c.fill.ensures.left
