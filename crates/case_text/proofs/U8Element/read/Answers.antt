use Rattle.case_text.proofs.Reading.{capped_is}
use Rattle.case_text.proofs.U8Element.read.Goals as goal

pub returns : goal.returns
returns c =
    capped_is _ _ c.number.ensures c.min.ensures
