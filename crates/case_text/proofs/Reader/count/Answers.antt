use Rattle.case_text.proofs.Reading.{capped_is}
use Rattle.case_text.proofs.Reader.count.Goals as goal

pub returns-clause-read : goal.returns-clause-read
returns-clause-read c =
    capped_is _ _ c.number.ensures c.min.ensures
