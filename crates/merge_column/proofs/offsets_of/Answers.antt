use Rattle.merge_column.proofs.Laws.{offsets-some, offsets-none}
use Rattle.merge_column.proofs.offsets_of.Goals as goal

pub returns-then-class-eq2 : goal.returns-then-class-eq2
returns-then-class-eq2 c =
    offsets-some _ _ c.if-class-eq2.true

pub returns : goal.returns
returns c =
    offsets-none _ _ c.if-class-eq2.false
