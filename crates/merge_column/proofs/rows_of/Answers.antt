use Rattle.lists.proofs.Tests.{at_code, past_code}
use Rattle.merge_column.proofs.rows_of.Goals as goal

pub returns-then-mode-eq0 : goal.returns-then-mode-eq0
returns-then-mode-eq0 c =
    at_code _ 0 _ _ c.if-mode-eq0.true

pub returns : goal.returns
returns c =
    past_code _ 0 _ _ c.if-mode-eq0.false
