use Rattle.time_merge.proofs.Reaching.{within_none, within_tie, within-lower}
use Rattle.time_merge.proofs.is_within.Goals as goal

pub returns-then-bound-eq0 : goal.returns-then-bound-eq0
returns-then-bound-eq0 c =
    within_none _ _ c.if-bound-eq0.true

pub returns-then-t-bound : goal.returns-then-t-bound
returns-then-t-bound c =
    within_tie _ _ c.if-bound-eq0.false c.time_of-t.ensures c.if-t-bound.true

pub returns : goal.returns
returns c =
    within-lower _ _ c.if-bound-eq0.false c.time_of-t.ensures c.if-t-bound.false
