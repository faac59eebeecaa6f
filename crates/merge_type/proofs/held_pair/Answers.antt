use mathlib.Core.Path.{ap, ◌∙◌}
use Rattle.min_max.specs.Keys.{pair_in}
use Rattle.merge_type.proofs.Pair.{found-next, found_or, found-end, found-is, found-other}
use Rattle.merge_type.proofs.held_pair.Goals as goal

pub returns-then-to-gt1 : goal.returns-then-to-gt1
returns-then-to-gt1 c =
    found-other _ _ c.if-to-gt1.true

pub loop-row-preserved : goal.loop-row-preserved
loop-row-preserved c =
    found-next _ _ c.loop-row-test.true c.from.ensures _ c.find_pair-found.ensures ∙ c.loop-row.invariant

pub returns : goal.returns
returns c =
    ap pair_in c.unwrap_or.ensures ∙ found_or c.loop-row.found ∙ found-end _ _ _ c.loop-row-test.false ∙ c.loop-row.invariant ∙ found-is _ _ c.if-to-gt1.false
