use Rattle.std.proofs.Common.{sym, ◌∙◌}
use Rattle.merge_mapping.proofs.Turns.{none-next, none_end}
use Rattle.merge_mapping.proofs.none_left.Goals as goal

pub loop-b-preserved : goal.loop-b-preserved
loop-b-preserved c =
    none-next _ _ _ c.loop-b-test.true ∙ c.loop-b.invariant

pub returns : goal.returns
returns c =
    sym (none_end _ _ _ c.loop-b-test.false) ∙ c.loop-b.invariant
