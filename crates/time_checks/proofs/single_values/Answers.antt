use Rattle.std.proofs.Common.{◌∙◌, refl, arith}
use Rattle.time_checks.proofs.Laws.{singles_start, singles-high, singles-next, singles-end}
use Rattle.time_checks.proofs.single_values.Goals as goal

pub loop-n-init : goal.loop-n-init
loop-n-init c =
    singles_start _

pub returns-then-saturating_sub-gt1 : goal.returns-then-saturating_sub-gt1
returns-then-saturating_sub-gt1 c =
    singles-high _ _ _ _ c.loop-n-test.true refl (omega arith) ∙ c.loop-n.invariant

pub loop-n-preserved : goal.loop-n-preserved
loop-n-preserved c =
    singles-next _ _ _ _ c.loop-n-test.true refl (omega arith) ∙ c.loop-n.invariant

pub returns : goal.returns
returns c =
    singles-end _ _ _ c.loop-n-test.false ∙ c.loop-n.invariant
