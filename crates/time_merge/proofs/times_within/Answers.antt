use native.Mathlib.Omega.{arith}
use mathlib.Core.Path.{sym, ◌∙◌}
use Rattle.time_merge.proofs.Reaching.{step_true, stepping_on, stepping_back}
use Rattle.time_merge.proofs.times_within.Goals as goal

pub loop-step-smaller-then-steps_within : goal.loop-step-smaller-then-steps_within
loop-step-smaller-then-steps_within c =
    omega (arith, c.loop-step-test.true, (step_true _ _ _ _ (sym c.steps_within.ensures ∙ c.if-steps_within.true)).0)

pub loop-step-preserved-then-steps_within : goal.loop-step-preserved-then-steps_within
loop-step-preserved-then-steps_within c =
    stepping_on _ _ _ c.loop-step.invariant c.loop-step-test.true (sym c.steps_within.ensures ∙ c.if-steps_within.true)

pub loop-step-preserved : goal.loop-step-preserved
loop-step-preserved c =
    stepping_back _ _ _ c.loop-step.invariant c.loop-step-test.true (sym c.steps_within.ensures ∙ c.if-steps_within.false)
