use mathlib.Core.Path.{◌∙◌}
use Rattle.time_merge.proofs.Reaching.{step_past, step_is}
use Rattle.time_merge.proofs.steps_within.Goals as goal

pub returns-then-values-m : goal.returns-then-values-m
returns-then-values-m c =
    step_past c.args.values.now _ _ _ c.if-values-m.true

pub returns : goal.returns
returns c =
    c.is_within.ensures ∙ step_is _ _ _ _ c.if-values-m.false
