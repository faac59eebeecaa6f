use Rattle.std.proofs.Common.{sym, ◌∙◌}
use Rattle.term_marks.proofs.Laws.{set_step, set-end}
use Rattle.term_marks.proofs.mark_each.Goals as goal

pub loop-w-preserved : goal.loop-w-preserved
loop-w-preserved c = set_step _ _ _ c.loop-w-test.true ∙ c.loop-w.invariant

pub returns : goal.returns
returns c = sym (set-end _ _ _ c.loop-w-test.false) ∙ c.loop-w.invariant
