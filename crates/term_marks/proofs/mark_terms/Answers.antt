use Rattle.std.proofs.Common.{sym, ◌∙◌}
use Rattle.term_marks.proofs.Laws.{marks-end, turn_more}
use Rattle.term_marks.proofs.mark_terms.Goals as goal

pub loop-numbers-preserved : goal.loop-numbers-preserved
loop-numbers-preserved c =
    (turn_more c.requires c.loop-numbers.marks c.loop-numbers.auto.marks c.loop-numbers-test.true c.from-p.ensures c.loop-numbers.invariant c.mark_segment.ensures).0

pub returns : goal.returns
returns c =
    sym (marks-end _ _ _ _ _ _ _ c.loop-numbers-test.false) ∙ c.loop-numbers.invariant
