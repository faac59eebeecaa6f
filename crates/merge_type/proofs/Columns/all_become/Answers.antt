use mathlib.Core.Path.{sym, ap, ◌∙◌}
use Rattle.lists.proofs.Tests.{fell, went}
use Rattle.merge_type.specs.Parts.{all_become}
use Rattle.merge_type.proofs.Walk.{held_more, held_same, held_end}
use Rattle.merge_type.proofs.Columns.all_become.Goals as goal
use Rattle.merge_type.proofs.Columns.all_become.Goals.{else-is_part-via-then-is_part+else-not-is_coercible, else-is_part-via-else-is_part}

pub returns-then-not-is_coercible : goal.returns-then-not-is_coercible
unfolding all_become
returns-then-not-is_coercible c =
    fell _ (rw (c.range_at.ensures) at c.is_coercible.ensures) (ap (all_become c.args.u) (held_more _ c.loop-row-test.true c.from-p.ensures c.is_part.ensures c.if-is_part.true)) c.if-not-is_coercible.true ∙ c.loop-row.invariant

pub loop-row-preserved : goal.loop-row-preserved
unfolding all_become
loop-row-preserved c =
    elim c.else-is_part.branch [
      | else-is_part-via-then-is_part+else-not-is_coercible w ↦
          went _ (rw (w.range_at.ensures) at w.is_coercible.ensures) (ap (all_become c.args.u) (held_more _ c.loop-row-test.true c.from-p.ensures c.is_part.ensures w.if-is_part.true)) w.if-not-is_coercible.false ∙ c.loop-row.invariant
      | else-is_part-via-else-is_part w ↦ ap (all_become c.args.u) (sym (held_same _ c.loop-row-test.true c.from-p.ensures c.is_part.ensures w.if-is_part.false)) ∙ c.loop-row.invariant
    ]

pub returns : goal.returns
unfolding all_become
returns c = ap (all_become c.args.u) (sym (held_end _ _ c.loop-row-test.false)) ∙ c.loop-row.invariant
