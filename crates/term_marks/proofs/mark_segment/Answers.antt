use Rattle.std.proofs.Common.{◌≡◌, ◌∙◌, length, replicate, rules, tests}
use Rattle.term_marks.proofs.Laws.{over-all, over_none, over-rows}
use Rattle.term_marks.proofs.mark_segment.Goals as goal

pub returns-then-p-ne1 : goal.returns-then-p-ne1
returns-then-p-ne1 c =
    let ones : c.fill.new.self ≡ replicate (length c.args.marks.now) 1 = search rules in
    ones ∙ over-all _ _ _ _ _ _ c.if-p-ne1.true

pub returns-then-not-is_empty : goal.returns-then-not-is_empty
returns-then-not-is_empty c =
    c.mark_rows.ensures ∙ over-rows c.args.p c.args.ids.now c.args.offsets.now c.args.values.now c.args.alive.now _ c.if-p-ne1.false

pub returns-else-not-is_empty : goal.returns-else-not-is_empty
returns-else-not-is_empty c =
    over_none _ _ _ _ _ _ c.if-p-ne1.false (search (rules, tests))
