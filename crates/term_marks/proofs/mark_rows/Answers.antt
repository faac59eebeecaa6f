use Rattle.std.proofs.Common.{sym, ◌∙◌, rules}
use Rattle.term_marks.proofs.Laws.{by_dead, by_alive, rows_more, rows_end, row-rises, row-ends, row-below}
use Rattle.term_marks.proofs.mark_rows.Goals as goal
use Rattle.term_marks.proofs.mark_rows.Goals.{then-is_alive, else-is_alive}

pub offset_bounds-values-at : goal.offset_bounds-values-at
offset_bounds-values-at c =
    let rises = row-rises c.requires c.loop-row-test.true c.value_range-at.ensures.start_value c.value_range-at.ensures.end_value in
    let ends = row-ends c.requires c.loop-row-test.true c.value_range-at.ensures.start_value c.value_range-at.ensures.end_value in
    search rules

pub slice_bounds-mark_each-count : goal.slice_bounds-mark_each-count
slice_bounds-mark_each-count c =
    row-rises c.requires c.loop-row-test.true c.value_range-at.ensures.start_value c.value_range-at.ensures.end_value

pub slice_bounds-mark_each-start : goal.slice_bounds-mark_each-start
slice_bounds-mark_each-start c =
    row-rises c.requires c.loop-row-test.true c.value_range-at.ensures.start_value c.value_range-at.ensures.end_value

pub slice_bounds-mark_each-end : goal.slice_bounds-mark_each-end
slice_bounds-mark_each-end c =
    row-ends c.requires c.loop-row-test.true c.value_range-at.ensures.start_value c.value_range-at.ensures.end_value

pub mark_each-requires : goal.mark_each-requires
mark_each-requires c =
    row-below c.requires c.loop-row-test.true c.value_range-at.ensures.start_value c.value_range-at.ensures.end_value c.loop-row.auto.marks

pub loop-row-preserved : goal.loop-row-preserved
loop-row-preserved c =
    elim c.if-is_alive.branch [
      | then-is_alive w ↦ rw w.marks-is (rows_more _ _ _ _ _ _ _ _ _ _ c.loop-row-test.true (w.mark_each.ensures ∙ by_alive _ _ _ _ _ _ _ w.if-is_alive.ensures w.value_range-at.ensures.start_value w.value_range-at.ensures.end_value) c.loop-row.invariant)
      | else-is_alive w ↦ rw w.marks-is (rows_more _ _ _ _ _ _ _ _ _ _ c.loop-row-test.true (by_dead _ _ _ _ _ _ _ w.if-is_alive.ensures) c.loop-row.invariant)
    ]

pub returns : goal.returns
returns c =
    sym (rows_end _ _ _ _ _ _ _ _ c.loop-row-test.false) ∙ c.loop-row.invariant
