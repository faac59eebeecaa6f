use Rattle.std.proofs.Common.{◌∙◌, arith, zero-add}
use Rattle.runs.proofs.Laws.{fill_end}
use Rattle.stands.proofs.Laws.{fill_second, first-set}
use Rattle.column_index_stacked.proofs.Turn.{now_values, totals_room, totals_more, totals_end}
use Rattle.column_index_stacked.proofs.stacked_offsets.Goals as goal

pub loop-row-init : goal.loop-row-init
loop-row-init c =
    (zero-add _, fill_second _ _ c.args.out.now c.requires.offsets_in_bounds)

pub put_segment_totals-at-requires-clause-count_bound : goal.put_segment_totals-at-requires-clause-count_bound
put_segment_totals-at-requires-clause-count_bound c =
    omega (arith, now_values c.requires.all_sound c.loop-row-test.true c.from-p.ensures)

pub put_segment_totals-at-requires-clause-offsets_in_bounds : goal.put_segment_totals-at-requires-clause-offsets_in_bounds
put_segment_totals-at-requires-clause-offsets_in_bounds c =
    totals_room c.requires.all_sound c.loop-row-test.true c.from-p.ensures c.loop-row.total c.loop-row.invariant.1

pub overflow_cast-total : goal.overflow_cast-total
overflow_cast-total c =
    omega (arith, now_values c.requires.all_sound c.loop-row-test.true c.from-p.ensures)

pub overflow_add-total : goal.overflow_add-total
overflow_add-total c =
    omega (arith, now_values c.requires.all_sound c.loop-row-test.true c.from-p.ensures)

pub loop-row-preserved : goal.loop-row-preserved
loop-row-preserved c = (
  omega (arith, now_values c.requires.all_sound c.loop-row-test.true c.from-p.ensures),
  totals_more c.requires.all_sound c.loop-row-test.true c.from-p.ensures c.loop-row.total c.loop-row.invariant.1 c.put_segment_totals-at.ensures.value c.put_segment_totals-at.ensures.out_after,
)

pub returns-clause-value : goal.returns-clause-value
returns-clause-value c =
    (fill_end c.loop-row.invariant.1 (totals_end c.args.stands.now _ _ _ _ c.loop-row-test.false)).0

pub returns-clause-out_after : goal.returns-clause-out_after
returns-clause-out_after c =
    (fill_end c.loop-row.invariant.1 (totals_end c.args.stands.now _ _ _ _ c.loop-row-test.false)).1 ∙ first-set _ _ c.args.out.now
