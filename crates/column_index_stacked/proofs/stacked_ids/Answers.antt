use Rattle.std.proofs.Common.{arith}
use Rattle.runs.proofs.Laws.{fill_end}
use Rattle.column_index_stacked.proofs.Turn.{now_rows, ids-room, ids_more, ids-end}
use Rattle.column_index_stacked.proofs.stacked_ids.Goals as goal

pub put_segment_ids-at-requires-clause-rows_bound : goal.put_segment_ids-at-requires-clause-rows_bound
put_segment_ids-at-requires-clause-rows_bound c =
    omega (arith, now_rows c.requires.all_sound c.loop-row-test.true c.from-p.ensures)

pub put_segment_ids-at-requires-clause-offsets_in_bounds : goal.put_segment_ids-at-requires-clause-offsets_in_bounds
put_segment_ids-at-requires-clause-offsets_in_bounds c =
    ids-room c.requires.all_sound c.loop-row-test.true c.from-p.ensures c.loop-row.first c.loop-row.invariant.1

pub overflow_cast-first : goal.overflow_cast-first
overflow_cast-first c =
    omega (arith, now_rows c.requires.all_sound c.loop-row-test.true c.from-p.ensures)

pub overflow_add-first : goal.overflow_add-first
overflow_add-first c =
    omega (arith, now_rows c.requires.all_sound c.loop-row-test.true c.from-p.ensures)

pub loop-row-preserved : goal.loop-row-preserved
loop-row-preserved c = (
  omega (arith, now_rows c.requires.all_sound c.loop-row-test.true c.from-p.ensures),
  ids_more c.requires.all_sound c.loop-row-test.true c.from-p.ensures c.loop-row.first c.loop-row.invariant.1 c.put_segment_ids-at.ensures.value c.put_segment_ids-at.ensures.out_after,
)

pub returns-clause-value : goal.returns-clause-value
returns-clause-value c =
    (fill_end c.loop-row.invariant.1 (ids-end c.args.stands.now _ _ _ _ c.loop-row-test.false)).0

pub returns-clause-out_after : goal.returns-clause-out_after
returns-clause-out_after c =
    (fill_end c.loop-row.invariant.1 (ids-end c.args.stands.now _ _ _ _ c.loop-row-test.false)).1
