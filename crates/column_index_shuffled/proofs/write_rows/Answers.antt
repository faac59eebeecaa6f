use Rattle.std.proofs.Common.{refl, ◌∙◌, zero-add, arith}
use lib.Dec.{eqb}
use Rattle.runs.proofs.Laws.{fill_start, fill_end}
use Rattle.stands.specs.Width.{totals_of}
use Rattle.stands.specs.Look.{widths}
use Rattle.stands.proofs.Laws.{ids-end, totals_end}
use Rattle.column_index_shuffled.proofs.Laws.{partly_start, partly_end, partly_second, partly_first, total-fits, total-more, row_lies, row-worded, words-room, words_more, words-none, ids-room, ids_more, totals_room, totals_more}
use Rattle.column_index_shuffled.proofs.write_rows.Goals as goal

pub loop-j-init : goal.loop-j-init
loop-j-init c = (
  omega arith,
  zero-add _,
  partly_start _ _ _ c.requires.room_if,
  partly_second (eqb c.args.class 2) 0 (totals_of 0 (widths c.args.stands.now c.args.ids.now c.args.offsets.now c.args.addresses.now)) c.args.out_offsets.now c.requires.room_if_2 _ c.put_part.ensures,
  fill_start _ _ c.requires.addresses_in_bounds,
)

pub append_row-v-requires-clause-lies : goal.append_row-v-requires-clause-lies
append_row-v-requires-clause-lies c =
    row_lies c.requires.ordered c.loop-j-test.true c.stand_at-p.ensures c.range_in-g.ensures.start_value c.range_in-g.ensures.end_value

pub append_row-v-requires-clause-worded : goal.append_row-v-requires-clause-worded
append_row-v-requires-clause-worded c =
    row-worded c.requires.ordered c.loop-j-test.true c.stand_at-p.ensures c.range_in-g.ensures.start_value c.range_in-g.ensures.end_value

pub append_row-v-requires-clause-end_in_bounds : goal.append_row-v-requires-clause-end_in_bounds
append_row-v-requires-clause-end_in_bounds c =
    words-room c.requires.ordered c.loop-j-test.true c.stand_at-p.ensures c.range_in-g.ensures.start_value c.range_in-g.ensures.end_value _ c.loop-j.invariant.4

pub overflow_add-t : goal.overflow_add-t
overflow_add-t c =
    let k = total-fits c.requires.ordered c.loop-j-test.true c.stand_at-p.ensures c.range_in-g.ensures.start_value c.range_in-g.ensures.end_value c.loop-j.t c.loop-j.invariant.1 in
    omega arith

pub put_part-requires-in-loop-j : goal.put_part-requires-in-loop-j
put_part-requires-in-loop-j c =
    ids-room c.requires.ordered c.loop-j-test.true c.stand_at-p.ensures c.range_in-g.ensures.start_value c.range_in-g.ensures.end_value c.loop-j.invariant.2

pub overflow_cast-t : goal.overflow_cast-t
overflow_cast-t c =
    let k = total-fits c.requires.ordered c.loop-j-test.true c.stand_at-p.ensures c.range_in-g.ensures.start_value c.range_in-g.ensures.end_value c.loop-j.t c.loop-j.invariant.1 in
    omega arith

pub put_part-requires-in-loop-j-2 : goal.put_part-requires-in-loop-j-2
put_part-requires-in-loop-j-2 c =
    totals_room c.requires.ordered c.loop-j-test.true c.stand_at-p.ensures c.range_in-g.ensures.start_value c.range_in-g.ensures.end_value c.loop-j.t c.loop-j.invariant.3

pub loop-j-preserved : goal.loop-j-preserved
loop-j-preserved c = (
  omega arith,
  total-more c.requires.ordered c.loop-j-test.true c.stand_at-p.ensures c.range_in-g.ensures.start_value c.range_in-g.ensures.end_value c.loop-j.t c.loop-j.invariant.1,
  ids_more c.requires.ordered c.loop-j-test.true c.stand_at-p.ensures c.range_in-g.ensures.start_value c.range_in-g.ensures.end_value c.loop-j.invariant.2 c.one_if-n.ensures.value c.put_part-in-loop-j.ensures,
  totals_more c.requires.ordered c.loop-j-test.true c.stand_at-p.ensures c.range_in-g.ensures.start_value c.range_in-g.ensures.end_value c.loop-j.t c.loop-j.invariant.3 c.loop-j.n _ refl c.one_if-n.ensures.value c.put_part-in-loop-j-2.ensures,
  words_more c.requires.ordered c.loop-j-test.true c.stand_at-p.ensures c.range_in-g.ensures.start_value c.range_in-g.ensures.end_value _ c.loop-j.invariant.4 c.append_row-v.ensures.value c.append_row-v.ensures.out_after,
)

pub returns-clause-out_ids_after : goal.returns-clause-out_ids_after
returns-clause-out_ids_after c =
    partly_end c.loop-j.invariant.2 (ids-end _ _ _ _ _ c.loop-j-test.false)

pub returns-clause-out_offsets_after : goal.returns-clause-out_offsets_after
returns-clause-out_offsets_after c =
    partly_end c.loop-j.invariant.3 (totals_end _ _ _ _ _ c.loop-j-test.false _) ∙ partly_first (eqb c.args.class 2) 0 (totals_of 0 (widths c.args.stands.now c.args.ids.now c.args.offsets.now c.args.addresses.now)) c.args.out_offsets.now c.requires.room_if_2 _ c.put_part.ensures

pub returns-clause-out_values_after : goal.returns-clause-out_values_after
returns-clause-out_values_after c =
    (fill_end c.loop-j.invariant.4 (words-none c.args.to _ _ _ _ c.args.map.now _ _ c.loop-j-test.false)).1
