use borrow.Author.Rules.{rules}
use mathlib.Core.Path.{refl}
use native.Mathlib.Omega.{arith}
use lib.ListN.{length-set}
use Rattle.time_merge.proofs.Going.{going_readable, going_start, going_end, s-there, s_near, timed-s, rest-left, rows-given, room, one_written, readable-new, going_more}
use Rattle.term_merger.proofs.Walk.{sinking_new}
use Rattle.time_merge.proofs.merge.Goals as goal

pub loop-h-init : goal.loop-h-init
loop-h-init c =
    (_, _, going_start c.requires.ready _ c.requires.begins c.requires.started (search rules))

pub stand_at-p-requires : goal.stand_at-p-requires
stand_at-p-requires c =
    s-there c.requires.ready c.requires.rising c.loop-h.invariant.2 c.loop-h-test.true refl

pub run_of-run-requires-clause-cursors_len : goal.run_of-run-requires-clause-cursors_len
run_of-run-requires-clause-cursors_len c =
    (c.loop-h.invariant.2.size, going_readable c.requires.ready c.requires.rising c.loop-h.invariant.2, c.loop-h.invariant.2.heap.len, s_near c.requires.ready c.requires.rising c.loop-h.invariant.2 c.loop-h-test.true refl c.stand_at-p.ensures)

pub run_of-run-requires-clause-times_at : goal.run_of-run-requires-clause-times_at
run_of-run-requires-clause-times_at c =
    (timed-s c.requires.ready c.requires.rising c.loop-h.invariant.2 c.loop-h-test.true refl c.stand_at-p.ensures).times

pub run_of-run-requires-clause-left : goal.run_of-run-requires-clause-left
run_of-run-requires-clause-left c =
    rest-left c.requires.ready c.requires.rising c.loop-h.invariant.2 c.loop-h-test.true refl c.stand_at-p.ensures

pub slice_bounds-set-count : goal.slice_bounds-set-count
slice_bounds-set-count c =
    (timed-s c.requires.ready c.requires.rising c.loop-h.invariant.2 c.loop-h-test.true refl c.stand_at-p.ensures).alive-lie.rises

pub slice_bounds-set-start : goal.slice_bounds-set-start
slice_bounds-set-start c =
    (timed-s c.requires.ready c.requires.rising c.loop-h.invariant.2 c.loop-h-test.true refl c.stand_at-p.ensures).alive-lie.rises

pub slice_bounds-set-end : goal.slice_bounds-set-end
slice_bounds-set-end c =
    (timed-s c.requires.ready c.requires.rising c.loop-h.invariant.2 c.loop-h-test.true refl c.stand_at-p.ensures).alive-lie.ends

pub write_rows-k-requires-clause-s_bound : goal.write_rows-k-requires-clause-s_bound
write_rows-k-requires-clause-s_bound c =
    (rows-given c.requires.ready c.requires.rising c.loop-h.invariant.2 c.loop-h-test.true refl c.stand_at-p.ensures c.run_of-run.ensures).0

pub write_rows-k-requires-clause-end_bound : goal.write_rows-k-requires-clause-end_bound
write_rows-k-requires-clause-end_bound c =
    (rows-given c.requires.ready c.requires.rising c.loop-h.invariant.2 c.loop-h-test.true refl c.stand_at-p.ensures c.run_of-run.ensures).1.0

pub write_rows-k-requires-clause-end_in_bounds : goal.write_rows-k-requires-clause-end_in_bounds
write_rows-k-requires-clause-end_in_bounds c =
    (rows-given c.requires.ready c.requires.rising c.loop-h.invariant.2 c.loop-h-test.true refl c.stand_at-p.ensures c.run_of-run.ensures).1.1

pub first_from-requires-clause-timed : goal.first_from-requires-clause-timed
first_from-requires-clause-timed c =
    timed-s c.requires.ready c.requires.rising c.loop-h.invariant.2 c.loop-h-test.true refl c.stand_at-p.ensures

pub settle_top-requires-clause-in_bounds : goal.settle_top-requires-clause-in_bounds
settle_top-requires-clause-in_bounds c =
    (simp length-set (omega (arith, c.loop-h.invariant.2.size)), readable-new c.requires.ready c.requires.rising c.loop-h.invariant.2 c.loop-h-test.true refl c.stand_at-p.ensures c.run_of-run.ensures c.first_from.ensures)

pub settle_top-requires-clause-seg_len : goal.settle_top-requires-clause-seg_len
settle_top-requires-clause-seg_len c =
    (c.loop-h.invariant.2.heap.full, c.loop-h-test.true, c.loop-h.invariant.2.heap.len, sinking_new c.loop-h.invariant.2.heap c.loop-h-test.true refl _ refl)

pub loop-h-smaller : goal.loop-h-smaller
loop-h-smaller c =
    omega (arith, c.loop-h.invariant.2.out_size, one_written c.requires.ready c.requires.rising c.loop-h.invariant.2 c.loop-h-test.true refl c.stand_at-p.ensures c.run_of-run.ensures, room c.requires.ready c.requires.rising c.loop-h.invariant.2 c.loop-h-test.true refl c.stand_at-p.ensures c.run_of-run.ensures, c.write_rows-k.ensures.value)

pub loop-h-preserved : goal.loop-h-preserved
loop-h-preserved c =
    (_, _, going_more c.requires.ready c.requires.rising c.loop-h.invariant.2 c.loop-h-test.true refl c.stand_at-p.ensures c.run_of-run.ensures c.first_from.ensures c.write_rows-k.ensures.value c.write_rows-k.ensures.out_after c.settle_top.ensures)

pub returns-clause-value : goal.returns-clause-value
returns-clause-value c =
    (going_end c.requires.ready c.requires.rising c.loop-h.invariant.2 c.loop-h-test.false).0

pub returns-clause-out_after : goal.returns-clause-out_after
returns-clause-out_after c =
    (going_end c.requires.ready c.requires.rising c.loop-h.invariant.2 c.loop-h-test.false).1.0

pub returns-clause-ends : goal.returns-clause-ends
returns-clause-ends c =
    (going_end c.requires.ready c.requires.rising c.loop-h.invariant.2 c.loop-h-test.false).1.1

pub offset_bounds-alive-p : goal.offset_bounds-alive-p
offset_bounds-alive-p c =
    omega (arith, (timed-s c.requires.ready c.requires.rising c.loop-h.invariant.2 c.loop-h-test.true refl c.stand_at-p.ensures).alive-lie.rises, (timed-s c.requires.ready c.requires.rising c.loop-h.invariant.2 c.loop-h-test.true refl c.stand_at-p.ensures).alive-lie.ends, c.well_formed)
