use mathlib.Core.Path.{sym}
use native.Mathlib.Omega.{arith}
use lib.Seq.{length-take-le}
use borrow.Author.Rules.{rules}
use Rattle.time_order.proofs.Tables.{few-records, begins_readable}
use Rattle.stands.proofs.Fill.{lent-stands}
use Rattle.time_order.proofs.order_rows.Goals as goal

pub fill_stands-requires : goal.fill_stands-requires
fill_stands-requires c =
    let f = few-records c.args.records.now c.requires.ready in
    search rules

pub slice_bounds-stands-end : goal.slice_bounds-stands-end
slice_bounds-stands-end c =
    omega (arith, few-records c.args.records.now c.requires.ready)

pub slice_bounds-fill_cursors-end : goal.slice_bounds-fill_cursors-end
slice_bounds-fill_cursors-end c =
    sym (length-take-le _ _ (omega (arith, few-records c.args.records.now c.requires.ready)))

pub fill_cursors-requires-clause-ready : goal.fill_cursors-requires-clause-ready
fill_cursors-requires-clause-ready c =
    rw (lent-stands c.args.records.now _ c.fill_stands.ensures) c.requires.ready

pub start_heap-heap-requires : goal.start_heap-heap-requires
start_heap-heap-requires c =
    (c.fill_cursors.ensures.size, begins_readable _ c.fill_cursors.ensures)

pub slice_bounds-stands-end-2 : goal.slice_bounds-stands-end-2
slice_bounds-stands-end-2 c =
    omega (arith, few-records c.args.records.now c.requires.ready)

pub slice_bounds-merge-end-2 : goal.slice_bounds-merge-end-2
slice_bounds-merge-end-2 c =
    sym (length-take-le _ _ (omega (arith, few-records c.args.records.now c.requires.ready)))

pub merge-requires-clause-ready : goal.merge-requires-clause-ready
merge-requires-clause-ready c =
    rw (lent-stands c.args.records.now _ c.fill_stands.ensures) c.requires.ready

pub merge-requires-clause-rising : goal.merge-requires-clause-rising
merge-requires-clause-rising c =
    rw (lent-stands c.args.records.now _ c.fill_stands.ensures) c.requires.rising

pub returns : goal.returns
returns c =
    let is = lent-stands c.args.records.now _ c.fill_stands.ensures in
    record { value = rw (← is) c.merge.ensures.value; out_after = rw (← is) c.merge.ensures.out_after }
