use borrow.Author.Rules.{rules}
use mathlib.Core.Path.{refl}
use mathlib.Core.List.{[]}
use native.Mathlib.Omega.{arith}
use lib.ListN.{get_or}
use Rattle.term_merger.proofs.Walk.{sinking_new}
use Rattle.term_walk.proofs.Going.{going_start, going_more, term-inside, terms-room, texts-room, place_in, end-s, fits-s, stepped, small-ordinal, size-new, readable-new, fewer}
use Rattle.term_walk.proofs.Ends.{walked, cursors_passed}
use Rattle.term_walk.proofs.merge_terms.Goals as goal

pub loop-h-init : goal.loop-h-init
loop-h-init c =
    ((λ x. 0), [], going_start _ _ _ _ _ _ _ _ _ _ c.requires.ready c.requires.started (search rules) (record { byte = λ i. (c.shared_slice_known-2-1.given i).fits }) refl refl refl refl)

pub take_term-t-requires-clause-inside : goal.take_term-t-requires-clause-inside
take_term-t-requires-clause-inside c =
    term-inside c.requires.ready c.loop-h.invariant.2 c.loop-h-test.true refl

pub take_term-t-requires-clause-terms_in_bounds : goal.take_term-t-requires-clause-terms_in_bounds
take_term-t-requires-clause-terms_in_bounds c =
    (terms-room c.requires.ready c.loop-h.invariant.2 c.loop-h-test.true refl, texts-room c.requires.ready c.loop-h.invariant.2 c.loop-h-test.true refl)

pub overflow_cast-map : goal.overflow_cast-map
overflow_cast-map c =
    omega (arith, small-ordinal c.requires.ready c.loop-h.invariant.2 c.loop-h-test.true refl _ _ _ (stepped c.requires.ready c.loop-h.invariant.2 c.loop-h-test.true refl _ _ _ c.take_term-t.ensures).1)

pub bounds-map-cursor : goal.bounds-map-cursor
bounds-map-cursor c =
    omega (arith, place_in c.requires.ready c.loop-h.invariant.2 c.loop-h-test.true refl)

pub overflow_add-at : goal.overflow_add-at
overflow_add-at c =
    omega (arith, (term-inside c.requires.ready c.loop-h.invariant.2 c.loop-h-test.true refl).1)

pub overflow_add-at-in-loop-h : goal.overflow_add-at-in-loop-h
overflow_add-at-in-loop-h c =
    omega (arith, place_in c.requires.ready c.loop-h.invariant.2 c.loop-h-test.true refl, c.loop-h.invariant.2.size-map)

pub put_cursor-requires-clause-standing : goal.put_cursor-requires-clause-standing
put_cursor-requires-clause-standing c =
    record {
      inside = omega (arith, end-s c.requires.ready c.loop-h.invariant.2 c.loop-h-test.true refl, c.requires.ready.inside (get_or c.loop-h.h.seg 0 0));
      marked = λ e. omega (arith, end-s c.requires.ready c.loop-h.invariant.2 c.loop-h-test.true refl, c.requires.ready.marked (get_or c.loop-h.h.seg 0 0) e);
      text = fits-s c.requires.ready c.loop-h.invariant.2 c.loop-h-test.true refl;
    }

pub settle_top-requires-clause-in_bounds : goal.settle_top-requires-clause-in_bounds
settle_top-requires-clause-in_bounds c =
    (omega (arith, size-new c.requires.ready c.loop-h.invariant.2 c.loop-h-test.true refl c.put_cursor.ensures), readable-new c.requires.ready c.loop-h.invariant.2 c.loop-h-test.true refl c.put_cursor.ensures)

pub settle_top-requires-clause-seg_len : goal.settle_top-requires-clause-seg_len
settle_top-requires-clause-seg_len c =
    (c.loop-h.invariant.2.heap.full, c.loop-h-test.true, c.loop-h.invariant.2.heap.len, sinking_new c.loop-h.invariant.2.heap c.loop-h-test.true refl _ c.put_cursor.ensures)

pub loop-h-smaller : goal.loop-h-smaller
loop-h-smaller c =
    fewer c.requires.ready c.loop-h.invariant.2 c.loop-h-test.true refl c.put_cursor.ensures

pub loop-h-preserved : goal.loop-h-preserved
loop-h-preserved c =
    let st = stepped c.requires.ready c.loop-h.invariant.2 c.loop-h-test.true refl _ _ _ c.take_term-t.ensures in
    (_, st.0, going_more c.requires.ready c.loop-h.invariant.2 c.loop-h-test.true refl c.put_cursor.ensures _ _ _ _ st.1 _ refl c.settle_top.ensures)

pub returns-clause-merged : goal.returns-clause-merged
returns-clause-merged c =
    walked c.requires.ready c.loop-h.invariant.2 c.loop-h-test.false _ _ _ refl refl refl

pub returns-clause-cursors_after : goal.returns-clause-cursors_after
returns-clause-cursors_after c =
    cursors_passed c.requires.ready c.loop-h.invariant.2 c.loop-h-test.false

pub offset_bounds-map-cursor : goal.offset_bounds-map-cursor
offset_bounds-map-cursor c =
    omega (arith, place_in c.requires.ready c.loop-h.invariant.2 c.loop-h-test.true refl, c.loop-h.invariant.2.size-map, c.well_formed)
