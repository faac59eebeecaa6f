use mathlib.Core.Path.{sym, ap, subst}
use Rattle.term_merger.specs.declared.Heap.{Heap}
use Prim.Native.Nat.{◌+◌}
use native.Mathlib.Omega.{arith}
use Rattle.term_merger.proofs.Begun.{Begun, begun_start, begun_push, begun_pass, begun_end}
use Rattle.term_merger.proofs.start_heap.Goals as goal
use Rattle.term_merger.proofs.start_heap.Goals.{then-cursor, else-cursor}

pub loop-s-init : goal.loop-s-init
loop-s-init c =
    begun_start _ _ _ (ap (λ (h : Heap). h.len) c.empty-h.ensures)

pub overflow_cast-s : goal.overflow_cast-s
overflow_cast-s c =
    omega (arith, c.loop-s-test.true)

pub push-h-requires-clause-in_bounds : goal.push-h-requires-clause-in_bounds
push-h-requires-clause-in_bounds c =
    (omega (arith, c.requires.0), c.requires.1)

pub push-h-requires-clause-ordered : goal.push-h-requires-clause-ordered
push-h-requires-clause-ordered c =
    c.loop-s.invariant.in_heap_order

pub loop-s-preserved : goal.loop-s-preserved
loop-s-preserved c =
    elim c.if-cursor.branch [
      | then-cursor w ↦ subst (λ (h : Heap). Begun c.args.bytes.now c.args.cursors.now h (c.loop-s.s + 1)) (sym w.h-is) (begun_push c.loop-s.invariant (omega (arith, c.loop-s-test.true, c.requires.0)) (w.push-h.ensures.room (omega (arith, c.loop-s.invariant.len, c.loop-s-test.true, c.requires.0))) (omega (arith, w.if-cursor.true)))
      | else-cursor w ↦ subst (λ (h : Heap). Begun c.args.bytes.now c.args.cursors.now h (c.loop-s.s + 1)) (sym w.h-is) (begun_pass c.loop-s.invariant (omega (arith, c.loop-s-test.true, c.requires.0)) (omega (arith, w.if-cursor.false)))
    ]

pub returns : goal.returns
returns c =
    begun_end _ _ _ _ c.loop-s.invariant (omega (arith, c.loop-s-test.false, c.requires.0)) c.requires.0
