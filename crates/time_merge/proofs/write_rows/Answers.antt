use Prim.Native.Nat.{ℕ, ◌+◌}
use native.Mathlib.Omega.{arith}
use mathlib.Core.Path.{ap}
use Rattle.time_merge.proofs.Rows.{row_room, row_written, all_start, all_end}
use Rattle.time_merge.proofs.write_rows.Goals as goal

pub loop-row-init : goal.loop-row-init
loop-row-init c =
    all_start _ _ _ _ _ _ c.last_listed-stop.ensures _ _ c.requires.end_in_bounds

pub bounds-out-n : goal.bounds-out-n
bounds-out-n c =
    row_room _ _ _ _ _ c.loop-row.invariant c.loop-row-test.true (c.last_listed-stop.ensures.last (omega (arith, c.loop-row.auto.row, c.loop-row-test.true)))

pub loop-row-preserved : goal.loop-row-preserved
loop-row-preserved c =
    (row_written _ _ _ _ _ c.loop-row.invariant c.loop-row-test.true (c.last_listed-stop.ensures.last (omega (arith, c.loop-row.auto.row, c.loop-row-test.true))) (ap (λ (m : ℕ). c.loop-row.n + m) c.one_if_listed-n.ensures.value))

pub returns-clause-value : goal.returns-clause-value
returns-clause-value c =
    (all_end _ _ _ _ _ _ c.last_listed-stop.ensures _ c.loop-row.invariant c.loop-row-test.false).0

pub returns-clause-out_after : goal.returns-clause-out_after
returns-clause-out_after c =
    (all_end _ _ _ _ _ _ c.last_listed-stop.ensures _ c.loop-row.invariant c.loop-row-test.false).1
