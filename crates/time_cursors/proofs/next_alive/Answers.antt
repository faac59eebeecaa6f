use mathlib.Core.Path.{◌≡◌, sym, ap, ◌∙◌}
use native.Mathlib.Nat.{le_refl}
use native.Mathlib.Omega.{arith}
use Rattle.time_cursors.specs.Cursors.{next_row}
use Rattle.time_cursors.proofs.Laws.{next-plain, next_here, next_later, next-none}
use Rattle.time_cursors.proofs.next_alive.Goals as goal

pub returns-then-flag-ne1 : goal.returns-then-flag-ne1
returns-then-flag-ne1 c = next-plain _ _ _ _ c.if-flag-ne1.true

pub returns-then-is_alive : goal.returns-then-is_alive
returns-then-is_alive c = next_here _ _ _ _ c.if-flag-ne1.false c.loop-n-test.true (sym c.is_alive.ensures ∙ c.if-is_alive.true) ∙ c.loop-n.invariant

pub loop-n-preserved : goal.loop-n-preserved
loop-n-preserved c = next_later _ _ _ _ c.if-flag-ne1.false c.loop-n-test.true (sym c.is_alive.ensures ∙ c.if-is_alive.false) ∙ c.loop-n.invariant

pub returns : goal.returns
returns c =
    let e : c.args.rows ≡ c.loop-n.n = omega (arith, c.loop-n.auto.n-end c.requires.from_le_rows) in
    next-none _ _ _ _ (le_refl c.args.rows) ∙ ap (next_row c.args.flag c.args.alive.now c.args.rows) e ∙ c.loop-n.invariant
