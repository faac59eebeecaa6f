use native.Mathlib.Nat.{le_refl}
use native.Mathlib.Omega.{arith}
use lib.ListN.{length}
use Rattle.time_cursors.proofs.Laws.{ids_start, ids-here, ids-end}
use Rattle.time_cursors.proofs.ids_until.Goals as goal

pub loop-n-init : goal.loop-n-init
loop-n-init c = ids_start _ _ c.requires.t _ c.requires.k_bound

pub returns-then-row-ids : goal.returns-then-row-ids
returns-then-row-ids c = ids-here _ _ c.requires.t _ c.loop-n-test.true c.loop-n.invariant c.if-row-ids.true

pub returns : goal.returns
returns c = ids-end _ _ c.requires.t _ (le_refl (length c.args.ids.now)) (le_refl (length c.args.ids.now)) (λ j l. c.loop-n.invariant j (omega arith))
