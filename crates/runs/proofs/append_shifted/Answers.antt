use native.Mathlib.Omega.{arith}
use mathlib.Core.Path.{◌∙◌}
use Rattle.runs.proofs.Laws.{putting-none, putting-next, putting-all, shifted-length, shifted_at, shifted_fits}
use Rattle.runs.proofs.append_shifted.Goals as goal

pub loop-j-init : goal.loop-j-init
loop-j-init c = putting-none _ _ _

pub overflow_add-out : goal.overflow_add-out
overflow_add-out c =
    omega (arith, shifted_fits _ _ c.args.xs.now c.requires.below c.loop-j.j c.loop-j-test.true)

pub loop-j-preserved : goal.loop-j-preserved
loop-j-preserved c =
    rw c.loop-j.invariant (putting-next _ _ _ _ _ _ (shifted-length c.args.by c.args.xs.now) c.requires.xs_in_bounds c.loop-j-test.true (shifted_at _ _ _ c.loop-j-test.true))

pub returns : goal.returns
returns c =
    c.loop-j.invariant ∙ putting-all _ _ _ _ _ (shifted-length c.args.by c.args.xs.now) (omega arith) c.loop-j-test.false
