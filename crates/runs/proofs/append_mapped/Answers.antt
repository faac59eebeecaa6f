use native.Mathlib.Omega.{arith}
use mathlib.Core.Path.{◌∙◌}
use Rattle.runs.proofs.Laws.{putting-none, putting-next, putting-all, looked-length, looked-at}
use Rattle.runs.proofs.append_mapped.Goals as goal

pub loop-j-init : goal.loop-j-init
loop-j-init c = putting-none _ _ _

pub bounds-table-w : goal.bounds-table-w
bounds-table-w c = omega (arith, c.requires.below c.loop-j.j c.loop-j-test.true)

pub loop-j-preserved : goal.loop-j-preserved
loop-j-preserved c =
    rw c.loop-j.invariant (putting-next _ _ _ _ _ _ (looked-length c.args.table.now c.args.vs.now) c.requires.vs_in_bounds c.loop-j-test.true (looked-at _ _ _ c.loop-j-test.true))

pub returns : goal.returns
returns c =
    c.loop-j.invariant ∙ putting-all _ _ _ _ _ (looked-length c.args.table.now c.args.vs.now) (omega arith) c.loop-j-test.false
