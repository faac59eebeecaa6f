use native.Mathlib.Omega.{arith}
use mathlib.Core.Path.{◌∙◌}
use Rattle.definitions.proofs.Lists.{length-up_from}
use Rattle.runs.proofs.Laws.{putting-none, putting-next, putting-all, up_from-at}
use Rattle.runs.proofs.append_range.Goals as goal

pub loop-j-init : goal.loop-j-init
loop-j-init c = putting-none _ _ _

pub loop-j-preserved : goal.loop-j-preserved
loop-j-preserved c =
    rw c.loop-j.invariant (putting-next _ _ _ _ _ _ (length-up_from c.args.first c.args.n) c.requires.n_in_bounds c.loop-j-test.true (up_from-at _ _ _ c.loop-j-test.true))

pub returns : goal.returns
returns c =
    c.loop-j.invariant ∙ putting-all _ _ _ _ _ (length-up_from c.args.first c.args.n) (omega arith) c.loop-j-test.false
