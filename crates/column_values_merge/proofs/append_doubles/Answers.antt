use Rattle.std.proofs.Common.{◌∙◌}
use Rattle.runs.proofs.Laws.{putting-none, putting-next, putting-all}
use Rattle.column_values_merge.proofs.Laws.{doubles-length, doubles-at}
use Rattle.column_values_merge.proofs.append_doubles.Goals as goal

pub loop-j-init : goal.loop-j-init
loop-j-init c = putting-none _ _ _

pub loop-j-preserved : goal.loop-j-preserved
loop-j-preserved c =
    rw c.loop-j.invariant (putting-next _ _ _ _ _ _ (doubles-length c.args.t c.args.vs.now) c.requires c.loop-j-test.true (c.integer_to_double.ensures ∙ doubles-at _ _ _ c.loop-j-test.true))

pub returns : goal.returns
returns c =
    c.loop-j.invariant ∙ putting-all _ _ _ _ _ (doubles-length c.args.t c.args.vs.now) c.loop-j.auto.j-end c.loop-j-test.false
