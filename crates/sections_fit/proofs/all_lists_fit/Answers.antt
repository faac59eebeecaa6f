use mathlib.Core.Path.{◌∙◌}
use Rattle.lists.proofs.Tests.{fell, went}
use Rattle.sections_fit.proofs.Walks.{lists_step, lists_held, lists_end}
use Rattle.sections_fit.proofs.all_lists_fit.Goals as goal

pub returns-then-not-lists_fit : goal.returns-then-not-lists_fit
returns-then-not-lists_fit c =
    let i = c.split_at.ensures in
    let o = c.split_at-in-loop-r.ensures in
    fell _ c.lists_fit.ensures (lists_step _ _ c.loop-r-test.true c.from-r.ensures _ _ i.front o.front i.back o.back) c.if-not-lists_fit.true ∙ c.loop-r.invariant.1

pub loop-r-preserved : goal.loop-r-preserved
loop-r-preserved c =
    let i = c.split_at.ensures in
    let o = c.split_at-in-loop-r.ensures in
    (lists_held _ _ c.loop-r-test.true c.from-r.ensures _ _ i.front o.front i.back o.back c.loop-r.invariant.0, went _ c.lists_fit.ensures (lists_step _ _ c.loop-r-test.true c.from-r.ensures _ _ i.front o.front i.back o.back) c.if-not-lists_fit.false ∙ c.loop-r.invariant.1)

pub returns : goal.returns
returns c =
    lists_end c.args.records.now c.loop-r.r-index c.loop-r-test.false _ _ ∙ c.loop-r.invariant.1
