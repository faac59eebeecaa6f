use mathlib.Core.Path.{refl, ap, ◌∙◌}
use Prim.Native.Nat.{◌+◌}
use lib.ListN.{set}
use Rattle.runs.proofs.Laws.{putting-none, putting-more, putting-all}
use Rattle.runs.proofs.append.Goals as goal

pub loop-v-init : goal.loop-v-init
loop-v-init g c =
    (refl, putting-none _ _ _)

pub loop-v-preserved : goal.loop-v-preserved
loop-v-preserved g c =
    (ap (λ n. n + 1) c.loop-v.invariant.0, (λ i. set (c.loop-v.invariant.1 i) (c.args.at + c.loop-v.invariant.0 i) (c.v-item.is i)) ∙ putting-more _ _ _ _ c.v-item.result c.requires c.loop-v-test.true)

pub returns-clause-out_after : goal.returns-clause-out_after
returns-clause-out_after g c =
    c.loop-v.invariant.1 ∙ putting-all _ _ _ _ _ refl c.loop-v.auto.v-index-end c.loop-v-test.false
