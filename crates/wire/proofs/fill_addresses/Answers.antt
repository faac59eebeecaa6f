use Rattle.wire.proofs.Filled.{one_more, all_put}
use Rattle.runs.proofs.Laws.{putting-none}
use native.Mathlib.Omega.{arith}
use mathlib.Core.Path.{◌∙◌}
use Prim.Native.Nat.{◌/◌}
use lib.ListN.{length}
use mathlib.Core.List.{[]}
use Rattle.wire.proofs.Sections as laws
use Rattle.wire.proofs.fill_addresses.Goals as goal

pub loop-i-init : goal.loop-i-init
loop-i-init c =
    putting-none _ _ _

pub loop-i-preserved : goal.loop-i-preserved
loop-i-preserved c =
    let w = c.args.words.now in
    let n = length w / 2 in
    one_more _ _ c.loop-i.invariant (laws.grouped-length 2 n w) [] _ c.requires.words_in_bounds c.loop-i-test.true (laws.grouped-at 2 n w c.loop-i.i c.loop-i-test.true ∙ laws.two_at w _ (omega (arith, c.loop-i-test.true)))

pub returns : goal.returns
returns c =
    all_put _ _ c.loop-i.invariant (laws.grouped-length 2 _ c.args.words.now) (omega arith) c.loop-i-test.false
