use Rattle.wire.proofs.Filled.{one_more, all_put}
use Rattle.runs.proofs.Laws.{putting-none}
use native.Mathlib.Omega.{arith}
use mathlib.Core.Path.{sym, ◌∙◌}
use lib.ListN.{length-map}
use Rattle.definitions.proofs.Lists.{get_or_in}
use Rattle.wire.proofs.fill.Goals as goal

pub loop-j-init : goal.loop-j-init
loop-j-init g c =
    putting-none _ _ _

pub loop-j-preserved : goal.loop-j-preserved
loop-j-preserved g c =
    let f = g.T.Narrowed.narrowed in
    let ws = c.args.words.now in
    one_more _ _ c.loop-j.invariant (length-map ws f) c.narrowed.result _ c.requires.words_in_bounds c.loop-j-test.true (get_or_in f ws c.loop-j.j c.narrowed.result 0 c.loop-j-test.true ∙ sym c.narrowed.ensures)

pub returns : goal.returns
returns g c =
    all_put _ _ c.loop-j.invariant (length-map c.args.words.now g.T.Narrowed.narrowed) (omega arith) c.loop-j-test.false
