use Rattle.wire.proofs.Filled.{one_more, all_put}
use Rattle.runs.proofs.Laws.{putting-none}
use native.Mathlib.Omega.{arith}
use mathlib.Core.Path.{sym, ◌∙◌}
use Rattle.wire.proofs.Words as laws
use Rattle.wire.proofs.read_words.Goals as goal

pub loop-i-init : goal.loop-i-init
loop-i-init c =
    putting-none _ _ _

pub bounds-words-i : goal.bounds-words-i
bounds-words-i c =
    omega (arith, c.requires, laws.words-length c.args.input.now)

pub loop-i-preserved : goal.loop-i-preserved
loop-i-preserved c =
    one_more _ _ c.loop-i.invariant (laws.words-length c.args.input.now) 0 _ (omega (arith, c.requires, laws.words-length c.args.input.now)) c.loop-i-test.true (laws.words-at c.args.input.now c.loop-i.i c.loop-i-test.true ∙ sym c.word_at.ensures)

pub returns-clause-value : goal.returns-clause-value
returns-clause-value c =
    sym (laws.words-length c.args.input.now)

pub returns-clause-words_after : goal.returns-clause-words_after
returns-clause-words_after c =
    all_put _ _ c.loop-i.invariant (laws.words-length c.args.input.now) (omega arith) c.loop-i-test.false
