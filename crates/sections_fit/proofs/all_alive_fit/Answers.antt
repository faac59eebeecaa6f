use mathlib.Core.Path.{◌∙◌}
use native.Mathlib.Omega.{arith}
use Rattle.definitions.specs.Segment.{alive_words}
use Rattle.segment.proofs.Walk.{total_step}
use Rattle.lists.proofs.Tests.{fell, went}
use Rattle.sections_fit.proofs.Walks.{alive_step, alive-end}
use Rattle.sections_fit.proofs.all_alive_fit.Goals as goal

pub returns-then-not-alive_fits : goal.returns-then-not-alive_fits
returns-then-not-alive_fits c =
    fell _ c.alive_fits.ensures (alive_step _ _ c.loop-r-test.true c.from-r.ensures c.args.mode _ c.split_at.ensures.front c.split_at.ensures.back c.alive_words.ensures.value) c.if-not-alive_fits.true ∙ c.loop-r.invariant.1

pub loop-r-preserved : goal.loop-r-preserved
loop-r-preserved c = (
  omega (arith, c.alive_words.ensures.value, c.split_at.ensures.back_len, total_step c.args.records.now c.loop-r.r-index c.loop-r-test.true c.from-r.ensures alive_words, c.loop-r.invariant.0),
  went _ c.alive_fits.ensures (alive_step _ _ c.loop-r-test.true c.from-r.ensures c.args.mode _ c.split_at.ensures.front c.split_at.ensures.back c.alive_words.ensures.value) c.if-not-alive_fits.false ∙ c.loop-r.invariant.1,
)

pub returns : goal.returns
returns c =
    alive-end c.args.records.now c.loop-r.r-index c.loop-r-test.false _ _ ∙ c.loop-r.invariant.1
