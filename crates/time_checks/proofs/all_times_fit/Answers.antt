use Rattle.std.proofs.Common.{ℕ, ◌+◌, refl, ap, ◌∙◌, arith}
use Rattle.segment.proofs.Walk.{total_step}
use Rattle.time_checks.proofs.Laws.{times_step, times-end}
use Rattle.definitions.specs.Segment.{SegmentRecord, record_words}
use Rattle.lists.proofs.Tests.{fell, went}
use Rattle.time_checks.proofs.all_times_fit.Goals as goal

pub returns-then-not-times_fit : goal.returns-then-not-times_fit
returns-then-not-times_fit c =
    fell _ c.times_fit.ensures (times_step c.args.records.now c.loop-numbers.numbers-index c.loop-numbers-test.true c.from-r.ensures c.args.offsets.now c.args.values.now c.loop-numbers.o (c.loop-numbers.o + c.from-r.result.offsets) c.loop-numbers.v (c.loop-numbers.v + c.value_words.result) refl (ap (λ (n : ℕ). c.loop-numbers.v + n) c.value_words.ensures.value)) c.if-not-times_fit.true ∙ c.loop-numbers.invariant.2

pub loop-numbers-preserved : goal.loop-numbers-preserved
loop-numbers-preserved c = (
  omega (arith, total_step c.args.records.now c.loop-numbers.numbers-index c.loop-numbers-test.true c.from-r.ensures (λ (r : SegmentRecord). r.offsets)),
  omega (arith, total_step c.args.records.now c.loop-numbers.numbers-index c.loop-numbers-test.true c.from-r.ensures record_words),
  went _ c.times_fit.ensures (times_step c.args.records.now c.loop-numbers.numbers-index c.loop-numbers-test.true c.from-r.ensures c.args.offsets.now c.args.values.now c.loop-numbers.o (c.loop-numbers.o + c.from-r.result.offsets) c.loop-numbers.v (c.loop-numbers.v + c.value_words.result) refl (ap (λ (n : ℕ). c.loop-numbers.v + n) c.value_words.ensures.value)) c.if-not-times_fit.false ∙ c.loop-numbers.invariant.2,
)

pub returns : goal.returns
returns c =
    times-end c.args.records.now c.loop-numbers.numbers-index c.loop-numbers-test.false _ _ ∙ c.loop-numbers.invariant.2
