use mathlib.Core.Path.{refl, ◌∙◌}
use native.Mathlib.Omega.{arith}
use Rattle.lists.proofs.Tests.{fell, went}
use Rattle.sections_fit.proofs.Walks.{values_step, terms_few, values_held, values-end}
use Rattle.sections_fit.proofs.all_values_fit.Goals as goal

pub values_fit-requires : goal.values_fit-requires
values_fit-requires c =
    let v = c.split_at.ensures in
    let t = c.split_at-in-loop-r.ensures in
    omega (arith, terms_few _ _ c.loop-r-test.true c.from-r.ensures _ _ _ v.front t.front v.back t.back c.value_words.ensures.value c.loop-r.invariant.0)

pub returns-then-not-values_fit : goal.returns-then-not-values_fit
returns-then-not-values_fit c =
    let v = c.split_at.ensures in
    let t = c.split_at-in-loop-r.ensures in
    fell _ c.values_fit.ensures (values_step _ _ c.loop-r-test.true c.from-r.ensures _ _ _ v.front t.front v.back t.back c.value_words.ensures.value refl refl) c.if-not-values_fit.true ∙ c.loop-r.invariant.2

pub sum_of-requires : goal.sum_of-requires
sum_of-requires c =
    let v = c.split_at.ensures in
    let t = c.split_at-in-loop-r.ensures in
    omega (arith, terms_few _ _ c.loop-r-test.true c.from-r.ensures _ _ _ v.front t.front v.back t.back c.value_words.ensures.value c.loop-r.invariant.0)

pub split_at-requires-in-loop-r-2 : goal.split_at-requires-in-loop-r-2
split_at-requires-in-loop-r-2 c =
    let v = c.split_at.ensures in
    let t = c.split_at-in-loop-r.ensures in
    omega (arith, c.sum_of.ensures, terms_few _ _ c.loop-r-test.true c.from-r.ensures _ _ _ v.front t.front v.back t.back c.value_words.ensures.value c.loop-r.invariant.0)

pub loop-r-preserved : goal.loop-r-preserved
loop-r-preserved c =
    let v = c.split_at.ensures in
    let t = c.split_at-in-loop-r.ensures in
    let b = c.split_at-in-loop-r-2.ensures in
    let i = c.loop-r.invariant in (
      values_held _ _ c.loop-r-test.true c.from-r.ensures _ _ _ v.front t.front v.back t.back c.value_words.ensures.value c.sum_of.ensures b.back i.0,
      omega (arith, b.back_len, i.1),
      went _ c.values_fit.ensures (values_step _ _ c.loop-r-test.true c.from-r.ensures _ _ _ v.front t.front v.back t.back c.value_words.ensures.value c.sum_of.ensures b.back) c.if-not-values_fit.false ∙ i.2,
    )

pub returns : goal.returns
returns c =
    values-end c.args.records.now c.loop-r.r-index c.loop-r-test.false _ _ _ ∙ c.loop-r.invariant.2
