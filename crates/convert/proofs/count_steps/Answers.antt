use native.Mathlib.Omega.{arith}
use borrow.Author.Tests.{eqb-true, eqb-false}
use borrow.Author.Rules.{rules}
use mathlib.Core.Path.{sym, ◌∙◌}
use Prim.Native.Nat.{◌-◌, ◌/◌}
use lib.Dec.{ltb}
use lib.ListN.{length}
use Rattle.convert.proofs.Risen.{no_steps, quarter, steps_all, steps_few, ids-rises}
use Rattle.convert.proofs.count_steps.Goals as goal

pub returns-then-is_empty-clause-risen_value : goal.returns-then-is_empty-clause-risen_value
returns-then-is_empty-clause-risen_value c =
    let d = c.default.ensures in let n = no_steps c.args.offsets.now (eqb-true _ _ (sym c.is_empty.ensures ∙ c.if-is_empty.true)) in omega (arith, n.0)

pub returns-then-is_empty-clause-fallen_value : goal.returns-then-is_empty-clause-fallen_value
returns-then-is_empty-clause-fallen_value c =
    let d = c.default.ensures in let n = no_steps c.args.offsets.now (eqb-true _ _ (sym c.is_empty.ensures ∙ c.if-is_empty.true)) in omega (arith, n.1)

pub overflow_add-result : goal.overflow_add-result
overflow_add-result c =
    let e = steps_all (λ o p. ltb o p) c.args.offsets.now ((length c.args.offsets.now - 1) / 4) (quarter (length c.args.offsets.now) (eqb-false _ _ (sym c.is_empty.ensures ∙ c.if-is_empty.false))) _ _ c.steps_in_four-four.ensures.risen_value c.steps_in-rest.ensures.risen_value in
    let f = steps_few (λ o p. ltb o p) c.args.offsets.now in
    search rules

pub overflow_add-result-2 : goal.overflow_add-result-2
overflow_add-result-2 c =
    let e = steps_all (λ o p. ltb p o) c.args.offsets.now ((length c.args.offsets.now - 1) / 4) (quarter (length c.args.offsets.now) (eqb-false _ _ (sym c.is_empty.ensures ∙ c.if-is_empty.false))) _ _ c.steps_in_four-four.ensures.fallen_value c.steps_in-rest.ensures.fallen_value in
    let f = steps_few (λ o p. ltb p o) c.args.offsets.now in
    search rules

pub returns-clause-risen_value : goal.returns-clause-risen_value
returns-clause-risen_value c =
    let h = quarter (length c.args.offsets.now) (eqb-false _ _ (sym c.is_empty.ensures ∙ c.if-is_empty.false)) in
    steps_all (λ o p. ltb o p) c.args.offsets.now ((length c.args.offsets.now - 1) / 4) h _ _ c.steps_in_four-four.ensures.risen_value c.steps_in-rest.ensures.risen_value ∙ sym (ids-rises 0 c.args.offsets.now)

pub returns-clause-fallen_value : goal.returns-clause-fallen_value
returns-clause-fallen_value c =
    let h = quarter (length c.args.offsets.now) (eqb-false _ _ (sym c.is_empty.ensures ∙ c.if-is_empty.false)) in
    steps_all (λ o p. ltb p o) c.args.offsets.now ((length c.args.offsets.now - 1) / 4) h _ _ c.steps_in_four-four.ensures.fallen_value c.steps_in-rest.ensures.fallen_value
