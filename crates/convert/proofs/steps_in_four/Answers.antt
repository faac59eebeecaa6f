use native.Mathlib.Omega.{arith}
use lib.Dec.{ltb}
use Rattle.convert.proofs.Risen.{steps_back, steps_past}
use Rattle.convert.proofs.steps_in_four.Goals as goal

pub loop-i-preserved : goal.loop-i-preserved
loop-i-preserved c =
    let up0 = steps_back (λ o p. ltb o p) c.args.a.now c.loop-i.i c.loop-i.auto.i (omega (arith)) in
    let up1 = steps_back (λ o p. ltb o p) c.args.b.now c.loop-i.i c.loop-i.auto.i (omega (arith, c.requires.second)) in
    let up2 = steps_back (λ o p. ltb o p) c.args.c.now c.loop-i.i c.loop-i.auto.i (omega (arith, c.requires.third)) in
    let up3 = steps_back (λ o p. ltb o p) c.args.d.now c.loop-i.i c.loop-i.auto.i (omega (arith, c.requires.fourth)) in
    let down0 = steps_back (λ o p. ltb p o) c.args.a.now c.loop-i.i c.loop-i.auto.i (omega (arith)) in
    let down1 = steps_back (λ o p. ltb p o) c.args.b.now c.loop-i.i c.loop-i.auto.i (omega (arith, c.requires.second)) in
    let down2 = steps_back (λ o p. ltb p o) c.args.c.now c.loop-i.i c.loop-i.auto.i (omega (arith, c.requires.third)) in
    let down3 = steps_back (λ o p. ltb p o) c.args.d.now c.loop-i.i c.loop-i.auto.i (omega (arith, c.requires.fourth)) in (
      omega (arith, c.loop-i.invariant.0, c.one_more-s.ensures.risen_value.0, c.one_more-s-in-loop-i.ensures.risen_value.0, c.one_more-s-in-loop-i-2.ensures.risen_value.0, c.one_more-s-in-loop-i-3.ensures.risen_value.0),
      omega (arith, c.loop-i.invariant.1, c.one_more-s.ensures.fallen_value.0, c.one_more-s-in-loop-i.ensures.fallen_value.0, c.one_more-s-in-loop-i-2.ensures.fallen_value.0, c.one_more-s-in-loop-i-3.ensures.fallen_value.0),
      omega (arith, c.loop-i.auto.i, c.loop-i.invariant.2, c.one_more-s.ensures.risen_value.1, c.one_more-s-in-loop-i.ensures.risen_value.1, c.one_more-s-in-loop-i-2.ensures.risen_value.1, c.one_more-s-in-loop-i-3.ensures.risen_value.1),
      omega (arith, c.loop-i.auto.i, c.loop-i.invariant.3, c.one_more-s.ensures.fallen_value.1, c.one_more-s-in-loop-i.ensures.fallen_value.1, c.one_more-s-in-loop-i-2.ensures.fallen_value.1, c.one_more-s-in-loop-i-3.ensures.fallen_value.1),
    )

pub returns-clause-risen_value : goal.returns-clause-risen_value
returns-clause-risen_value c =
    let up0 = steps_past (λ o p. ltb o p) c.args.a.now c.loop-i.i c.loop-i.auto.i (omega (arith)) in
    let up1 = steps_past (λ o p. ltb o p) c.args.b.now c.loop-i.i c.loop-i.auto.i (omega (arith, c.requires.second)) in
    let up2 = steps_past (λ o p. ltb o p) c.args.c.now c.loop-i.i c.loop-i.auto.i (omega (arith, c.requires.third)) in
    let up3 = steps_past (λ o p. ltb o p) c.args.d.now c.loop-i.i c.loop-i.auto.i (omega (arith, c.requires.fourth)) in
    omega (arith, c.loop-i.invariant.0)

pub returns-clause-fallen_value : goal.returns-clause-fallen_value
returns-clause-fallen_value c =
    let down0 = steps_past (λ o p. ltb p o) c.args.a.now c.loop-i.i c.loop-i.auto.i (omega (arith)) in
    let down1 = steps_past (λ o p. ltb p o) c.args.b.now c.loop-i.i c.loop-i.auto.i (omega (arith, c.requires.second)) in
    let down2 = steps_past (λ o p. ltb p o) c.args.c.now c.loop-i.i c.loop-i.auto.i (omega (arith, c.requires.third)) in
    let down3 = steps_past (λ o p. ltb p o) c.args.d.now c.loop-i.i c.loop-i.auto.i (omega (arith, c.requires.fourth)) in
    omega (arith, c.loop-i.invariant.1)
