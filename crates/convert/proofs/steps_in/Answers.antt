use native.Mathlib.Omega.{arith}
use mathlib.Core.Path.{ap, ◌∙◌}
use Prim.Native.Nat.{ℕ}
use lib.Dec.{ltb}
use lib.ListN.{length, take, length-drop}
use Rattle.std.specs.Slice.Iter.{windows_rest}
use Rattle.convert.proofs.Risen.{steps_pair, steps_none}
use Rattle.convert.proofs.steps_in.Goals as goal

pub loop-pair-preserved : goal.loop-pair-preserved
loop-pair-preserved c =
    let h = c.in-Some.ensures.steps in
    let rest = windows_rest c.loop-pair.pair-iterator in
    let next = windows_rest c.next.new.self in
    let pair = c.in-Some.pair.now in
    let two = h.1.1 ∙ ap (λ (n : ℕ). take n rest) c.loop-pair.invariant.0 in
    let up = steps_pair (λ o p. ltb o p) rest next pair (omega arith) two h.1.2 in
    let down = steps_pair (λ o p. ltb p o) rest next pair (omega arith) two h.1.2 in
    let l = ap length h.1.2 ∙ length-drop 1 rest in (
      h.0 ∙ c.loop-pair.invariant.0,
      omega (arith, c.one_more-s.ensures.risen_value.0),
      omega (arith, c.one_more-s.ensures.fallen_value.0),
      omega (arith, c.one_more-s.ensures.risen_value.1),
      omega (arith, c.one_more-s.ensures.fallen_value.1),
    )

pub returns-clause-risen_value : goal.returns-clause-risen_value
returns-clause-risen_value c =
    let z = steps_none (λ o p. ltb o p) (windows_rest c.loop-pair.pair-iterator) (omega (arith, c.in-None.ensures.steps.1.0)) in omega (arith, c.loop-pair.invariant.1)

pub returns-clause-fallen_value : goal.returns-clause-fallen_value
returns-clause-fallen_value c =
    let z = steps_none (λ o p. ltb p o) (windows_rest c.loop-pair.pair-iterator) (omega (arith, c.in-None.ensures.steps.1.0)) in omega (arith, c.loop-pair.invariant.2)
