use native.Mathlib.Omega.{arith}
use mathlib.Core.Path.{◌≡◌, refl, subst}
use Prim.Native.Nat.{ℕ, ◌*◌, ◌<◌, ◌^◌}
use lib.ListN.{length}
use Rattle.term_order.proofs.Words.{number-below, number-fits, number-more}
use Rattle.term_order.specs.Key.{value_of}
use Rattle.term_order.proofs.number_of.Goals as goal

pub loop-b-init : goal.loop-b-init
unfolding value_of
loop-b-init c = refl

pub overflow_mul-w : goal.overflow_mul-w
overflow_mul-w c = omega (arith, number-fits _ _ _ c.loop-b.invariant (record { byte = λ k. (c.type_inv.bytes k).fits }) c.loop-b-test.true c.requires)

pub overflow_add-w : goal.overflow_add-w
overflow_add-w c =
    omega (arith, c.type_inv.bytes c.loop-b.b-index, number-fits _ _ _ c.loop-b.invariant (record { byte = λ k. (c.type_inv.bytes k).fits }) c.loop-b-test.true c.requires)

pub loop-b-preserved : goal.loop-b-preserved
loop-b-preserved c = number-more _ _ _ c.loop-b.invariant

pub returns-clause-upper_bound : goal.returns-clause-upper_bound
returns-clause-upper_bound c =
    let e : c.loop-b.b-index ≡ length c.args.bytes.now = omega arith in
    subst (λ (n : ℕ). c.loop-b.w < 2 ^ (8 * n)) e (number-below _ _ _ c.loop-b.invariant (record { byte = λ k. (c.type_inv.bytes k).fits }))
