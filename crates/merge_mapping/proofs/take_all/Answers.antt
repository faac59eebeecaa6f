use Rattle.std.proofs.Common.{◌∙◌}
use Rattle.merge_mapping.proofs.Turns.{turn-none, turn-some, turn_end}
use Rattle.merge_mapping.proofs.take_all.Goals as goal

pub returns-then-not-take_bit-clause-value : goal.returns-then-not-take_bit-clause-value
returns-then-not-take_bit-clause-value c =
    (turn-none _ c.args.addresses.now _ _ c.loop-seg-test.true c.take_bit.ensures.value c.take_bit.ensures.bits_after c.if-not-take_bit.true).0 ∙ c.loop-seg.invariant.0

pub returns-then-not-take_bit-clause-bits_after : goal.returns-then-not-take_bit-clause-bits_after
returns-then-not-take_bit-clause-bits_after c =
    (turn-none _ c.args.addresses.now _ _ c.loop-seg-test.true c.take_bit.ensures.value c.take_bit.ensures.bits_after c.if-not-take_bit.true).1 ∙ c.loop-seg.invariant.1

pub loop-seg-preserved : goal.loop-seg-preserved
loop-seg-preserved c =
    let s = turn-some _ c.args.addresses.now _ _ c.loop-seg-test.true c.take_bit.ensures.value c.take_bit.ensures.bits_after c.if-not-take_bit.false in
    (s.0 ∙ c.loop-seg.invariant.0, s.1 ∙ c.loop-seg.invariant.1)

pub returns-clause-value : goal.returns-clause-value
returns-clause-value c =
    (turn_end c.args.stands.now c.loop-seg.bits c.args.addresses.now _ c.loop-seg-test.false).0 ∙ c.loop-seg.invariant.0

pub returns-clause-bits_after : goal.returns-clause-bits_after
returns-clause-bits_after c =
    (turn_end c.args.stands.now c.loop-seg.bits c.args.addresses.now _ c.loop-seg-test.false).1 ∙ c.loop-seg.invariant.1
