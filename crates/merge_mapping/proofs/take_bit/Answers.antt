use Rattle.merge_mapping.proofs.Turns.{left-absent, left_past, left_no, left_yes, left_out}
use Rattle.merge_mapping.proofs.take_bit.Goals as goal

pub returns-then-stands-seg-clause-value : goal.returns-then-stands-seg-clause-value
returns-then-stands-seg-clause-value c =
    left-absent _ _ _ _ c.if-stands-seg.true

pub returns-then-p-row-clause-value : goal.returns-then-p-row-clause-value
returns-then-p-row-clause-value c =
    left_past _ _ _ _ c.if-stands-seg.false c.stand_at-p.ensures c.if-p-row.true

pub returns-then-bits-at-ne1-clause-value : goal.returns-then-bits-at-ne1-clause-value
returns-then-bits-at-ne1-clause-value c =
    left_no _ _ _ _ c.if-stands-seg.false c.stand_at-p.ensures c.if-p-row.false c.if-bits-at-ne1.true

pub returns-clause-value : goal.returns-clause-value
returns-clause-value c =
    left_yes _ _ _ _ c.if-stands-seg.false c.stand_at-p.ensures c.if-p-row.false c.if-bits-at-ne1.false

pub returns-clause-bits_after : goal.returns-clause-bits_after
returns-clause-bits_after c =
    left_out _ _ _ _ c.if-stands-seg.false c.stand_at-p.ensures
