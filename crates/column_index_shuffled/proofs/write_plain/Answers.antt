use Rattle.runs.proofs.Laws.{putting-none}
use Rattle.column_index_shuffled.proofs.Plain.{plain_more, plain-all}
use Rattle.column_index_shuffled.proofs.write_plain.Goals as goal

pub loop-j-init : goal.loop-j-init
loop-j-init c = putting-none _ _ _

pub loop-j-preserved : goal.loop-j-preserved
loop-j-preserved c =
    plain_more _ _ _ _ c.loop-j-test.true _ c.stand_at-p.ensures _ _ c.requires.addresses_in_bounds c.loop-j.invariant

pub returns : goal.returns
returns c =
    plain-all _ _ _ _ _ c.loop-j.auto.j-end c.loop-j-test.false c.loop-j.invariant
