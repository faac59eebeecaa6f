use Rattle.term_cursors.proofs.Begin.{filling_start, filling_more, standing}
use Rattle.term_cursors.proofs.fill_cursors.Goals as goal

pub loop-s-init : goal.loop-s-init
loop-s-init c =
    filling_start _ _ _ _ _ _ c.requires.cursors_value

pub put_cursor-requires-clause-standing : goal.put_cursor-requires-clause-standing
put_cursor-requires-clause-standing c =
    standing _ _ _ _ _ c.requires.runs c.loop-s-test.true c.stand_at-p.ensures

pub loop-s-preserved : goal.loop-s-preserved
loop-s-preserved c =
    filling_more _ _ _ _ _ c.requires.runs c.loop-s-test.true c.stand_at-p.ensures c.loop-s.invariant c.put_cursor.ensures
