use Rattle.term_merger.proofs.Laws.{top_stays, top_leaves}
use Rattle.term_merger.proofs.keep_top.Goals as goal

pub returns-then-top-clause-value : goal.returns-then-top-clause-value
returns-then-top-clause-value c =
    (top_stays c.args.cursors.now c.args.seg.now c.args.len c.if-top.true).0

pub returns-then-top-clause-seg_after : goal.returns-then-top-clause-seg_after
returns-then-top-clause-seg_after c =
    (top_stays c.args.cursors.now c.args.seg.now c.args.len c.if-top.true).1

pub returns-clause-value : goal.returns-clause-value
returns-clause-value c =
    (top_leaves c.args.cursors.now c.args.seg.now c.args.len c.if-top.false).0

pub returns-clause-seg_after : goal.returns-clause-seg_after
returns-clause-seg_after c =
    (top_leaves c.args.cursors.now c.args.seg.now c.args.len c.if-top.false).1
