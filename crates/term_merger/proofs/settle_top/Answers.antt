use Rattle.term_merger.proofs.Laws.{sift_given, sift_left}
use Rattle.term_merger.proofs.settle_top.Goals as goal

pub sift_down-requires-clause-seg_len : goal.sift_down-requires-clause-seg_len
sift_down-requires-clause-seg_len c =
    sift_given c.args.cursors.now c.args.seg.now c.args.len c.args.bytes.now c.requires.seg_len.1 c.keep_top-n.ensures.value c.keep_top-n.ensures.seg_after c.requires.seg_len.0 c.requires.seg_len.2 c.requires.seg_len.3

pub returns : goal.returns
returns c =
    sift_left c.args.cursors.now c.args.seg.now c.args.len c.args.bytes.now c.requires.seg_len.1 c.keep_top-n.ensures.value c.keep_top-n.ensures.seg_after c.requires.seg_len.0 c.requires.seg_len.2 c.sift_down.ensures
