use Rattle.listing.proofs.Writing.{as_parts, room, more, done}
use Rattle.listing.proofs.Lines as lines
use Rattle.listing.proofs.Page.terms.Goals as goal

pub byte-requires : goal.byte-requires
byte-requires c =
    room _ (as_parts _ c.loop-n.invariant.writing (lines.terms_step _ _ _ _ _ c.loop-n-test.true c.split_at.ensures.front c.split_at.ensures.back))

pub term-requires : goal.term-requires
term-requires c =
    room _ (more (as_parts _ c.loop-n.invariant.writing (lines.terms_step _ _ _ _ _ c.loop-n-test.true c.split_at.ensures.front c.split_at.ensures.back)) c.byte.ensures)

pub loop-n-preserved : goal.loop-n-preserved
loop-n-preserved c =
    record {
      left = lines.terms-left _ _ _ _ c.loop-n-test.true c.loop-n.invariant.left c.split_at.ensures.back_len;
      writing = more (more (as_parts _ c.loop-n.invariant.writing (lines.terms_step _ _ _ _ _ c.loop-n-test.true c.split_at.ensures.front c.split_at.ensures.back)) c.byte.ensures) c.term.ensures;
    }

pub returns : goal.returns
returns c =
    done c.loop-n.invariant.writing (lines.terms-end _ _ _ c.loop-n-test.false)
