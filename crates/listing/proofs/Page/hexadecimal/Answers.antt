use mathlib.Core.Path.{refl}
use Rattle.listing.proofs.Writing.{as_parts, room, more, done}
use Rattle.listing.proofs.Lines as lines
use Rattle.listing.proofs.Page.hexadecimal.Goals as goal

pub byte-requires : goal.byte-requires
byte-requires c =
    room _ (as_parts _ c.loop-b.invariant (lines.hex_step _ _ _ _ c.loop-b-test.true c.digit.ensures refl))

pub byte-requires-in-loop-b : goal.byte-requires-in-loop-b
byte-requires-in-loop-b c =
    room _ (more (as_parts _ c.loop-b.invariant (lines.hex_step _ _ _ _ c.loop-b-test.true c.digit.ensures c.digit-in-loop-b.ensures)) c.byte.ensures)

pub loop-b-preserved : goal.loop-b-preserved
loop-b-preserved c =
    more (more (as_parts _ c.loop-b.invariant (lines.hex_step _ _ _ _ c.loop-b-test.true c.digit.ensures c.digit-in-loop-b.ensures)) c.byte.ensures) c.byte-in-loop-b.ensures

pub returns : goal.returns
returns c =
    done c.loop-b.invariant (lines.hex_end _ _ c.loop-b-test.false)
