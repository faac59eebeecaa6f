use Rattle.listing.proofs.Writing.{start, room, room-last, more, last}
use Rattle.listing.proofs.Lines as lines
use Rattle.listing.proofs.Page.numbers_part.Goals as goal

pub value-requires : goal.value-requires
value-requires c =
    room _ (start _ c.requires (lines.numbers-part-is _ _ _))

pub value-requires-2 : goal.value-requires-2
value-requires-2 c =
    room _ (more (start _ c.requires (lines.numbers-part-is _ _ _)) c.value.ensures)

pub value-requires-3 : goal.value-requires-3
value-requires-3 c =
    room-last (more (more (start _ c.requires (lines.numbers-part-is _ _ _)) c.value.ensures) c.value-2.ensures)

pub returns : goal.returns
returns c =
    last (more (more (start _ c.requires (lines.numbers-part-is _ _ _)) c.value.ensures) c.value-2.ensures) c.value-3.ensures
