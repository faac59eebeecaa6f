use Rattle.listing.proofs.Writing.{start, room, room-last, more, last}
use Rattle.listing.proofs.Lines as lines
use Rattle.listing.proofs.Page.lists_part.Goals as goal

pub list-requires : goal.list-requires
list-requires c =
    room _ (start _ c.requires (lines.lists_part-is _ _ _ _))

pub list-requires-2 : goal.list-requires-2
list-requires-2 c =
    room _ (more (start _ c.requires (lines.lists_part-is _ _ _ _)) c.list.ensures)

pub list-requires-3 : goal.list-requires-3
list-requires-3 c =
    room-last (more (more (start _ c.requires (lines.lists_part-is _ _ _ _)) c.list.ensures) c.list-2.ensures)

pub returns : goal.returns
returns c =
    last (more (more (start _ c.requires (lines.lists_part-is _ _ _ _)) c.list.ensures) c.list-2.ensures) c.list-3.ensures
