use Rattle.listing.proofs.Writing.{start, room, room-last, more, last}
use Rattle.listing.proofs.Lines as lines
use Rattle.listing.proofs.Page.terms_part.Goals as goal

pub term_list-requires-clause-bytes_in_bounds : goal.term_list-requires-clause-bytes_in_bounds
term_list-requires-clause-bytes_in_bounds c =
    room _ (start _ c.requires.map_in_bounds (lines.terms-part-is _ _))

pub list-requires : goal.list-requires
list-requires c =
    room-last (more (start _ c.requires.map_in_bounds (lines.terms-part-is _ _)) c.term_list.ensures)

pub returns : goal.returns
returns c =
    last (more (start _ c.requires.map_in_bounds (lines.terms-part-is _ _)) c.term_list.ensures) c.list.ensures
