use Rattle.listing.proofs.Writing.{start, room, room-last, more, last}
use Rattle.listing.proofs.Lines as lines
use Rattle.listing.proofs.Page.term_list.Goals as goal

pub bytes-requires : goal.bytes-requires
bytes-requires c =
    room _ (start _ c.requires.bytes_in_bounds (lines.terms-is _ _ _))

pub decimal-requires : goal.decimal-requires
decimal-requires c =
    room _ (more (start _ c.requires.bytes_in_bounds (lines.terms-is _ _ _)) c.bytes.ensures)

pub terms-requires-clause-bytes_in_bounds : goal.terms-requires-clause-bytes_in_bounds
terms-requires-clause-bytes_in_bounds c =
    room _ (more (more (start _ c.requires.bytes_in_bounds (lines.terms-is _ _ _)) c.bytes.ensures) c.decimal.ensures)

pub byte-requires : goal.byte-requires
byte-requires c =
    room-last (more (more (more (start _ c.requires.bytes_in_bounds (lines.terms-is _ _ _)) c.bytes.ensures) c.decimal.ensures) c.terms.ensures)

pub returns : goal.returns
returns c =
    last (more (more (more (start _ c.requires.bytes_in_bounds (lines.terms-is _ _ _)) c.bytes.ensures) c.decimal.ensures) c.terms.ensures) c.byte.ensures
