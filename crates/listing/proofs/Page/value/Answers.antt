use Rattle.listing.proofs.Writing.{start, room, room-last, more, last}
use Rattle.listing.proofs.Lines as lines
use Rattle.listing.proofs.Page.value.Goals as goal

pub bytes-requires : goal.bytes-requires
bytes-requires c =
    room _ (start _ c.requires (lines.value-is _ _))

pub decimal-requires : goal.decimal-requires
decimal-requires c =
    room _ (more (start _ c.requires (lines.value-is _ _)) c.bytes.ensures)

pub byte-requires : goal.byte-requires
byte-requires c =
    room-last (more (more (start _ c.requires (lines.value-is _ _)) c.bytes.ensures) c.decimal.ensures)

pub returns : goal.returns
returns c =
    last (more (more (start _ c.requires (lines.value-is _ _)) c.bytes.ensures) c.decimal.ensures) c.byte.ensures
