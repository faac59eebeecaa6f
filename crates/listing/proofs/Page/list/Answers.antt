use Rattle.listing.proofs.Writing.{start, room, room-last, more, last}
use Rattle.listing.proofs.Lines as lines
use Rattle.listing.proofs.Page.list.Goals as goal

pub bytes-requires : goal.bytes-requires
bytes-requires g c =
    room _ (start _ c.requires (lines.counted_is _ _ _))

pub decimal-requires : goal.decimal-requires
decimal-requires g c =
    room _ (more (start _ c.requires (lines.counted_is _ _ _)) c.bytes.ensures)

pub numbers-requires : goal.numbers-requires
numbers-requires g c =
    room _ (more (more (start _ c.requires (lines.counted_is _ _ _)) c.bytes.ensures) c.decimal.ensures)

pub byte-requires : goal.byte-requires
byte-requires g c =
    room-last (more (more (more (start _ c.requires (lines.counted_is _ _ _)) c.bytes.ensures) c.decimal.ensures) c.numbers.ensures)

pub returns : goal.returns
returns g c =
    last (more (more (more (start _ c.requires (lines.counted_is _ _ _)) c.bytes.ensures) c.decimal.ensures) c.numbers.ensures) c.byte.ensures
