use Rattle.listing.proofs.Lines as lines
use Rattle.listing.proofs.Page.term.Goals as goal

pub byte-requires : goal.byte-requires
byte-requires c =
    let r = rw (lines.term_none _ c.if-is_empty.ensures) at c.requires in
    record { room = r.room }

pub hexadecimal-requires : goal.hexadecimal-requires
hexadecimal-requires c =
    rw (lines.term_some _ c.if-is_empty.ensures) at c.requires

pub returns-then-is_empty : goal.returns-then-is_empty
returns-then-is_empty c =
    rw (lines.term_none c.args.term.now c.if-is_empty.ensures) c.byte.ensures

pub returns-else-is_empty : goal.returns-else-is_empty
returns-else-is_empty c =
    rw (lines.term_some c.args.term.now c.if-is_empty.ensures) c.hexadecimal.ensures
