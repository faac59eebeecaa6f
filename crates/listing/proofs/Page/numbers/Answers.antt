use mathlib.Core.Path.{refl}
use Rattle.listing.proofs.Writing.{as_parts, room, more, done}
use Rattle.listing.proofs.Lines as lines
use Rattle.listing.proofs.Page.numbers.Goals as goal

pub byte-requires : goal.byte-requires
byte-requires g c =
    room _ (as_parts _ c.loop-n.invariant (lines.numbers_step g.T.Number.number _ _ _ _ c.loop-n-test.true c.n-item.is refl))

pub decimal-requires : goal.decimal-requires
decimal-requires g c =
    room _ (more (as_parts _ c.loop-n.invariant (lines.numbers_step g.T.Number.number _ _ _ _ c.loop-n-test.true c.n-item.is c.number.ensures)) c.byte.ensures)

pub loop-n-preserved : goal.loop-n-preserved
loop-n-preserved g c =
    more (more (as_parts _ c.loop-n.invariant (lines.numbers_step g.T.Number.number _ _ _ _ c.loop-n-test.true c.n-item.is c.number.ensures)) c.byte.ensures) c.decimal.ensures

pub returns : goal.returns
returns g c =
    done c.loop-n.invariant (lines.numbers-end g.T.Number.number _ _ c.loop-n-test.false)
