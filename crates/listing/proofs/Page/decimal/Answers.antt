use mathlib.Core.Path.{◌∙◌}
use Rattle.listing.proofs.Decimal.{decimal-is}
use Rattle.listing.proofs.Page.decimal.Goals as goal

pub bytes-requires : goal.bytes-requires
bytes-requires c =
    rw (c.decimal-k.ensures.digits ∙ decimal-is _ _ c.ranges.n.fits c.decimal-k.ensures.len) c.requires

pub returns : goal.returns
returns c =
    rw (c.decimal-k.ensures.digits ∙ decimal-is _ _ c.ranges.n.fits c.decimal-k.ensures.len) at c.bytes.ensures
