use mathlib.Core.Path.{refl}
use Rattle.listing.proofs.Writing.{put_byte}
use Rattle.listing.proofs.Page.byte.Goals as goal

pub returns : goal.returns
returns c =
    put_byte c.requires refl refl refl
