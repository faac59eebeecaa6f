use native.Mathlib.Omega.{arith}
use Rattle.definitions.specs.Listing.{answer_name}
use Rattle.listing.proofs.Lengths.{value-length}
use Rattle.listing.proofs.put_refusal.Goals as goal

pub value-requires : goal.value-requires
value-requires c =
    record { room = omega (arith, c.requires, value-length answer_name c.args.answer) }
