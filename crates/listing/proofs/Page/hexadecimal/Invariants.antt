use lib.ListN.{drop}
use Rattle.definitions.specs.Listing.{hexadecimal}
use Rattle.listing.proofs.Writing.{Writing}
use Rattle.listing.proofs.Page.hexadecimal.Given as goal

abbrev pub invariant-loop-b : goal.invariant-loop-b
invariant-loop-b l = Writing (hexadecimal l.bytes) (hexadecimal (drop l.b-index l.bytes)) l.initial.self l.self
