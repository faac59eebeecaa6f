use mathlib.Core.List.{map}
use lib.ListN.{drop}
use Rattle.definitions.specs.Listing.{numbers_text}
use Rattle.listing.proofs.Writing.{Writing}
use Rattle.listing.proofs.Page.numbers.Given as goal

abbrev pub invariant-loop-n : goal.invariant-loop-n
invariant-loop-n g l = Writing (numbers_text (map g.T.Number.number l.ns)) (numbers_text (map g.T.Number.number (drop l.n-index l.ns))) l.initial.self l.self
