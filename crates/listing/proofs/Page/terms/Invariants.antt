use Prim.Native.Nat.{◌≤◌}
use lib.ListN.{length, drop}
use Rattle.definitions.specs.Lists.{sum}
use Rattle.definitions.specs.Segment.{cut}
use Rattle.definitions.specs.Listing.{terms_text}
use Rattle.listing.proofs.Writing.{Writing}
use Rattle.listing.proofs.Page.terms.Given as goal

abbrev pub invariant-loop-n : goal.invariant-loop-n
invariant-loop-n l =
    record {
      left : sum (drop l.n-index l.lengths) ≤ length l.rest;
      writing : Writing (terms_text (cut l.lengths l.bytes)) (terms_text (cut (drop l.n-index l.lengths) l.rest)) l.initial.self l.self;
    }
