use Rattle.std.proofs.Common.{◌≡◌, length}
use Rattle.case_text.specs.Text.{number_in, digits_from}
use Rattle.case_text.proofs.Reader.number.Given as goal

abbrev pub invariant-loop-b : goal.invariant-loop-b
invariant-loop-b l = digits_from l.n l.self.rest.now ≡ number_in l.fn.self.rest.now

abbrev pub decreases-loop-b : goal.decreases-loop-b
decreases-loop-b l = length l.self.rest.now
