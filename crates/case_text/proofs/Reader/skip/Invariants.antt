use Rattle.std.proofs.Common.{◌≡◌, length}
use Rattle.case_text.specs.Text.{skipped}
use Rattle.case_text.proofs.Reader.skip.Given as goal

abbrev pub invariant-loop-b : goal.invariant-loop-b
invariant-loop-b l = skipped l.self.rest.now ≡ skipped l.initial.self.rest.now

abbrev pub decreases-loop-b : goal.decreases-loop-b
decreases-loop-b l = length l.self.rest.now
