use Rattle.case_text.proofs.Reading.{Reading}
use Rattle.case_text.proofs.Reader.fill.Given as goal

abbrev pub invariant-loop-x : goal.invariant-loop-x
invariant-loop-x g l = Reading (g.T.Element.element_in) l.initial.self.rest.now l.initial.out l.self.rest.now l.out l.x-index
