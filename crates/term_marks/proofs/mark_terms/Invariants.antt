use Rattle.std.proofs.Common.{◌≡◌, drop}
use Rattle.term_marks.specs.Marks.{marked_all}
use Rattle.term_marks.proofs.mark_terms.Given as goal

abbrev pub invariant-loop-numbers : goal.invariant-loop-numbers
invariant-loop-numbers l = marked_all (drop l.numbers-index l.stands) l.ids l.offsets l.values l.alive l.marks ≡ marked_all l.stands l.ids l.offsets l.values l.alive l.initial.marks
