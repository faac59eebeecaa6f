use Rattle.std.proofs.Common.{◌≡◌, drop}
use Rattle.term_marks.specs.Marks.{set_all}
use Rattle.term_marks.proofs.mark_each.Given as goal

abbrev pub invariant-loop-w : goal.invariant-loop-w
invariant-loop-w l = set_all (drop l.w-index l.ordinals) l.marks ≡ set_all l.ordinals l.initial.marks
