use Rattle.std.proofs.Common.{◌≡◌, ◌-◌}
use Rattle.term_marks.specs.Marks.{set_all, used_from}
use Rattle.term_marks.proofs.mark_rows.Given as goal

abbrev pub invariant-loop-row : goal.invariant-loop-row
invariant-loop-row l =
    set_all (used_from l.kind l.ids l.offsets l.values l.alive l.row (l.rows - l.row)) l.marks ≡ set_all (used_from l.kind l.ids l.offsets l.values l.alive 0 l.rows) l.initial.marks
