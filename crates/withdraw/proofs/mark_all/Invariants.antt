use mathlib.Core.Path.{◌≡◌}
use mathlib.Core.Bool.{false}
use lib.ListN.{length, drop}
use Rattle.definitions.specs.Withdraw.{row_absent, marked_rows}
use Rattle.withdraw.specs.Lent.{set_by, Markable}
use Rattle.withdraw.proofs.mark_all.Given as goal

abbrev pub invariant-loop-row : goal.invariant-loop-row
invariant-loop-row l = Markable (set_by l.q l.words) × (row_absent (set_by l.q l.words) (drop l.row-index l.rows) ≡ false)
    × (marked_rows l.alive (set_by l.q l.words) (drop l.row-index l.rows) ≡ marked_rows l.alive (set_by l.initial.q l.initial.words) l.rows) × (length l.words ≡ length l.initial.words)
