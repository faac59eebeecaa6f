use mathlib.Core.Path.{sym, ap, ◌∙◌}
use Rattle.numerical.specs.Seen.{seen_from}
use Rattle.merge_type.proofs.Walk.{held_more, held_same, held_end}
use Rattle.merge_type.proofs.Columns.seen.Goals as goal
use Rattle.merge_type.proofs.Columns.seen.Goals.{then-is_part, else-is_part}

pub loop-row-preserved : goal.loop-row-preserved
loop-row-preserved c =
    elim c.if-is_part.branch [
      | then-is_part w ↦
          rw (w.seen-is, w.accept-seen.ensures, w.range_at.ensures)
          (ap (seen_from c.loop-row.seen) (sym (held_more _ c.loop-row-test.true c.from-p.ensures c.is_part.ensures w.if-is_part.true)) ∙ c.loop-row.invariant)
      | else-is_part w ↦ rw w.seen-is (ap (seen_from c.loop-row.seen) (sym (held_same _ c.loop-row-test.true c.from-p.ensures c.is_part.ensures w.if-is_part.false)) ∙ c.loop-row.invariant)
    ]

pub returns : goal.returns
returns c = ap (seen_from c.loop-row.seen) (sym (held_end _ _ c.loop-row-test.false)) ∙ c.loop-row.invariant
