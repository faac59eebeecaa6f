use mathlib.Core.Path.{◌∙◌}
use Rattle.merge_type.proofs.Only.{types_same, types_stop, types_first, types_again, types_end}
use Rattle.merge_type.proofs.Columns.only_type.Goals as goal
use Rattle.merge_type.proofs.Columns.only_type.Goals.{then-is_part+else-first-ne-ABSENT, else-first-ne-ABSENT-via-then-first-ne-ABSENT+else-first-t, else-first-ne-ABSENT-via-else-first-ne-ABSENT, else-is_part}

pub returns-then-first-t : goal.returns-then-first-t
returns-then-first-t c =
    types_stop _ _ c.loop-row-test.true c.from-p.ensures c.is_part.ensures c.if-is_part.true c.if-first-ne-ABSENT.true c.if-first-t.true ∙ c.loop-row.invariant

pub loop-row-preserved : goal.loop-row-preserved
loop-row-preserved c =
    elim c.if-is_part.branch [
      | then-is_part+else-first-ne-ABSENT w ↦
          rw w.first-is
          (elim w.else-first-ne-ABSENT.branch [
            | else-first-ne-ABSENT-via-then-first-ne-ABSENT+else-first-t x ↦
                types_again _ _ c.loop-row-test.true c.from-p.ensures c.is_part.ensures w.if-is_part.true x.if-first-t.false ∙ c.loop-row.invariant
            | else-first-ne-ABSENT-via-else-first-ne-ABSENT x ↦
                types_first _ _ c.loop-row-test.true c.from-p.ensures c.is_part.ensures w.if-is_part.true x.if-first-ne-ABSENT.false ∙ c.loop-row.invariant
          ])
      | else-is_part w ↦ rw w.first-is (types_same _ _ c.loop-row-test.true c.from-p.ensures c.is_part.ensures w.if-is_part.false ∙ c.loop-row.invariant)
    ]

pub returns : goal.returns
returns c =
    types_end _ _ _ c.loop-row-test.false ∙ c.loop-row.invariant
