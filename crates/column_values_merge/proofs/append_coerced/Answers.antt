use Rattle.column_values_merge.proofs.Laws.{coerced-other, coerced_double, coerced_integer}
use Rattle.column_values_merge.proofs.append_coerced.Goals as goal
use Rattle.column_values_merge.proofs.append_coerced.Goals.{else-u-eq2-via-then-u-eq2+else-t-ne2, else-u-eq2-via-else-u-eq2}

pub returns-then-t-ne2 : goal.returns-then-t-ne2
returns-then-t-ne2 c =
    rw (← coerced_integer _ _ _ c.if-u-eq2.true c.if-t-ne2.true) c.append_doubles.ensures

pub returns-else-u-eq2 : goal.returns-else-u-eq2
returns-else-u-eq2 c =
    elim c.else-u-eq2.branch [
      | else-u-eq2-via-then-u-eq2+else-t-ne2 w ↦ rw (← coerced_double _ _ _ w.if-u-eq2.true w.if-t-ne2.false) c.append.ensures.out_after
      | else-u-eq2-via-else-u-eq2 w ↦ rw (← coerced-other _ _ _ w.if-u-eq2.false) c.append.ensures.out_after
    ]
