use mathlib.Core.Path.{refl, ◌∙◌}
use Rattle.withdraw.specs.Lent.{set_by}
use Rattle.withdraw.proofs.Laws.{row_below, after_markable, rest_below, rows_step}
use Rattle.withdraw.proofs.mark_all.Goals as goal

pub mark_row-q-requires-clause-row_lt_rows : goal.mark_row-q-requires-clause-row_lt_rows
mark_row-q-requires-clause-row_lt_rows c =
    row_below c.args.rows.now c.loop-row.row-index c.loop-row-test.true refl (set_by c.loop-row.q c.loop-row.words) c.loop-row.invariant.1

pub loop-row-preserved : goal.loop-row-preserved
loop-row-preserved c =
    let m = set_by c.loop-row.q c.loop-row.words in (
      after_markable c.args.rows.now c.loop-row.row-index c.loop-row-test.true refl m c.loop-row.invariant.1 c.loop-row.invariant.0 c.args.alive c.mark_row-q.ensures,
      rest_below c.args.rows.now c.loop-row.row-index c.loop-row-test.true refl m c.loop-row.invariant.1 c.loop-row.invariant.0 c.args.alive c.mark_row-q.ensures,
      rows_step c.args.rows.now c.loop-row.row-index c.loop-row-test.true refl m c.loop-row.invariant.1 c.loop-row.invariant.0 c.args.alive c.mark_row-q.ensures ∙ c.loop-row.invariant.2,
      c.words-1.given ∙ c.loop-row.invariant.3,
    )
