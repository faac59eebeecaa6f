use mathlib.Core.Path.{refl}
use Rattle.std.proofs.lemmas.Result.{err_from_is_err_and}
use lib.ListN.{length}
use Rattle.time_checks.specs.Lent.{times_in}
use Rattle.time_order.proofs.Lent.{order_is, merge_ready, merge_rising}
use Rattle.time_order.proofs.Outcomes.{refused-outcome, refused_output, ordered-outcome, ordered_output}
use Rattle.time_order.proofs.time_order.Goals as goal

pub returns-in_err-answer : goal.returns-in_err-answer
returns-in_err-answer c =
    let i = times_in c.args.records.now c.args.sections.now (length c.args.out.now) in
    let p = err_from_is_err_and c.from_residual.result c.from_residual.ensures.1 in
    rw (p.1, p.2) (record { out_after = refused-outcome i c.args.out.now _ c.in_err-answer.ensures; out_after_2 = refused_output i c.args.out.now _ c.in_err-answer.ensures })

pub order_rows-requires : goal.order_rows-requires
order_rows-requires c =
    record { ready = merge_ready _ _ _ _ _ _ _ _ c.in_ok-answer.ensures; rising = merge_rising _ _ _ _ _ _ _ _ c.in_ok-answer.ensures _ refl }

pub returns : goal.returns
returns c =
    let i = times_in c.args.records.now c.args.sections.now (length c.args.out.now) in
    let same = order_is _ _ _ _ _ _ _ _ c.in_ok-answer.ensures in
    record {
      out_after = ordered-outcome i c.args.out.now c.in_ok-answer.ensures _ same c.order_rows.ensures.value c.order_rows.ensures.out_after;
      out_after_2 = ordered_output i c.args.out.now c.in_ok-answer.ensures _ same c.order_rows.ensures.out_after;
    }
