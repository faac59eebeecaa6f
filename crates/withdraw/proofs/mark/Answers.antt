use Rattle.std.proofs.lemmas.Result.{err_from_is_err_and}
use Rattle.withdraw.proofs.Outcomes.{refuses, markable, there, changes_are}
use Rattle.withdraw.proofs.mark.Goals as goal

pub returns-in_err-first_wrong : goal.returns-in_err-first_wrong
returns-in_err-first_wrong c =
    let p = err_from_is_err_and c.from_residual.result c.from_residual.ensures.1 in
    let told = refuses c.args.«record».now _ _ c.args.alive c.from-r.ensures _ c.in_err-first_wrong.ensures in
    rw (p.1, p.2) (record { words_after = told.0; record_after = told.1 })

pub mark_all-q-requires : goal.mark_all-q-requires
mark_all-q-requires c =
    record { markable = markable _ _ c.in_ok-first_wrong.ensures; rows_value = there _ _ c.in_ok-first_wrong.ensures }

pub returns : goal.returns
returns c =
    let told = changes_are c.args.«record».now _ _ _ c.from-r.ensures c.in_ok-first_wrong.ensures c.mark_all-q.ensures c.into.ensures c.changes.ensures in
    record { words_after = told.0; record_after = told.1 }
