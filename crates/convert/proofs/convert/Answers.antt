use native.Mathlib.Omega.{arith}
use Rattle.std.proofs.lemmas.Result.{err_from_is_err_and}
use Rattle.convert.proofs.Risen.{ids-narrow}
use Rattle.convert.proofs.Outcomes.{stopped, short, converts}
use Rattle.convert.proofs.convert.Goals as goal

pub returns-in_err-n : goal.returns-in_err-n
returns-in_err-n c =
    let p = err_from_is_err_and c.from_residual.result c.from_residual.ensures.1 in
    rw (p.1, p.2) (stopped c.args.r _ _ _ _ c.in_err-n.ensures.value)

pub returns-then-out_ids-n : goal.returns-then-out_ids-n
returns-then-out_ids-n c =
    short c.args.r _ _ _ c.in_ok-n.ensures.value c.in_ok-n.ensures.ids_value (grind arith)

pub renewed_record-requires : goal.renewed_record-requires
renewed_record-requires c =
    omega (arith, ids-narrow c.args.sections.now.offsets.now c.in_ok-n.ensures.offsets_len_bound)

pub returns : goal.returns
returns c =
    converts c.args.r _ _ _ c.in_ok-n.ensures.value c.in_ok-n.ensures.ids_value c.if-out_ids-n.false c.if-out_offsets-n.false c.renewed_record.ensures c.fill.ensures.out_ids_after c.fill.ensures.out_offsets_after
