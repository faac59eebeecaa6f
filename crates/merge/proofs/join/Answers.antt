use mathlib.Core.Path.{◌∙◌}
use Rattle.std.proofs.lemmas.Result.{err_from_is_err_and}
use Rattle.merge.proofs.Call.{first-end, passed, same_outcome}
use Rattle.merge.proofs.join.Goals as goal

pub returns-in_err-verdict : goal.returns-in_err-verdict
returns-in_err-verdict c =
    let e = err_from_is_err_and c.from_residual.result c.from_residual.ensures.1 in
    rw (e.1, e.2) (first-end c.args.mode c.args.required c.args.records.now c.args.sections.now.ids.now c.args.sections.now.offsets.now c.args.sections.now.values.now c.args.sections.now.lengths.now c.args.sections.now.bytes.now c.args.sections.now.alive.now c.args.addresses.now c.args.out_ids.now c.args.out_offsets.now c.args.out_values.now c.args.out_lengths.now c.args.out_bytes.now c.args.out_map.now c.args.work.now c.verdict.ensures.work_after _ c.in_err-verdict.ensures.value)

pub join_checked-requires : goal.join_checked-requires
join_checked-requires c =
    passed c.args.mode c.args.required c.args.records.now c.args.sections.now.ids.now c.args.sections.now.offsets.now c.args.sections.now.values.now c.args.sections.now.lengths.now c.args.sections.now.bytes.now c.args.sections.now.alive.now c.args.addresses.now c.args.out_ids.now c.args.out_offsets.now c.args.out_values.now c.args.out_lengths.now c.args.out_bytes.now c.args.out_map.now c.args.work.now c.verdict.ensures.work_after c.in_ok-verdict.ensures.value

pub returns : goal.returns
returns c =
    c.join_checked.ensures ∙ same_outcome c.args.mode c.args.required c.args.records.now c.args.sections.now.ids.now c.args.sections.now.offsets.now c.args.sections.now.values.now c.args.sections.now.lengths.now c.args.sections.now.bytes.now c.args.sections.now.alive.now c.args.addresses.now c.args.out_ids.now c.args.out_offsets.now c.args.out_values.now c.args.out_lengths.now c.args.out_bytes.now c.args.out_map.now c.args.work.now c.verdict.ensures.work_after
