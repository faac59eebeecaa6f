use mathlib.Core.Path.{◌≡◌, sym, ap, ◌∙◌}
use mathlib.Core.List.{List}
use Prim.Native.Nat.{ℕ}
use native.Mathlib.Omega.{arith}
use lib.ListN.{length, take}
use lib.Seq.{length-take-le}
use Rattle.definitions.specs.Outcome.{join_outcome}
use Rattle.segment.specs.Records.{records_of}
use Rattle.merge.specs.Whole.{buffers_of, lent_in}
use Rattle.records.proofs.Laws.{count-few, laid-size}
use Rattle.merge_records.proofs.Laws.{rows_join}
use Rattle.merge_records.proofs.join_records.Goals as goal

pub slice_bounds-table-end : goal.slice_bounds-table-end
slice_bounds-table-end c =
    let l = ap length c.rows_of-table.ensures ∙ laid-size c.args.records.now _ in
    omega (arith, l, c.count_of-n.ensures, count-few (length c.args.records.now))

pub slice_bounds-join-end : goal.slice_bounds-join-end
slice_bounds-join-end c =
    let l = ap length c.rows_of-table.ensures ∙ laid-size c.args.records.now _ in
    sym (length-take-le _ _ (omega (arith, l, c.count_of-n.ensures, count-few (length c.args.records.now))))

pub returns : goal.returns
returns c =
    let a = c.args in
    let s = a.sections.now in
    let b = buffers_of a.out_ids.now a.out_offsets.now a.out_values.now a.out_lengths.now a.out_bytes.now a.out_map.now a.work.now in
    c.join.ensures
    ∙ (λ j. join_outcome (lent_in a.mode a.required (records_of (take (c.count_of-n.ensures j) (c.rows_of-table.ensures j))) s a.addresses.now b))
    ∙ rows_join a.records.now a.mode a.required s.ids.now s.offsets.now s.values.now s.lengths.now s.bytes.now s.alive.now a.addresses.now b
