use mathlib.Core.Path.{sym}
use Rattle.std.proofs.lemmas.Result.{err_from_is_err_and}
use lib.Seq.{length-take-le}
use Rattle.segment.proofs.Lent.{few-records}
use Rattle.merge_column.proofs.Laws.{left-clean}
use Rattle.merge_column.proofs.Stand.{all-ready}
use Rattle.merge_checked.proofs.Given.{checked}
use Rattle.merge_checked.proofs.Planned.{prepared, types_coded, listed-low, values_low}
use Rattle.merge_checked.proofs.Ends.{refused_end, words-in, words_long, dictionary_given, rows-given, accepted-end}
use Rattle.merge_checked.proofs.join_checked.Goals as goal

pub slice_bounds-table-end : goal.slice_bounds-table-end
slice_bounds-table-end c =
    few-records (checked c.requires)

pub slice_bounds-stands-end : goal.slice_bounds-stands-end
slice_bounds-stands-end c =
    sym (length-take-le _ _ (few-records (checked c.requires)))

pub prepare-t-requires : goal.prepare-t-requires
prepare-t-requires c =
    record { few = few-records (checked c.requires); long = length-take-le _ _ (few-records (checked c.requires)); ready = all-ready (checked c.requires) }

pub measure-requires-clause-coded : goal.measure-requires-clause-coded
measure-requires-clause-coded c =
    types_coded c.requires (prepared c.prepare-t.ensures.stands_after c.prepare-t.ensures.value)

pub measure-requires-clause-listed_bound : goal.measure-requires-clause-listed_bound
measure-requires-clause-listed_bound c =
    listed-low c.requires (prepared c.prepare-t.ensures.stands_after c.prepare-t.ensures.value)

pub measure-requires-clause-values_bound : goal.measure-requires-clause-values_bound
measure-requires-clause-values_bound c =
    values_low c.requires (prepared c.prepare-t.ensures.stands_after c.prepare-t.ensures.value)

pub fill_dictionary-c-requires : goal.fill_dictionary-c-requires
fill_dictionary-c-requires c =
    dictionary_given c.requires (prepared c.prepare-t.ensures.stands_after c.prepare-t.ensures.value) c.args.out_ids.now c.args.out_offsets.now c.args.out_values.now c.args.out_lengths.now c.args.out_bytes.now c.args.out_map.now c.in_ok-x.was c.measure.ensures

pub fill_rows-requires : goal.fill_rows-requires
fill_rows-requires c =
    rows-given c.requires (prepared c.prepare-t.ensures.stands_after c.prepare-t.ensures.value) c.args.out_ids.now c.args.out_offsets.now c.args.out_values.now c.args.out_lengths.now c.args.out_bytes.now c.args.out_map.now c.in_ok-x.was c.measure.ensures (record { word = c.fill_dictionary-c.ensures.words }) c.fill_dictionary-c.ensures.left.merged

pub slice_bounds-joined_pair-end : goal.slice_bounds-joined_pair-end
slice_bounds-joined_pair-end c =
    words-in c.requires (prepared c.prepare-t.ensures.stands_after c.prepare-t.ensures.value) c.args.out_ids.now c.args.out_offsets.now c.args.out_values.now c.args.out_lengths.now c.args.out_bytes.now c.args.out_map.now c.in_ok-x.was c.measure.ensures c.fill_rows.new.out_values c.fill_rows.auto.out_values

pub slice_bounds-joined_pair-end-2 : goal.slice_bounds-joined_pair-end-2
slice_bounds-joined_pair-end-2 c =
    words_long c.requires (prepared c.prepare-t.ensures.stands_after c.prepare-t.ensures.value) c.args.out_ids.now c.args.out_offsets.now c.args.out_values.now c.args.out_lengths.now c.args.out_bytes.now c.args.out_map.now c.in_ok-x.was c.measure.ensures c.fill_rows.new.out_values c.fill_rows.auto.out_values

pub returns-in_err-x : goal.returns-in_err-x
returns-in_err-x c =
    let e = err_from_is_err_and c.from_residual.result c.from_residual.ensures.1 in
    rw (e.1, e.2) (refused_end c.requires (prepared c.prepare-t.ensures.stands_after c.prepare-t.ensures.value) c.args.out_ids.now c.args.out_offsets.now c.args.out_values.now c.args.out_lengths.now c.args.out_bytes.now c.args.out_map.now _ c.in_err-x.was c.measure.ensures)

pub returns : goal.returns
returns c =
    accepted-end c.requires (prepared c.prepare-t.ensures.stands_after c.prepare-t.ensures.value) c.args.out_ids.now c.args.out_offsets.now c.args.out_values.now c.args.out_lengths.now c.args.out_bytes.now c.args.out_map.now c.in_ok-x.was c.measure.ensures (record { word = c.fill_dictionary-c.ensures.words }) c.fill_dictionary-c.ensures.left.merged _ _ _ _ c.fill_rows.ensures.out_ids_after c.fill_rows.ensures.out_offsets_after c.fill_rows.ensures.out_values_after (left-clean _ _ _ _ c.requires.clean c.fill_dictionary-c.ensures.left.clean c.fill_rows.ensures.work_after) _ _ c.joined_pair-pair.ensures
