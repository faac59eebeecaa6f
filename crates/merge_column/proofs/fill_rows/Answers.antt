use mathlib.Core.Path.{◌∙◌}
use Rattle.merge_column.proofs.Laws.{widths-stacked, widths-ordered, words_stacked, words-ordered, ids-place, offsets-place, values-place, filled-ids, filled-offsets, filled-values, left-stacked, left-ordered}
use Rattle.merge_column.proofs.fill_rows.Goals as goal

pub stacked_rows-requires-clause-stacked : goal.stacked_rows-requires-clause-stacked
stacked_rows-requires-clause-stacked c =
    c.requires.stacked c.if-mode-eq0.true

pub stacked_rows-requires-clause-room_if : goal.stacked_rows-requires-clause-room_if
stacked_rows-requires-clause-room_if c =
    let e = widths-stacked _ _ _ _ _ c.if-mode-eq0.true in
    let q = words_stacked c.requires c.if-mode-eq0.true in
    ids-place c.requires _ _ e q

pub stacked_rows-requires-clause-room_if_2 : goal.stacked_rows-requires-clause-room_if_2
stacked_rows-requires-clause-room_if_2 c =
    let e = widths-stacked _ _ _ _ _ c.if-mode-eq0.true in
    let q = words_stacked c.requires c.if-mode-eq0.true in
    offsets-place c.requires _ _ e q

pub stacked_rows-requires-clause-map_in_bounds : goal.stacked_rows-requires-clause-map_in_bounds
stacked_rows-requires-clause-map_in_bounds c =
    let e = widths-stacked _ _ _ _ _ c.if-mode-eq0.true in
    let q = words_stacked c.requires c.if-mode-eq0.true in
    values-place c.requires _ _ e q

pub returns-then-mode-eq0-clause-out_ids_after : goal.returns-then-mode-eq0-clause-out_ids_after
returns-then-mode-eq0-clause-out_ids_after c =
    let e = widths-stacked _ _ _ _ _ c.if-mode-eq0.true in
    filled-ids _ _ _ _ c.stacked_rows.ensures.out_ids_after e

pub returns-then-mode-eq0-clause-out_offsets_after : goal.returns-then-mode-eq0-clause-out_offsets_after
returns-then-mode-eq0-clause-out_offsets_after c =
    let e = widths-stacked _ _ _ _ _ c.if-mode-eq0.true in
    filled-offsets _ _ _ _ c.stacked_rows.ensures.out_offsets_after e

pub returns-then-mode-eq0-clause-out_values_after : goal.returns-then-mode-eq0-clause-out_values_after
returns-then-mode-eq0-clause-out_values_after c =
    filled-values _ _ _ c.stacked_rows.ensures.out_values_after (words_stacked c.requires c.if-mode-eq0.true)

pub returns-then-mode-eq0-clause-work_after : goal.returns-then-mode-eq0-clause-work_after
returns-then-mode-eq0-clause-work_after c =
    left-stacked _ _ c.if-mode-eq0.true

pub ordered_rows-requires-clause-ordered : goal.ordered_rows-requires-clause-ordered
ordered_rows-requires-clause-ordered c =
    c.requires.ordered c.if-mode-eq0.false

pub ordered_rows-requires-clause-room_if : goal.ordered_rows-requires-clause-room_if
ordered_rows-requires-clause-room_if c =
    let e = widths-ordered _ _ _ _ _ c.if-mode-eq0.false in
    let q = words-ordered c.requires c.if-mode-eq0.false in
    ids-place c.requires _ _ e q

pub ordered_rows-requires-clause-room_if_2 : goal.ordered_rows-requires-clause-room_if_2
ordered_rows-requires-clause-room_if_2 c =
    let e = widths-ordered _ _ _ _ _ c.if-mode-eq0.false in
    let q = words-ordered c.requires c.if-mode-eq0.false in
    offsets-place c.requires _ _ e q

pub ordered_rows-requires-clause-addresses_in_bounds : goal.ordered_rows-requires-clause-addresses_in_bounds
ordered_rows-requires-clause-addresses_in_bounds c =
    let e = widths-ordered _ _ _ _ _ c.if-mode-eq0.false in
    let q = words-ordered c.requires c.if-mode-eq0.false in
    values-place c.requires _ _ e q

pub returns-clause-out_ids_after : goal.returns-clause-out_ids_after
returns-clause-out_ids_after c =
    let e = widths-ordered _ _ _ _ _ c.if-mode-eq0.false in
    filled-ids _ _ _ _ c.ordered_rows.ensures.out_ids_after e

pub returns-clause-out_offsets_after : goal.returns-clause-out_offsets_after
returns-clause-out_offsets_after c =
    let e = widths-ordered _ _ _ _ _ c.if-mode-eq0.false in
    filled-offsets _ _ _ _ c.ordered_rows.ensures.out_offsets_after e

pub returns-clause-out_values_after : goal.returns-clause-out_values_after
returns-clause-out_values_after c =
    filled-values _ _ _ c.ordered_rows.ensures.out_values_after (words-ordered c.requires c.if-mode-eq0.false)

pub returns-clause-work_after : goal.returns-clause-work_after
returns-clause-work_after c =
    c.ordered_rows.ensures.work_after ∙ left-ordered _ _ c.if-mode-eq0.false
