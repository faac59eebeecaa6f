use Rattle.std.proofs.Common.{◌≡◌, ◌+◌, drop}
use Rattle.runs.proofs.Laws.{Filling}
use Rattle.stands.specs.Width.{ids_of}
use Rattle.stands.specs.Stack.{stacked_widths, all_rows}
use Rattle.column_index_stacked.proofs.stacked_ids.Given as goal

abbrev pub invariant-loop-row : goal.invariant-loop-row
invariant-loop-row l =
    (l.first + all_rows (drop l.row-index l.stands) ≡ all_rows l.stands) × Filling 0 (ids_of 0 (stacked_widths l.stands l.ids l.offsets)) l.initial.out (ids_of l.first (stacked_widths (drop l.row-index l.stands) l.ids l.offsets)) l.out l.at
