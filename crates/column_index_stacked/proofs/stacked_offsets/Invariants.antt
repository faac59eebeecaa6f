use Rattle.std.proofs.Common.{◌≡◌, ◌∷◌, ◌+◌, drop}
use Rattle.definitions.specs.Lists.{sum}
use Rattle.runs.proofs.Laws.{Filling}
use Rattle.stands.specs.Width.{totals_of}
use Rattle.stands.specs.Stack.{stacked_widths}
use Rattle.column_index_stacked.proofs.stacked_offsets.Given as goal

abbrev pub invariant-loop-row : goal.invariant-loop-row
invariant-loop-row l =
    (l.total + sum (stacked_widths (drop l.row-index l.stands) l.ids l.offsets) ≡ sum (stacked_widths l.stands l.ids l.offsets)) × Filling 0 (0 ∷ totals_of 0 (stacked_widths l.stands l.ids l.offsets)) l.initial.out (totals_of l.total (stacked_widths (drop l.row-index l.stands) l.ids l.offsets)) l.out l.at
