use Rattle.std.proofs.Common.{drop}
use Rattle.runs.proofs.Laws.{Filling}
use Rattle.column_values_merge.specs.Stack.{stacked_words}
use Rattle.column_values_merge.proofs.stacked_values.Given as goal

abbrev pub invariant-loop-row : goal.invariant-loop-row
invariant-loop-row l =
    Filling 0 (stacked_words l.to l.stands l.values l.map) l.initial.out (stacked_words l.to (drop l.row-index l.stands) l.values l.map) l.out l.at
