use mathlib.Core.Path.{◌≡◌}
use mathlib.Core.Bool.{not}
use mathlib.Core.List.{◌∷◌}
use Prim.Native.Nat.{◌+◌, ◌≤◌}
use lib.Dec.{eqb}
use lib.ListN.{drop}
use Rattle.definitions.specs.Lists.{sum}
use Rattle.runs.proofs.Laws.{Filling}
use Rattle.stands.specs.Width.{ids_of, totals_of}
use Rattle.stands.specs.Look.{widths}
use Rattle.column_index_shuffled.specs.Order.{ordered_words}
use Rattle.column_index_shuffled.proofs.Laws.{Partly}
use Rattle.column_index_shuffled.proofs.write_rows.Given as goal

abbrev pub invariant-loop-j : goal.invariant-loop-j
invariant-loop-j l = (l.n ≤ l.j)
    × (l.t + sum (widths l.stands l.ids l.offsets (drop l.j l.addresses)) ≡ sum (widths l.stands l.ids l.offsets l.addresses))
    × Partly (not (eqb l.class 0)) (ids_of 0 (widths l.stands l.ids l.offsets l.addresses)) l.initial.out_ids (ids_of l.j (widths l.stands l.ids l.offsets (drop l.j l.addresses))) l.out_ids l.n
    × Partly (eqb l.class 2) (0 ∷ totals_of 0 (widths l.stands l.ids l.offsets l.addresses)) l.initial.out_offsets (totals_of l.t (widths l.stands l.ids l.offsets (drop l.j l.addresses))) l.out_offsets (l.n + 1)
    × Filling 0 (ordered_words l.to l.stands l.ids l.offsets l.values l.map l.addresses) l.initial.out_values (ordered_words l.to l.stands l.ids l.offsets l.values l.map (drop l.j l.addresses)) l.out_values l.v
