use Rattle.std.proofs.Common.{List, ℕ, set, ap₂, ◌∙◌, arith}
use Rattle.records.proofs.Laws.{laid_none, laid_more, count-within, count-few}
use Rattle.records.proofs.rows_of.Goals as goal

pub loop-i-init : goal.loop-i-init
loop-i-init c = laid_none _

pub row_of-requires : goal.row_of-requires
row_of-requires c =
    omega (arith, count-within, c.count_of-i-end.ensures)

pub offset_bounds-table-i : goal.offset_bounds-table-i
offset_bounds-table-i c =
    omega (arith, count-few, c.count_of-i-end.ensures)

pub bounds-table-i : goal.bounds-table-i
bounds-table-i c =
    omega (arith, count-few, c.count_of-i-end.ensures)

pub loop-i-preserved : goal.loop-i-preserved
loop-i-preserved c =
    ap₂ (λ (t : List (List ℕ)) (r : List ℕ). set t c.loop-i.i r) c.loop-i.invariant c.row_of.ensures ∙ laid_more c.args.records.now c.loop-i.i
