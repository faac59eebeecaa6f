use Rattle.std.proofs.Common.{sym, ◌∙◌, ap, arith}
use mathlib.Core.Bool.{not}
use Rattle.withdraw.specs.Lent.{set_by}
use Rattle.withdraw.proofs.Laws.{bit-there, one-fits, one-there, kept, bit_cleared, bit-set, unlike}
use Rattle.withdraw.proofs.mark_row.Goals as goal

pub is_alive-requires : goal.is_alive-requires
is_alive-requires c =
    bit-there (set_by c.args.r c.args.words.now) c.requires.markable c.args.row c.requires.row_lt_rows

pub returns-then-is_alive-alive : goal.returns-then-is_alive-alive
returns-then-is_alive-alive c =
    kept c.args.r c.args.words.now c.args.row c.args.alive c.is_alive.result c.is_alive.ensures c.if-is_alive-alive.true

pub set_alive-requires-clause-row_bound : goal.set_alive-requires-clause-row_bound
set_alive-requires-clause-row_bound c =
    bit-there (set_by c.args.r c.args.words.now) c.requires.markable c.args.row c.requires.row_lt_rows

pub overflow_add-result : goal.overflow_add-result
overflow_add-result c =
    let f = one-fits (set_by c.args.r c.args.words.now) c.requires.markable c.args.row c.requires.row_lt_rows (sym c.is_alive.ensures ∙ unlike _ _ c.if-is_alive-alive.false ∙ ap not c.if-alive.true) in
    omega (arith, f, c.struct_known-1.given)

pub returns-then-alive : goal.returns-then-alive
returns-then-alive c =
    bit-set c.args.r c.args.words.now c.args.row c.is_alive.ensures (unlike _ _ c.if-is_alive-alive.false ∙ ap not c.if-alive.true) c.if-alive.true c.set_alive.ensures

pub clear_alive-requires-clause-row_bound : goal.clear_alive-requires-clause-row_bound
clear_alive-requires-clause-row_bound c =
    bit-there (set_by c.args.r c.args.words.now) c.requires.markable c.args.row c.requires.row_lt_rows

pub overflow_sub-result : goal.overflow_sub-result
overflow_sub-result c =
    one-there (set_by c.args.r c.args.words.now) c.requires.markable c.args.row c.requires.row_lt_rows (sym c.is_alive.ensures ∙ unlike _ _ c.if-is_alive-alive.false ∙ ap not c.if-alive.false)

pub returns-else-alive : goal.returns-else-alive
returns-else-alive c =
    bit_cleared c.args.r c.args.words.now c.args.row c.is_alive.ensures (unlike _ _ c.if-is_alive-alive.false ∙ ap not c.if-alive.false) c.if-alive.false c.clear_alive.ensures
