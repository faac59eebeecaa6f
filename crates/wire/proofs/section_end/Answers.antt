use native.Mathlib.Nat.{le-div_iff_mul-le, div-lt_iff_lt-mul}
use native.Mathlib.Omega.{arith}
use Rattle.wire.proofs.Sections as laws
use Rattle.wire.proofs.section_end.Goals as goal

pub returns-then-words-at : goal.returns-then-words-at
returns-then-words-at c =
    laws.end_out _ _ _ c.if-words-at.true

pub returns-then-most-n : goal.returns-then-most-n
returns-then-most-n c =
    let short = (div-lt_iff_lt-mul {k = c.args.size} c.requires).0 c.if-most-n.true in
    laws.end_short _ _ _ c.if-words-at.false (omega arith)

pub overflow_mul-result : goal.overflow_mul-result
overflow_mul-result c =
    let product = (le-div_iff_mul-le {k = c.args.size} c.requires).0 c.if-most-n.false in
    omega (arith)

pub overflow_add-result-2 : goal.overflow_add-result-2
overflow_add-result-2 c =
    let sum = (le-div_iff_mul-le {k = c.args.size} c.requires).0 c.if-most-n.false in
    omega (arith)

pub returns : goal.returns
returns c =
    let whole = (le-div_iff_mul-le {k = c.args.size} c.requires).0 c.if-most-n.false in
    laws.end_whole _ _ _ c.if-words-at.false (omega arith)
