use native.Mathlib.Omega.{arith}
use Rattle.wire.proofs.Sections as laws
use Rattle.wire.proofs.section.Goals as goal

pub bounds-bounds-k : goal.bounds-bounds-k
bounds-bounds-k c =
    omega (arith, laws.sections-nine c.args.words.now, c.requires.bounded.room, c.requires.k_in_bounds)

pub overflow_add-from : goal.overflow_add-from
overflow_add-from c =
    let p = laws.part_of _ _ _ c.requires.bounded c.requires.k_in_bounds in
    omega (arith, p.low, p.high)

pub overflow_add-to : goal.overflow_add-to
overflow_add-to c =
    omega (arith, laws.sections-nine c.args.words.now, c.requires.k_in_bounds)

pub bounds-bounds-k-2 : goal.bounds-bounds-k-2
bounds-bounds-k-2 c =
    omega (arith, laws.sections-nine c.args.words.now, c.requires.bounded.room, c.requires.k_in_bounds)

pub slice_bounds-result-count : goal.slice_bounds-result-count
slice_bounds-result-count c =
    let p = laws.part_of _ _ _ c.requires.bounded c.requires.k_in_bounds in
    omega (arith, p.low)

pub slice_bounds-result-start : goal.slice_bounds-result-start
slice_bounds-result-start c =
    let p = laws.part_of _ _ _ c.requires.bounded c.requires.k_in_bounds in
    omega (arith, p.low)

pub slice_bounds-result-end : goal.slice_bounds-result-end
slice_bounds-result-end c =
    let p = laws.part_of _ _ _ c.requires.bounded c.requires.k_in_bounds in
    omega (arith, p.high)

pub returns : goal.returns
returns c =
    (laws.part_of _ _ _ c.requires.bounded c.requires.k_in_bounds).list

pub offset_bounds-bounds-k : goal.offset_bounds-bounds-k
offset_bounds-bounds-k c =
    omega (arith, laws.sections-nine c.args.words.now, c.requires.k_in_bounds)

pub offset_bounds-bounds-k-2 : goal.offset_bounds-bounds-k-2
offset_bounds-bounds-k-2 c =
    omega (arith, laws.sections-nine c.args.words.now, c.requires.k_in_bounds)

pub offset_bounds-words-from : goal.offset_bounds-words-from
offset_bounds-words-from c =
    let p = laws.part_of _ _ _ c.requires.bounded c.requires.k_in_bounds in
    omega (arith, p.low, p.high, c.well_formed.0)
