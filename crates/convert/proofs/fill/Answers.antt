use mathlib.Core.Path.{◌≡◌, ap, ◌∙◌}
use Prim.Native.Nat.{ℕ, ◌+◌, zero-le}
use native.Mathlib.Omega.{arith}
use lib.Dec.{ltb}
use lib.ListN.{length, drop, get_or, length-set}
use Rattle.runs.proofs.Laws.{fill-from, fill_done, fill_if}
use Rattle.convert.specs.Risen.{risen_ids, risen_ends}
use Rattle.convert.proofs.Risen.{ids_step, ends_step, ends-ids, none_left, turn, put_first}
use borrow.Author.Rules.{rules}
use Rattle.convert.proofs.fill.Goals as goal

pub loop-k-init : goal.loop-k-init
loop-k-init c =
    (zero-le, fill-from 0 (risen_ids 0 c.args.offsets.now) _ (omega (arith, c.requires.n_value, c.requires.n_in_bounds)), fill-from 1 (risen_ends c.args.offsets.now) _ (simp length-set (omega (arith, c.requires.n_value, c.requires.n_in_bounds_2, ends-ids 0 c.args.offsets.now))))

pub bounds-offsets-row : goal.bounds-offsets-row
bounds-offsets-row c =
    let t = turn c.requires.n_value c.loop-k.invariant.1 c.loop-k.invariant.2 c.loop-k-test.true in
    search rules

pub bounds-offsets-row-in-loop-k : goal.bounds-offsets-row-in-loop-k
bounds-offsets-row-in-loop-k c =
    let t = turn c.requires.n_value c.loop-k.invariant.1 c.loop-k.invariant.2 c.loop-k-test.true in
    search rules

pub bounds-offsets-row-in-loop-k-2 : goal.bounds-offsets-row-in-loop-k-2
bounds-offsets-row-in-loop-k-2 c =
    let t = turn c.requires.n_value c.loop-k.invariant.1 c.loop-k.invariant.2 c.loop-k-test.true in
    search rules

pub loop-k-smaller : goal.loop-k-smaller
loop-k-smaller c =
    let t = turn c.requires.n_value c.loop-k.invariant.1 c.loop-k.invariant.2 c.loop-k-test.true in
    search rules

pub loop-k-preserved : goal.loop-k-preserved
loop-k-preserved c =
    let t = turn c.requires.n_value c.loop-k.invariant.1 c.loop-k.invariant.2 c.loop-k-test.true in
    let b = ltb (get_or c.args.offsets.now c.loop-k.row 0) (get_or c.args.offsets.now (c.loop-k.row + 1) 0) in
    let d = c.one_if_below.ensures.value in (
      omega (arith, t.left),
      fill_if c.loop-k.invariant.1 b c.loop-k.row (risen_ids (c.loop-k.row + 1) (drop (c.loop-k.row + 1) c.args.offsets.now)) (ids_step c.args.offsets.now c.loop-k.row t.left c.loop-k.row) (omega (arith, c.loop-k-test.true, c.requires.n_value)) (ap (λ (n : ℕ). c.loop-k.k + n) d),
      fill_if c.loop-k.invariant.2 b (get_or c.args.offsets.now (c.loop-k.row + 1) 0) (risen_ends (drop (c.loop-k.row + 1) c.args.offsets.now)) (ends_step c.args.offsets.now c.loop-k.row t.left) (omega (arith, c.loop-k-test.true, c.requires.n_value, ends-ids 0 c.args.offsets.now)) (omega (arith, d)),
    )

pub returns-clause-out_ids_after : goal.returns-clause-out_ids_after
returns-clause-out_ids_after c =
    let z : length (risen_ids c.loop-k.row (drop c.loop-k.row c.args.offsets.now)) ≡ 0 = omega (arith, c.loop-k.invariant.1.total, c.requires.n_value) in
    let y : length (risen_ends (drop c.loop-k.row c.args.offsets.now)) ≡ 0 = omega (arith, c.loop-k.invariant.2.total, c.requires.n_value, ends-ids 0 c.args.offsets.now) in
    (fill_done c.loop-k.invariant.1 (none_left _ z)).1

pub returns-clause-out_offsets_after : goal.returns-clause-out_offsets_after
returns-clause-out_offsets_after c =
    let z : length (risen_ids c.loop-k.row (drop c.loop-k.row c.args.offsets.now)) ≡ 0 = omega (arith, c.loop-k.invariant.1.total, c.requires.n_value) in
    let y : length (risen_ends (drop c.loop-k.row c.args.offsets.now)) ≡ 0 = omega (arith, c.loop-k.invariant.2.total, c.requires.n_value, ends-ids 0 c.args.offsets.now) in
    (fill_done c.loop-k.invariant.2 (none_left _ y)).1 ∙ put_first 0 (risen_ends c.args.offsets.now) c.args.out_offsets.now (omega (arith, c.requires.n_in_bounds_2))
