use mathlib.Core.Path.{ap, ◌∙◌}
use mathlib.Core.Bool.{cond}
use Prim.Native.Nat.{ℕ}
use native.Mathlib.Omega.{arith}
use lib.ListN.{length, get_or}
use Rattle.definitions.specs.Row.{bit_at}
use Rattle.census.specs.Census.{values_by}
use Rattle.census.proofs.Rows.{sum_fits}
use Rattle.census.proofs.id_counts.Goals as goal

pub overflow_add-values : goal.overflow_add-values
overflow_add-values c =
    let e = c.if_alive-values.ensures ∙ ap (λ (w : ℕ). cond (bit_at c.args.words.now (get_or c.args.ids.now c.loop-k.k 0)) w 0) c.id_width-width.ensures in
    let f = sum_fits (values_by c.args.kind c.args.ids.now c.args.offsets.now c.args.words.now) c.loop-k.k (length c.args.ids.now) c.loop-k.values _ c.loop-k-test.true c.loop-k.invariant.1 e in
    omega (arith, c.requires.small)
