use mathlib.Core.Path.{ap, ◌∙◌}
use Prim.Native.Nat.{ℕ, ◌+◌, ◌*◌, ◌≤◌}
use native.Mathlib.Omega.{arith}
use lib.ListN.{drop}
use Rattle.sections_fit.proofs.Walks.{totals_from, totals_step, totals_end, totals_all}
use Rattle.sections_fit.specs.Walks.{Below}
use Rattle.segment.specs.Records.{records_of}
use Rattle.sections_fit.specs.declared.Totals.{Totals}
use Rattle.sections_fit.proofs.totals_of.Goals as goal

wider : {t : Totals} {m n : ℕ} → Below t m → m ≤ n → Below t n
wider b h = record { rows = omega (arith, b.rows); ids = omega (arith, b.ids); offsets = omega (arith, b.offsets); values = omega (arith, b.values); words = omega (arith, b.words); terms = omega (arith, b.terms); alive = omega (arith, b.alive) }

pub loop-r-preserved : goal.loop-r-preserved
loop-r-preserved c = (
  ap (λ (t : Totals). totals_from t (records_of (drop (c.loop-r.r-index + 1) c.args.records.now))) c.plus-t.ensures.value ∙ totals_step _ _ c.loop-r-test.true c.from.ensures c.loop-r.t ∙ c.loop-r.invariant.0,
  wider (c.plus-t.ensures.grown (c.loop-r.r-index * 8589934592) c.loop-r.invariant.1) (omega arith),
)

pub returns : goal.returns
returns c =
    totals_end c.args.records.now c.loop-r.r-index c.loop-r-test.false c.loop-r.t ∙ c.loop-r.invariant.0 ∙ totals_all _
