use mathlib.Core.Path.{refl, ap, ◌∙◌}
use Rattle.lists.proofs.Tests.{fell, went}
use Rattle.stands.specs.declared.Stand.{Stand}
use Rattle.merge_type.proofs.Category.{same_step, same_end, same-is-one}
use Rattle.merge_type.proofs.Columns.one_category.Goals as goal

pub returns-then-not-fits_first : goal.returns-then-not-fits_first
returns-then-not-fits_first c =
    let e = ap (λ (p : Stand). p.typ) c.from-t.ensures in
    fell _ c.fits_first.ensures (same_step _ _ c.loop-row-test.true e refl) c.if-not-fits_first.true ∙ c.loop-row.invariant ∙ same-is-one _ _

pub loop-row-preserved : goal.loop-row-preserved
loop-row-preserved c =
    let e = ap (λ (p : Stand). p.typ) c.from-t.ensures in
    went _ c.fits_first.ensures (same_step _ _ c.loop-row-test.true e c.first_type-first.ensures) c.if-not-fits_first.false ∙ c.loop-row.invariant

pub returns : goal.returns
returns c =
    same_end _ _ _ c.loop-row-test.false ∙ c.loop-row.invariant ∙ same-is-one _ _
