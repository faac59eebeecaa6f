use Rattle.std.proofs.Common.{ℕ, eqb, ◌∙◌, ap, Option, Some}
use Rattle.std.specs.Option.{option_eq}
use Rattle.segment_fit.proofs.Laws.{told, offsets-ends}
use Rattle.segment_fit.proofs.offsets_fit.Goals as goal

pub returns-then-eq : goal.returns-then-eq
returns-then-eq c =
    offsets-ends c.args.values c.args.offsets.now c.eq.result c.eq-then-eq.result
    (c.eq.ensures ∙ told c.first.result _ ∙ ap (λ (o : Option ℕ). option_eq eqb o (Some 0)) c.first.ensures.value)
    (c.eq-then-eq.ensures ∙ told c.last.result _ ∙ ap (λ (o : Option ℕ). option_eq eqb o (Some c.args.values)) c.last.ensures.value)
    c.if-eq.true
