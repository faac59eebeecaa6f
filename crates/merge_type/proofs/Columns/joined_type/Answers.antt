use mathlib.Core.Path.{sym, ap, ◌∙◌}
use Rattle.numerical.specs.Seen.{type_seen}
use Rattle.merge_type.proofs.Only.{joined-required, joined_only, joined-several}
use Rattle.merge_type.proofs.Columns.joined_type.Goals as goal

pub returns-then-required-ne-ABSENT : goal.returns-then-required-ne-ABSENT
returns-then-required-ne-ABSENT c =
    joined-required _ _ c.if-required-ne-ABSENT.true

pub returns-in-Some : goal.returns-in-Some
returns-in-Some c =
    joined_only _ _ c.if-required-ne-ABSENT.false _ (sym c.in-Some.is ∙ c.only_type.ensures)

pub returns-in-None : goal.returns-in-None
returns-in-None c =
    c.joined_type.ensures ∙ ap type_seen c.seen.ensures ∙ joined-several _ _ c.if-required-ne-ABSENT.false (sym c.in-None.is ∙ c.only_type.ensures)
