use mathlib.Core.Path.{sym, ap, ◌∙◌}
use mathlib.Core.Logic.{inl, inr}
use Rattle.term_order.specs.Order.{order_of}
use Rattle.term_order.proofs.Laws.{numbers-order}
use Rattle.term_order.proofs.Words.{rests_short, rests_long}
use Rattle.term_order.proofs.compare_rests.Goals as goal
use Rattle.term_order.proofs.compare_rests.Goals.{then-n-le16-via-then-n-le16, then-n-le16-via-else-n-le16+then-m-le16}

pub returns-then-n-le16 : goal.returns-then-n-le16
returns-then-n-le16 c =
    c.cmp.ensures
    ∙ numbers-order _ _
    ∙ ap order_of
    (sym
    (rests_short c.requires.inside c.requires.inside_2
    (elim c.then-n-le16.branch [ then-n-le16-via-then-n-le16 w ↦ inl w.if-n-le16.true | then-n-le16-via-else-n-le16+then-m-le16 w ↦ inr w.if-m-le16.true ])))

pub returns : goal.returns
returns c = c.compare_terms.ensures ∙ ap order_of (sym (rests_long c.requires.inside c.requires.inside_2 c.if-n-le16.false c.if-m-le16.false))
