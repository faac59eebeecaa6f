use mathlib.Core.Path.{ap, ◌∙◌}
use Rattle.std.specs.Ordering.{is_lt}
use Rattle.term_order.proofs.Laws.{below-is}
use Rattle.term_reader.proofs.Laws.{is_out, is-in, compared}
use Rattle.term_reader.proofs.goes_on_at.Goals as goal

pub returns-then-is_last : goal.returns-then-is_last
returns-then-is_last c = is_out _ _ _ _ c.is_last.ensures c.if-is_last.true

pub returns : goal.returns
returns c =
    compared _ _ _ _ _ _ _ (is-in _ _ c.is_last.ensures c.if-is_last.false) c.next_place-next.ensures c.term_at-a.ensures c.term_at-b.ensures
    (c.is_lt.ensures ∙ ap is_lt c.compare_terms.ensures ∙ below-is _)
