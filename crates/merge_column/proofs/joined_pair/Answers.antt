use mathlib.Core.Path.{◌∙◌}
use Rattle.merge_column.proofs.Laws.{pair-written, pair_held}
use Rattle.merge_column.proofs.joined_pair.Goals as goal

pub returns-then-any_thinned : goal.returns-then-any_thinned
returns-then-any_thinned c =
    c.pair_of.ensures ∙ pair-written _ _ _ c.any_thinned.ensures c.if-any_thinned.true

pub returns : goal.returns
returns c =
    c.held_pair.ensures ∙ pair_held _ _ _ c.any_thinned.ensures c.if-any_thinned.false
