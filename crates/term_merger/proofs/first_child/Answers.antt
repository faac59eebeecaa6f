use mathlib.Core.Path.{sym, ◌∙◌}
use Rattle.term_merger.proofs.Laws.{child_last, child_first, child_second}
use Rattle.term_merger.proofs.first_child.Goals as goal

pub returns-then-n-r : goal.returns-then-n-r
returns-then-n-r c =
    child_last _ _ _ _ _ c.requires.l_lt_n.0 c.if-n-r.true

pub returns-then-comes_before : goal.returns-then-comes_before
returns-then-comes_before c =
    child_second _ _ _ _ _ c.if-n-r.false (sym c.comes_before.ensures ∙ c.if-comes_before.true)

pub returns : goal.returns
returns c =
    child_first _ _ _ _ _ c.requires.l_lt_n.0 (sym c.comes_before.ensures ∙ c.if-comes_before.false)
