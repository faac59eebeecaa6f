use Rattle.merge_dict_column.proofs.Given.{unmarked, marked}
use Rattle.merge_dict_column.proofs.mark.Goals as goal

pub returns-then-mode-eq0 : goal.returns-then-mode-eq0
returns-then-mode-eq0 c =
    unmarked _ _ _ _ _ _ _ c.if-mode-eq0.true

pub returns : goal.returns
returns c =
    marked _ _ _ _ _ _ _ c.if-mode-eq0.false c.mark_terms.ensures
