use Rattle.std.proofs.Common.{ltb, ◌∙◌, rules, tests}
use Rattle.std.proofs.lemmas.Iterator.{YieldsList-from_slice}
use Rattle.std.proofs.lemmas.Iterator.Search.{all_from_yields_List}
use Rattle.withdraw.proofs.Laws.{each-below}
use Rattle.withdraw.proofs.rows_there.Goals as goal

pub returns : goal.returns
returns c =
    all_from_yields_List (λ row. ltb row c.args.n) _ _ _ c.all.ensures.ran (YieldsList-from_slice c.args.rows.now cc) (λ x b q k. search (rules, tests))
    ∙ each-below c.args.n c.args.rows.now
