use Rattle.std.proofs.Common.{refl, ◌∙◌, rules, tests}
use Rattle.std.proofs.lemmas.Iterator.{YieldsList-from_range}
use Rattle.std.proofs.lemmas.Iterator.Search.{any_from_yields_List}
use Rattle.definitions.specs.Row.{bit_at}
use Rattle.segment_fit.proofs.Laws.{past-bits}
use Rattle.segment_fit.proofs.past_rows.Goals as goal

pub returns : goal.returns
returns c =
    any_from_yields_List (bit_at c.args.alive.now) _ _ _ c.any.ensures.ran (YieldsList-from_range c.args.rows _ _ refl refl) (λ x b q k. search (rules, tests))
    ∙ past-bits c.args.rows c.args.alive.now _ refl
