use Rattle.std.proofs.Common.{ltb, rules, tests}
use Rattle.std.proofs.lemmas.List.Sorted.{answers_always}
use Rattle.segment_fit.proofs.Laws.{neighbours}
use Rattle.segment_fit.proofs.rises.Goals as goal

pub returns : goal.returns
returns c =
    neighbours c.args.xs.now c.is_sorted_by.result (c.is_sorted_by.ensures.cases (λ x y. ltb x y) (answers_always _ _ _ (λ f a r q k. search (rules, tests))))
