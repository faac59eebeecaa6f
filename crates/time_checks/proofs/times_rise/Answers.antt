use Rattle.std.proofs.Common.{rules, tests}
use Rattle.std.proofs.lemmas.List.Sorted.{answers_always}
use Rattle.definitions.specs.TimeOrder.{time_of}
use Rattle.time_checks.proofs.Laws.{neighbours}
use Rattle.time_checks.proofs.times_rise.Goals as goal

pub returns : goal.returns
returns c =
    neighbours c.args.values.now c.is_sorted_by_key.result (c.is_sorted_by_key.ensures.cases time_of (answers_always _ _ _ (λ f a r q k. search (rules, tests))))
