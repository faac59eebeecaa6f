use Rattle.std.proofs.Common.{◌≡◌, true, ltb, sym, ◌∙◌, rules, tests}
use Rattle.std.specs.Option.{MatchOption}
use Rattle.lists.proofs.Tests.{past}
use Rattle.segment_fit.specs.Fits.{fits_ids}
use Rattle.segment_fit.proofs.Laws.{last-below}
use Rattle.segment_fit.proofs.ids_fit.Goals as goal

pub returns-then-rises : goal.returns-then-rises
unfolding fits_ids
returns-then-rises c =
    let r = sym c.rises.ensures ∙ c.if-rises.true in
    let l : MatchOption c.last.result (c.is_none_or.result ≡ true) (λ x. c.is_none_or.result ≡ ltb x.now c.args.rows) = search (rules, tests) in
    past r (last-below c.args.rows c.args.ids.now c.last.result c.is_none_or.result c.last.ensures.value l r)
