-- Demand 3's theorem speaks of `join`: runs that keep its contract are the book's calls. Assumes nothing.
use mathlib.Core.Path.{◌≡◌, refl, sym, ap, ◌∙◌, subst}
use mathlib.Core.List.{List, [], ◌∷◌, map}
use lib.ListN.{get_or}
use Rattle.definitions.specs.Join.{absent}
use Rattle.definitions.specs.Outcome.{Outcome, number_of, join_outcome, read_back}
use Rattle.definitions.specs.Book.{JoinsInTurnAgree, Standing, first, call_outcome, call_answer, after_answer, after_call, answers_of, stands_after}
use Rattle.definitions.proofs.Demand.{joins_in_turn-agree}
use Rattle.merge.specs.Whole.{numbers_in, answer_of, outcome_of}
use Rattle.merge.specs.InTurn.{Run, Ran, after_run, RanFrom, after_runs, calls_of, numbers_given, RunsInTurnAgree}

-- one run

outcome-is : (x : Run) (standing : List Standing) → Ran x standing → outcome_of x.gave x.left ≡ call_outcome x.call standing
unfolding call_outcome
outcome-is x standing r = r.kept ∙ ap join_outcome r.laid

after_is : (x : Run) (standing : List Standing) → Ran x standing → after_run x standing ≡ after_call x.call standing
unfolding after_call
after_is x standing r = ap (λ (o : Outcome). after_answer x.call standing o.buffers o.answer) (outcome-is x standing r)

-- all runs

rest_ran : (x : Run) (xs : List Run) (standing : List Standing) → RanFrom (x ∷ xs) standing → RanFrom xs (after_call x.call standing)
rest_ran x xs standing r = subst (RanFrom xs) (after_is x standing r.0) r.1

answers_are : (xs : List Run) (standing : List Standing) → RanFrom xs standing → numbers_given xs ≡ answers_of (calls_of xs) standing
unfolding call_answer
answers_are [] standing r = refl
answers_are (x ∷ xs) standing r =
    λ j. number_of (outcome-is x standing r.0 j).answer ∷ answers_are xs (after_call x.call standing) (rest_ran x xs standing r) j

stands_are : (xs : List Run) (standing : List Standing) → RanFrom xs standing → after_runs xs standing ≡ stands_after (calls_of xs) standing
stands_are [] standing r = refl
stands_are (x ∷ xs) standing r =
    ap (after_runs xs) (after_is x standing r.0) ∙ stands_are xs (after_call x.call standing) (rest_ran x xs standing r)

pub runs_in_turn-agree : RunsInTurnAgree
unfolding RunsInTurnAgree JoinsInTurnAgree
runs_in_turn-agree firsts runs r hands segments uni =
    let d = joins_in_turn-agree firsts (calls_of runs) hands segments uni in
    let stands = stands_are runs (map first firsts) r in
    record {
      answers = answers_are runs (map first firsts) r ∙ d.answers;
      standing = stands ∙ d.standing;
      any_sequence = λ k e sequence m seq. ap (λ (l : List Standing). get_or l k (first absent)) stands ∙ d.any_sequence k e sequence m seq;
      where_called = λ k e x n m at ran a.
          let o = outcome-is x (map first firsts) ran in
          ap (λ (o : Outcome). read_back (numbers_in n) o.buffers) o ∙ d.where_called k e x.call (numbers_in n) m at (sym (ap (λ (o : Outcome). o.answer) o) ∙ ap answer_of a);
    }
