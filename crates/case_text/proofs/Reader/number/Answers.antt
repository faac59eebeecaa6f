use Rattle.case_text.proofs.Reading.{number_start, digits-end, digits-stop, digits_wide, digits_on}
use mathlib.Core.Path.{◌≡◌, sym, ◌∙◌}
use borrow.Author.Rules.{rules}
use lib.ListN.{length}
use Rattle.std.specs.Prelude.{None}
use Rattle.case_text.proofs.Reader.number.Goals as goal

pub loop-b-init : goal.loop-b-init
loop-b-init c =
    number_start _ _ c.skip.ensures

pub loop-b-preserved : goal.loop-b-preserved
loop-b-preserved c =
    digits_on c.in-Some.ensures.cases.0 _ _ (sym c.digit.ensures.value ∙ c.in-Some-digit.is) c.if-n.true ∙ c.loop-b.invariant

pub returns-in-loop-b : goal.returns-in-loop-b
returns-in-loop-b c =
    let h : length c.loop-b.self.rest.now ≡ 0 = search rules in
    digits-end _ _ h ∙ c.loop-b.invariant

pub returns-in-Some : goal.returns-in-Some
returns-in-Some c =
    let none : c.digit.result ≡ None = cc in
    digits-stop c.in-Some.ensures.cases.0 _ (sym c.digit.ensures.value ∙ none) ∙ c.loop-b.invariant

pub returns-else-n : goal.returns-else-n
returns-else-n c =
    digits_wide c.in-Some.ensures.cases.0 _ _ (sym c.digit.ensures.value ∙ c.in-Some-digit.is) c.if-n.false ∙ c.loop-b.invariant
