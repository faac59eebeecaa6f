use Rattle.case_text.proofs.Reading.{skipped-end, skipped-here, skipped_on}
use mathlib.Core.Path.{◌≡◌, ap, sym, ◌∙◌}
use borrow.Author.Rules.{rules}
use lib.ListN.{length}
use Rattle.std.specs.Option.{is_some}
use Rattle.case_text.proofs.Reader.skip.Goals as goal

pub loop-b-preserved : goal.loop-b-preserved
loop-b-preserved c =
    skipped_on c.in-Some.ensures.cases.0 (ap is_some (sym c.digit.ensures.value) ∙ c.if-is_none.ensures) ∙ c.loop-b.invariant

pub returns-in-loop-b : goal.returns-in-loop-b
returns-in-loop-b c =
    let h : length c.loop-b.self.rest.now ≡ 0 = search rules in
    skipped-end _ h ∙ c.loop-b.invariant

pub returns-else-is_none : goal.returns-else-is_none
returns-else-is_none c =
    skipped-here c.in-Some.ensures.cases.0 (ap is_some (sym c.digit.ensures.value) ∙ c.if-is_none.ensures) ∙ c.loop-b.invariant
