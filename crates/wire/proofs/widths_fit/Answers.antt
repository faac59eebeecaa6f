use borrow.Author.Rules.{rules}
use Rattle.definitions.specs.Wire.{widths_fit}
use Rattle.wire.proofs.widths_fit.Goals as goal

pub returns-then-section_below-5 : goal.returns-then-section_below-5
unfolding widths_fit
returns-then-section_below-5 c =
    search rules

pub returns-else-section_below-5 : goal.returns-else-section_below-5
unfolding widths_fit
returns-else-section_below-5 c =
    search rules
