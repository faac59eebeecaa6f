use borrow.Author.Rules.{rules}
use Rattle.definitions.specs.Wire.{word_sections, words_fit}
use mathlib.Core.Path.{sym, ◌∙◌}
use borrow.Author.Tests.{ne_eqb}
use lib.ListN.{length}
use Rattle.lists.proofs.Tests.{stop}
use Rattle.wire.proofs.Sections.{fit_by_bounds}
use Rattle.wire.proofs.words_fit.Goals as goal

pub returns-then-n-ne9 : goal.returns-then-n-ne9
unfolding words_fit
returns-then-n-ne9 c =
    stop _ (ne_eqb (length (word_sections c.args.words.now)) 9 (λ e. c.if-n-ne9.true (c.requires.n_value ∙ e)))

pub returns-then-bounds-eq3 : goal.returns-then-bounds-eq3
returns-then-bounds-eq3 c =
    rw (fit_by_bounds c.args.words.now c.args.bounds.now c.requires.bounded (sym c.requires.n_value ∙ c.if-n-ne9.false)) (search rules)

pub returns-else-bounds-eq3 : goal.returns-else-bounds-eq3
returns-else-bounds-eq3 c =
    rw (fit_by_bounds c.args.words.now c.args.bounds.now c.requires.bounded (sym c.requires.n_value ∙ c.if-n-ne9.false)) (search rules)
