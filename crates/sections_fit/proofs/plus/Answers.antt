use mathlib.Core.Path.{refl}
use Rattle.sections_fit.specs.Walks.{add_to}
use Rattle.sections_fit.proofs.plus.Goals as goal

pub returns-clause-value : goal.returns-clause-value
unfolding add_to
returns-clause-value c =
    rw (c.value_words.ensures.value, c.alive_words.ensures.value) refl
