use mathlib.Core.Path.{refl}
use Rattle.stands.specs.Stand.{next_stand}
use Rattle.stands.proofs.next.Goals as goal

pub returns-clause-value : goal.returns-clause-value
unfolding next_stand
returns-clause-value c =
    rw (c.words_per_value.ensures.value, c.from_on.ensures, c.from_on-2.ensures, c.from_on-3.ensures, c.from_on-4.ensures, c.from_on-5.ensures, c.value_words.ensures.value, c.alive_words.ensures.value) refl
