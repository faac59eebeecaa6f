use borrow.Author.Rules.{rules}
use Rattle.definitions.specs.Wire.{whole_words}
use Rattle.wire.proofs.whole_words.Goals as goal

pub returns-then-input-le65536 : goal.returns-then-input-le65536
unfolding whole_words
returns-then-input-le65536 c =
    search rules

pub returns-else-input-le65536 : goal.returns-else-input-le65536
unfolding whole_words
returns-else-input-le65536 c =
    search rules
