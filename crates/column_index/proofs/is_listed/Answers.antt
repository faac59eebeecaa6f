use borrow.Author.Tests.{le-ltb}
use Rattle.column_index.proofs.Laws.{listed_past, listed-at}
use Rattle.column_index.proofs.is_listed.Goals as goal

pub returns-then-k-ids : goal.returns-then-k-ids
returns-then-k-ids c =
    listed-at _ _ _ c.requires.t c.requires.k_value c.if-k-ids.true

pub returns-else-k-ids : goal.returns-else-k-ids
returns-else-k-ids c =
    rw (le-ltb _ _ c.if-k-ids.false) (listed_past _ _ _ c.requires.t c.requires.k_value c.if-k-ids.false)
