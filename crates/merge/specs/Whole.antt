-- What `join` promises. Assumes nothing.
use Rattle.std.specs.Prelude.{◌≡◌, Result}
use Rattle.definitions.specs.Outcome.{Buffers, Lent, join_outcome}
use Rattle.refusal.specs.declared.Refusal.{Refusal}
use Rattle.merge_checked.specs.declared.Numbers.{Numbers}
-- the answer and the lent memory, in the words of the definitions
pub use Rattle.merge_checked.specs.Call.{numbers_in, answer_of, buffers_of, lent_in, outcome_of}

-- what `join` promises of what it was lent, gave and left: the whole outcome is the definition's
abbrev pub JoinKept : Lent → Result Numbers Refusal → Buffers → Type 0
JoinKept lent gave left = outcome_of gave left ≡ join_outcome lent
