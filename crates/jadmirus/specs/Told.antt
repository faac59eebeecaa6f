-- The numbers of an acceptance, and a pair, in lent memory. Assumes nothing.
use Rattle.std.specs.Prelude.{ℕ, List, [], ◌∷◌}
use Rattle.definitions.specs.Outcome.{Numbers, Answer, accepted, refused}
use Rattle.definitions.specs.Segment.{Pair}
use Rattle.definitions.specs.TimeOrder.{TimeAnswer, sorted, unsorted}
use Rattle.definitions.specs.Convert.{ConvertAnswer, converted_to, unconverted}
use Rattle.definitions.specs.Withdraw.{MarkAnswer, changed, unmarked}
use Rattle.segment.specs.Records.{record_row}
use Rattle.merge_checked.specs.declared.Numbers as Declared

-- type, class, rows, the number of ids, offsets, values, terms, term bytes and ordinals of the map, the term bytes copied, and the least and greatest value
abbrev pub numbers_listed : Numbers → List ℕ
numbers_listed n = n.type ∷ n.class ∷ n.rows ∷ n.ids ∷ n.offsets ∷ n.values ∷ n.terms ∷ n.term_bytes ∷ n.map ∷ n.copied ∷ n.pair.least ∷ n.pair.greatest ∷ []

abbrev pub list_of : Declared.Numbers → List ℕ
list_of n = n.typ ∷ n.class ∷ n.rows ∷ n.ids ∷ n.offsets ∷ n.values ∷ n.terms ∷ n.bytes ∷ n.map ∷ n.copied ∷ n.least ∷ n.greatest ∷ []

abbrev pub pair_listed : Pair → List ℕ
pair_listed p = p.least ∷ p.greatest ∷ []

-- a refusal leaves them as they were
abbrev pub numbers_after : Answer → List ℕ → List ℕ
numbers_after (accepted n) old = numbers_listed n
numbers_after (refused k) old = old

-- the number of addresses of a time order; a refusal leaves it as it was
abbrev pub count_after : TimeAnswer → List ℕ → List ℕ
count_after (sorted n) old = n ∷ []
count_after (unsorted k) old = old

-- the record of a converted segment; a refusal leaves it as it was
abbrev pub record_after : ConvertAnswer → List ℕ → List ℕ
record_after (converted_to r) old = record_row r
record_after (unconverted k) old = old

-- how many rows changed; a refusal leaves it as it was
abbrev pub changes_after : MarkAnswer → List ℕ → List ℕ
changes_after (changed n) old = n ∷ []
changes_after (unmarked k) old = old
