-- A column that stands in the output lists, as the printing code is lent them. Assumes nothing.
use Rattle.std.specs.Prelude.{ℕ, ◌*◌, ◌≤◌, List, [], length, take}
use Rattle.definitions.specs.Lists.{sum}
use Rattle.definitions.specs.Words.{words_per_value}
use Rattle.definitions.specs.Outcome.{Buffers, Numbers, Answer, accepted, refused}

-- the six output lists; the working bytes are not printed
abbrev pub outputs : List ℕ → List ℕ → List ℕ → List ℕ → List ℕ → List ℕ → Buffers
outputs ids offsets values lengths bytes maps =
    record { ids = ids; offsets = offsets; values = values; term_lengths = lengths; term_bytes = bytes; map = maps; working = [] }

-- what the numbers announce stands in the lists, values in words
pub record Announced (n : Numbers) (b : Buffers) : Type 0 where
  pub ids : n.ids ≤ length b.ids
  pub offsets : n.offsets ≤ length b.offsets
  pub values : n.values * words_per_value n.type ≤ length b.values
  pub terms : n.terms ≤ length b.term_lengths
  pub bytes : sum (take n.terms b.term_lengths) ≤ length b.term_bytes
  pub maps : n.map ≤ length b.map

-- the same of an answer; a refusal announces nothing
abbrev pub AnnouncedBy : Answer → Buffers → Type 0
AnnouncedBy (accepted n) b = Announced n b
AnnouncedBy (refused k) b = Unit

-- no list is longer than the program's
pub record Short (b : Buffers) : Type 0 where
  pub ids : length b.ids ≤ 8192
  pub offsets : length b.offsets ≤ 8192
  pub values : length b.values ≤ 8192
  pub terms : length b.term_lengths ≤ 8192
  pub bytes : length b.term_bytes ≤ 8192
  pub maps : length b.map ≤ 8192
