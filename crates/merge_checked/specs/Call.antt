-- The joiner's answer and the lent memory in the words of the definitions, and what the join of a checked input takes as given. Assumes nothing.
use Rattle.std.specs.Prelude.{ℕ, ◌≡◌, List, length, replicate, Result, Ok, Err}
use Rattle.definitions.specs.Segment.{SegmentRecord, pair}
use Rattle.definitions.specs.Outcome as Outcome
use Rattle.definitions.specs.Outcome.{Buffers, accepted, refused}
use Rattle.segment.specs.declared.sections.Sections.{Sections as LentSections}
use Rattle.segment.specs.Lent.{lent_input}
use Rattle.verdict.specs.Nine.{answer_to_nine}
use Rattle.merge_checked.specs.declared.Numbers.{Numbers}
use Rattle.refusal.specs.declared.Refusal.{Refusal}
use Rattle.refusal.specs.Number.{number_of}

-- ---- a call, in the words of the definitions

abbrev pub numbers_in : Numbers → Outcome.Numbers
numbers_in n =
    record {
      type = n.typ;
      class = n.class;
      rows = n.rows;
      ids = n.ids;
      offsets = n.offsets;
      values = n.values;
      terms = n.terms;
      term_bytes = n.bytes;
      map = n.map;
      copied = n.copied;
      pair = pair n.least n.greatest;
    }

-- the paper's number for each case is that of the definitions' answer
abbrev pub answer_of : Result Numbers Refusal → Outcome.Answer
answer_of (Ok n) = accepted (numbers_in n)
answer_of (Err e) = refused (number_of e)

-- row ids, offsets, values, term lengths, term bytes, map, working bytes
abbrev pub buffers_of : List ℕ → List ℕ → List ℕ → List ℕ → List ℕ → List ℕ → List ℕ → Buffers
buffers_of ids offsets values lengths bytes map work =
    record { ids = ids; offsets = offsets; values = values; term_lengths = lengths; term_bytes = bytes; map = map; working = work }

-- all that a call is lent, the six sections as the code has them
abbrev pub lent_in : ℕ → ℕ → List SegmentRecord → LentSections → List (List ℕ) → Buffers → Outcome.Lent
lent_in mode required records s addresses buffers =
    Outcome.lent_of mode required records s.ids.now s.offsets.now s.values.now s.lengths.now s.bytes.now s.alive.now addresses buffers

abbrev pub outcome_of : Result Numbers Refusal → Buffers → Outcome.Outcome
outcome_of a b = record { answer = answer_of a; buffers = b }

-- ---- after the checks up to 9

pub record AfterNine (mode required : ℕ) (records : List (List ℕ)) (ids offsets values lengths bytes alive : List ℕ) (addresses : List (List ℕ)) (work : List ℕ) : Type 0 where
  pub nine : answer_to_nine (lent_input mode required records ids offsets values lengths bytes alive addresses (length work)) ≡ 0
  pub clean : work ≡ replicate (length work) 0
