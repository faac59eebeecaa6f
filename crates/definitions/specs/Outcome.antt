-- What a call of the joiner gives and leaves in the lent memory (document 01, "Answers of the joiner"): a refusal changes no output, output
-- beyond the lists keeps its elements, and the working bytes are zero on return. Assumes nothing.
use Rattle.std.specs.Prelude.{ℕ, ◌*◌, List, ◌++◌, map, cond, length, take, drop, replicate, eqb}
use Rattle.definitions.specs.Lists.{sum, concat}
use Rattle.definitions.specs.Words.{words_per_value, value_words, values_in}
use Rattle.definitions.specs.Segment.{Pair, SegmentRecord, Sections, Address, Input, Space, address_from, cut}
use Rattle.definitions.specs.Join.{Column, Joined}
use Rattle.definitions.specs.Answer.{answer, join_of}

-- the lent memory that a call may write: six outputs, values in words, and the working bytes
pub record Buffers : Type 0 where
  pub ids : List ℕ
  pub offsets : List ℕ
  pub values : List ℕ
  pub term_lengths : List ℕ
  pub term_bytes : List ℕ
  pub map : List ℕ
  pub working : List ℕ

-- the numbers that come with acceptance: type, class and rows, the number of elements of each list, an address being one, the term bytes copied (document 02, (d)), and the
-- joined column's pair (02, (j))
pub record Numbers : Type 0 where
  pub type : ℕ
  pub class : ℕ
  pub rows : ℕ
  pub ids : ℕ
  pub offsets : ℕ
  pub values : ℕ
  pub terms : ℕ
  pub term_bytes : ℕ
  pub map : ℕ
  pub copied : ℕ
  pub pair : Pair

-- the joiner's answer: 0 with its numbers, or the number of the first check that fails
pub data Answer : Type 0 where
  accepted : Numbers → Answer
  refused : ℕ → Answer

abbrev pub number_of : Answer → ℕ
number_of (accepted n) = 0
number_of (refused k) = k

-- what a call gives, and the lent memory as it leaves it
pub record Outcome : Type 0 where
  pub answer : Answer
  pub buffers : Buffers

-- the elements that each output has place for
unfoldable pub space_of : Buffers → Space
space_of b =
    record {
      working = length b.working;
      ids = length b.ids;
      offsets = length b.offsets;
      values = length b.values;
      term_lengths = length b.term_lengths;
      term_bytes = length b.term_bytes;
      map = length b.map;
    }

-- what is lent to a call: what the joiner reads, and the memory that it may write
pub record Lent : Type 0 where
  pub mode : ℕ
  pub required : ℕ
  pub records : List SegmentRecord
  pub sections : Sections
  pub addresses : List Address
  pub buffers : Buffers

-- mode, required type, records, the six sections, addresses of two numbers, and the memory
abbrev pub lent_of : ℕ → ℕ → List SegmentRecord → List ℕ → List ℕ → List ℕ → List ℕ → List ℕ → List ℕ → List (List ℕ) → Buffers → Lent
lent_of mode required records ids offsets values term_lengths term_bytes alive addresses buffers =
    record {
      mode = mode;
      required = required;
      records = records;
      sections = record { ids = ids; offsets = offsets; values = values; term_lengths = term_lengths; term_bytes = term_bytes; alive = alive };
      addresses = map address_from addresses;
      buffers = buffers;
    }

-- the input of a call: its space is what the lent memory has
unfoldable pub input_of : Lent → Input
input_of l =
    record {
      mode = l.mode;
      required = l.required;
      records = l.records;
      sections = l.sections;
      addresses = l.addresses;
      space = space_of l.buffers;
    }

-- a list written from the start of an output; what stands beyond it stays
module _ {A : Type 0} where
  abbrev pub written : List A → List A → List A
  written list old = list ++ drop (length list) old

abbrev pub zeroed : List ℕ → List ℕ
zeroed bytes = replicate (length bytes) 0

-- the term bytes copied are the joined terms' bytes
unfoldable pub numbers_of : Joined → Numbers
numbers_of j =
    record {
      type = j.column.type;
      class = j.column.class;
      rows = j.column.rows;
      ids = length j.column.ids;
      offsets = length j.column.offsets;
      values = length j.column.values;
      terms = length j.column.terms;
      term_bytes = length (concat j.column.terms);
      map = length j.map;
      copied = sum (map length j.column.terms);
      pair = j.column.pair;
    }

-- a refusal changes no output
unfoldable pub refused_buffers : Buffers → Buffers
refused_buffers b =
    record {
      ids = b.ids;
      offsets = b.offsets;
      values = b.values;
      term_lengths = b.term_lengths;
      term_bytes = b.term_bytes;
      map = b.map;
      working = zeroed b.working;
    }

unfoldable pub accepted_buffers : Joined → Buffers → Buffers
accepted_buffers j b =
    record {
      ids = written j.column.ids b.ids;
      offsets = written j.column.offsets b.offsets;
      values = written (value_words j.column.type j.column.values) b.values;
      term_lengths = written (map length j.column.terms) b.term_lengths;
      term_bytes = written (concat j.column.terms) b.term_bytes;
      map = written j.map b.map;
      working = zeroed b.working;
    }

-- the whole outcome of a call
unfoldable pub join_outcome : Lent → Outcome
join_outcome l =
    record {
      answer = cond (eqb (answer (input_of l)) 0) (accepted (numbers_of (join_of (input_of l)))) (refused (answer (input_of l)));
      buffers = cond (eqb (answer (input_of l)) 0) (accepted_buffers (join_of (input_of l)) l.buffers) (refused_buffers l.buffers);
    }

-- the column that stands in the output lists, read back by the numbers that the answer gave
unfoldable pub read_back : Numbers → Buffers → Column
read_back n b =
    record {
      type = n.type;
      class = n.class;
      rows = n.rows;
      ids = take n.ids b.ids;
      offsets = take n.offsets b.offsets;
      values = values_in n.type (take (n.values * words_per_value n.type) b.values);
      terms = cut (take n.terms b.term_lengths) b.term_bytes;
      pair = n.pair;
    }
