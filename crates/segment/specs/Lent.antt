-- Everything that a call is lent, in the words of the definitions.
use Rattle.std.specs.Prelude.{ℕ, List, map}
use Rattle.definitions.specs.Segment.{Sections, Address, Space, Input, address_from}
use Rattle.definitions.specs.Checks.{Passed}
use Rattle.definitions.specs.Answer.{plain_checks}
use Rattle.segment.specs.Records.{records_of, sections_in}
use Rattle.segment.specs.declared.sections.Sections.{Sections as LentSections}

abbrev pub addresses_of : List (List ℕ) → List Address
addresses_of l = map address_from l

-- the six lent sections
abbrev pub sections_of : LentSections → Sections
sections_of s = sections_in s.ids.now s.offsets.now s.values.now s.lengths.now s.bytes.now s.alive.now

-- the lent segments have passed the checks up to 7, as the time order asks them and a join too
pub record Checked (records : List (List ℕ)) (ids offsets values lengths bytes alive : List ℕ) : Type 0 where
  pub passed : Passed (plain_checks (records_of records) (sections_in ids offsets values lengths bytes alive))

-- so many working bytes and no outputs: what the checks up to 9 read of the space
abbrev pub working_only : ℕ → Space
working_only n = record { working = n; ids = 0; offsets = 0; values = 0; term_lengths = 0; term_bytes = 0; map = 0 }

-- mode, required type, records, the six sections, addresses and the number of working bytes
abbrev pub lent_input : ℕ → ℕ → List (List ℕ) → List ℕ → List ℕ → List ℕ → List ℕ → List ℕ → List ℕ → List (List ℕ) → ℕ → Input
lent_input mode required records ids offsets values lengths bytes alive addresses working =
    record {
      mode = mode;
      required = required;
      records = records_of records;
      sections = sections_in ids offsets values lengths bytes alive;
      addresses = addresses_of addresses;
      space = working_only working;
    }

-- the same, the six sections as the code is lent them
abbrev pub input_in : ℕ → ℕ → List (List ℕ) → LentSections → List (List ℕ) → ℕ → Input
input_in mode required records s = lent_input mode required records s.ids.now s.offsets.now s.values.now s.lengths.now s.bytes.now s.alive.now
