-- What a call of the time order is lent, in the words of the definitions.
use Rattle.std.specs.Prelude.{ℕ, List}
use Rattle.definitions.specs.TimeOrder.{TimeInput}
use Rattle.segment.specs.Records.{records_of, sections_in}
use Rattle.segment.specs.declared.sections.Sections.{Sections as LentSections}

-- records, the six sections, and how many addresses the output has place for
abbrev pub lent_times : List (List ℕ) → List ℕ → List ℕ → List ℕ → List ℕ → List ℕ → List ℕ → ℕ → TimeInput
lent_times records ids offsets values lengths bytes alive space =
    record { records = records_of records; sections = sections_in ids offsets values lengths bytes alive; space = space }

-- the same, the six sections as the code is lent them
abbrev pub times_in : List (List ℕ) → LentSections → ℕ → TimeInput
times_in records s space = lent_times records s.ids.now s.offsets.now s.values.now s.lengths.now s.bytes.now s.alive.now space
