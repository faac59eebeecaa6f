-- What a call of the converter is lent and gives, in the words of the definitions. Assumes nothing.
use Rattle.std.specs.Prelude.{ℕ, ◌+◌, List, Result, Ok, Err}
use Rattle.definitions.specs.Segment.{SegmentRecord}
use Rattle.definitions.specs.Convert.{ConvertInput, ConvertAnswer, converted_to, unconverted, ConvertOutcome}
use Rattle.segment.specs.Records.{record_in, sections_in}
use Rattle.segment.specs.declared.Record.{Record}
use Rattle.segment.specs.declared.sections.Sections.{Sections as LentSections}
use Rattle.refusal.specs.declared.Refusal.{Refusal}
use Rattle.refusal.specs.Number.{number_of}

-- the record, the six sections, and how many ids and offsets the outputs have place for
abbrev pub lent_convert : SegmentRecord → List ℕ → List ℕ → List ℕ → List ℕ → List ℕ → List ℕ → ℕ → ℕ → ConvertInput
lent_convert r ids offsets values lengths bytes alive newIds newOffsets =
    record { given = r; sections = sections_in ids offsets values lengths bytes alive; ids = newIds; offsets = newOffsets }

-- the same, the six sections as the code is lent them
abbrev pub convert_in : SegmentRecord → LentSections → ℕ → ℕ → ConvertInput
convert_in r s newIds newOffsets = lent_convert r s.ids.now s.offsets.now s.values.now s.lengths.now s.bytes.now s.alive.now newIds newOffsets

-- the new record with acceptance, else the number of the check that fails
abbrev pub answer_of : Result Record Refusal → ConvertAnswer
answer_of (Ok r) = converted_to (record_in r)
answer_of (Err e) = unconverted (number_of e)

abbrev pub outcome_of : Result Record Refusal → List ℕ → List ℕ → ConvertOutcome
outcome_of a ids offsets = record { answer = answer_of a; ids = ids; offsets = offsets }

-- the record of kind 4 with n ids; all else stays
abbrev pub renewed_record : Record → ℕ → Record
renewed_record r n = record { typ = r.typ; kind = 4; rows = r.rows; ids = n; offsets = n + 1; values = r.values; terms = r.terms; flag = r.flag; alive = r.alive; least = r.least; greatest = r.greatest }
