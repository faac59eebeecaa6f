-- The converter of old multivalued segments, kind 3, to kind 4, and its answers (document 02, (k)). Assumes nothing.
use Rattle.std.specs.Prelude.{ℕ, List, [], ◌∷◌, map, Bool, ◌&&◌, ◌||◌, cond, not, length, eqb, ltb}
use Rattle.definitions.specs.Lists.{up_to}
use Rattle.definitions.specs.Segment.{Segment, SegmentRecord, Sections, first_segment, record_of}
use Rattle.definitions.specs.Row.{row_values, is_present}
use Rattle.definitions.specs.Join.{ids_from, totals_from}
use Rattle.definitions.specs.Checks.{Check, check, first_of}
use Rattle.definitions.specs.Answer.{lengths_wrong, codes_known, is_old, lists_fit, values_fit, alive_set_wrong}
use Rattle.definitions.specs.Outcome.{written}

-- ---- the converted segment

-- each row's values, from row 0 up
abbrev pub row_cells : Segment → List (List ℕ)
row_cells s = map (row_values s) (up_to s.rows)

-- kind 4: the rows with a value as ids; as offsets 0, and then the running total after each such row. All else stays
unfoldable pub converted : Segment → Segment
converted s =
    record {
      type = s.type;
      kind = 4;
      rows = s.rows;
      ids = ids_from 0 (row_cells s);
      offsets = 0 ∷ totals_from 0 (row_cells s);
      values = s.values;
      terms = s.terms;
      flag = s.flag;
      alive_count = s.alive_count;
      pair = s.pair;
      alive = s.alive;
    }

-- ---- answers

-- one record and its runs, with no mode, required type or addresses; the ids and the offsets that the outputs have place for
pub record ConvertInput : Type 0 where
  pub given : SegmentRecord
  pub sections : Sections
  pub ids : ℕ
  pub offsets : ℕ

abbrev pub old_segment : ConvertInput → Segment
old_segment i = first_segment i.given i.sections

-- 3: unknown type or flag, no column, or any kind but 3
unfoldable pub is_convertible : Segment → Bool
is_convertible s = codes_known s && is_present s && is_old s

-- 11: an output shorter than its list
unfoldable pub convert_too_short : ConvertInput → Bool
convert_too_short i =
    ltb i.ids (length (converted (old_segment i)).ids)
    || ltb i.offsets (length (converted (old_segment i)).offsets)

-- 2 to 6 and 11, of the one segment: what 4, 5 and 6 say is the join's own
unfoldable pub convert_checks : ConvertInput → List Check
convert_checks i =
    check 2 (lengths_wrong (i.given ∷ []) i.sections)
    ∷ check 3 (not (is_convertible (old_segment i)))
    ∷ check 4 (not (lists_fit (old_segment i)))
    ∷ check 5 (not (values_fit (old_segment i)))
    ∷ check 6 (alive_set_wrong (old_segment i))
    ∷ check 11 (convert_too_short i)
    ∷ []

unfoldable pub convert_answer : ConvertInput → ℕ
convert_answer i = first_of (convert_checks i)

-- the answer: the converted segment's record, or the number of the first check that fails
pub data ConvertAnswer : Type 0 where
  converted_to : SegmentRecord → ConvertAnswer
  unconverted : ℕ → ConvertAnswer

abbrev pub convert_number_of : ConvertAnswer → ℕ
convert_number_of (converted_to r) = 0
convert_number_of (unconverted k) = k

-- what a call gives, and the lent outputs as it leaves them
pub record ConvertOutcome : Type 0 where
  pub answer : ConvertAnswer
  pub ids : List ℕ
  pub offsets : List ℕ

-- the whole outcome of a call that is lent the outputs; the input's space is their lengths. A refusal changes nothing, and what stands beyond the lists stays
unfoldable pub convert_outcome : ConvertInput → List ℕ → List ℕ → ConvertOutcome
convert_outcome i ids offsets =
    record {
      answer = cond (eqb (convert_answer i) 0) (converted_to (record_of (converted (old_segment i)))) (unconverted (convert_answer i));
      ids = cond (eqb (convert_answer i) 0) (written (converted (old_segment i)).ids ids) ids;
      offsets = cond (eqb (convert_answer i) 0) (written (converted (old_segment i)).offsets offsets) offsets;
    }
