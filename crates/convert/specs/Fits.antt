-- The converter's checks, over just the numbers and lists that each reads. proofs/Own.antt says that they are the definitions' own. Assumes nothing.
use Rattle.std.specs.Prelude.{ℕ, ◌+◌, List, [], ◌∷◌, Bool, ◌&&◌, not, length, eqb, ltb}
use Rattle.definitions.specs.Lists.{sum}
use Rattle.definitions.specs.Segment.{SegmentRecord, Sections, alive_words, record_words, first_segment}
use Rattle.definitions.specs.Row.{no_type}
use Rattle.definitions.specs.Types.{is_known_type}
use Rattle.definitions.specs.Checks.{Check, check}
use Rattle.definitions.specs.Answer.{lengths_wrong, lists_fit, values_fit, alive_set_wrong}
use Rattle.definitions.specs.Convert.{is_convertible}
use Rattle.segment_fit.specs.Fits.{fits_offsets}
use Rattle.convert.specs.Risen.{falls}

-- 2: the runs are as long as the record says
unfoldable pub fits_lengths : SegmentRecord → Sections → Bool
fits_lengths r s =
    eqb r.ids (length s.ids)
    && (eqb r.offsets (length s.offsets)
    && (eqb (record_words r) (length s.values)
    && (eqb r.terms (length s.term_lengths)
    && (eqb (sum s.term_lengths) (length s.term_bytes) && eqb (alive_words r) (length s.alive)))))

-- 3: a known type and flag, a column, of kind 3
unfoldable pub fits_kind : SegmentRecord → Bool
fits_kind r = is_known_type r.type && (ltb r.flag 2 && (not (eqb r.type no_type) && eqb r.kind 3))

-- 4, of kind 3
unfoldable pub fits_old : ℕ → ℕ → List ℕ → List ℕ → Bool
fits_old rows values ids offsets = eqb (length ids) 0 && (eqb (length offsets) (rows + 1) && (fits_offsets values offsets && eqb (falls offsets) 0))

-- 2 to 6, of the one segment
unfoldable pub old_checks : SegmentRecord → Sections → List Check
old_checks r s =
    check 2 (lengths_wrong (r ∷ []) s)
    ∷ check 3 (not (is_convertible (first_segment r s)))
    ∷ check 4 (not (lists_fit (first_segment r s)))
    ∷ check 5 (not (values_fit (first_segment r s)))
    ∷ check 6 (alive_set_wrong (first_segment r s))
    ∷ []
