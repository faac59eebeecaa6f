-- The checks of all segments, each over just the sections that it reads. proofs/Own.antt says that they are the definitions' own. Assumes nothing.
use Rattle.std.specs.Prelude.{ℕ, ◌+◌, ◌≤◌, ◌≡◌, List, [], ◌∷◌, Bool, true, ◌&&◌, not, length, take, drop, eqb, ltb, leb}
use Rattle.definitions.specs.Lists.{sum}
use Rattle.definitions.specs.Segment.{SegmentRecord, Sections, alive_words, record_words}
use Rattle.definitions.specs.Answer.{total, greatest_sum}
use Rattle.definitions.specs.Types.{is_known_type}
use Rattle.segment_fit.specs.Fits.{fits_codes, fits_lists, fits_values, fits_alive}
use Rattle.sections_fit.specs.declared.Totals.{Totals}

-- ---- the records' sums

abbrev pub totals_of : List SegmentRecord → Totals
totals_of rs =
    record {
      rows = total (λ (r : SegmentRecord). r.rows) rs;
      ids = total (λ (r : SegmentRecord). r.ids) rs;
      offsets = total (λ (r : SegmentRecord). r.offsets) rs;
      values = total (λ (r : SegmentRecord). r.values) rs;
      words = total record_words rs;
      terms = total (λ (r : SegmentRecord). r.terms) rs;
      alive = total alive_words rs;
    }

unfoldable pub add_to : Totals → SegmentRecord → Totals
add_to t r = record { rows = t.rows + r.rows; ids = t.ids + r.ids; offsets = t.offsets + r.offsets; values = t.values + r.values; words = t.words + record_words r; terms = t.terms + r.terms; alive = t.alive + alive_words r }

-- no sum is above n
pub record Below (t : Totals) (n : ℕ) : Type 0 where
  pub rows : t.rows ≤ n
  pub ids : t.ids ≤ n
  pub offsets : t.offsets ≤ n
  pub values : t.values ≤ n
  pub words : t.words ≤ n
  pub terms : t.terms ≤ n
  pub alive : t.alive ≤ n

-- each sum has grown by at most 2^33
abbrev pub Grown : Totals → Totals → Type 0
Grown t x = (n : ℕ) → Below t n → Below x (n + 8589934592)

-- ---- 2

-- the tests of the lengths, in the sequence of the code
unfoldable pub lengths_right : List SegmentRecord → Sections → Bool
lengths_right rs s =
    eqb (total (λ (r : SegmentRecord). r.ids) rs) (length s.ids)
    && (eqb (total (λ (r : SegmentRecord). r.offsets) rs) (length s.offsets)
    && (eqb (total record_words rs) (length s.values)
    && (eqb (total (λ (r : SegmentRecord). r.terms) rs) (length s.term_lengths)
    && (eqb (sum s.term_lengths) (length s.term_bytes)
    && eqb (total alive_words rs) (length s.alive)))))

-- what the lengths say once they are right
pub record Exact (rs : List SegmentRecord) (s : Sections) : Type 0 where
  pub ids : total (λ (r : SegmentRecord). r.ids) rs ≡ length s.ids
  pub offsets : total (λ (r : SegmentRecord). r.offsets) rs ≡ length s.offsets
  pub words : total record_words rs ≡ length s.values
  pub terms : total (λ (r : SegmentRecord). r.terms) rs ≡ length s.term_lengths
  pub bytes : sum s.term_lengths ≡ length s.term_bytes
  pub alive : total alive_words rs ≡ length s.alive

-- ---- 3

unfoldable pub codes_from : List SegmentRecord → Bool
codes_from [] = true
codes_from (r ∷ rs) = fits_codes r && codes_from rs

unfoldable pub known_codes : ℕ → ℕ → List SegmentRecord → Bool
known_codes mode required rs = ltb mode 2 && (is_known_type required && codes_from rs)

-- ---- 19

unfoldable pub none_old : List SegmentRecord → Bool
none_old [] = true
none_old (r ∷ rs) = not (eqb r.kind 3) && none_old rs

-- ---- 4

unfoldable pub lists_from : List SegmentRecord → List ℕ → List ℕ → Bool
lists_from [] ids offsets = true
lists_from (r ∷ rs) ids offsets = fits_lists r (take r.ids ids) (take r.offsets offsets) && lists_from rs (drop r.ids ids) (drop r.offsets offsets)

-- the sections hold the runs that the records announce
pub record HoldsLists (rs : List SegmentRecord) (is os : List ℕ) : Type 0 where
  pub ids : total (λ (r : SegmentRecord). r.ids) rs ≤ length is
  pub offsets : total (λ (r : SegmentRecord). r.offsets) rs ≤ length os

-- ---- 5

unfoldable pub values_from : List SegmentRecord → List ℕ → List ℕ → List ℕ → Bool
values_from [] values lengths bytes = true
values_from (r ∷ rs) values lengths bytes =
    fits_values r (take (record_words r) values) (take r.terms lengths) bytes
    && values_from rs (drop (record_words r) values) (drop r.terms lengths) (drop (sum (take r.terms lengths)) bytes)

pub record HoldsValues (rs : List SegmentRecord) (vs ls bs : List ℕ) : Type 0 where
  pub words : total record_words rs ≤ length vs
  pub terms : total (λ (r : SegmentRecord). r.terms) rs ≤ length ls
  pub bytes : sum ls ≤ length bs

-- ---- 6

unfoldable pub alive_fits_from : ℕ → List SegmentRecord → List ℕ → Bool
alive_fits_from mode [] alive = true
alive_fits_from mode (r ∷ rs) alive = fits_alive mode r (take (alive_words r) alive) && alive_fits_from mode rs (drop (alive_words r) alive)

-- ---- 7

unfoldable pub sums_right : ℕ → ℕ → ℕ → Bool
sums_right rows values bytes = leb rows greatest_sum && (leb values greatest_sum && leb bytes greatest_sum)
