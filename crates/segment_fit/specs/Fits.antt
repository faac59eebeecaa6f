-- The checks of one segment, over just the numbers and lists that each reads, in the sequence of the code. proofs/Own.antt says that they are the
-- definitions' own. Assumes nothing.
use Rattle.std.specs.Prelude.{ℕ, ◌+◌, ◌*◌, List, Bool, true, ◌&&◌, ◌||◌, cond, not, length, get_or, eqb, ltb, leb}
use Rattle.definitions.specs.Lists.{any, all_below, ascending, ascending_from, last, up_to}
use Rattle.definitions.specs.Segment.{SegmentRecord}
use Rattle.definitions.specs.Row.{bit_at, set_bits, no_type}
use Rattle.definitions.specs.Types.{is_known_type, has_terms, BoolType, pair_of}
use Rattle.segment.specs.Kind.{by_index}
use Rattle.term_reader.specs.Read.{terms_rise}

-- the definitions' ascending lists, kept shut
unfoldable pub rises_from : ℕ → List ℕ → Bool
rises_from m ns = ascending_from m ns

unfoldable pub rises : List ℕ → Bool
rises ns = ascending ns

unfoldable pub last_of : List ℕ → ℕ
last_of xs = last xs

-- ---- 3

unfoldable pub bare_counts : SegmentRecord → Bool
bare_counts r = eqb r.kind 0 && (eqb r.ids 0 && (eqb r.offsets 0 && (eqb r.values 0 && eqb r.terms 0)))

unfoldable pub fits_codes : SegmentRecord → Bool
fits_codes r = is_known_type r.type && (ltb r.kind 5 && (ltb r.flag 2 && (not (eqb r.type no_type) || bare_counts r)))

-- ---- 4

unfoldable pub fits_ids : ℕ → List ℕ → Bool
fits_ids rows ids = rises ids && all_below rows ids

unfoldable pub fits_offsets : ℕ → List ℕ → Bool
fits_offsets values offsets = eqb (get_or offsets 0 1) 0 && eqb (last_of offsets) values

unfoldable pub fits_empty : ℕ → List ℕ → List ℕ → Bool
fits_empty values ids offsets = eqb (length ids) 0 && (eqb (length offsets) 0 && eqb values 0)

unfoldable pub fits_full : ℕ → ℕ → List ℕ → List ℕ → Bool
fits_full rows values ids offsets = eqb (length ids) 0 && (eqb (length offsets) 0 && eqb values rows)

unfoldable pub fits_optional : ℕ → ℕ → List ℕ → List ℕ → Bool
fits_optional rows values ids offsets = eqb (length offsets) 0 && (eqb values (length ids) && fits_ids rows ids)

unfoldable pub fits_new : ℕ → ℕ → List ℕ → List ℕ → Bool
fits_new rows values ids offsets = eqb (length offsets) (length ids + 1) && (fits_offsets values offsets && (rises offsets && fits_ids rows ids))

unfoldable pub fits_lists : SegmentRecord → List ℕ → List ℕ → Bool
fits_lists r ids offsets =
    by_index r.kind
    (fits_empty r.values ids offsets)
    (fits_full r.rows r.values ids offsets)
    (fits_optional r.rows r.values ids offsets)
    (fits_new r.rows r.values ids offsets)

-- ---- 5

unfoldable pub fits_words : ℕ → ℕ → List ℕ → Bool
fits_words type terms values = cond (eqb type BoolType) (all_below 2 values) (cond (has_terms type) (all_below terms values) true)

unfoldable pub fits_terms : ℕ → ℕ → List ℕ → List ℕ → Bool
fits_terms type kind lengths bytes = cond (eqb (length lengths) 0) true (has_terms type && (not (eqb kind 0) && terms_rise lengths bytes))

-- no test looks into an address, so words do for values
unfoldable pub fits_pair : SegmentRecord → List ℕ → Bool
fits_pair r values = eqb r.pair.least (pair_of r.type values).least && eqb r.pair.greatest (pair_of r.type values).greatest

unfoldable pub fits_values : SegmentRecord → List ℕ → List ℕ → List ℕ → Bool
fits_values r values lengths bytes = fits_words r.type (length lengths) values && (fits_terms r.type r.kind lengths bytes && fits_pair r values)

-- ---- 6

unfoldable pub past_rows : ℕ → List ℕ → Bool
past_rows rows alive = any (λ r. leb rows r && bit_at alive r) (up_to (64 * length alive))

unfoldable pub fits_number : SegmentRecord → List ℕ → Bool
fits_number r alive = eqb r.alive_count (cond (eqb r.flag 1) (set_bits alive) r.rows)

unfoldable pub fits_set : SegmentRecord → List ℕ → Bool
fits_set r alive = not (past_rows r.rows alive) && fits_number r alive

-- stacked: an alive set is itself wrong
unfoldable pub fits_alive : ℕ → SegmentRecord → List ℕ → Bool
fits_alive mode r alive = not (eqb mode 0 && eqb r.flag 1) && fits_set r alive
