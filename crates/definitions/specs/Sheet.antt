-- How the tables of cases are written: segments, calls, and what is expected of them, in few words. Assumes nothing.
use Rattle.std.specs.Prelude.{ℕ, List, [], ◌∷◌, map, length, take, replicate}
use Rattle.std.specs.Float.Ieee.{of_int, to_bits}
use Rattle.definitions.specs.Words.{words_per_value, value_words, values_in}
use Rattle.definitions.specs.Segment.{Segment, SegmentRecord, pair, no_pair, Address, record_from, alive_words, record_words, first_segment, after_first, segments_of, record_of, sections_of, address as at}
use Rattle.definitions.specs.Row.{row_values, bit_at, set_bits, is_alive, alive_rows, alive_number, is_dropped, is_held, held_of, as_empty, effective, no_type}
use Rattle.definitions.specs.Types.{is_known_type, is_numerical, has_terms, same_category, is_less, pair_of, has_type, every_pair, only_type, numerical_type, type_of, signed_of, integer_of, double_of, coerced, is_coercible}
use Rattle.definitions.specs.Class.{kind_class, alive_class, class_of, greatest_class}
use Rattle.definitions.specs.Join.{Column, row_order, is_used, kept_terms, terms_of, ordinal_of, map_of, new_word, cell_of, encode, joined_type, joined_class, joined_cells, joined_column, join_rules}
use Rattle.definitions.specs.Answer.{too_many_segments, lengths_wrong, codes_known, no_column_is_bare, segment_codes_wrong, codes_wrong, some_old, ids_fit, offsets_fit, empty_fits, full_fits, optional_fits, old_fits, new_fits, lists_fit, lists_wrong, pair_fits, values_fit, values_wrong, bit_past_rows, alive_set_wrong, alive_wrong, sums_too_large, working_too_small, is_alive_at, alive_addresses, lists_alive_rows, addresses_wrong, present_types, one_category, all_coercible, types_wrong, output_too_short, join_checks, answer}
use Rattle.definitions.specs.Outcome.{Buffers, Answer, accepted, refused, Outcome, space_of, numbers_of, refused_buffers, accepted_buffers, Lent, input_of, join_outcome, read_back}
use Rattle.definitions.specs.TimeOrder.{TimeOutcome, key_of, is_before, time_order, times_wrong, time_checks, time_answer, time_outcome}
use Rattle.definitions.specs.Book.{Call, lent_to}

-- ---- segments

-- without an alive set, every row alive, with the pair of its values: type, kind, rows, ids, offsets, values, terms. (PairCases has pairs that are written by hand.)
abbrev pub plain : ℕ → ℕ → ℕ → List ℕ → List ℕ → List ℕ → List (List ℕ) → Segment
plain type kind rows ids offsets values terms =
    record { type = type; kind = kind; rows = rows; ids = ids; offsets = offsets; values = values; terms = terms; flag = 0; alive_count = rows; pair = pair_of type values; alive = [] }

-- the same with an alive set of these words, and the number of their set bits
abbrev pub with_alive : List ℕ → Segment → Segment
with_alive words s =
    record {
      type = s.type;
      kind = s.kind;
      rows = s.rows;
      ids = s.ids;
      offsets = s.offsets;
      values = s.values;
      terms = s.terms;
      flag = 1;
      alive_count = set_bits words;
      pair = s.pair;
      alive = words;
    }

-- the same with another number of alive rows
abbrev pub counted : ℕ → Segment → Segment
counted n s =
    record {
      type = s.type;
      kind = s.kind;
      rows = s.rows;
      ids = s.ids;
      offsets = s.offsets;
      values = s.values;
      terms = s.terms;
      flag = s.flag;
      alive_count = n;
      pair = s.pair;
      alive = s.alive;
    }

-- the same with another pair
abbrev pub with_pair : ℕ → ℕ → Segment → Segment
with_pair least greatest s =
    record {
      type = s.type;
      kind = s.kind;
      rows = s.rows;
      ids = s.ids;
      offsets = s.offsets;
      values = s.values;
      terms = s.terms;
      flag = s.flag;
      alive_count = s.alive_count;
      pair = pair least greatest;
      alive = s.alive;
    }

-- no column, of so many rows
abbrev pub none : ℕ → Segment
none rows = plain 255 0 rows [] [] [] []

-- Full, a row for each value
abbrev pub full : ℕ → List ℕ → Segment
full type values = plain type 1 (length values) [] [] values []

-- Full, of one row
abbrev pub one : ℕ → ℕ → Segment
one type w = full type (w ∷ [])

-- Str, Full: a row for each ordinal, and the terms
abbrev pub str : List ℕ → List (List ℕ) → Segment
str ordinals terms = plain 4 1 (length ordinals) [] [] ordinals terms

-- of one type, Optional, so many rows and no values: a dropped column
abbrev pub dropped : ℕ → ℕ → Segment
dropped type rows = plain type 2 rows [] [] [] []

-- the terms a and b
abbrev pub a : List ℕ
a = 97 ∷ []

abbrev pub b : List ℕ
b = 98 ∷ []

-- C5's segment: U64 kind 4, 3 rows, ids 0 2, offsets 0 2 3, values 7 8 9
abbrev pub five : Segment
five = plain 1 4 3 (0 ∷ 2 ∷ []) (0 ∷ 2 ∷ 3 ∷ []) (7 ∷ 8 ∷ 9 ∷ []) []

-- the same in kind 3, as stations used to write it: offsets 0 2 2 3
abbrev pub old_five : Segment
old_five = plain 1 3 3 [] (0 ∷ 2 ∷ 2 ∷ 3 ∷ []) (7 ∷ 8 ∷ 9 ∷ []) []

-- C9's segment: U64 Optional ids 0 1, values 5 6
abbrev pub nine : Segment
nine = plain 1 2 2 (0 ∷ 1 ∷ []) [] (5 ∷ 6 ∷ []) []

-- U64 kind 4, 4 rows, ids 1 3, offsets 0 2 3, values 7 8 9
abbrev pub new_kind : Segment
new_kind = plain 1 4 4 (1 ∷ 3 ∷ []) (0 ∷ 2 ∷ 3 ∷ []) (7 ∷ 8 ∷ 9 ∷ []) []

-- records by their numbers
abbrev pub numbered : List (List ℕ) → List SegmentRecord
numbered rows = map record_from rows

-- ---- calls

-- lent memory: so many elements of each output, and so many working bytes. None of it is zero
abbrev pub memory : ℕ → ℕ → Buffers
memory n working =
    record {
      ids = replicate n 9;
      offsets = replicate n 9;
      values = replicate n 9;
      term_lengths = replicate n 9;
      term_bytes = replicate n 9;
      map = replicate n 9;
      working = replicate working 9;
    }

-- the places handed over, mode, required type and addresses; the memory lent is enough for most cases
abbrev pub call : List ℕ → ℕ → ℕ → List Address → Call
call handed mode required addresses = record { handed = handed; mode = mode; required = required; addresses = addresses; buffers = memory 12 12 }

-- required type and segments
abbrev pub stacked : ℕ → List Segment → Lent
stacked required ss = lent_to (call [] 0 required []) ss

-- required type, segments and addresses
abbrev pub in_order : ℕ → List Segment → List Address → Lent
in_order required ss addresses = lent_to (call [] 1 required addresses) ss

-- the same call with other memory
abbrev pub lending : Buffers → Lent → Lent
lending memory l =
    record { mode = l.mode; required = l.required; records = l.records; sections = l.sections; addresses = l.addresses; buffers = memory }

-- ---- what they give

-- What a call gives and leaves. Every definition is opened here, once: what names this helper on its line opens them all
unfoldable pub outcome_of : Lent → Outcome
unfolding of_int to_bits words_per_value value_words values_in alive_words record_words first_segment after_first segments_of record_of sections_of row_values bit_at set_bits is_alive alive_rows alive_number is_dropped is_held held_of as_empty effective is_known_type is_numerical has_terms same_category is_less pair_of has_type every_pair only_type numerical_type type_of signed_of integer_of double_of coerced is_coercible kind_class alive_class class_of greatest_class row_order is_used kept_terms terms_of ordinal_of map_of new_word cell_of encode joined_type joined_class joined_cells joined_column join_rules too_many_segments lengths_wrong codes_known no_column_is_bare segment_codes_wrong codes_wrong some_old ids_fit offsets_fit empty_fits full_fits optional_fits old_fits new_fits lists_fit lists_wrong pair_fits values_fit values_wrong bit_past_rows alive_set_wrong alive_wrong sums_too_large working_too_small is_alive_at alive_addresses lists_alive_rows addresses_wrong present_types one_category all_coercible types_wrong output_too_short join_checks answer space_of numbers_of refused_buffers accepted_buffers input_of join_outcome read_back lent_to
outcome_of l = join_outcome l

-- what a call gives: the answer, and the column and the map as they stand in the outputs. A listing shows all of it but the pair
pub record Sheet : Type 0 where
  pub answer : ℕ
  pub column : Column
  pub map : List ℕ

abbrev pub no_column : Column
no_column = record { type = no_type; class = 0; rows = 0; ids = []; offsets = []; values = []; terms = []; pair = no_pair }

abbrev pub sheet_by : Buffers → Answer → Sheet
sheet_by b (accepted n) = record { answer = 0; column = read_back n b; map = take n.map b.map }
sheet_by b (refused k) = record { answer = k; column = no_column; map = [] }

unfoldable pub sheet_of : Lent → Sheet
unfolding outcome_of
sheet_of l = sheet_by (outcome_of l).buffers (outcome_of l).answer

-- a call of the time order that is lent an output of so many addresses (9, 9)
unfoldable pub time_sheet_of : List Segment → ℕ → TimeOutcome
unfolding outcome_of key_of is_before time_order times_wrong time_checks time_answer time_outcome
time_sheet_of ss space = time_outcome (record { records = map record_of ss; sections = sections_of ss; space = space }) (replicate space (at 9 9))

-- ---- what is expected of them

-- type, class, rows, ids, offsets, values, terms, map; the pair is 0 and 0
abbrev pub accepts : ℕ → ℕ → ℕ → List ℕ → List ℕ → List ℕ → List (List ℕ) → List ℕ → Sheet
accepts type class rows ids offsets values terms m =
    record { answer = 0; column = record { type = type; class = class; rows = rows; ids = ids; offsets = offsets; values = values; terms = terms; pair = no_pair }; map = m }

-- the same with this pair
abbrev pub carrying : ℕ → ℕ → Sheet → Sheet
carrying least greatest s =
    record {
      answer = s.answer;
      column =
          record {
            type = s.column.type;
            class = s.column.class;
            rows = s.column.rows;
            ids = s.column.ids;
            offsets = s.column.offsets;
            values = s.column.values;
            terms = s.column.terms;
            pair = pair least greatest;
          };
      map = s.map;
    }

abbrev pub refuses : ℕ → Sheet
refuses n = record { answer = n; column = no_column; map = [] }

pub record Case : Type 0 where
  pub lent : Lent
  pub expected : Sheet

abbrev pub case : Lent → Sheet → Case
case l s = record { lent = l; expected = s }
