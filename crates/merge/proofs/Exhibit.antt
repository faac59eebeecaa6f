-- Demand 3 on an example: four runs of `join` in turn, the first refused, and a fifth for the one join of their result. All that the theorem takes as given
-- holds of them by computation, and with it what the theorem says. Assumes nothing.
use Prim.Native.Nat.{ℕ, suc}
use mathlib.Core.Path.{◌≡◌, refl}
use mathlib.Core.List.{List, [], ◌∷◌, ◌++◌, map}
use mathlib.Core.Bool.{Bool, true, false, cond}
use native.Mathlib.Omega.{arith}
use lib.ListN.{replicate}
use lib.Dec.{eqb}
use Rattle.definitions.specs.Words.{words_per_value, value_words, values_in}
use Rattle.definitions.specs.Segment.{Segment, no_pair, Address, alive_words, record_words, first_segment, after_first, segments_of, record_of, sections_of, address as at}
use Rattle.definitions.specs.Row.{row_values, bit_at, set_bits, is_alive, alive_rows, alive_number, is_dropped, is_held, held_of, as_empty, effective}
use Rattle.definitions.specs.Types.{is_known_type, is_numerical, has_terms, same_category, has_type, pair_of, every_pair, only_type, numerical_type, type_of, coerced, is_coercible}
use Rattle.definitions.specs.Class.{kind_class, alive_class, class_of, greatest_class}
use Rattle.definitions.specs.Join.{row_order, is_used, kept_terms, terms_of, ordinal_of, map_of, new_word, cell_of, encode, joined_type, joined_class, joined_cells, joined_column, join_rules, kind_of, as_segment}
use Rattle.definitions.specs.Answer.{too_many_segments, lengths_wrong, codes_known, no_column_is_bare, segment_codes_wrong, codes_wrong, some_old, ids_fit, offsets_fit, empty_fits, full_fits, optional_fits, old_fits, new_fits, lists_fit, lists_wrong, pair_fits, values_fit, values_wrong, bit_past_rows, alive_set_wrong, alive_wrong, sums_too_large, working_too_small, is_alive_at, alive_addresses, lists_alive_rows, addresses_wrong, present_types, one_category, all_coercible, types_wrong, output_too_short, join_checks, answer}
use Rattle.definitions.specs.Outcome.{Buffers, space_of, numbers_of, refused_buffers, accepted_buffers, input_of, join_outcome, read_back}
use Rattle.definitions.specs.Book.{Call, first, Entry, lent_to, call_lent, call_outcome, call_answer, after_call, first_entry, one_join, joined_entry, standing_of, book_answer, book_after_call, is_segment, required_types, is_uniform, IsSequenceOf, ResultStands, CallsOneJoin}
use Rattle.merge_checked.specs.declared.Numbers.{Numbers}
use Rattle.std.specs.Prelude.{Result, Ok, Err}
use Rattle.refusal.specs.declared.Refusal.{Refusal}
use Rattle.refusal.specs.declared.Refusal.TheVariants.{AliveSet}
use Rattle.merge.specs.Whole.{numbers_in}
use Rattle.merge.specs.InTurn.{Run, Ran, RanFrom, calls_of, RunsAgree, RunsInTurnAgree}
use Rattle.merge.proofs.InTurn.{runs_in_turn-agree}

-- ---- the first segments: Str columns of two rows

-- kind, ids, values, terms, flag, alive rows and alive words
abbrev week : ℕ → List ℕ → List ℕ → List (List ℕ) → ℕ → ℕ → List ℕ → Segment
week kind ids values terms flag count alive =
    record { type = 4; kind = kind; rows = 2; ids = ids; offsets = []; values = values; terms = terms; flag = flag; alive_count = count; pair = no_pair; alive = alive }

abbrev a : List ℕ
a = 97 ∷ []

abbrev b : List ℕ
b = 98 ∷ []

-- C1's two segments and C12's
abbrev weeks : List Segment
weeks = week 2 (1 ∷ []) (0 ∷ []) (b ∷ []) 0 2 [] ∷ week 1 [] (1 ∷ 0 ∷ []) (a ∷ b ∷ []) 0 2 [] ∷ week 1 [] (0 ∷ 1 ∷ []) (a ∷ b ∷ []) 1 1 (2 ∷ []) ∷ []

-- ---- the runs

abbrev nines : ℕ → List ℕ
nines n = replicate n 9

-- each call is lent twelve nines for every output and for the working bytes, and requires no type
abbrev call : List ℕ → ℕ → List Address → Call
call handed mode addresses =
    record {
      handed = handed;
      mode = mode;
      required = 255;
      addresses = addresses;
      buffers = record { ids = nines 12; offsets = nines 12; values = nines 12; term_lengths = nines 12; term_bytes = nines 12; map = nines 12; working = nines 12 };
    }

-- the memory as it is left: ids, values, term lengths, term bytes and map, each before nines. The working bytes are zero
abbrev leaves : List ℕ → List ℕ → List ℕ → List ℕ → List ℕ → Buffers
leaves ids values lengths bytes m =
    record { ids = ids; offsets = nines 12; values = values; term_lengths = lengths; term_bytes = bytes; map = m; working = replicate 12 0 }

-- a record's numbers as lent: a Str column has no pair
abbrev row : List ℕ → List ℕ
row numbers = numbers ++ (0 ∷ 0 ∷ 0 ∷ 0 ∷ [])

-- the segment with the withdrawn play and the first one, stacked: an alive set is refused there
abbrev refused_run : Run
refused_run =
    record {
      call = call (2 ∷ 0 ∷ []) 0 [];
      records = row (4 ∷ 1 ∷ 2 ∷ 0 ∷ 0 ∷ 2 ∷ 2 ∷ 1 ∷ 1 ∷ []) ∷ row (4 ∷ 2 ∷ 2 ∷ 1 ∷ 0 ∷ 1 ∷ 1 ∷ 0 ∷ 2 ∷ []) ∷ [];
      ids = 1 ∷ [];
      offsets = [];
      values = 0 ∷ 1 ∷ 0 ∷ [];
      lengths = 1 ∷ 1 ∷ 1 ∷ [];
      bytes = 97 ∷ 98 ∷ 98 ∷ [];
      alive = 2 ∷ [];
      addresses = [];
      gave = Err AliveSet;
      left = leaves (nines 12) (nines 12) (nines 12) (nines 12) (nines 12);
    }

-- that segment alone, ordered: its one alive row
abbrev alive_run : Run
alive_run =
    record {
      call = call (2 ∷ []) 1 (at 0 1 ∷ []);
      records = row (4 ∷ 1 ∷ 2 ∷ 0 ∷ 0 ∷ 2 ∷ 2 ∷ 1 ∷ 1 ∷ []) ∷ [];
      ids = [];
      offsets = [];
      values = 0 ∷ 1 ∷ [];
      lengths = 1 ∷ 1 ∷ [];
      bytes = 97 ∷ 98 ∷ [];
      alive = 2 ∷ [];
      addresses = (0 ∷ 1 ∷ []) ∷ [];
      gave = Ok (record { typ = 4; class = 0; rows = 1; ids = 0; offsets = 0; values = 1; terms = 1; bytes = 1; map = 2; copied = 1; least = 0; greatest = 0 });
      left = leaves (nines 12) (0 ∷ nines 11) (1 ∷ nines 11) (98 ∷ nines 11) (0 ∷ 0 ∷ nines 10);
    }

-- the two others, stacked
abbrev stacked_run : Run
stacked_run =
    record {
      call = call (1 ∷ 0 ∷ []) 0 [];
      records = row (4 ∷ 1 ∷ 2 ∷ 0 ∷ 0 ∷ 2 ∷ 2 ∷ 0 ∷ 2 ∷ []) ∷ row (4 ∷ 2 ∷ 2 ∷ 1 ∷ 0 ∷ 1 ∷ 1 ∷ 0 ∷ 2 ∷ []) ∷ [];
      ids = 1 ∷ [];
      offsets = [];
      values = 1 ∷ 0 ∷ 0 ∷ [];
      lengths = 1 ∷ 1 ∷ 1 ∷ [];
      bytes = 97 ∷ 98 ∷ 98 ∷ [];
      alive = [];
      addresses = [];
      gave = Ok (record { typ = 4; class = 1; rows = 4; ids = 3; offsets = 0; values = 3; terms = 2; bytes = 2; map = 3; copied = 2; least = 0; greatest = 0 });
      left = leaves (0 ∷ 1 ∷ 3 ∷ nines 9) (1 ∷ 0 ∷ 1 ∷ nines 9) (1 ∷ 1 ∷ nines 10) (97 ∷ 98 ∷ nines 10) (0 ∷ 1 ∷ 1 ∷ nines 9);
    }

-- both results, ordered
abbrev ordered_run : Run
ordered_run =
    record {
      call = call (1 ∷ 0 ∷ []) 1 (at 0 3 ∷ at 1 0 ∷ at 0 0 ∷ at 0 1 ∷ at 0 2 ∷ []);
      records = row (4 ∷ 2 ∷ 4 ∷ 3 ∷ 0 ∷ 3 ∷ 2 ∷ 0 ∷ 4 ∷ []) ∷ row (4 ∷ 1 ∷ 1 ∷ 0 ∷ 0 ∷ 1 ∷ 1 ∷ 0 ∷ 1 ∷ []) ∷ [];
      ids = 0 ∷ 1 ∷ 3 ∷ [];
      offsets = [];
      values = 1 ∷ 0 ∷ 1 ∷ 0 ∷ [];
      lengths = 1 ∷ 1 ∷ 1 ∷ [];
      bytes = 97 ∷ 98 ∷ 98 ∷ [];
      alive = [];
      addresses = (0 ∷ 3 ∷ []) ∷ (1 ∷ 0 ∷ []) ∷ (0 ∷ 0 ∷ []) ∷ (0 ∷ 1 ∷ []) ∷ (0 ∷ 2 ∷ []) ∷ [];
      gave = Ok (record { typ = 4; class = 1; rows = 5; ids = 4; offsets = 0; values = 4; terms = 2; bytes = 2; map = 3; copied = 2; least = 0; greatest = 0 });
      left = leaves (0 ∷ 1 ∷ 2 ∷ 3 ∷ nines 8) (1 ∷ 1 ∷ 1 ∷ 0 ∷ nines 8) (1 ∷ 1 ∷ nines 10) (97 ∷ 98 ∷ nines 10) (0 ∷ 1 ∷ 1 ∷ nines 9);
    }

abbrev runs : List Run
runs = refused_run ∷ alive_run ∷ stacked_run ∷ ordered_run ∷ []

-- the one join: the first segments in their own sequence, ordered by the origins of the result
abbrev one_numbers : Numbers
one_numbers = record { typ = 4; class = 1; rows = 5; ids = 4; offsets = 0; values = 4; terms = 2; bytes = 2; map = 5; copied = 2; least = 0; greatest = 0 }

abbrev one_run : Run
one_run =
    record {
      call = call (0 ∷ 1 ∷ 2 ∷ []) 1 (at 0 1 ∷ at 2 1 ∷ at 1 0 ∷ at 1 1 ∷ at 0 0 ∷ []);
      records = row (4 ∷ 2 ∷ 2 ∷ 1 ∷ 0 ∷ 1 ∷ 1 ∷ 0 ∷ 2 ∷ []) ∷ row (4 ∷ 1 ∷ 2 ∷ 0 ∷ 0 ∷ 2 ∷ 2 ∷ 0 ∷ 2 ∷ []) ∷ row (4 ∷ 1 ∷ 2 ∷ 0 ∷ 0 ∷ 2 ∷ 2 ∷ 1 ∷ 1 ∷ []) ∷ [];
      ids = 1 ∷ [];
      offsets = [];
      values = 0 ∷ 1 ∷ 0 ∷ 0 ∷ 1 ∷ [];
      lengths = 1 ∷ 1 ∷ 1 ∷ 1 ∷ 1 ∷ [];
      bytes = 98 ∷ 97 ∷ 98 ∷ 97 ∷ 98 ∷ [];
      alive = 2 ∷ [];
      addresses = (0 ∷ 1 ∷ []) ∷ (2 ∷ 1 ∷ []) ∷ (1 ∷ 0 ∷ []) ∷ (1 ∷ 1 ∷ []) ∷ (0 ∷ 0 ∷ []) ∷ [];
      gave = Ok one_numbers;
      left = leaves (0 ∷ 1 ∷ 2 ∷ 3 ∷ nines 8) (1 ∷ 1 ∷ 1 ∷ 0 ∷ nines 8) (1 ∷ 1 ∷ nines 10) (97 ∷ 98 ∷ nines 10) (1 ∷ 0 ∷ 1 ∷ 0 ∷ 1 ∷ nines 7);
    }

-- ---- what is given holds

-- what was lent is what the calls hand over, and each answer and all that was left are the definition's; every definition is opened here, once
ran : RanFrom runs (map first weeks)
unfolding kind_of as_segment lent_to call_lent call_outcome call_answer after_call first_entry one_join joined_entry standing_of book_answer book_after_call is_segment required_types is_uniform words_per_value value_words values_in alive_words record_words first_segment after_first segments_of record_of sections_of row_values bit_at set_bits is_alive alive_rows alive_number is_dropped is_held held_of as_empty effective is_known_type is_numerical has_terms same_category has_type pair_of every_pair only_type numerical_type type_of coerced is_coercible kind_class alive_class class_of greatest_class row_order is_used kept_terms terms_of ordinal_of map_of new_word cell_of encode joined_type joined_class joined_cells joined_column join_rules too_many_segments lengths_wrong codes_known no_column_is_bare segment_codes_wrong codes_wrong some_old ids_fit offsets_fit empty_fits full_fits optional_fits old_fits new_fits lists_fit lists_wrong pair_fits values_fit values_wrong bit_past_rows alive_set_wrong alive_wrong sums_too_large working_too_small is_alive_at alive_addresses lists_alive_rows addresses_wrong present_types one_category all_coercible types_wrong output_too_short join_checks answer space_of numbers_of refused_buffers accepted_buffers input_of join_outcome read_back
ran = (record { laid = refl; kept = refl }, (record { laid = refl; kept = refl }, (record { laid = refl; kept = refl }, (record { laid = refl; kept = refl }, tt))))

one_ran : Ran one_run (map first weeks)
unfolding ran
one_ran = record { laid = refl; kept = refl }

-- ---- what the theorem says of them

pub weeks-agree : RunsAgree weeks runs
unfolding RunsInTurnAgree ran
weeks-agree = runs_in_turn-agree weeks runs ran tt tt tt

-- the book's entry for the last run's result, which stands alone
abbrev entry : Entry
entry = record { is_result = true; required = 255; sources = 1 ∷ 0 ∷ 2 ∷ []; origins = at 0 1 ∷ at 2 1 ∷ at 1 0 ∷ at 1 1 ∷ at 0 0 ∷ [] }

entry-stands : ResultStands weeks (calls_of runs) 0 entry
unfolding ran
entry-stands = record { stands = refl; is_result = refl }

own-sequence : IsSequenceOf (0 ∷ 1 ∷ 2 ∷ []) (1 ∷ 0 ∷ 2 ∷ [])
own-sequence n = go (eqb n 0) (eqb n 1) (cond (eqb n 2) 1 0)
  where
    go : (x y : Bool) (m : ℕ) → cond x (suc (cond y (suc m) m)) (cond y (suc m) m) ≡ cond y (suc (cond x (suc m) m)) (cond x (suc m) m)
    go true true m = refl
    go true false m = refl
    go false true m = refl
    go false false m = refl

calls-one_join : CallsOneJoin weeks entry one_run.call
calls-one_join = record { sequence = own-sequence; required = refl; ordered = λ q. refl; stacked = λ q. absurd (let z : ◌≡◌ {A = ℕ} 1 0 = q in omega arith) }

-- the fifth run left the one join's column, as what stands after the four
pub one_join_left : read_back (numbers_in one_numbers) one_run.left ≡ one_join weeks 255 (1 ∷ 0 ∷ 2 ∷ []) entry.origins
one_join_left = weeks-agree.where_called 0 entry one_run one_numbers entry-stands calls-one_join one_ran refl
