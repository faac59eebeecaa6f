-- What a join cites: the premises of the fills, the numbers of elements of its lists, and their outcomes as the lists of the joined column. Assumes nothing.
use Prim.Native.Nat.{ℕ, zero, suc, ◌+◌, ◌≤◌, ◌<◌}
use native.Mathlib.Omega.{arith}
use mathlib.Core.Path.{◌≡◌, refl, sym, ap, ◌∙◌, subst}
use mathlib.Core.List.{List, [], ◌∷◌, map}
use mathlib.Core.Bool.{Bool, true, false, not, cond, false≢true}
use lib.ListN.{length, get_or, drop, length-append}
use lib.Seq.{take_at}
use lib.Dec.{T, eqb}
use borrow.Author.Tests.{eqb-true, eqb-false}
use Rattle.definitions.specs.Lists.{sum, concat}
use Rattle.definitions.specs.Words.{value_words}
use Rattle.definitions.specs.Segment.{Segment, Address}
use Rattle.definitions.specs.Row.{has_alive_set}
use Rattle.definitions.specs.Join.{Column, absent, map_of, stacked_from, row_order, ids_from, totals_from, encode, joined_type, joined_class, joined_cells, joined_column}
use Rattle.definitions.specs.Answer.{lists_alive_rows}
use Rattle.definitions.specs.Outcome.{written}
use Rattle.definitions.proofs.Lists.{length-concat}
use Rattle.definitions.proofs.Words.{AllWords}
use Rattle.runs.specs.Put.{put, put_if, RoomIf}
use Rattle.runs.proofs.Written.{put_written}
use Rattle.segment.specs.Lent.{addresses_of}
use Rattle.stands.specs.Width.{ids_of, totals_of}
use Rattle.stands.specs.Look.{widths}
use Rattle.stands.specs.Stack.{stacked_widths}
use Rattle.stands.proofs.Bridge.{sound-stands}
use Rattle.stands.proofs.Cells.{ids-widths, totals_widths}
use Rattle.census.specs.Census.{counted_all}
use Rattle.census.specs.Table.{Table}
use Rattle.column_values_merge.specs.Stack.{stacked_words}
use Rattle.column_index_stacked.specs.Stacked.{Stacked}
use Rattle.column_index_shuffled.specs.Order.{ordered_words, Ordered}
use Rattle.merge_column.specs.Mapped.{Mapped}
use Rattle.merge_column.specs.Plan.{widths_for, joined_words, ids_for, offsets_for, Filling}
use Rattle.merge_column.proofs.Index.{there, stacked-widths, ordered-widths, stacked-rows_fit, stacked-values_fit, ordered-rows_fit, ordered_fewer, ordered-inside}
use Rattle.merge_column.proofs.Map.{Alike}
use Rattle.merge_column.proofs.Values.{stacked-words, all-worded, ordered_words_lem, ordered-worded}
use Rattle.merge_column.proofs.Counted.{all-counted, values_same, listed_same}

-- the map as the dictionary's merge leaves it
pub mapped : (ss : List Segment) (old : List ℕ) → length (map_of ss) ≤ length old → Mapped (written (map_of ss) old) ss
mapped ss old h =
    record {
      room = let e = length-append (map_of ss) (drop (length (map_of ss)) old) in omega arith;
      front = take_at (map_of ss) (drop (length (map_of ss)) old) (length (map_of ss)) refl;
    }

-- ---- a column's lists, from how many values its rows have

totals_count : (s t : ℕ) (ws : List ℕ) → length (totals_of t ws) ≡ length (ids_of s ws)
unfolding totals_of ids_of
totals_count s t [] = refl
totals_count s t (zero ∷ ws) = totals_count (suc s) t ws
totals_count s t (suc w ∷ ws) = ap suc (totals_count (suc s) (t + suc w) ws)

module _ (class : ℕ) (ws : List ℕ) (cells : List (List ℕ)) (e : ws ≡ map length cells) where
  ids_by : ids_of 0 ws ≡ ids_from 0 cells
  ids_by = ap (ids_of 0) e ∙ sym (ids-widths 0 cells)

  totals_by : totals_of 0 ws ≡ totals_from 0 cells
  totals_by = ap (totals_of 0) e ∙ sym (totals_widths 0 cells)

  room-ids : (n : ℕ) → length (cond (eqb class 0) [] (ids_from 0 cells)) ≤ n → RoomIf (not (eqb class 0)) 0 (length (ids_of 0 ws)) n
  room-ids n h = go (eqb class 0) h
    where
      go : (b : Bool) → length (cond b [] (ids_from 0 cells)) ≤ n → RoomIf (not b) 0 (length (ids_of 0 ws)) n
      go true k = record { room = λ q. absurd (false≢true q) }
      go false k = record { room = λ q. let z = ap length ids_by in omega arith }

  room-offsets : (n : ℕ) → length (cond (eqb class 2) (0 ∷ totals_from 0 cells) []) ≤ n → RoomIf (eqb class 2) 0 (length (0 ∷ totals_of 0 ws)) n
  room-offsets n h = go (eqb class 2) h
    where
      go : (b : Bool) → length (cond b (0 ∷ totals_from 0 cells) []) ≤ n → RoomIf b 0 (length (0 ∷ totals_of 0 ws)) n
      go true k = record { room = λ q. let z = ap length totals_by in omega arith }
      go false k = record { room = λ q. absurd (false≢true q) }

  wrote_ids : (old : List ℕ) → put_if (not (eqb class 0)) 0 (ids_of 0 ws) old ≡ written (cond (eqb class 0) [] (ids_from 0 cells)) old
  unfolding put_if
  wrote_ids old = go (eqb class 0)
    where
      go : (b : Bool) → cond (not b) (put 0 (ids_of 0 ws) old) old ≡ written (cond b [] (ids_from 0 cells)) old
      go true = refl
      go false = ap (λ (l : List ℕ). put 0 l old) ids_by ∙ put_written (ids_from 0 cells) old

  wrote_offsets : (old : List ℕ) → put_if (eqb class 2) 0 (0 ∷ totals_of 0 ws) old ≡ written (cond (eqb class 2) (0 ∷ totals_from 0 cells) []) old
  unfolding put_if
  wrote_offsets old = go (eqb class 2)
    where
      go : (b : Bool) → cond b (put 0 (0 ∷ totals_of 0 ws) old) old ≡ written (cond b (0 ∷ totals_from 0 cells) []) old
      go true = ap (λ (l : List ℕ). put 0 (0 ∷ l) old) totals_by ∙ put_written (0 ∷ totals_from 0 cells) old
      go false = refl

  count-ids : length (cond (eqb class 0) [] (ids_from 0 cells)) ≡ cond (eqb class 0) 0 (length (ids_of 0 ws))
  count-ids = go (eqb class 0)
    where
      go : (b : Bool) → length (cond b [] (ids_from 0 cells)) ≡ cond b 0 (length (ids_of 0 ws))
      go true = refl
      go false = ap length (sym ids_by)

  count-offsets : length (cond (eqb class 2) (0 ∷ totals_from 0 cells) []) ≡ cond (eqb class 2) (suc (length (ids_of 0 ws))) 0
  count-offsets = go (eqb class 2)
    where
      go : (b : Bool) → length (cond b (0 ∷ totals_from 0 cells) []) ≡ cond b (suc (length (ids_of 0 ws))) 0
      go true = ap suc (ap length (sym totals_by) ∙ totals_count 0 0 ws)
      go false = refl

  count-values : length (concat cells) ≡ sum ws
  count-values = length-concat cells ∙ ap sum (sym e)

-- the rows of a join: a stacked one has no alive set, an ordered one lists each alive row once
pub record Rows (mode : ℕ) (addresses : List (List ℕ)) (ss : List Segment) : Type 0 where
  pub alone : mode ≡ 0 → (k : ℕ) → k < length ss → has_alive_set (get_or ss k absent) ≡ false
  pub order : (mode ≡ 0 → ⊥) → T (lists_alive_rows ss (addresses_of addresses))

module _ {stands : List (List ℕ)} {ids offsets values lengths bytes words : List ℕ} {ss : List Segment} (t : Table stands ids offsets values lengths bytes words ss) {mode : ℕ} {addresses : List (List ℕ)}
    (r : Rows mode addresses ss) (required : ℕ) where
  abbrev order : List Address
  order = row_order mode ss (addresses_of addresses)

  abbrev cells : List (List ℕ)
  cells = joined_cells required ss order

  abbrev col : Column
  col = joined_column required ss order

  abbrev ws : List ℕ
  ws = widths_for mode addresses stands ids offsets

  -- how many values each new row has
  widths_are : ws ≡ map length cells
  unfolding widths_for row_order
  widths_are = go (eqb mode 0) refl
    where
      go : (b : Bool) → eqb mode 0 ≡ b → cond b (stacked_widths stands ids offsets) (widths stands ids offsets addresses) ≡ map length (joined_cells required ss (cond b (stacked_from 0 ss) (addresses_of addresses)))
      go true e = stacked-widths t required
      go false e = ordered-widths t addresses (r.order (eqb-false mode 0 e)) required

  few-widths : sum ws ≤ 4294967294
  unfolding widths_for
  few-widths = go (eqb mode 0) refl
    where
      go : (b : Bool) → eqb mode 0 ≡ b → sum (cond b (stacked_widths stands ids offsets) (widths stands ids offsets addresses)) ≤ 4294967294
      go true e = stacked-values_fit t
      go false e = let a = ordered_fewer t addresses (r.order (eqb-false mode 0 e)) required in let b = stacked-values_fit t in omega arith

  -- ---- the counts: all rows when stacked, where no segment has an alive set, and each alive one when ordered

  listed-count : length (ids_of 0 (counted_all stands ids offsets words)) ≡ length (ids_of 0 ws)
  unfolding widths_for
  listed-count = go (eqb mode 0) refl
    where
      go : (b : Bool) → eqb mode 0 ≡ b → length (ids_of 0 (counted_all stands ids offsets words)) ≡ length (ids_of 0 (cond b (stacked_widths stands ids offsets) (widths stands ids offsets addresses)))
      go true e = sym (ap (λ (l : List ℕ). length (ids_of 0 l)) (all-counted t (r.alone (eqb-true mode 0 e))))
      go false e = sym (listed_same t addresses (r.order (eqb-false mode 0 e)))

  pub values-count : sum (counted_all stands ids offsets words) ≡ length col.values
  unfolding joined_column encode widths_for
  values-count = same ∙ sym (count-values 0 ws cells widths_are)
    where
      same : sum (counted_all stands ids offsets words) ≡ sum ws
      same = go (eqb mode 0) refl
        where
          go : (b : Bool) → eqb mode 0 ≡ b → sum (counted_all stands ids offsets words) ≡ sum (cond b (stacked_widths stands ids offsets) (widths stands ids offsets addresses))
          go true e = sym (ap sum (all-counted t (r.alone (eqb-true mode 0 e))))
          go false e = sym (values_same t addresses (r.order (eqb-false mode 0 e)))

  pub few-values : length col.values ≤ 4294967294
  unfolding joined_column encode
  few-values = let a = few-widths in let b = count-values 0 ws cells widths_are in omega arith

  pub ids-number : ids_for (joined_class required ss) (length (ids_of 0 (counted_all stands ids offsets words))) ≡ length col.ids
  unfolding joined_column encode ids_for
  ids-number = ap (λ (n : ℕ). cond (eqb (joined_class required ss) 0) 0 n) listed-count ∙ sym (count-ids (joined_class required ss) ws cells widths_are)

  pub offsets-number : offsets_for (joined_class required ss) (length (ids_of 0 (counted_all stands ids offsets words))) ≡ length col.offsets
  unfolding joined_column encode offsets_for
  offsets-number = ap (λ (n : ℕ). cond (eqb (joined_class required ss) 2) (suc n) 0) listed-count ∙ sym (count-offsets (joined_class required ss) ws cells widths_are)

  -- ---- the fills

  module _ {map' : List ℕ} (m : Mapped map' ss) (all : AllWords values) (a : Alike (joined_type required ss) ss) where
    words_are : joined_words mode (joined_type required ss) addresses stands ids offsets values map' ≡ value_words col.type col.values
    unfolding joined_words row_order joined_column encode
    words_are = go (eqb mode 0) refl
      where
        go : (b : Bool) → eqb mode 0 ≡ b → cond b (stacked_words (joined_type required ss) stands values map') (ordered_words (joined_type required ss) stands ids offsets values map' addresses)
            ≡ value_words (joined_type required ss) (concat (joined_cells required ss (cond b (stacked_from 0 ss) (addresses_of addresses))))
        go true e = stacked-words t m all required a
        go false e = ordered_words_lem t m all required a addresses (r.order (eqb-false mode 0 e))

    stacked-given : Stacked stands ids offsets values map'
    stacked-given =
        record {
          sound = record { each = λ k h. let st = there t k (subst (λ (n : ℕ). k < n) t.size h) in sound-stands st.0 st.1 };
          worded = all-worded t m;
          rows = let a = stacked-rows_fit t in omega arith;
          count = let a = stacked-values_fit t in omega arith;
        }

    ordered-given : T (lists_alive_rows ss (addresses_of addresses)) → Ordered addresses stands ids offsets values map'
    ordered-given o =
        record {
          rows = let a = ordered-rows_fit t addresses o in omega arith;
          count = let a = ordered_fewer t addresses o required in let b = stacked-values_fit t in omega arith;
          each = λ k h. let p = ordered-inside t addresses o k h in (p.0, p.1, ordered-worded t m addresses o k h);
        }

    pub filling : (outIds outOffsets outValues : List ℕ) → length col.ids ≤ length outIds → length col.offsets ≤ length outOffsets → length (value_words col.type col.values) ≤ length outValues
        → Filling mode (joined_class required ss) (joined_type required ss) addresses stands ids offsets values map' outIds outOffsets outValues
    unfolding joined_column encode joined_words
    filling outIds outOffsets outValues hi ho hv =
        record {
          stacked = λ e. stacked-given;
          ordered = λ n. ordered-given (r.order n);
          ids-room = room-ids (joined_class required ss) ws cells widths_are (length outIds) hi;
          offsets-room = room-offsets (joined_class required ss) ws cells widths_are (length outOffsets) ho;
          values-room = subst (λ (l : List ℕ). length l ≤ length outValues) (sym words_are) hv;
        }

    pub values_are : (old : List ℕ) → put 0 (joined_words mode (joined_type required ss) addresses stands ids offsets values map') old ≡ written (value_words col.type col.values) old
    values_are old = ap (λ (l : List ℕ). put 0 l old) words_are ∙ put_written (value_words col.type col.values) old

  pub ids_are : (old : List ℕ) → put_if (not (eqb (joined_class required ss) 0)) 0 (ids_of 0 ws) old ≡ written col.ids old
  unfolding joined_column encode
  ids_are old = wrote_ids (joined_class required ss) ws cells widths_are old

  pub offsets_are : (old : List ℕ) → put_if (eqb (joined_class required ss) 2) 0 (0 ∷ totals_of 0 ws) old ≡ written col.offsets old
  unfolding joined_column encode
  offsets_are old = wrote_offsets (joined_class required ss) ws cells widths_are old
