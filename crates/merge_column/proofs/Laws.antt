-- The laws of the parts: one choice by a code, counts, room, and the shape. Assumes nothing.
use Prim.Native.Nat.{ℕ, suc, ◌+◌, ◌*◌, ◌≤◌}
use native.Mathlib.Omega.{arith}
use mathlib.Core.Path.{◌≡◌, refl, sym, ap, ◌∙◌}
use mathlib.Core.List.{List, ◌∷◌}
use mathlib.Core.Bool.{Bool, true, false, not, cond}
use lib.ListN.{length, replicate}
use lib.Dec.{eqb}
use borrow.Author.Tests.{not-true, not-false}
use Rattle.definitions.specs.Words.{words_per_value}
use Rattle.definitions.specs.Types.{pair_of}
use Rattle.runs.specs.Put.{put, put_if, RoomIf}
use Rattle.stands.specs.Width.{ids_of, totals_of}
use Rattle.runs.proofs.Laws.{put_whole}
use Rattle.stands.specs.Stand.{numbers_of, stand_in, stands_in}
use Rattle.stands.proofs.Fill.{table-length}
use Rattle.stands.specs.Look.{widths}
use Rattle.stands.specs.Stack.{stacked_widths}
use Rattle.column_values_merge.specs.Stack.{stacked_words}
use Rattle.column_index_shuffled.specs.Order.{ordered_words}
use Rattle.census.specs.declared.Tally.{Tally}
use Rattle.std.proofs.Common.{Option, None, Some}
use Rattle.merge_type.specs.Parts.{type_answer, held_pair, any_thinned}
use Rattle.merge_column.specs.declared.Shape.{Shape}
use Rattle.merge_column.specs.declared.Space.{Space}
use Rattle.std.specs.Prelude.{Result, Ok, Err}
use Rattle.refusal.specs.declared.Refusal.{Refusal}
use Rattle.refusal.specs.declared.Refusal.TheVariants.{Types, OutputSpace}
use Rattle.merge_column.specs.Plan.{class_for, ids_for, offsets_for, shape_of, enough_for, plan_of, plan_by, plan_for, pair_for, widths_for, joined_words, left_for, Filling}
use Rattle.lists.proofs.Tests.{at_code, past_code}

-- ---- the table of all records

pub filled_raw : (records stands : List (List ℕ)) {l : List (List ℕ)} → length stands ≡ length records → l ≡ put 0 (stands_in records) stands → l ≡ stands_in records
filled_raw records stands n e = e ∙ put_whole (stands_in records) stands (table-length (λ k. numbers_of (stand_in records k)) (length records) ∙ sym n)

-- ---- one choice by a code

pub class-none : (t g : ℕ) → t ≡ 255 → 0 ≡ class_for t g
unfolding class_for
class-none t g e = at_code t 255 0 g e

pub class-some : (t g r : ℕ) → (t ≡ 255 → ⊥) → r ≡ g → r ≡ class_for t g
unfolding class_for
class-some t g r e q = q ∙ past_code t 255 0 g e

pub offsets-some : (k n : ℕ) → k ≡ 2 → n + 1 ≡ offsets_for k n
unfolding offsets_for
offsets-some k n e = let z : n + 1 ≡ suc n = omega arith in z ∙ at_code k 2 (suc n) 0 e

pub offsets-none : (k n : ℕ) → (k ≡ 2 → ⊥) → 0 ≡ offsets_for k n
unfolding offsets_for
offsets-none k n e = past_code k 2 (suc n) 0 e

-- ---- by mode

module _ (mode : ℕ) (addresses stands : List (List ℕ)) (ids offsets : List ℕ) where
  pub widths-stacked : mode ≡ 0 → stacked_widths stands ids offsets ≡ widths_for mode addresses stands ids offsets
  unfolding widths_for
  widths-stacked e = at_code mode 0 (stacked_widths stands ids offsets) (widths stands ids offsets addresses) e

  pub widths-ordered : (mode ≡ 0 → ⊥) → widths stands ids offsets addresses ≡ widths_for mode addresses stands ids offsets
  unfolding widths_for
  widths-ordered e = past_code mode 0 (stacked_widths stands ids offsets) (widths stands ids offsets addresses) e

module _ {mode class to : ℕ} {addresses stands : List (List ℕ)} {ids offsets values map outIds outOffsets outValues : List ℕ}
    (g : Filling mode class to addresses stands ids offsets values map outIds outOffsets outValues) where
  pub words_stacked : mode ≡ 0 → stacked_words to stands values map ≡ joined_words mode to addresses stands ids offsets values map
  unfolding joined_words
  words_stacked e = at_code mode 0 (stacked_words to stands values map) (ordered_words to stands ids offsets values map addresses) e

  pub words-ordered : (mode ≡ 0 → ⊥) → ordered_words to stands ids offsets values map addresses ≡ joined_words mode to addresses stands ids offsets values map
  unfolding joined_words
  words-ordered e = past_code mode 0 (stacked_words to stands values map) (ordered_words to stands ids offsets values map addresses) e

  module _ (ws vs : List ℕ) (e : ws ≡ widths_for mode addresses stands ids offsets) (q : vs ≡ joined_words mode to addresses stands ids offsets values map) where
    pub ids-place : RoomIf (not (eqb class 0)) 0 (length (ids_of 0 ws)) (length outIds)
    ids-place = rw e g.ids-room

    pub offsets-place : RoomIf (eqb class 2) 0 (length (0 ∷ totals_of 0 ws)) (length outOffsets)
    offsets-place = rw e g.offsets-room

    pub values-place : length vs ≤ length outValues
    values-place = rw q g.values-room

-- ---- the shape

module _ (typ rows : ℕ) (t : Tally) (space : Space) {class ids offsets : ℕ} (ce : class ≡ class_for typ t.class) (ie : ids ≡ cond (eqb class 0) 0 t.listed) (oe : offsets ≡ offsets_for class t.listed) {unit : ℕ} (ue : unit ≡ words_per_value typ) where
  abbrev made : Shape
  made = record { typ = typ; class = class; rows = rows; ids = ids; offsets = offsets; values = t.values; words = t.values * unit; map = t.terms }

  shape_is : made ≡ shape_of typ rows t
  unfolding shape_of ids_for
  shape_is =
      λ i.
      record {
        typ = typ;
        class = ce i;
        rows = rows;
        ids = (ie ∙ ap (λ (n : ℕ). cond (eqb n 0) 0 t.listed) ce) i;
        offsets = (oe ∙ ap (λ (n : ℕ). offsets_for n t.listed) ce) i;
        values = t.values;
        words = t.values * ue i;
        map = t.terms;
      }

  pub plan-refused : {b : Bool} → b ≡ enough_for made t.bytes space → not b ≡ true → Err OutputSpace ≡ plan_of typ rows t space
  unfolding plan_of
  plan-refused {b} q n = sym (ap (λ (x : Bool). cond x (Ok (shape_of typ rows t)) (Err OutputSpace)) (ap (λ (z : Shape). enough_for z t.bytes space) (sym shape_is) ∙ sym q ∙ not-true b n))

  pub plan-column : {b : Bool} → b ≡ enough_for made t.bytes space → not b ≡ false → Ok made ≡ plan_of typ rows t space
  unfolding plan_of
  plan-column {b} q n =
      ap Ok shape_is ∙ sym (ap (λ (x : Bool). cond x (Ok (shape_of typ rows t)) (Err OutputSpace)) (ap (λ (z : Shape). enough_for z t.bytes space) (sym shape_is) ∙ sym q ∙ not-false b n))

-- ---- the plan

module _ (mode required : ℕ) (stands : List (List ℕ)) (addresses : ℕ) (t : Tally) (space : Space) {x : Option ℕ} (e : x ≡ type_answer required stands) where
  pub planned_wrong : x ≡ None → Err Types ≡ plan_for mode required stands addresses t space
  unfolding plan_for
  planned_wrong q = sym (ap (λ (y : Option ℕ). plan_by y (cond (eqb mode 0) t.rows addresses) t space) (sym e ∙ q))

  pub planned_column : {typ : ℕ} → x ≡ Some typ → {r : Result Shape Refusal} {rows : ℕ} → rows ≡ cond (eqb mode 0) t.rows addresses → r ≡ plan_of typ rows t space → r ≡ plan_for mode required stands addresses t space
  unfolding plan_for
  planned_column {typ} q we re =
      re ∙ ap (λ (n : ℕ). plan_of typ n t space) we ∙ sym (ap (λ (y : Option ℕ). plan_by y (cond (eqb mode 0) t.rows addresses) t space) (sym e ∙ q))

-- ---- what the fills leave, over the widths and the words by mode

pub filled-ids : {x : List ℕ} (old ws vs : List ℕ) (b : Bool) → x ≡ put_if b 0 (ids_of 0 ws) old → ws ≡ vs → x ≡ put_if b 0 (ids_of 0 vs) old
filled-ids old ws vs b p e = p ∙ ap (λ (l : List ℕ). put_if b 0 (ids_of 0 l) old) e

pub filled-offsets : {x : List ℕ} (old ws vs : List ℕ) (b : Bool) → x ≡ put_if b 0 (0 ∷ totals_of 0 ws) old → ws ≡ vs → x ≡ put_if b 0 (0 ∷ totals_of 0 vs) old
filled-offsets old ws vs b p e = p ∙ ap (λ (l : List ℕ). put_if b 0 (0 ∷ totals_of 0 l) old) e

pub filled-values : {x : List ℕ} (old ws vs : List ℕ) → x ≡ put 0 ws old → ws ≡ vs → x ≡ put 0 vs old
filled-values old ws vs p e = p ∙ ap (λ (l : List ℕ). put 0 l old) e

-- ---- the working bytes

pub left-stacked : (mode : ℕ) (work : List ℕ) → mode ≡ 0 → work ≡ left_for mode work
unfolding left_for
left-stacked mode work e = at_code mode 0 work (replicate (length work) 0) e

pub left-ordered : (mode : ℕ) (work : List ℕ) → (mode ≡ 0 → ⊥) → replicate (length work) 0 ≡ left_for mode work
unfolding left_for
left-ordered mode work e = past_code mode 0 work (replicate (length work) 0) e

-- zero bytes stay as they are
pub left-clean : (mode : ℕ) (work before after : List ℕ) → work ≡ replicate (length work) 0 → before ≡ work → after ≡ left_for mode before → after ≡ work
unfolding left_for
left-clean mode work before after z e f = f ∙ go (eqb mode 0) ∙ e
  where
    zero_still : replicate (length before) 0 ≡ before
    zero_still = ap (λ (w : List ℕ). replicate (length w) 0) e ∙ sym z ∙ sym e

    go : (b : Bool) → cond b before (replicate (length before) 0) ≡ before
    go true = refl
    go false = zero_still

-- ---- the joined pair, case by case

module _ (to : ℕ) (stands : List (List ℕ)) (words : List ℕ) {b : Bool} (e : b ≡ any_thinned stands) where
  pub pair-written : b ≡ true → pair_of to words ≡ pair_for to stands words
  unfolding pair_for
  pair-written h = rw (← e, h)

  pub pair_held : b ≡ false → held_pair to stands ≡ pair_for to stands words
  unfolding pair_for
  pair_held h = rw (← e, h)
