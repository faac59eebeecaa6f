-- The parts of one column's join, over where the segments stand. Assumes nothing.
use Rattle.std.specs.Prelude.{ℕ, suc, ◌*◌, ◌≤◌, ◌≡◌, List, ◌∷◌, Bool, false, cond, not, eqb, ltb, leb, length, replicate, Option, None, Some, Result, Ok, Err}
use Rattle.definitions.specs.Words.{words_per_value}
use Rattle.definitions.specs.Segment.{Pair}
use Rattle.definitions.specs.Row.{no_type}
use Rattle.definitions.specs.Types.{pair_of}
use Rattle.runs.specs.Put.{RoomIf}
use Rattle.stands.specs.Width.{ids_of, totals_of}
use Rattle.stands.specs.Stand.{stands_in}
use Rattle.stands.specs.Look.{widths}
use Rattle.stands.specs.Stack.{stacked_widths}
use Rattle.census.specs.declared.Tally.{Tally}
use Rattle.census.specs.Settled.{settled_from, AllReady}
use Rattle.merge_type.specs.Parts.{type_answer, held_pair, any_thinned}
use Rattle.column_values_merge.specs.Stack.{stacked_words}
use Rattle.column_index_stacked.specs.Stacked.{Stacked}
use Rattle.column_index_shuffled.specs.Order.{ordered_words, Ordered}
use Rattle.merge_column.specs.declared.Shape.{Shape}
use Rattle.merge_column.specs.declared.Space.{Space}
use Rattle.refusal.specs.declared.Refusal.{Refusal}
use Rattle.refusal.specs.declared.Refusal.TheVariants.{Types, OutputSpace}

-- ---- where the segments stand

-- an element of the table for each record, and segments that can be counted
pub record Preparing (records : List (List ℕ)) (ids offsets lengths words : List ℕ) (stands : List (List ℕ)) : Type 0 where
  pub few : length records ≤ 256
  pub long : length stands ≡ length records
  pub ready : AllReady (stands_in records) ids offsets lengths words

-- as they count in the join
abbrev pub settled_of : List (List ℕ) → List ℕ → List ℕ → List ℕ → List ℕ → List (List ℕ)
settled_of records ids offsets lengths words = settled_from 0 0 (stands_in records) ids offsets lengths words

-- ---- the shape of the column

unfoldable pub class_for : ℕ → ℕ → ℕ
class_for type greatest = cond (eqb type no_type) 0 greatest

unfoldable pub ids_for : ℕ → ℕ → ℕ
ids_for class listed = cond (eqb class 0) 0 listed

unfoldable pub offsets_for : ℕ → ℕ → ℕ
offsets_for class listed = cond (eqb class 2) (suc listed) 0

-- no output is shorter than its list, nor those of terms and map than the held columns' sums
unfoldable pub enough_for : Shape → ℕ → Space → Bool
enough_for x bytes space =
    cond (ltb space.ids x.ids) false
    (cond (ltb space.offsets x.offsets) false
    (cond (ltb space.values x.words) false
    (cond (ltb space.lengths x.map) false
    (cond (ltb space.bytes bytes) false
    (leb x.map space.map)))))

unfoldable pub shape_of : ℕ → ℕ → Tally → Shape
shape_of typ rows t =
    record {
      typ = typ;
      class = class_for typ t.class;
      rows = rows;
      ids = ids_for (class_for typ t.class) t.listed;
      offsets = offsets_for (class_for typ t.class) t.listed;
      values = t.values;
      words = t.values * words_per_value typ;
      map = t.terms;
    }

unfoldable pub plan_of : ℕ → ℕ → Tally → Space → Result Shape Refusal
plan_of typ rows t space = cond (enough_for (shape_of typ rows t) t.bytes space) (Ok (shape_of typ rows t)) (Err OutputSpace)

abbrev pub plan_by : Option ℕ → ℕ → Tally → Space → Result Shape Refusal
plan_by None rows t space = Err Types
plan_by (Some typ) rows t space = plan_of typ rows t space

-- 10 where the types are wrong, else by the sums; a stacked join has all rows, an ordered one those that are addressed
unfoldable pub plan_for : ℕ → ℕ → List (List ℕ) → ℕ → Tally → Space → Result Shape Refusal
plan_for mode required stands addresses t space = plan_by (type_answer required stands) (cond (eqb mode 0) t.rows addresses) t space

-- ---- the fills

-- how many values each new row has
unfoldable pub widths_for : ℕ → List (List ℕ) → List (List ℕ) → List ℕ → List ℕ → List ℕ
widths_for mode addresses stands ids offsets = cond (eqb mode 0) (stacked_widths stands ids offsets) (widths stands ids offsets addresses)

-- the words of the joined column's values
unfoldable pub joined_words : ℕ → ℕ → List (List ℕ) → List (List ℕ) → List ℕ → List ℕ → List ℕ → List ℕ → List ℕ
joined_words mode to addresses stands ids offsets values map = cond (eqb mode 0) (stacked_words to stands values map) (ordered_words to stands ids offsets values map addresses)

-- the working bytes: an ordered join leaves them zero
unfoldable pub left_for : ℕ → List ℕ → List ℕ
left_for mode work = cond (eqb mode 0) work (replicate (length work) 0)

pub record Filling (mode class to : ℕ) (addresses stands : List (List ℕ)) (ids offsets values map outIds outOffsets outValues : List ℕ) : Type 0 where
  pub stacked : mode ≡ 0 → Stacked stands ids offsets values map
  pub ordered : (mode ≡ 0 → ⊥) → Ordered addresses stands ids offsets values map
  pub ids-room : RoomIf (not (eqb class 0)) 0 (length (ids_of 0 (widths_for mode addresses stands ids offsets))) (length outIds)
  pub offsets-room : RoomIf (eqb class 2) 0 (length (0 ∷ totals_of 0 (widths_for mode addresses stands ids offsets))) (length outOffsets)
  pub values-room : length (joined_words mode to addresses stands ids offsets values map) ≤ length outValues

-- ---- the joined pair

-- the held columns' own, put together, where none of them has an alive set; else that of the words written
unfoldable pub pair_for : ℕ → List (List ℕ) → List ℕ → Pair
pair_for to stands words = cond (any_thinned stands) (pair_of to words) (held_pair to stands)
