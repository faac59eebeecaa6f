-- Withdrawing and reinstating plays, with the number of alive rows kept, and the answers of the two calls (document 02, (f)). Assumes nothing.
use Rattle.std.specs.Prelude.{ℕ, ◌+◌, ◌-◌, ◌/◌, ◌%◌, List, [], ◌∷◌, ◌≡◌, Bool, true, false, ◌&&◌, cond, not, length, eqb, ltb}
use Rattle.definitions.specs.Lists.{all_below, elem, with_bit, without_bit}
use Rattle.definitions.specs.Segment.{Segment, SegmentRecord, alive_words}
use Rattle.definitions.specs.Row.{bit_at, alive_number}
use Rattle.definitions.specs.Checks.{Check, check, first_of}
use Rattle.definitions.specs.Answer.{alive_set_wrong}

-- what is lent to a call, and as it leaves it: a record and its alive words
pub record AliveSet : Type 0 where
  pub given : SegmentRecord
  pub words : List ℕ

-- a segment of that record and alive set; its lists and pair are not looked at
abbrev pub segment_of : AliveSet → Segment
segment_of m =
    record {
      type = m.given.type;
      kind = m.given.kind;
      rows = m.given.rows;
      ids = [];
      offsets = [];
      values = [];
      terms = [];
      flag = m.given.flag;
      alive_count = m.given.alive_count;
      pair = m.given.pair;
      alive = m.words;
    }

-- a call names rows, one or several, and says whether they are to be alive: reinstated, or withdrawn
pub record Marking : Type 0 where
  pub rows : List ℕ
  pub alive : Bool

abbrev pub withdrawing : List ℕ → Marking
withdrawing rows = record { rows = rows; alive = false }

abbrev pub reinstating : List ℕ → Marking
reinstating rows = record { rows = rows; alive = true }

-- ---- answers

-- 2: alive words that don't fit the record
unfoldable pub alive_words_wrong : AliveSet → Bool
alive_words_wrong m = not (eqb (length m.words) (alive_words m.given))

-- 15: a row that isn't below the segment's rows
unfoldable pub row_absent : AliveSet → List ℕ → Bool
row_absent m rows = not (all_below m.given.rows rows)

-- 2; 3 for an unknown flag; 6 as in a join; 15; 16 when the segment has no alive set
unfoldable pub mark_checks : AliveSet → List ℕ → List Check
mark_checks m rows =
    check 2 (alive_words_wrong m)
    ∷ check 3 (not (ltb m.given.flag 2))
    ∷ check 6 (alive_set_wrong (segment_of m))
    ∷ check 15 (row_absent m rows)
    ∷ check 16 (eqb m.given.flag 0)
    ∷ []

unfoldable pub mark_number : AliveSet → List ℕ → ℕ
mark_number m rows = first_of (mark_checks m rows)

-- ---- what changes

-- the record with another number of alive rows
abbrev pub with_count : ℕ → SegmentRecord → SegmentRecord
with_count n r =
    record {
      type = r.type;
      kind = r.kind;
      rows = r.rows;
      ids = r.ids;
      offsets = r.offsets;
      values = r.values;
      terms = r.terms;
      flag = r.flag;
      alive_count = n;
      pair = r.pair;
    }

-- a withdrawn row's bit is set, and one row more is alive
unfoldable pub reinstated : AliveSet → ℕ → AliveSet
reinstated m row =
    record {
      given = with_count (m.given.alive_count + 1) m.given;
      words = with_bit m.words (row / 64) (row % 64);
    }

-- an alive row's bit is cleared, and one row less is alive
unfoldable pub withdrawn : AliveSet → ℕ → AliveSet
withdrawn m row =
    record {
      given = with_count (m.given.alive_count - 1) m.given;
      words = without_bit m.words (row / 64) (row % 64);
    }

-- where the row is so already, neither changes
unfoldable pub marked_row : Bool → AliveSet → ℕ → AliveSet
marked_row true m row = cond (bit_at m.words row) m (reinstated m row)
marked_row false m row = cond (bit_at m.words row) (withdrawn m row) m

-- row after row
abbrev pub marked_rows : Bool → AliveSet → List ℕ → AliveSet
marked_rows alive m [] = m
marked_rows alive m (r ∷ rows) = marked_rows alive (marked_row alive m r) rows

-- how many rows have changed, when so many are alive afterwards
abbrev pub changes_to : Bool → AliveSet → ℕ → ℕ
changes_to alive m n = cond alive (n - m.given.alive_count) (m.given.alive_count - n)

-- ---- the call

-- the answer: how many rows changed, 0 if nothing did; or the number of the first check that fails
pub data MarkAnswer : Type 0 where
  changed : ℕ → MarkAnswer
  unmarked : ℕ → MarkAnswer

abbrev pub mark_number_of : MarkAnswer → ℕ
mark_number_of (changed n) = 0
mark_number_of (unmarked k) = k

-- what a call gives, and what is lent as it leaves it
pub record MarkOutcome : Type 0 where
  pub answer : MarkAnswer
  pub left : AliveSet

-- the whole outcome of a call. A refusal changes nothing
unfoldable pub mark_outcome : Marking → AliveSet → MarkOutcome
mark_outcome c m =
    record {
      answer = cond (eqb (mark_number m c.rows) 0) (changed (changes_to c.alive m (marked_rows c.alive m c.rows).given.alive_count)) (unmarked (mark_number m c.rows));
      left = cond (eqb (mark_number m c.rows) 0) (marked_rows c.alive m c.rows) m;
    }

-- 02's two calls: each names one row
abbrev pub withdraw_outcome : ℕ → AliveSet → MarkOutcome
withdraw_outcome row m = mark_outcome (withdrawing (row ∷ [])) m

abbrev pub reinstate_outcome : ℕ → AliveSet → MarkOutcome
reinstate_outcome row m = mark_outcome (reinstating (row ∷ [])) m

-- ---- any sequence of calls, refused ones among them

abbrev pub after_markings : List Marking → AliveSet → AliveSet
after_markings [] m = m
after_markings (c ∷ cs) m = after_markings cs (mark_outcome c m).left

-- the last word on a row: alive or withdrawn, as the last of the calls that names it and is not refused says, else as it was before
abbrev pub last_word : AliveSet → List Marking → ℕ → Bool → Bool
last_word m [] row before = before
last_word m (c ∷ cs) row before = last_word (mark_outcome c m).left cs row (cond (eqb (mark_number m c.rows) 0 && elem row c.rows) c.alive before)

-- what holds before, and after any sequence of calls: the words fit the record, and 6 finds nothing
pub record Sound (m : AliveSet) : Type 0 where
  pub words : alive_words_wrong m ≡ false
  pub alive : alive_set_wrong (segment_of m) ≡ false

-- the claim: 6 still finds nothing, the number is that of the set bits (or the rows where no alive set is), nothing else of the record has changed, and each row is alive
-- or withdrawn as the last word on it says
pub record Kept (m : AliveSet) (cs : List Marking) : Type 0 where
  pub sound : Sound (after_markings cs m)
  pub number : (after_markings cs m).given.alive_count ≡ alive_number (segment_of (after_markings cs m))
  pub rest : (after_markings cs m).given ≡ with_count (after_markings cs m).given.alive_count m.given
  pub rows : (row : ℕ) → bit_at (after_markings cs m).words row ≡ last_word m cs row (bit_at m.words row)
