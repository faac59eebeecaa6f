-- A segment's cursor (term_merger, Order), made from where the segment stands. Assumes nothing.
use Rattle.std.specs.Prelude.{ℕ, ◌+◌, ◌-◌, ◌≤◌, Bool, false, cond, List, [], map, eqb, ltb, length, take, drop, get_or, ◌≡◌}
use Rattle.term_merger.specs.declared.Cursor.{Cursor}
use Rattle.term_cursors.specs.declared.TermPlace.{TermPlace}
use Rattle.definitions.specs.Lists.{sum}
use Rattle.definitions.specs.Segment.{cut}
use Rattle.term_order.specs.Key.{key_at}
use Rattle.term_merger.specs.Order.{cursor_in}
use Rattle.term_merger.specs.Live.{left_of}

-- 1 for a term that is not marked; 0 for one that is, or where all are kept
unfoldable pub unmarked_at : List ℕ → Bool → ℕ → ℕ
unmarked_at marks all at = cond all 0 (cond (eqb (get_or marks at 0) 0) 1 0)

-- the length of the term at pos, 0 past the segment's last term
abbrev pub length_at : List ℕ → ℕ → ℕ → ℕ
length_at lengths pos end = cond (ltb pos end) (get_or lengths pos 0) 0

-- the term at a place lies in the runs, and so does its mark
pub record Standing (lengths bytes marks : List ℕ) (all : Bool) (at : TermPlace) : Type 0 where
  pub inside : at.end ≤ length lengths
  pub marked : all ≡ false → at.end ≤ length marks
  pub text : at.from + length_at lengths at.pos at.end ≤ length bytes

unfoldable pub cursor_at : List ℕ → List ℕ → List ℕ → Bool → ℕ → ℕ → ℕ → ℕ → Cursor
unfolding unmarked_at
cursor_at lengths bytes marks all from pos end to =
    record {
      key = key_at bytes from (from + length_at lengths pos end);
      unmarked = cond (ltb pos end) (unmarked_at marks all pos) 0;
      pos = pos;
      end = end;
      to = to;
    }

-- ---- a segment, by its first cursor

abbrev pub lens_of : List ℕ → List Cursor → ℕ → List ℕ
lens_of lengths cursors s = take (left_of cursors s) (drop (cursor_in cursors s).pos lengths)

-- its dictionary
unfoldable pub dict_of : List ℕ → List ℕ → List Cursor → ℕ → List (List ℕ)
dict_of lengths bytes cursors s = cut (lens_of lengths cursors s) (drop (cursor_in cursors s).key.from bytes)

-- its cursor after p terms
unfoldable pub cursor_of : List ℕ → List ℕ → List ℕ → Bool → List Cursor → ℕ → ℕ → Cursor
cursor_of lengths bytes marks all cursors s p =
    cursor_at lengths bytes marks all ((cursor_in cursors s).key.from + sum (take p (lens_of lengths cursors s))) ((cursor_in cursors s).pos + p) (cursor_in cursors s).end ((cursor_in cursors s).to + p)

-- term i of segment s, and 0 if it is marked
abbrev pub term_at : List ℕ → List ℕ → List Cursor → ℕ → ℕ → List ℕ
term_at lengths bytes cursors s i = get_or (dict_of lengths bytes cursors s) i []

abbrev pub mark_at : List ℕ → Bool → List Cursor → ℕ → ℕ → ℕ
mark_at marks all cursors s i = unmarked_at marks all ((cursor_in cursors s).pos + i)

-- how many terms and term bytes the cursors have left
abbrev pub terms_in : Cursor → ℕ
terms_in cursor = cursor.end - cursor.pos

abbrev pub bytes_in : List ℕ → Cursor → ℕ
bytes_in lengths cursor = sum (take (cursor.end - cursor.pos) (drop cursor.pos lengths))

abbrev pub sum_over : (Cursor → ℕ) → List Cursor → ℕ
sum_over f cursors = sum (map f cursors)
