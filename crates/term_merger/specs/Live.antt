-- Segments that stand in the heap: those whose cursor has something left. Assumes nothing.
use Rattle.std.specs.Prelude.{ℕ, ◌+◌, ◌-◌, ◌≤◌, ◌<◌, Bool, cond, List, ◌⊎◌, ◌≡◌, eqb, ltb, length, get_or, set, take}
use Rattle.term_merger.specs.declared.Heap.{Heap}
use Rattle.term_merger.specs.declared.Cursor.{Cursor}
use Rattle.term_merger.specs.Order.{cursor_in}
use Rattle.term_merger.specs.Heap.{Ordered, held, count, one}

-- how much the segment's cursor has left
abbrev pub left_of : List Cursor → ℕ → ℕ
left_of cursors s = (cursor_in cursors s).end - (cursor_in cursors s).pos

-- the top has something left
abbrev pub top_lives : List Cursor → List ℕ → Bool
top_lives cursors seg = ltb (cursor_in cursors (get_or seg 0 0)).pos (cursor_in cursors (get_or seg 0 0)).end

-- then all numbers stay; else the last one takes the top's place
unfoldable pub kept_len : List Cursor → List ℕ → ℕ → ℕ
kept_len cursors seg len = cond (top_lives cursors seg) len (len - 1)

unfoldable pub kept_numbers : List Cursor → List ℕ → ℕ → List ℕ
kept_numbers cursors seg len = cond (top_lives cursors seg) seg (set seg 0 (get_or seg (len - 1) 0))

-- the top has something left: the same segments are a heap
pub record Stays (bytes : List ℕ) (cursors : List Cursor) (seg : List ℕ) (len : ℕ) (seg' : List ℕ) (n : ℕ) : Type 0 where
  pub left : (cursor_in cursors (get_or seg 0 0)).pos < (cursor_in cursors (get_or seg 0 0)).end
  pub size : n ≡ len
  pub long : length seg' ≡ 256
  pub in_heap_order : Ordered bytes cursors seg' n
  pub holds : (x : ℕ) → count x (take n seg') ≡ count x (take len seg)

-- it has nothing left: the others are a heap
pub record Leaves (bytes : List ℕ) (cursors : List Cursor) (seg : List ℕ) (len : ℕ) (seg' : List ℕ) (n : ℕ) : Type 0 where
  pub left : (cursor_in cursors (get_or seg 0 0)).end ≤ (cursor_in cursors (get_or seg 0 0)).pos
  pub size : n + 1 ≡ len
  pub long : length seg' ≡ 256
  pub in_heap_order : Ordered bytes cursors seg' n
  pub holds : (x : ℕ) → count x (take n seg') + one (eqb x (get_or seg 0 0)) ≡ count x (take len seg)

abbrev pub Settled : List ℕ → List Cursor → List ℕ → ℕ → List ℕ → ℕ → Type 0
Settled bytes cursors seg len seg' n = Stays bytes cursors seg len seg' n ⊎ Leaves bytes cursors seg len seg' n

-- the heap holds each segment with something left, once
pub record Started (bytes : List ℕ) (cursors : List Cursor) (h : Heap) : Type 0 where
  pub len : h.len ≤ 256
  pub in_heap_order : Ordered bytes cursors h.seg h.len
  pub holds : (x : ℕ) → count x (held h) ≡ one (ltb 0 (left_of cursors x))
