-- What a heap of segment numbers holds, and its order. Assumes nothing.
use Rattle.std.specs.Prelude.{ℕ, ◌+◌, ◌-◌, ◌/◌, ◌≤◌, ◌<◌, Bool, true, false, cond, List, [], ◌∷◌, ◌≡◌, eqb, ltb, length, take, get_or, replicate}
use Rattle.term_merger.specs.declared.Heap.{Heap}
use Rattle.term_merger.specs.declared.Cursor.{Cursor}
use Rattle.term_merger.specs.Order.{comes_before}

abbrev pub empty_heap : Heap
empty_heap = record { seg = replicate 256 0; len = 0 }

-- the segment numbers held, in the array's order
abbrev pub held : Heap → List ℕ
held h = take h.len h.seg

abbrev pub one : Bool → ℕ
one true = 1
one false = 0

-- how often x stands in a list
unfoldable pub count : ℕ → List ℕ → ℕ
count x [] = 0
count x (y ∷ ys) = one (eqb x y) + count x ys

-- none of the first n comes before the one above it
unfoldable pub Ordered : List ℕ → List Cursor → List ℕ → ℕ → Type 0
Ordered bytes cursors seg n = (j : ℕ) → 0 < j → j < n → comes_before bytes cursors (get_or seg j 0) (get_or seg ((j - 1) / 2) 0) ≡ false

pub record Pushed (bytes : List ℕ) (cursors : List Cursor) (h : Heap) (s : ℕ) (r : Heap) : Type 0 where
  pub len : r.len ≡ h.len + 1
  pub in_heap_order : Ordered bytes cursors r.seg r.len
  pub holds : (x : ℕ) → count x (held r) ≡ count x (held h) + one (eqb x s)

-- a full heap stays as it is
pub record PushedIfRoom (bytes : List ℕ) (cursors : List Cursor) (h : Heap) (s : ℕ) (r : Heap) : Type 0 where
  pub room : h.len < 256 → Pushed bytes cursors h s r
  pub full : 256 ≤ h.len → r ≡ h

-- the first n are in order, and are the same numbers as before, each as often
pub record Risen (bytes : List ℕ) (cursors : List Cursor) (seg : List ℕ) (n : ℕ) (seg' : List ℕ) : Type 0 where
  pub long : length seg' ≡ 256
  pub in_heap_order : Ordered bytes cursors seg' n
  pub holds : (x : ℕ) → count x (take n seg') ≡ count x (take n seg)

-- of place l and the one after it, if that is there, the one that comes first; l of two that are the same
unfoldable pub first_child : List ℕ → List Cursor → List ℕ → ℕ → ℕ → ℕ
unfolding comes_before
first_child bytes cursors seg l n = cond (ltb (l + 1) n) (cond (comes_before bytes cursors (get_or seg (l + 1) 0) (get_or seg l 0)) (l + 1) l) l

-- c is that place: l or the place after it, and neither of the two comes before the one at c
pub record FirstChild (bytes : List ℕ) (cursors : List Cursor) (seg : List ℕ) (l n c : ℕ) : Type 0 where
  pub is : c ≡ first_child bytes cursors seg l n
  pub low : l ≤ c
  pub high : c ≤ l + 1
  pub inside : c < n
  pub least : (j : ℕ) → l ≤ j → j ≤ l + 1 → j < n → comes_before bytes cursors (get_or seg j 0) (get_or seg c 0) ≡ false

-- the first n are in order but for the one at i, which may belong further down
pub record Sinking (bytes : List ℕ) (cursors : List Cursor) (seg : List ℕ) (i n : ℕ) : Type 0 where
  pub others : (j : ℕ) → 0 < j → j < n → ((j - 1) / 2 ≡ i → ⊥) → comes_before bytes cursors (get_or seg j 0) (get_or seg ((j - 1) / 2) 0) ≡ false
  pub under : (j : ℕ) → 0 < j → j < n → (j - 1) / 2 ≡ i → 0 < i → comes_before bytes cursors (get_or seg j 0) (get_or seg ((i - 1) / 2) 0) ≡ false
