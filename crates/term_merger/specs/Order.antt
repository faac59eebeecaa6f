-- The order of segments in the heap. Assumes nothing.
use Prim.Native.Nat.{ℕ, ◌<◌, Ordering}
use Rattle.std.specs.Prelude.{Bool, List, [], ◌∷◌, get_or}
use Rattle.definitions.specs.Lists.{compare_bytes, and_then, is_below}
use Rattle.term_merger.specs.declared.Cursor.{Cursor}
use Rattle.term_order.specs.Key.{keyed, Inside}

-- ---- the cursors (the heap compares their keys as they are: the time order has its own key there, and empty terms)

-- past the last one: nothing is left of it
abbrev pub no_cursor : Cursor
no_cursor = record { key = record { from = 0; till = 0; first = 0; second = 0 }; unmarked = 0; pos = 0; end = 0; to = 0 }

-- a segment's
abbrev pub cursor_in : List Cursor → ℕ → Cursor
cursor_in cursors s = get_or cursors s no_cursor

-- what a segment is compared by
unfoldable pub key_of : List ℕ → List Cursor → ℕ → List ℕ
key_of bytes cursors s = keyed bytes (cursor_in cursors s).key

-- what decides between equal keys: marked ones first, then the segment's number
abbrev pub tie_of : List Cursor → ℕ → List ℕ
tie_of cursors s = (cursor_in cursors s).unmarked ∷ s ∷ []

unfoldable pub order_at : List ℕ → List Cursor → ℕ → ℕ → Ordering
order_at bytes cursors a b = and_then (compare_bytes (key_of bytes cursors a) (key_of bytes cursors b)) (compare_bytes (tie_of cursors a) (tie_of cursors b))

-- a comes before b
unfoldable pub comes_before : List ℕ → List Cursor → ℕ → ℕ → Bool
comes_before bytes cursors a b = is_below (order_at bytes cursors a b)

-- every cursor's current term lies in the term bytes
unfoldable pub TermsInside : List ℕ → List Cursor → Type 0
TermsInside bytes cursors = (s : ℕ) → s < 256 → Inside bytes (cursor_in cursors s).key
