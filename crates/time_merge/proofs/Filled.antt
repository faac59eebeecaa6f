-- A turn of the loop that fills the first cursors. Assumes nothing.
use Prim.Native.Nat.{ℕ, ◌+◌, ◌≤◌, ◌<◌, zero-le}
use native.Mathlib.Omega.{arith}
use mathlib.Core.Path.{◌≡◌, refl, sym, ap, ◌∙◌}
use mathlib.Core.Logic.{◌⊎◌, inl, inr}
use mathlib.Core.List.{List}
use lib.ListN.{length, get_or, set, replicate, length-set, get_or-replicate}
use lib.Seq.{get_or-set_same, get_or-set_other}
use Rattle.definitions.specs.Segment.{Segment}
use Rattle.definitions.specs.Join.{absent}
use Rattle.stands.specs.declared.Stand.{Stand}
use Rattle.stands.specs.Stand.{stand_at}
use Rattle.stands.specs.Look.{ids_at}
use Rattle.term_merger.specs.declared.Cursor.{Cursor}
use Rattle.term_merger.specs.Order.{cursor_in, no_cursor}
use Rattle.time_cursors.specs.Cursors.{key_cursor, cursor_at, next_row, first_from, segment_in, Left}
use Rattle.time_cursors.proofs.Laws.{times_zero}
use Rattle.time_merge.specs.Order.{placed, placed_segments, Ready, Begins}
use Rattle.time_merge.proofs.Keyed.{segment-there, segment-none}
use Rattle.lists.proofs.Numbers.{same?, le-lt}
use lib.Arith.{lt_of_le-ne}

-- the first s cursors are filled
pub record Filled (stands : List (List ℕ)) (ids values alive : List ℕ) (cursors : List Cursor) (s : ℕ) : Type 0 where
  pub size : length cursors ≡ 256
  pub cursor : (x : ℕ) → x < s → cursor_in cursors x ≡ first_from (placed stands ids values alive x) 0
  pub blank : (x : ℕ) → s ≤ x → x < 256 → cursor_in cursors x ≡ no_cursor

absent-cursor : no_cursor ≡ first_from absent 0
unfolding first_from cursor_at key_cursor next_row
absent-cursor = refl

pub all_left : (p : Stand) (ids : List ℕ) → Left p ids 0 0
all_left p ids = record { row = zero-le; times = times_zero p.kind (ids_at p ids) }

module _ {stands : List (List ℕ)} {ids values alive : List ℕ} (y : Ready stands ids values alive) where
  pub filled_start : (cursors : List Cursor) → cursors ≡ replicate 256 no_cursor → Filled stands ids values alive cursors 0
  filled_start cursors e =
      record {
        size = ap length e;
        cursor = λ x h. absurd (omega arith);
        blank = λ x h l. ap (λ (r : List Cursor). cursor_in r x) e ∙ get_or-replicate 256 x no_cursor no_cursor l;
      }

  module _ {cursors : List Cursor} {s : ℕ} (g : Filled stands ids values alive cursors s) where
    pub filled_more : s < length stands → {p : Stand} → p ≡ stand_at stands s → (new : Cursor) → new ≡ first_from (segment_in p ids values alive) 0 → Filled stands ids values alive (set cursors s new) (s + 1)
    filled_more h is new e =
        record {
          size = length-set cursors s new ∙ g.size;
          cursor = λ x l. go x l (same? x s);
          blank = λ x l m. get_or-set_other cursors s x new no_cursor (λ q. omega arith) ∙ g.blank x (omega arith) m;
        }
      where
        go : (x : ℕ) → x < s + 1 → (x ≡ s) ⊎ (x ≡ s → ⊥) → cursor_in (set cursors s new) x ≡ first_from (placed stands ids values alive x) 0
        go x l (inl q) =
            ap (λ (n : ℕ). cursor_in (set cursors s new) n) q
            ∙ get_or-set_same cursors s new no_cursor (omega (arith, g.size, y.few))
            ∙ e
            ∙ ap (λ (r : Stand). first_from (segment_in r ids values alive) 0) (is ∙ ap (stand_at stands) (sym q))
        go x l (inr d) = get_or-set_other cursors s x new no_cursor d ∙ g.cursor x (lt_of_le-ne (let q : x ≤ s = omega arith in q) d)

    pub filled-end : length stands ≤ s → s ≤ length stands → Begins (placed_segments stands ids values alive) cursors
    filled-end h l = record { size = g.size; cursor = λ x k. go x k (le-lt x (length stands)) }
      where
        go : (x : ℕ) → x < 256 → (x < length stands) ⊎ (length stands ≤ x) → cursor_in cursors x ≡ first_from (get_or (placed_segments stands ids values alive) x absent) 0
        go x k (inl m) = g.cursor x (omega arith) ∙ ap (λ (s : Segment). first_from s 0) (sym (segment-there y x m))
        go x k (inr m) = g.blank x (omega arith) k ∙ absent-cursor ∙ ap (λ (s : Segment). first_from s 0) (sym (segment-none y x m))
