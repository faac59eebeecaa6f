-- How the heap begins. Assumes nothing.
use mathlib.Core.Path.{◌≡◌, sym, ap, ◌∙◌}
use mathlib.Core.Logic.{◌⊎◌, inl, inr}
use mathlib.Core.List.{List}
use Prim.Native.Nat.{ℕ, ◌+◌, ◌-◌, ◌≤◌, ◌<◌, zero-le}
use native.Mathlib.Omega.{arith}
use lib.Dec.{eqb, ltb}
use lib.ListN.{length, get_or-eq_default}
use borrow.Author.Tests.{lt-ltb, le-ltb, eq-eqb, ne_eqb}
use Rattle.term_merger.specs.declared.Heap.{Heap}
use Rattle.term_merger.specs.declared.Cursor.{Cursor}
use Rattle.term_merger.specs.Order.{cursor_in, no_cursor}
use Rattle.term_merger.specs.Heap.{count, one, held, Ordered, Pushed}
use Rattle.term_merger.specs.Live.{left_of, Started}
use Rattle.lists.proofs.Numbers.{same?, le-lt}
use Rattle.term_merger.proofs.Heaps.{none-held}

pub record Begun (bytes : List ℕ) (cursors : List Cursor) (h : Heap) (s : ℕ) : Type 0 where
  pub top : s ≤ 256
  pub len : h.len ≤ s
  pub in_heap_order : Ordered bytes cursors h.seg h.len
  pub low : (x : ℕ) → x < s → count x (held h) ≡ one (ltb 0 (left_of cursors x))
  pub high : (x : ℕ) → s ≤ x → count x (held h) ≡ 0

pub begun_start : (bytes : List ℕ) (cursors : List Cursor) (h : Heap) → h.len ≡ 0 → Begun bytes cursors h 0
unfolding Ordered
begun_start bytes cursors h e =
    record {
      top = zero-le;
      len = omega arith;
      in_heap_order = λ j p l. absurd (omega arith);
      low = λ x l. absurd (omega arith);
      high = λ x l. none-held h x (omega arith);
    }

module _ {bytes : List ℕ} {cursors : List Cursor} {h : Heap} {s : ℕ} (g : Begun bytes cursors h s) (less : s < 256) where
  -- the segment has something left, and is pushed
  pub begun_push : {h' : Heap} → Pushed bytes cursors h s h' → 0 < left_of cursors s → Begun bytes cursors h' (s + 1)
  begun_push {h'} p k =
      record {
        top = omega arith;
        len = omega (arith, p.len, g.len);
        in_heap_order = p.in_heap_order;
        low = λ x l. low x l (same? x s);
        high = λ x l. let a : one (eqb x s) ≡ 0 = ap one (ne_eqb x s (λ e. omega arith)) in omega (arith, p.holds x, g.high x (omega arith));
      }
    where
      low : (x : ℕ) → x < s + 1 → (x ≡ s) ⊎ (x ≡ s → ⊥) → count x (held h') ≡ one (ltb 0 (left_of cursors x))
      low x l (inl e) =
          let a : one (eqb x s) ≡ 1 = ap one (eq-eqb x s e) in
          let b : one (ltb 0 (left_of cursors x)) ≡ 1 = ap one (lt-ltb 0 (left_of cursors x) (omega (arith, ap (left_of cursors) e))) in
          omega (arith, p.holds x, g.high x (omega arith))
      low x l (inr d) =
          let a : one (eqb x s) ≡ 0 = ap one (ne_eqb x s d) in
          let m : x < s = omega arith in
          omega (arith, p.holds x, g.low x m)

  -- it has nothing left
  pub begun_pass : left_of cursors s ≡ 0 → Begun bytes cursors h (s + 1)
  begun_pass k =
      record { top = omega arith; len = omega (arith, g.len); in_heap_order = g.in_heap_order; low = λ x l. low x l (same? x s); high = λ x l. g.high x (omega arith) }
    where
      low : (x : ℕ) → x < s + 1 → (x ≡ s) ⊎ (x ≡ s → ⊥) → count x (held h) ≡ one (ltb 0 (left_of cursors x))
      low x l (inl e) =
          let b : one (ltb 0 (left_of cursors x)) ≡ 0 = ap one (le-ltb 0 (left_of cursors x) (omega (arith, ap (left_of cursors) e))) in
          omega (arith, g.high x (omega arith))
      low x l (inr d) = let m : x < s = omega arith in g.low x m

pub begun_end : (bytes : List ℕ) (cursors : List Cursor) (h : Heap) (s : ℕ) → Begun bytes cursors h s → 256 ≤ s → length cursors ≡ 256 → Started bytes cursors h
begun_end bytes cursors h s g k e = record { len = omega (arith, g.len, g.top); in_heap_order = g.in_heap_order; holds = λ x. go x (le-lt x s) }
  where
    go : (x : ℕ) → (x < s) ⊎ (s ≤ x) → count x (held h) ≡ one (ltb 0 (left_of cursors x))
    go x (inl l) = g.low x l
    go x (inr l) =
        let d : cursor_in cursors x ≡ no_cursor = get_or-eq_default cursors no_cursor (omega arith) in
        g.high x l ∙ sym (ap (λ (z : Cursor). one (ltb 0 (z.end - z.pos))) d)
