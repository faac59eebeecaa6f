-- A walk by the heap: segment x is at P x, and its end is at N x; the heap holds those with something left. Assumes nothing.
use mathlib.Core.Path.{◌≡◌, sym, ap, ◌∙◌, subst}
use mathlib.Core.Logic.{◌⊎◌, inl, inr}
use mathlib.Core.List.{List}
use Prim.Native.Nat.{ℕ, zero, suc, ◌≤◌, ◌<◌, zero-le, suc-le-suc}
use native.Mathlib.Omega.{arith}
use lib.Dec.{eqb, ltb}
use lib.ListN.{length, get_or, set}
use borrow.Author.Tests.{lt-ltb, le-ltb, ltb-true, eq-eqb, ne_eqb}
use Rattle.lists.proofs.Numbers.{same?}
use Rattle.term_merger.specs.declared.Heap.{Heap}
use Rattle.term_merger.specs.declared.Cursor.{Cursor}
use Rattle.term_merger.specs.Order.{cursor_in, key_of, tie_of}
use Rattle.term_merger.specs.Heap.{count, one, held, Ordered, FirstChild, Sinking}
use Rattle.term_merger.specs.Live.{Settled}
use Rattle.term_merger.proofs.Laws.{Le, AtMost, at-most-le, child_least}
use Rattle.term_merger.proofs.Heaps.{one-pos, none_left, sinking_cursors, held_index, place-held, top-le}

pub record Holding (bytes : List ℕ) (cursors : List Cursor) (P N : ℕ → ℕ) (h : Heap) : Type 0 where
  pub len : h.len ≤ 256
  pub full : length h.seg ≡ 256
  pub in_heap_order : Ordered bytes cursors h.seg h.len
  pub holds : (x : ℕ) → count x (held h) ≡ one (ltb (P x) (N x))

module _ {bytes : List ℕ} {cursors : List Cursor} {P N : ℕ → ℕ} {h : Heap} (g : Holding bytes cursors P N h) where
  some-held : (x : ℕ) → P x < N x → 0 < count x (held h)
  some-held x l = subst (λ (n : ℕ). 0 < n) (sym (g.holds x ∙ ap one (lt-ltb (P x) (N x) l))) (suc-le-suc zero-le)

  -- a segment with something left has a place, and none else has one
  place_of : (x : ℕ) → P x < N x → (j : ℕ) × (j < h.len) × (get_or h.seg j 0 ≡ x)
  place_of x l = held_index h x (some-held x l)

  pub left_at : (j : ℕ) → j < h.len → P (get_or h.seg j 0) < N (get_or h.seg j 0)
  left_at j l =
      let x = get_or h.seg j 0 in
      ltb-true (P x) (N x) (one-pos (ltb (P x) (N x)) (subst (λ (n : ℕ). 0 < n) (g.holds x) (place-held h j l (omega (arith, g.len, g.full)))))

  -- the heap is empty
  pub all-over : h.len ≤ 0 → (x : ℕ) → N x ≤ P x
  all-over e x = none_left h x (P x) (N x) e (g.holds x)

  -- segment s is the top
  module _ (some : 0 < h.len) {s : ℕ} (top : s ≡ get_or h.seg 0 0) where
    pub top_left : P s < N s
    top_left = subst (λ (x : ℕ). P x < N x) (sym top) (left_at 0 some)

    -- and the least of all that have something left
    pub top_least : (x : ℕ) → P x < N x → Le (key_of bytes cursors s) (tie_of cursors s) (key_of bytes cursors x) (tie_of cursors x)
    top_least x l = subst (λ (y : ℕ). Le (key_of bytes cursors y) (tie_of cursors y) (key_of bytes cursors x) (tie_of cursors x)) (sym top) (top-le bytes cursors h x g.in_heap_order (some-held x l))

    -- another one stands below it
    below : (x : ℕ) → P x < N x → (x ≡ s → ⊥) → (j : ℕ) × (0 < j) × (j < h.len) × (get_or h.seg j 0 ≡ x)
    below x l d = go (place_of x l)
      where
        go : (j : ℕ) × (j < h.len) × (get_or h.seg j 0 ≡ x) → (j : ℕ) × (0 < j) × (j < h.len) × (get_or h.seg j 0 ≡ x)
        go (zero, k, e) = absurd (d (sym e ∙ sym top))
        go (suc j, k, e) = (suc j, suc-le-suc zero-le, k, e)

    pub alone : h.len ≤ 1 → (x : ℕ) → P x < N x → (x ≡ s → ⊥) → ⊥
    alone e x l d = let p = below x l d in omega (arith, p.1, p.2)

    -- and of the others the first of its children is the least
    pub next-least : {c : ℕ} → FirstChild bytes cursors h.seg 1 h.len c → (x : ℕ) → P x < N x → (x ≡ s → ⊥)
        → Le (key_of bytes cursors (get_or h.seg c 0)) (tie_of cursors (get_or h.seg c 0)) (key_of bytes cursors x) (tie_of cursors x)
    next-least {c} f x l d =
        let p = below x l d in
        at-most-le bytes cursors (get_or h.seg c 0) x
        (subst (λ (y : ℕ). AtMost bytes cursors (get_or h.seg c 0) y) p.3 (child_least bytes cursors h.seg h.len c p.0 g.in_heap_order f p.1 p.2))

    -- its cursor goes on
    module _ (new : Cursor) where
      pub sinking_new : {cursors' : List Cursor} → cursors' ≡ set cursors s new → Sinking bytes cursors' h.seg 0 h.len
      sinking_new {cursors'} ce =
          let c : count (get_or h.seg 0 0) (held h) ≡ 1 = ap (λ (x : ℕ). count x (held h)) (sym top) ∙ g.holds s ∙ ap one (lt-ltb (P s) (N s) top_left) in
          subst (λ (z : List Cursor). Sinking bytes z h.seg 0 h.len) (sym (ce ∙ ap (λ (x : ℕ). set cursors x new) top))
          (sinking_cursors bytes cursors new h.seg h.len (omega (arith, g.len, g.full)) c g.in_heap_order)

      module _ (P' : ℕ → ℕ) (there : (x : ℕ) → (x ≡ s → ⊥) → P' x ≡ P x)
          (more : (cursor_in (set cursors s new) s).pos < (cursor_in (set cursors s new) s).end → P' s < N s) (none : (cursor_in (set cursors s new) s).end ≤ (cursor_in (set cursors s new) s).pos → N s ≤ P' s) where
        elsewhere : (x : ℕ) → (x ≡ s → ⊥) → count x (held h) ≡ one (ltb (P' x) (N x))
        elsewhere x d = g.holds x ∙ ap (λ (n : ℕ). one (ltb n (N x))) (sym (there x d))

        -- the heap is settled
        pub holding_new : {seg : List ℕ} {n : ℕ} → Settled bytes (set cursors s new) h.seg h.len seg n → Holding bytes (set cursors s new) P' N (record { seg = seg; len = n })
        holding_new {seg} {n} (inl t) =
            record { len = omega (arith, t.size, g.len); full = t.long; in_heap_order = t.in_heap_order; holds = λ x. t.holds x ∙ at x (same? x s) }
          where
            left : P' s < N s
            left = more (subst (λ (x : ℕ). (cursor_in (set cursors s new) x).pos < (cursor_in (set cursors s new) x).end) (sym top) t.left)

            at : (x : ℕ) → (x ≡ s) ⊎ (x ≡ s → ⊥) → count x (held h) ≡ one (ltb (P' x) (N x))
            at x (inl e) =
                subst (λ (y : ℕ). count y (held h) ≡ one (ltb (P' y) (N y))) (sym e)
                (g.holds s ∙ ap one (lt-ltb (P s) (N s) top_left) ∙ sym (ap one (lt-ltb (P' s) (N s) left)))
            at x (inr d) = elsewhere x d
        holding_new {seg} {n} (inr t) =
            record { len = omega (arith, t.size, g.len); full = t.long; in_heap_order = t.in_heap_order; holds = λ x. at x (same? x s) }
          where
            gone : N s ≤ P' s
            gone = none (subst (λ (x : ℕ). (cursor_in (set cursors s new) x).end ≤ (cursor_in (set cursors s new) x).pos) (sym top) t.left)

            at : (x : ℕ) → (x ≡ s) ⊎ (x ≡ s → ⊥) → count x (held (record { seg = seg; len = n })) ≡ one (ltb (P' x) (N x))
            at x (inl e) =
                let a : one (eqb x (get_or h.seg 0 0)) ≡ 1 = ap one (eq-eqb x (get_or h.seg 0 0) (e ∙ top)) in
                let b : one (ltb (P x) (N x)) ≡ 1 = ap (λ (y : ℕ). one (ltb (P y) (N y))) e ∙ ap one (lt-ltb (P s) (N s) top_left) in
                let c : one (ltb (P' x) (N x)) ≡ 0 = ap (λ (y : ℕ). one (ltb (P' y) (N y))) e ∙ ap one (le-ltb (P' s) (N s) gone) in
                omega (arith, t.holds x, g.holds x)
            at x (inr d) =
                let a : one (eqb x (get_or h.seg 0 0)) ≡ 0 = ap one (ne_eqb x (get_or h.seg 0 0) (λ e. d (e ∙ sym top))) in
                omega (arith, t.holds x, elsewhere x d)
