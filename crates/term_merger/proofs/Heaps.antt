-- What the heap's contracts say of the segments that it holds. Assumes nothing.
use mathlib.Core.Path.{◌≡◌, refl, sym, ap, ◌∙◌, subst}
use mathlib.Core.Bool.{Bool, true, false}
use mathlib.Core.List.{List, [], ◌∷◌}
use Prim.Native.Nat.{ℕ, zero, suc, ◌+◌, ◌-◌, ◌/◌, ◌≤◌, ◌<◌, zero-le, suc-le-suc}
use native.Mathlib.Nat.{le_of_suc-le-suc}
use native.Mathlib.Omega.{arith}
use lib.Dec.{eqb, ltb}
use lib.ListN.{length, get_or, set, take, length-take}
use lib.Seq.{get_or-set_other, get_or-take}
use borrow.Author.Tests.{eqb-true, eq-eqb, ltb-false}
use Rattle.term_merger.specs.declared.Heap.{Heap}
use Rattle.term_merger.specs.declared.Cursor.{Cursor}
use Rattle.term_merger.specs.Order.{cursor_in, no_cursor, key_of, tie_of, order_at, comes_before}
use Rattle.term_merger.specs.Heap.{count, one, held, Ordered, Sinking}
use Rattle.term_merger.proofs.Laws.{Le, AtMost, at-most-le, top_least}

-- ---- counts

count_index : (x : ℕ) (l : List ℕ) → 0 < count x l → (j : ℕ) × (j < length l) × (get_or l j 0 ≡ x)
unfolding count
count_index x [] h = absurd (omega arith)
count_index x (y ∷ ys) h = go (eqb x y) refl h (λ (k : 0 < count x ys). count_index x ys k)
  where
    go : (b : Bool) → eqb x y ≡ b → 0 < one b + count x ys → (0 < count x ys → (j : ℕ) × (j < length ys) × (get_or ys j 0 ≡ x)) → (j : ℕ) × (j < suc (length ys)) × (get_or {A = ℕ} (y ∷ ys) j 0 ≡ x)
    go true e k f = (0, suc-le-suc zero-le, sym (eqb-true x y e))
    go false e k f = let r = f (omega arith) in (suc r.0, suc-le-suc r.1, r.2)

count-zero : (x : ℕ) (l : List ℕ) → count x l ≡ 0 → (j : ℕ) → j < length l → get_or l j 0 ≡ x → ⊥
unfolding count
count-zero x [] h j l e = omega arith
count-zero x (y ∷ ys) h zero l e =
    let k : one (eqb x y) ≡ 1 = ap one (eq-eqb x y (sym e)) in
    omega arith
count-zero x (y ∷ ys) h (suc j) l e = count-zero x ys (omega arith) j (le_of_suc-le-suc l) e

pub one-pos : (b : Bool) → 0 < one b → b ≡ true
one-pos true h = refl
one-pos false h = absurd (omega arith)

-- an empty heap
pub none-held : (h : Heap) (x : ℕ) → h.len ≤ 0 → count x (held h) ≡ 0
unfolding count
none-held h x e = ap (λ (n : ℕ). count x (take n h.seg)) (let z : h.len ≡ 0 = omega arith in z)

pub none_left : (h : Heap) (x p n : ℕ) → h.len ≤ 0 → count x (held h) ≡ one (ltb p n) → n ≤ p
none_left h x p n e c = go (ltb p n) refl (sym c ∙ none-held h x e)
  where
    go : (b : Bool) → ltb p n ≡ b → one b ≡ 0 → n ≤ p
    go true q z = absurd (omega arith)
    go false q z = ltb-false p n q

-- ---- a change of one cursor

pub same-order : (bytes : List ℕ) (cursors : List Cursor) (s : ℕ) (r : Cursor) (a b : ℕ) → (a ≡ s → ⊥) → (b ≡ s → ⊥) → comes_before bytes (set cursors s r) a b ≡ comes_before bytes cursors a b
unfolding comes_before order_at key_of
same-order bytes cursors s r a b d e =
    let f : cursor_in (set cursors s r) a ≡ cursor_in cursors a = get_or-set_other cursors s a r no_cursor d in
    let g : cursor_in (set cursors s r) b ≡ cursor_in cursors b = get_or-set_other cursors s b r no_cursor e in
    rw (f, g)

-- a number that is held once, at the top, stands at no other place
top_once : (seg : List ℕ) (n k : ℕ) → n ≤ length seg → count (get_or seg 0 0) (take n seg) ≡ 1 → 0 < k → k < n → get_or seg k 0 ≡ get_or seg 0 0 → ⊥
unfolding count
top_once [] n k h c p l e = omega arith
top_once (x ∷ xs) zero k h c p l e = omega arith
top_once (x ∷ xs) (suc n) zero h c p l e = omega arith
top_once (x ∷ xs) (suc n) (suc k) h c p l e =
    let o : one (eqb x x) ≡ 1 = ap one (eq-eqb x x refl) in
    count-zero x (take n xs) (omega arith) k (rw (length-take n xs) (omega arith)) (get_or-take n xs k 0 (le_of_suc-le-suc l) ∙ e)

-- the top's cursor goes on: the others are in order
pub sinking_cursors : (bytes : List ℕ) (cursors : List Cursor) (r : Cursor) (seg : List ℕ) (n : ℕ) → n ≤ length seg → count (get_or seg 0 0) (take n seg) ≡ 1 → Ordered bytes cursors seg n → Sinking bytes (set cursors (get_or seg 0 0) r) seg 0 n
unfolding Ordered
sinking_cursors bytes cursors r seg n h c o =
    record {
      others = λ j p l d.
          same-order bytes cursors (get_or seg 0 0) r (get_or seg j 0) (get_or seg ((j - 1) / 2) 0) (top_once seg n j h c p l) (top_once seg n ((j - 1) / 2) h c (let z : 0 < (j - 1) / 2 = omega arith in z) (omega arith))
          ∙ o j p l;
      under = λ j p l e q. absurd (omega arith);
    }

-- ---- the least

-- a segment that is held has a place, and what has a place is held
pub held_index : (h : Heap) (y : ℕ) → 0 < count y (held h) → (j : ℕ) × (j < h.len) × (get_or h.seg j 0 ≡ y)
held_index h y c =
    let at = count_index y (held h) c in
    let inside : at.0 < h.len = omega (arith, at.1, length-take h.len h.seg) in
    (at.0, inside, sym (get_or-take h.len h.seg at.0 0 inside) ∙ at.2)

pub place-held : (h : Heap) (j : ℕ) → j < h.len → h.len ≤ length h.seg → 0 < count (get_or h.seg j 0) (held h)
place-held h j l k = go (count (get_or h.seg j 0) (held h)) refl
  where
    go : (n : ℕ) → count (get_or h.seg j 0) (held h) ≡ n → 0 < n
    go zero e = absurd (count-zero (get_or h.seg j 0) (held h) e j (rw (length-take h.len h.seg) (omega arith)) (get_or-take h.len h.seg j 0 l))
    go (suc n) e = suc-le-suc zero-le

pub top-le : (bytes : List ℕ) (cursors : List Cursor) (h : Heap) (y : ℕ) → Ordered bytes cursors h.seg h.len → 0 < count y (held h)
    → Le (key_of bytes cursors (get_or h.seg 0 0)) (tie_of cursors (get_or h.seg 0 0)) (key_of bytes cursors y) (tie_of cursors y)
top-le bytes cursors h y o c =
    let at = held_index h y c in
    at-most-le bytes cursors (get_or h.seg 0 0) y (subst (λ (z : ℕ). AtMost bytes cursors (get_or h.seg 0 0) z) at.2 (top_least bytes cursors h.seg h.len at.0 o at.1))
