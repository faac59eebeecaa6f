-- The placed segments: their cursors, their keys, and what the heap's order says of these. Assumes nothing.
use Prim.Native.Nat.{ℕ, zero, suc, ◌-◌, ◌≤◌, ◌<◌, zero-le, suc-le-suc}
use native.Mathlib.Nat.{not-suc-le-zero}
use native.Mathlib.Omega.{arith}
use mathlib.Core.Path.{◌≡◌, refl, sym, ap, ◌∙◌, subst}
use mathlib.Core.Logic.{◌⊎◌, inl, inr}
use mathlib.Core.List.{List, [], ◌∷◌, map}
use lib.ListN.{length, get_or, get_or-eq_default}
use lib.Dec.{T, eqb, ltb}
use borrow.Author.Tests.{lt-ltb, le-ltb, ltb-true, eqb-true}
use mathlib.Core.Bool.{Bool, true, false, cond, false≢true}
use Rattle.definitions.specs.Lists.{not_falling}
use Rattle.definitions.specs.Segment.{Segment, address as at}
use Rattle.definitions.specs.Join.{absent}
use Rattle.definitions.specs.TimeOrder.{time_of, key_of}
use Rattle.definitions.proofs.Terms.{Before, lower, behind, before-some}
use Rattle.column_index.specs.Lookup.{Sound}
use Rattle.column_index.proofs.Sound.{earlier_of}
use Rattle.stands.specs.declared.Stand.{Stand}
use Rattle.stands.specs.Stand.{table, stand_at}
use Rattle.stands.specs.Look.{ids_at}
use Rattle.stands.proofs.Fill.{table-length, table_at}
use Rattle.term_order.specs.Key.{rest_of, keyed, Inside}
use Rattle.term_merger.specs.declared.Cursor.{Cursor}
use Rattle.term_merger.specs.Order.{cursor_in, tie_of}
use Rattle.term_merger.specs.Order as heap
use Rattle.term_merger.proofs.Laws.{Le}
use Rattle.time_cursors.specs.Cursors.{last_key, times_before, key_cursor, cursor_at, segment_in, Timed}
use Rattle.time_cursors.proofs.Laws.{times_earlier, times-kind}
use Rattle.time_cursors.proofs.Keys.{none-several, key_earlier, key_grows}
use Rattle.time_merge.specs.Order.{placed, placed_segments, Ready, Rising}
use Rattle.time_merge.specs.Runs.{within, bound_at}
use Rattle.lists.proofs.Numbers.{le-lt}

-- ---- the cursor's fields

key-pos : (key n rows k : ℕ) → (key_cursor key n rows k).pos ≡ n
unfolding key_cursor
key-pos zero n rows k = refl
key-pos (suc t) n rows k = refl

key-end : (key n rows k : ℕ) → (key_cursor key n rows k).end ≡ rows
unfolding key_cursor
key-end zero n rows k = refl
key-end (suc t) n rows k = refl

key-to : (key n rows k : ℕ) → (key_cursor key n rows k).to ≡ k
unfolding key_cursor
key-to zero n rows k = refl
key-to (suc t) n rows k = refl

key-inside : (bytes : List ℕ) (key n rows k : ℕ) → Inside bytes (key_cursor key n rows k).key
unfolding key_cursor
key-inside bytes zero n rows k = record { low = zero-le; high = zero-le }
key-inside bytes (suc t) n rows k = record { low = zero-le; high = zero-le }

-- the key that a cursor has, where a row is left, and how many times stand up to the row's end
abbrev pub times_to : Segment → ℕ → ℕ
times_to s n = times_before s.kind s.ids (suc n)

abbrev pub key_at : Segment → ℕ → ℕ
key_at s n = last_key s.values (times_to s n)

module _ (s : Segment) (n : ℕ) where
  pub cursor-left : n < s.rows → cursor_at s n ≡ key_cursor (key_at s n) n s.rows (times_to s n)
  unfolding cursor_at
  cursor-left h = rw (lt-ltb n s.rows h)

  pub cursor-over : s.rows ≤ n → cursor_at s n ≡ key_cursor 0 s.rows s.rows 0
  unfolding cursor_at
  cursor-over h = rw (le-ltb n s.rows h)

  pub at-pos : n ≤ s.rows → (cursor_at s n).pos ≡ n
  at-pos l = go (le-lt n s.rows)
    where
      go : (n < s.rows) ⊎ (s.rows ≤ n) → (cursor_at s n).pos ≡ n
      go (inl h) = ap (λ (r : Cursor). r.pos) (cursor-left h) ∙ key-pos (key_at s n) n s.rows (times_to s n)
      go (inr h) = ap (λ (r : Cursor). r.pos) (cursor-over h) ∙ key-pos 0 s.rows s.rows 0 ∙ (let e : s.rows ≡ n = omega arith in e)

  pub at-end : (cursor_at s n).end ≡ s.rows
  at-end = go (le-lt n s.rows)
    where
      go : (n < s.rows) ⊎ (s.rows ≤ n) → (cursor_at s n).end ≡ s.rows
      go (inl h) = ap (λ (r : Cursor). r.end) (cursor-left h) ∙ key-end (key_at s n) n s.rows (times_to s n)
      go (inr h) = ap (λ (r : Cursor). r.end) (cursor-over h) ∙ key-end 0 s.rows s.rows 0

  pub at-to : n < s.rows → (cursor_at s n).to ≡ times_to s n
  at-to h = ap (λ (r : Cursor). r.to) (cursor-left h) ∙ key-to (key_at s n) n s.rows (times_to s n)

  pub cursor-inside : (bytes : List ℕ) → Inside bytes (cursor_at s n).key
  cursor-inside bytes = go (le-lt n s.rows)
    where
      go : (n < s.rows) ⊎ (s.rows ≤ n) → Inside bytes (cursor_at s n).key
      go (inl h) = subst (λ (r : Cursor). Inside bytes r.key) (sym (cursor-left h)) (key-inside bytes (key_at s n) n s.rows (times_to s n))
      go (inr h) = subst (λ (r : Cursor). Inside bytes r.key) (sym (cursor-over h)) (key-inside bytes 0 s.rows s.rows 0)

-- ---- the heap's order is that of the keys, then of the segments' numbers

before_nil : (u : List ℕ) → Before u [] → ⊥
before_nil u b = not-suc-le-zero (before-some u [] b)

before_head : (x y : ℕ) (xs ys : List ℕ) → Before (x ∷ xs) (y ∷ ys) → (x < y) ⊎ ((x ≡ y) × Before xs ys)
before_head x y xs ys (lower h) = inl h
before_head x y xs ys (behind h) = inr (refl, h)

-- a list comes not before itself
before_self : (x : ℕ) → Before (x ∷ []) (x ∷ []) → ⊥
before_self x b = go (before_head x x [] [] b)
  where
    go : (x < x) ⊎ ((x ≡ x) × Before [] []) → ⊥
    go (inl h) = omega arith
    go (inr (e, b)) = before_nil [] b

-- segments' numbers decide where nothing else does
tie_number : (x y : ℕ) → Before (0 ∷ x ∷ []) (0 ∷ y ∷ []) ⊎ (◌≡◌ {A = List ℕ} (0 ∷ x ∷ []) (0 ∷ y ∷ [])) → x ≤ y
tie_number x y (inl b) = go (before_head 0 0 (x ∷ []) (y ∷ []) b)
  where
    last : (x < y) ⊎ ((x ≡ y) × Before [] []) → x ≤ y
    last (inl h) = omega arith
    last (inr (e, b)) = absurd (before_nil [] b)

    go : (0 < 0) ⊎ ((◌≡◌ {A = ℕ} 0 0) × Before (x ∷ []) (y ∷ [])) → x ≤ y
    go (inl h) = absurd (omega arith)
    go (inr (e, b)) = last (before_head x y [] [] b)
tie_number x y (inr e) = let g : x ≡ y = ap (λ (l : List ℕ). get_or l 1 0) e in omega arith

-- two words and the empty term
words-order : (a b t u : ℕ) → Before (a ∷ t ∷ 0 ∷ []) (b ∷ u ∷ 0 ∷ []) → (a < b) ⊎ ((a ≡ b) × (t < u))
words-order a b t u h = go (before_head a b (t ∷ 0 ∷ []) (u ∷ 0 ∷ []) h)
  where
    second : (t < u) ⊎ ((t ≡ u) × Before (0 ∷ []) (0 ∷ [])) → t < u
    second (inl k) = k
    second (inr (e, b)) = absurd (before_self 0 b)

    go : (a < b) ⊎ ((a ≡ b) × Before (t ∷ 0 ∷ []) (u ∷ 0 ∷ [])) → (a < b) ⊎ ((a ≡ b) × (t < u))
    go (inl k) = inl k
    go (inr (e, b)) = inr (e, second (before_head t u (0 ∷ []) (0 ∷ []) b))

-- what a cursor is compared by
abbrev compared : List ℕ → Cursor → List ℕ
compared bytes r = keyed bytes r.key

key-order : (bytes : List ℕ) (k l x y n m : ℕ) (p q i j : ℕ)
    → Le (compared bytes (key_cursor k n p i)) ((key_cursor k n p i).unmarked ∷ x ∷ []) (compared bytes (key_cursor l m q j)) ((key_cursor l m q j).unmarked ∷ y ∷ []) → (k < l) ⊎ ((k ≡ l) × (x ≤ y))
unfolding key_cursor keyed rest_of
key-order bytes zero zero x y n m p q i j (inl b) = absurd (go (words-order 0 0 0 0 b))
  where
    go : (0 < 0) ⊎ ((◌≡◌ {A = ℕ} 0 0) × (0 < 0)) → ⊥
    go (inl h) = omega arith
    go (inr (e, h)) = omega arith
key-order bytes zero zero x y n m p q i j (inr (e, t)) = inr (refl, tie_number x y t)
key-order bytes zero (suc u) x y n m p q i j h = inl (suc-le-suc zero-le)
key-order bytes (suc t) zero x y n m p q i j (inl b) = absurd (go (words-order 1 0 t 0 b))
  where
    go : (1 < 0) ⊎ ((◌≡◌ {A = ℕ} 1 0) × (t < 0)) → ⊥
    go (inl h) = omega arith
    go (inr (e, h)) = omega arith
key-order bytes (suc t) zero x y n m p q i j (inr (e, b)) = absurd (let z : ◌≡◌ {A = ℕ} 1 0 = ap (λ (r : List ℕ). get_or r 0 0) e in omega arith)
key-order bytes (suc t) (suc u) x y n m p q i j (inl b) = inl (go (words-order 1 1 t u b))
  where
    go : (1 < 1) ⊎ ((◌≡◌ {A = ℕ} 1 1) × (t < u)) → suc t < suc u
    go (inl h) = absurd (omega arith)
    go (inr (e, h)) = suc-le-suc h
key-order bytes (suc t) (suc u) x y n m p q i j (inr (e, b)) = inr (ap suc (ap (λ (r : List ℕ). get_or r 1 0) e), tie_number x y b)

pub cursors_order : (bytes : List ℕ) (cursors : List Cursor) (s y : ℕ) (k l n m p q i j : ℕ) → cursor_in cursors s ≡ key_cursor k n p i → cursor_in cursors y ≡ key_cursor l m q j
    → Le (heap.key_of bytes cursors s) (tie_of cursors s) (heap.key_of bytes cursors y) (tie_of cursors y) → (k < l) ⊎ ((k ≡ l) × (s ≤ y))
unfolding heap.key_of
cursors_order bytes cursors s y k l n m p q i j e f h =
    key-order bytes k l s y n m p q i j
    (subst (λ (r : Cursor). Le (compared bytes (key_cursor k n p i)) ((key_cursor k n p i).unmarked ∷ s ∷ []) (compared bytes r) (r.unmarked ∷ y ∷ [])) f
    (subst (λ (r : Cursor). Le (compared bytes r) (r.unmarked ∷ s ∷ []) (compared bytes (cursor_in cursors y)) ((cursor_in cursors y).unmarked ∷ y ∷ [])) e h))

-- a time that comes within the bound of a cursor comes before its key
pub within-key : (cursors : List Cursor) (s c k n p i w : ℕ) → cursor_in cursors c ≡ key_cursor k n p i → within (bound_at cursors s c) w ≡ true
    → (suc (time_of w) < k) ⊎ ((suc (time_of w) ≡ k) × (s < c))
unfolding key_cursor within
within-key cursors s c zero n p i w e h = absurd (false≢true (ap (λ (r : Cursor). cond (eqb r.key.first 0) false (cond (eqb (time_of w) r.key.second) (ltb s c) (ltb (time_of w) r.key.second))) (sym e) ∙ h))
within-key cursors s c (suc t) n p i w e h =
    go (eqb (time_of w) t) refl (ap (λ (r : Cursor). cond (eqb r.key.first 0) false (cond (eqb (time_of w) r.key.second) (ltb s c) (ltb (time_of w) r.key.second))) (sym e) ∙ h)
  where
    go : (b : Bool) → eqb (time_of w) t ≡ b → cond b (ltb s c) (ltb (time_of w) t) ≡ true → (suc (time_of w) < suc t) ⊎ ((suc (time_of w) ≡ suc t) × (s < c))
    go true f h = inr (ap suc (eqb-true (time_of w) t f), ltb-true s c h)
    go false f h = inl (suc-le-suc (ltb-true (time_of w) t h))

-- ---- the segments and their keys

-- what a segment of times that has passed the checks is
record Keyed (s : Segment) : Type 0 where
  sound : Sound s.kind s.rows (length s.values) s.ids s.offsets
  single : (r : ℕ) → r < s.rows → earlier_of s.kind s.ids s.offsets (suc r) - earlier_of s.kind s.ids s.offsets r ≤ 1
  times : (n : ℕ) → earlier_of s.kind s.ids s.offsets n ≡ times_before s.kind s.ids n
  rising : T (not_falling (map time_of s.values))

module _ {stands : List (List ℕ)} {ids values alive : List ℕ} (y : Ready stands ids values alive) where
  pub segment-there : (x : ℕ) → x < length stands → get_or (placed_segments stands ids values alive) x absent ≡ placed stands ids values alive x
  unfolding placed_segments
  segment-there x h = table_at (placed stands ids values alive) absent (length stands) x h

  pub segment-none : (x : ℕ) → length stands ≤ x → get_or (placed_segments stands ids values alive) x absent ≡ absent
  unfolding placed_segments
  segment-none x h =
      let l : length (table (placed stands ids values alive) (length stands)) ≤ x = omega (arith, table-length (placed stands ids values alive) (length stands)) in
      get_or-eq_default (table (placed stands ids values alive) (length stands)) absent l

  pub timed-at : {x : ℕ} {p : Stand} → p ≡ stand_at stands x → x < length stands → Timed p ids values alive
  timed-at {x = x} e h = subst (λ (q : Stand). Timed q ids values alive) (sym e) (y.timed x h)

  pub there : (x : ℕ) → 0 < (get_or (placed_segments stands ids values alive) x absent).rows → x < length stands
  there x h = go (le-lt x (length stands))
    where
      go : (x < length stands) ⊎ (length stands ≤ x) → x < length stands
      go (inl k) = k
      go (inr k) = absurd (let e : (get_or (placed_segments stands ids values alive) x absent).rows ≡ 0 = ap (λ (s : Segment). s.rows) (segment-none x k) in omega arith)

  module _ {out : List (List ℕ)} (z : Rising stands ids values alive out) where
    keyed-stand : (x : ℕ) → x < length stands → Keyed (placed stands ids values alive x)
    unfolding segment_in
    keyed-stand x h =
        let p = stand_at stands x in
        record {
          sound = (y.timed x h).times.sound;
          single = none-several (y.timed x h).times.sound;
          times = λ n. times_earlier p.kind (ids_at p ids) n ∙ sym (times-kind p.kind (ids_at p ids) n);
          rising = z.rising x h;
        }

    keyed-at : (x : ℕ) → x < length stands → Keyed (get_or (placed_segments stands ids values alive) x absent)
    keyed-at x h = subst Keyed (sym (segment-there x h)) (keyed-stand x h)

    -- the key in the cursor is the definitions'
    pub key-is : (x n : ℕ) → n < (get_or (placed_segments stands ids values alive) x absent).rows
        → key_at (get_or (placed_segments stands ids values alive) x absent) n ≡ key_of (placed_segments stands ids values alive) (at x n)
    unfolding key_of
    key-is x n h =
        let s = get_or (placed_segments stands ids values alive) x absent in
        let k = keyed-at x (there x (omega arith)) in
        ap (last_key s.values) (sym (k.times (suc n))) ∙ sym (key_earlier s k.sound k.single (suc n) h)

    pub keys_grow : (x n m : ℕ) → n ≤ m → m < (get_or (placed_segments stands ids values alive) x absent).rows
        → key_of (placed_segments stands ids values alive) (at x n) ≤ key_of (placed_segments stands ids values alive) (at x m)
    unfolding key_of
    keys_grow x n m h l =
        let s = get_or (placed_segments stands ids values alive) x absent in
        let k = keyed-at x (there x (omega arith)) in
        key_grows s k.sound k.single k.rising (suc n) (suc m) (suc-le-suc h) l
