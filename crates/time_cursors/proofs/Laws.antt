-- The laws of the parts of a row: the search for an alive row, the ids and values up to it, and its cursor. Assumes nothing.
use Prim.Native.Nat.{ℕ, zero, suc, ◌+◌, ◌-◌, ◌≤◌, ◌<◌, zero-le, suc-le-suc}
use native.Mathlib.Nat.{le_of_suc-le-suc, le_refl, le_trans, le-suc}
use native.Mathlib.Numerals.{add-one}
use native.Mathlib.Omega.{arith}
use mathlib.Core.Path.{◌≡◌, refl, sym, ap, ap₂, ◌∙◌}
use mathlib.Core.List.{List, [], ◌∷◌}
use mathlib.Core.Bool.{Bool, true, false, cond, true≢false}
use lib.ListN.{length, get_or}
use lib.Dec.{T, eqb, ltb}
use borrow.Author.Tests.{eq-eqb, ne_eqb, ltb-true, ltb-false}
use Rattle.definitions.specs.Lists.{ascending}
use Rattle.segment.specs.Kind.{by_index}
use Rattle.definitions.specs.Row.{rank, bit_at}
use Rattle.definitions.specs.TimeOrder.{time_of}
use Rattle.column_index.specs.Lookup.{rank_in}
use Rattle.column_index.proofs.Laws.{counted, below-rank}
use Rattle.column_index.proofs.Sound.{earlier_of}
use Rattle.time_cursors.specs.Cursors.{seek, alive_bit, next_row, times_before, last_key, key_cursor, time_kind}
use lib.Arith.{lt_of_le-ne}
use Rattle.definitions.proofs.Decode.{rank-zero as none_below}
use Rattle.definitions.proofs.Ranks.{asc-sorted}

-- ---- the search

pub seek-low : (p : ℕ → Bool) (n m : ℕ) → n ≤ seek p n m
seek-low p n zero = le_refl n
seek-low p n (suc m) = go (p n) (seek-low p (suc n) m)
  where
    go : (b : Bool) → suc n ≤ seek p (suc n) m → n ≤ cond b n (seek p (suc n) m)
    go true h = le_refl n
    go false h = omega arith

pub seek-high : (p : ℕ → Bool) (n m : ℕ) → seek p n m ≤ n + m
seek-high p n zero = omega arith
seek-high p n (suc m) = go (p n) (seek-high p (suc n) m)
  where
    go : (b : Bool) → seek p (suc n) m ≤ suc n + m → cond b n (seek p (suc n) m) ≤ n + suc m
    go true h = omega arith
    go false h = omega arith

pub seek_found : (p : ℕ → Bool) (n m : ℕ) → seek p n m < n + m → p (seek p n m) ≡ true
seek_found p n zero h = absurd (omega arith)
seek_found p n (suc m) h = go (p n) refl h (λ k. seek_found p (suc n) m k)
  where
    go : (b : Bool) → p n ≡ b → cond b n (seek p (suc n) m) < n + suc m → (seek p (suc n) m < suc n + m → p (seek p (suc n) m) ≡ true) → p (cond b n (seek p (suc n) m)) ≡ true
    go true e h f = e
    go false e h f = f (omega arith)

-- nothing before it passes
pub seek-first : (p : ℕ → Bool) (n m r : ℕ) → n ≤ r → r < n + m → p r ≡ true → seek p n m ≤ r
seek-first p n zero r h l e = absurd (omega arith)
seek-first p n (suc m) r h l e = go (p n) refl (λ k. seek-first p (suc n) m r k (omega arith) e)
  where
    differs : p n ≡ false → n ≡ r → ⊥
    differs q k = true≢false (sym e ∙ ap p (sym k) ∙ q)

    go : (b : Bool) → p n ≡ b → (suc n ≤ r → seek p (suc n) m ≤ r) → cond b n (seek p (suc n) m) ≤ r
    go true q f = h
    go false q f = f (lt_of_le-ne h (differs q))

-- ---- the loop over the alive bits

pub next-plain : (flag : ℕ) (alive : List ℕ) (rows from : ℕ) → (flag ≡ 1 → ⊥) → from ≡ next_row flag alive rows from
unfolding next_row
next-plain flag alive rows from d = go (rows - from)
  where
    go : (m : ℕ) → from ≡ seek (alive_bit flag alive) from m
    go zero = refl
    go (suc m) = rw (ne_eqb flag 1 d)

pub all_listed : (flag : ℕ) (alive : List ℕ) (n : ℕ) → (flag ≡ 1 → ⊥) → true ≡ alive_bit flag alive n
all_listed flag alive n d = rw (ne_eqb flag 1 d)

pub bit : (flag : ℕ) (alive : List ℕ) (n : ℕ) → flag ≡ 1 → alive_bit flag alive n ≡ bit_at alive n
bit flag alive n set = rw (eq-eqb flag 1 set)

module _ (flag : ℕ) (alive : List ℕ) (rows n : ℕ) (set : flag ≡ 1) where
  one_more : n < rows → next_row flag alive rows n ≡ cond (bit_at alive n) n (next_row flag alive rows (n + 1))
  unfolding next_row
  one_more h =
      let e : rows - n ≡ suc (rows - (n + 1)) = omega arith in
      ap (seek (alive_bit flag alive) n) e
      ∙ ap₂ (λ (b : Bool) (k : ℕ). cond b n (seek (alive_bit flag alive) k (rows - (n + 1)))) (bit flag alive n set) (sym (add-one n))

  pub next_here : n < rows → bit_at alive n ≡ true → n ≡ next_row flag alive rows n
  next_here h e = sym (one_more h ∙ rw e)

  pub next_later : n < rows → bit_at alive n ≡ false → next_row flag alive rows (n + 1) ≡ next_row flag alive rows n
  next_later h e = sym (one_more h ∙ rw e)

pub next-none : (flag : ℕ) (alive : List ℕ) (rows n : ℕ) → rows ≤ n → n ≡ next_row flag alive rows n
unfolding next_row
next-none flag alive rows n h = let e : rows - n ≡ 0 = omega arith in rw e

-- ---- ids

pub rank_grows : (x y : ℕ) (ids : List ℕ) → x ≤ y → rank_in x ids ≤ rank_in y ids
unfolding rank_in
rank_grows x y [] h = zero-le
rank_grows x y (i ∷ ids) h = go (ltb i x) refl (ltb i y) refl (rank_grows x y ids h)
  where
    go : (a : Bool) → ltb i x ≡ a → (b : Bool) → ltb i y ≡ b → rank x ids ≤ rank y ids → cond a (suc (rank x ids)) (rank x ids) ≤ cond b (suc (rank y ids)) (rank y ids)
    go true e true f k = suc-le-suc k
    go true e false f k = absurd (let p = ltb-true i x e in let q = ltb-false i y f in omega arith)
    go false e true f k = le_trans k (le-suc (rank y ids))
    go false e false f k = k

module _ (ids : List ℕ) (row : ℕ) (asc : T (ascending ids)) where
  -- the first n ids are at most the row
  pub ids_start : (k : ℕ) → k ≤ rank_in (suc row) ids → (j : ℕ) → j < k → get_or ids j 0 ≤ row
  unfolding rank_in
  ids_start k h j l = le_of_suc-le-suc (below-rank (suc row) ids asc j (omega arith))

  pub ids-here : (n : ℕ) → n < length ids → ((j : ℕ) → j < n → get_or ids j 0 ≤ row) → row < get_or ids n 0 → n ≡ rank_in (suc row) ids
  ids-here n h f l = counted (suc row) ids n (omega arith) (λ j k. suc-le-suc (f j k)) (λ j k m. le_trans l (asc-sorted ids asc n j k m))

  pub ids-end : (n : ℕ) → length ids ≤ n → n ≤ length ids → ((j : ℕ) → j < n → get_or ids j 0 ≤ row) → n ≡ rank_in (suc row) ids
  ids-end n h k f = counted (suc row) ids n k (λ j l. suc-le-suc (f j l)) (λ j l m. absurd (omega arith))

-- ---- times

module _ (kind : ℕ) (ids : List ℕ) (row : ℕ) where
  pub times_none : kind ≡ 0 → 0 ≡ times_before kind ids (suc row)
  unfolding times_before
  times_none e = rw e

  pub times-full : kind ≡ 1 → row + 1 ≡ times_before kind ids (suc row)
  unfolding times_before
  times-full e = rw e (add-one row)

-- a column of times has no offsets: what is said of kind 2 is said of all above it
pub by_time_kind : {A : Type 0} (kind : ℕ) (a b c d : A) → by_index (time_kind kind) a b c d ≡ by_index kind a b c c
by_time_kind kind a b c d = go (eqb kind 0) (eqb kind 1) (eqb kind 2)
  where
    go : (p q r : Bool) → by_index (cond p 0 (cond q 1 (cond r 2 2))) a b c d ≡ cond p a (cond q b (cond r c c))
    go true q r = refl
    go false true r = refl
    go false false true = refl
    go false false false = refl

-- what is said of the kinds with ids
pub by-ids : {A : Type 0} (kind : ℕ) (a b c : A) → (kind ≡ 0 → ⊥) → (kind ≡ 1 → ⊥) → c ≡ by_index kind a b c c
by-ids kind a b c d e = rw (ne_eqb kind 0 d, ne_eqb kind 1 e) (go (eqb kind 2))
  where
    go : (p : Bool) → c ≡ cond p c c
    go true = refl
    go false = refl

module _ (kind : ℕ) (ids : List ℕ) (n : ℕ) where
  pub times-listed : (kind ≡ 0 → ⊥) → (kind ≡ 1 → ⊥) → rank_in n ids ≡ times_before kind ids n
  unfolding times_before
  times-listed = by-ids kind 0 n (rank_in n ids)

  -- where a row's values begin is how many times stand before it
  pub times_earlier : earlier_of (time_kind kind) ids [] n ≡ times_before kind ids n
  unfolding earlier_of times_before rank_in
  times_earlier = by_time_kind kind 0 n (rank n ids) (get_or [] (rank n ids) 0)

  pub times-kind : times_before (time_kind kind) ids n ≡ times_before kind ids n
  unfolding times_before
  times-kind = by_time_kind kind 0 n (rank_in n ids) (rank_in n ids)

pub times_zero : (kind : ℕ) (ids : List ℕ) → 0 ≡ times_before kind ids 0
unfolding times_before rank_in
times_zero kind ids = rw (none_below ids) (go (eqb kind 0) (eqb kind 1) (eqb kind 2))
  where
    go : (a b c : Bool) → ◌≡◌ {A = ℕ} 0 (cond a 0 (cond b 0 (cond c 0 0)))
    go true b c = refl
    go false true c = refl
    go false false true = refl
    go false false false = refl

-- ---- the cursor

pub key-none : (values : List ℕ) (n row rows : ℕ) → length values ≡ 0
    → record { key = record { from = 0; till = 0; first = 0; second = 0 }; unmarked = 0; pos = row; end = rows; to = n } ≡ key_cursor (last_key values n) row rows n
unfolding key_cursor
key-none [] n row rows e = refl
key-none (v ∷ vs) n row rows e = absurd (omega arith)

pub key_time : (values : List ℕ) (n row rows t : ℕ) → (length values ≡ 0 → ⊥) → t ≡ time_of (get_or values (n - 1) 0)
    → record { key = record { from = 0; till = 0; first = 1; second = t }; unmarked = 0; pos = row; end = rows; to = n } ≡ key_cursor (last_key values n) row rows n
unfolding key_cursor
key_time [] n row rows t d e = absurd (d refl)
key_time (v ∷ vs) n row rows t d e = ap (λ (x : ℕ). key_cursor (suc x) row rows n) e
