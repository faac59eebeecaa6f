-- What the code needs of a set whose rows may be marked: a row's bit is there, the number stays within 32 bits, and the set stays one. Assumes nothing.
use Prim.Native.Nat.{ℕ, suc, ◌+◌, ◌-◌, ◌*◌, ◌/◌, ◌%◌, ◌≤◌, ◌<◌}
use native.Mathlib.Omega.{arith}
use mathlib.Core.Path.{◌≡◌, refl, sym, ap, ◌∙◌, subst}
use mathlib.Core.List.{List, [], ◌∷◌}
use Rattle.std.specs.List.{list_all}
use mathlib.Core.Bool.{Bool, true, false, not, beq, ◌&&◌}
use native.Mathlib.Numerals.{add-one}
use lib.ListN.{length, get_or, drop, drop_of_length-le}
use lib.Seq.{drop-cons}
use lib.Dec.{ltb}
use borrow.Author.Tests.{eq-eqb, ltb-true, not-false}
use Rattle.definitions.specs.Lists.{all, all_below, with_bit, without_bit}
use Rattle.definitions.specs.Row.{bit_at}
use Rattle.definitions.specs.Withdraw.{AliveSet, segment_of, with_count, withdrawn, reinstated, row_absent, marked_row, marked_rows, Sound}
use Rattle.definitions.proofs.AliveNumber.{alive_bits}
use Rattle.definitions.proofs.Withdraw.{Goes, set-size, row_is, inside_bits, reinstated-is, some-alive}
use Rattle.lists.proofs.Lists.{count_most}
use Rattle.lists.proofs.Tests.{both_true}
use Rattle.segment.specs.Records.{record_in}
use Rattle.segment.specs.declared.Record.{Record}
use Rattle.withdraw.specs.Lent.{set_by, Markable}

-- there is a bit for each row
reach : (m : AliveSet) → Sound m → m.given.flag ≡ 1 → m.given.rows ≤ 64 * length m.words
reach m s f = omega (arith, set-size m s (eq-eqb m.given.flag 1 f))

-- no more rows are alive than there are
most : (m : AliveSet) → Sound m → m.given.flag ≡ 1 → m.given.alive_count ≤ m.given.rows
most m s f = omega (arith, alive_bits (segment_of m) (λ e. reach m s f) s.alive f, count_most (bit_at m.words) 0 m.given.rows)

module _ (m : AliveSet) (k : Markable m) (row : ℕ) (l : row < m.given.rows) where
  at_row : Goes m row
  at_row = record { flagged = eq-eqb m.given.flag 1 k.flagged; below = l }

  pub bit-there : row < 64 * length m.words
  bit-there = inside_bits m row k.sound at_row

  -- a row more, where the bit is 0
  pub one-fits : bit_at m.words row ≡ false → m.given.alive_count + 1 ≤ m.given.rows
  unfolding reinstated
  one-fits e = most (reinstated m row) (reinstated-is m row k.sound at_row e).sound k.flagged

  -- a row less, where it is 1
  pub one-there : bit_at m.words row ≡ true → 1 ≤ m.given.alive_count
  one-there e = some-alive m row k.sound at_row e

  pub next_markable : (alive : Bool) → Markable (marked_row alive m row)
  next_markable alive = let a = row_is m row k.sound at_row alive in record { sound = a.sound; flagged = a.flag ∙ k.flagged }

  pub next-rows : (alive : Bool) → (marked_row alive m row).given.rows ≡ m.given.rows
  next-rows alive = (row_is m row k.sound at_row alive).rows

pub each-below : (n : ℕ) (rows : List ℕ) → list_all (λ row. ltb row n) rows ≡ all_below n rows
unfolding all_below
each-below n [] = refl
each-below n (row ∷ rows) = ap (λ (b : Bool). ltb row n && b) (each-below n rows)

-- two bits compared
alike : (a b : Bool) → beq a b ≡ true → a ≡ b
alike true true e = refl
alike true false e = cc
alike false true e = cc
alike false false e = refl

pub unlike : (a b : Bool) → beq a b ≡ false → a ≡ not b
unlike true true e = cc
unlike true false e = refl
unlike false true e = refl
unlike false false e = cc

-- ---- a row's turn, by its bit and by what it is to be

module _ (r : Record) (words : List ℕ) (row : ℕ) {alive b : Bool} (e : b ≡ bit_at words row) where
  kept-alive : b ≡ true → alive ≡ true → set_by r words ≡ marked_row alive (set_by r words) row
  unfolding marked_row
  kept-alive p q = rw (q, ← e, p)

  kept-withdrawn : b ≡ false → alive ≡ false → set_by r words ≡ marked_row alive (set_by r words) row
  unfolding marked_row
  kept-withdrawn p q = rw (q, ← e, p)

  pub bit_cleared : b ≡ true → alive ≡ false → {out : List ℕ} → out ≡ without_bit words (row / 64) (row % 64)
      → record { given = with_count (r.alive - 1) (record_in r); words = out } ≡ marked_row alive (set_by r words) row
  unfolding marked_row withdrawn
  bit_cleared p q o = rw (q, ← e, p, o)

  pub bit-set : b ≡ false → alive ≡ true → {out : List ℕ} → out ≡ with_bit words (row / 64) (row % 64)
      → record { given = with_count (r.alive + 1) (record_in r); words = out } ≡ marked_row alive (set_by r words) row
  unfolding marked_row reinstated
  bit-set p q o = rw (q, ← e, p, o)

pub kept : (r : Record) (words : List ℕ) (row : ℕ) (alive b : Bool) → b ≡ bit_at words row → beq b alive ≡ true → set_by r words ≡ marked_row alive (set_by r words) row
kept r words row alive b e p = go (alike b alive p) alive refl
  where
    go : b ≡ alive → (t : Bool) → alive ≡ t → set_by r words ≡ marked_row alive (set_by r words) row
    go p true q = kept-alive r words row e (p ∙ q) q
    go p false q = kept-withdrawn r words row e (p ∙ q) q

-- ---- row after row

module _ (rows : List ℕ) (j : ℕ) (h : j < length rows) {row : ℕ} (e : row ≡ get_or rows j 0) (m : AliveSet) where
  row_next : drop j rows ≡ row ∷ drop (j + 1) rows
  row_next = rw (add-one j) (drop-cons rows j 0 h ∙ ap (λ (r : ℕ). r ∷ drop (suc j) rows) (sym e))

  module _ (b : row_absent m (drop j rows) ≡ false) where
    below_both : (ltb row m.given.rows ≡ true) × (all_below m.given.rows (drop (j + 1) rows) ≡ true)
    unfolding row_absent all_below
    below_both =
        both_true (ltb row m.given.rows) (all (λ r. ltb r m.given.rows) (drop (j + 1) rows))
        (sym (ap (all (λ r. ltb r m.given.rows)) row_next) ∙ not-false (all (λ r. ltb r m.given.rows) (drop j rows)) b)

    pub row_below : row < m.given.rows
    row_below = ltb-true row m.given.rows below_both.0

    module _ (k : Markable m) (alive : Bool) {n : AliveSet} (s : n ≡ marked_row alive m row) where
      pub after_markable : Markable n
      after_markable = subst Markable (sym s) (next_markable m k row row_below alive)

      pub rest_below : row_absent n (drop (j + 1) rows) ≡ false
      unfolding row_absent
      rest_below =
          ap (λ (x : ℕ). not (all_below x (drop (j + 1) rows))) (ap (λ (x : AliveSet). x.given.rows) s ∙ next-rows m k row row_below alive)
          ∙ ap not below_both.1

      pub rows_step : marked_rows alive n (drop (j + 1) rows) ≡ marked_rows alive m (drop j rows)
      rows_step = ap (λ (x : AliveSet). marked_rows alive x (drop (j + 1) rows)) s ∙ ap (marked_rows alive m) (sym row_next)

pub rows_end : (rows : List ℕ) (j : ℕ) → length rows ≤ j → (alive : Bool) (m : AliveSet) → marked_rows alive m (drop j rows) ≡ m
rows_end rows j h alive m = ap (marked_rows alive m) (drop_of_length-le rows h)
