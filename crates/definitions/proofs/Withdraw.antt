-- Withdrawing and reinstating: a call changes the bits of the rows that it names and no other, and after any sequence of calls the number of alive rows is that of
-- the set bits, and each row is as the last word on it says. Assumes nothing.
use Prim.Native.Nat.{ℕ, zero, suc, ◌+◌, ◌-◌, ◌*◌, ◌/◌, ◌%◌, ◌^◌, ◌≤◌, ◌<◌, zero-le}
use native.Mathlib.Nat.{add-suc, suc-add}
use native.Mathlib.Decide.{ℕ_discrete}
use native.Mathlib.Omega.{arith}
use mathlib.Core.Path.{◌≡◌, refl, sym, ap, ap₂, ◌∙◌, subst}
use mathlib.Core.List.{List, [], ◌∷◌, map}
use mathlib.Core.Bool.{Bool, true, false, not, cond, ◌||◌, ◌&&◌, false≢true}
use lib.ListN.{length, get_or, length-set}
use lib.Dec.{eqb, ltb, leb}
use borrow.Author.Tests.{eq-eqb, ne_eqb, eqb-true, eqb-false, ltb-true, leb-true, not-false}
use Rattle.definitions.specs.Lists.{sum, up_from, up_to, any, all, all_below, elem, with_bit, without_bit}
use Rattle.definitions.specs.Segment.{alive_words}
use Rattle.definitions.specs.Row.{bit_number, bit_at, set_bits, alive_number}
use Rattle.definitions.specs.Answer.{bit_past_rows, alive_set_wrong}
use Rattle.definitions.specs.Withdraw.{AliveSet, segment_of, alive_words_wrong, row_absent, mark_checks, mark_number, with_count, reinstated, withdrawn, marked_row, marked_rows, changed, Marking, mark_outcome, withdraw_outcome, reinstate_outcome, after_markings, last_word, Sound, Kept}
use Rattle.definitions.proofs.Lists.{or-both}
use Rattle.definitions.proofs.Checks.{all-passed, passes}
use Rattle.definitions.proofs.AliveNumber.{none_past, number_is}
use Rattle.definitions.proofs.Bits.{bit-set, bit-set-others, bit_cleared, bit_cleared_others}

-- ---- sums of bits

sum_same : (f g : ℕ → ℕ) (row : ℕ) → ((r : ℕ) → (r ≡ row → ⊥) → g r ≡ f r) → (s n : ℕ) → row < s → sum (map g (up_from s n)) ≡ sum (map f (up_from s n))
sum_same f g row h s zero l = refl
sum_same f g row h s (suc n) l = ap₂ ◌+◌ (h s (λ e. omega arith)) (sum_same f g row h (suc s) n (omega arith))

-- one of them is one more, and the others are the same
sum_more : (f g : ℕ → ℕ) (row : ℕ) → g row ≡ suc (f row) → ((r : ℕ) → (r ≡ row → ⊥) → g r ≡ f r) → (s n : ℕ) → s ≤ row → row < s + n
    → sum (map g (up_from s n)) ≡ suc (sum (map f (up_from s n)))
sum_more f g row e h s zero l k = absurd (omega arith)
sum_more f g row e h s (suc n) l k = go (ℕ_discrete s row) (λ j. sum_more f g row e h (suc s) n j (omega arith))
  where
    next : (x y : ℕ) → x ≤ y → (x ≡ y → ⊥) → suc x ≤ y
    next x y l d = omega arith

    go : Dec (s ≡ row) → (suc s ≤ row → sum (map g (up_from (suc s) n)) ≡ suc (sum (map f (up_from (suc s) n))))
        → g s + sum (map g (up_from (suc s) n)) ≡ suc (f s + sum (map f (up_from (suc s) n)))
    go (yes p) more =
        ap₂ ◌+◌ (subst (λ (x : ℕ). g x ≡ suc (f x)) (sym p) e) (sum_same f g row h (suc s) n (omega arith)) ∙ suc-add (f s) (sum (map f (up_from (suc s) n)))
    go (no d) more = ap₂ ◌+◌ (h s d) (more (next s row l d)) ∙ add-suc (f s) (sum (map f (up_from (suc s) n)))

any_same : (p q : ℕ → Bool) (l : List ℕ) → ((r : ℕ) → p r ≡ q r) → any p l ≡ any q l
any_same p q [] h = refl
any_same p q (x ∷ xs) h = ap₂ ◌||◌ (h x) (any_same p q xs h)

-- ---- words of which one bit differs

pub bit-zero : (words : List ℕ) (row : ℕ) → bit_at words row ≡ false → bit_number words row ≡ 0
unfolding bit_at
bit-zero words row e = two (bit_number words row) (omega arith) (eqb-false (bit_number words row) 1 e)
  where
    two : (n : ℕ) → n < 2 → (n ≡ 1 → ⊥) → n ≡ 0
    two zero h d = refl
    two (suc zero) h d = absurd (d refl)
    two (suc (suc n)) h d = absurd (omega arith)

pub bit-one : (words : List ℕ) (row : ℕ) → bit_at words row ≡ true → bit_number words row ≡ 1
unfolding bit_at
bit-one words row e = eqb-true (bit_number words row) 1 e

-- words that have the row's bit as given and all other bits as others have them
one_differs : (old new : List ℕ) (row : ℕ) {n : ℕ} → bit_number new row ≡ n → ((r : ℕ) → (r ≡ row → ⊥) → bit_number new r ≡ bit_number old r)
    → (r : ℕ) → bit_at new r ≡ cond (eqb r row) (eqb n 1) (bit_at old r)
unfolding bit_at
one_differs old new row {n} e others r = go (ℕ_discrete r row)
  where
    go : Dec (r ≡ row) → eqb (bit_number new r) 1 ≡ cond (eqb r row) (eqb n 1) (eqb (bit_number old r) 1)
    go (yes p) = rw (eq-eqb r row p) (ap (λ (k : ℕ). eqb (bit_number new k) 1) p ∙ ap (λ (k : ℕ). eqb k 1) e)
    go (no d) = rw (ne_eqb r row d) (ap (λ (k : ℕ). eqb k 1) (others r d))

-- words, and others that have the row's bit besides
record Apart (low high : List ℕ) (row : ℕ) : Type 0 where
  size : length low ≡ length high
  clear : bit_number low row ≡ 0
  sets : bit_number high row ≡ 1
  others : (r : ℕ) → (r ≡ row → ⊥) → bit_number high r ≡ bit_number low r

module _ (low high : List ℕ) (row : ℕ) (a : Apart low high row) where
  one_more : row < 64 * length low → set_bits high ≡ suc (set_bits low)
  unfolding set_bits
  one_more inside =
      ap (λ (n : ℕ). sum (map (bit_number high) (up_to (64 * n)))) (sym a.size)
      ∙ sum_more (bit_number low) (bit_number high) row (a.sets ∙ ap suc (sym a.clear)) a.others 0 (64 * length low) zero-le (omega arith)

  past_same : (rows : ℕ) → row < rows
      → any (λ r. leb rows r && bit_at high r) (up_to (64 * length high)) ≡ any (λ r. leb rows r && bit_at low r) (up_to (64 * length low))
  unfolding bit_at
  past_same rows l =
      ap (λ (n : ℕ). any (λ r. leb rows r && eqb (bit_number high r) 1) (up_to (64 * n))) (sym a.size)
      ∙ any_same (λ r. leb rows r && eqb (bit_number high r) 1) (λ r. leb rows r && eqb (bit_number low r) 1) (up_to (64 * length low)) (λ r. go r (leb rows r) refl)
    where
      go : (r : ℕ) (b : Bool) → leb rows r ≡ b → b && eqb (bit_number high r) 1 ≡ b && eqb (bit_number low r) 1
      go r true e = ap (λ (n : ℕ). eqb n 1) (a.others r (λ q. let k : rows ≤ r = leb-true rows r e in omega arith))
      go r false e = refl

  -- seen from either side: the row's own bit, and the others
  high_is : (r : ℕ) → bit_at high r ≡ cond (eqb r row) true (bit_at low r)
  high_is = one_differs low high row a.sets a.others

  low-is : (r : ℕ) → bit_at low r ≡ cond (eqb r row) false (bit_at high r)
  low-is = one_differs high low row a.clear (λ r d. sym (a.others r d))

module _ (words : List ℕ) (row : ℕ) (inside : row / 64 < length words) where
  elsewhere : (r : ℕ) → (r ≡ row → ⊥) → r / 64 ≡ row / 64 → r % 64 ≡ row % 64 → ⊥
  elsewhere r h e f = h (omega arith)

  -- reinstating sets the row's bit alone
  apart-set : bit_number words row ≡ 0 → Apart words (with_bit words (row / 64) (row % 64)) row
  apart-set e =
      record {
        size = sym (length-set words (row / 64) (get_or words (row / 64) 0 + 2 ^ (row % 64)));
        clear = e;
        sets = bit-set words (row / 64) (row % 64) inside e;
        others = λ r h. bit-set-others words (row / 64) (row % 64) inside e (r / 64) (r % 64) (elsewhere r h);
      }

  -- withdrawing clears it alone
  apart_cleared : bit_number words row ≡ 1 → Apart (without_bit words (row / 64) (row % 64)) words row
  apart_cleared e =
      record {
        size = length-set words (row / 64) (get_or words (row / 64) 0 - 2 ^ (row % 64));
        clear = bit_cleared words (row / 64) (row % 64) inside e;
        sets = e;
        others = λ r h. sym (bit_cleared_others words (row / 64) (row % 64) inside e (r / 64) (r % 64) (elsewhere r h));
      }

-- ---- one row

-- what is known of the record, and stays: there is an alive set, and the row is below the rows
pub record Goes (m : AliveSet) (row : ℕ) : Type 0 where
  pub flagged : eqb m.given.flag 1 ≡ true
  pub below : row < m.given.rows

-- what a row's turn leaves: the record but for its number, and the bits but for the row's
pub record Marked (alive : Bool) (m n : AliveSet) (row : ℕ) : Type 0 where
  pub sound : Sound n
  pub flag : n.given.flag ≡ m.given.flag
  pub rows : n.given.rows ≡ m.given.rows
  pub rest : n.given ≡ with_count n.given.alive_count m.given
  pub bits : (r : ℕ) → bit_at n.words r ≡ cond (eqb r row) alive (bit_at m.words r)

-- how many words an alive set has
pub set-size : (m : AliveSet) → Sound m → eqb m.given.flag 1 ≡ true → length m.words ≡ (m.given.rows + 63) / 64
unfolding alive_words alive_words_wrong
set-size m s f =
    eqb-true (length m.words) (alive_words m.given) (not-false (eqb (length m.words) (alive_words m.given)) s.words)
    ∙ ap (λ (b : Bool). cond b ((m.given.rows + 63) / 64) 0) f

module _ (m : AliveSet) (row : ℕ) (s : Sound m) (g : Goes m row) where
  size : length m.words ≡ (m.given.rows + 63) / 64
  size = set-size m s g.flagged

  inside : row / 64 < length m.words
  inside = omega (arith, size, g.below)

  pub inside_bits : row < 64 * length m.words
  inside_bits = omega (arith, size, g.below)

  past_none : any (λ r. leb m.given.rows r && bit_at m.words r) (up_to (64 * length m.words)) ≡ false
  unfolding bit_past_rows
  past_none = none_past (segment_of m) s.alive

  pub number : m.given.alive_count ≡ set_bits m.words
  unfolding alive_number
  number = number_is (segment_of m) s.alive ∙ ap (λ (b : Bool). cond b (set_bits m.words) m.given.rows) g.flagged

  -- words in the place of the old ones, with the number of their set bits
  put-sound : (words : List ℕ) (n : ℕ) → length words ≡ length m.words → n ≡ set_bits words
      → any (λ r. leb m.given.rows r && bit_at words r) (up_to (64 * length words)) ≡ false
      → Sound (record { given = with_count n m.given; words = words })
  unfolding alive_set_wrong alive_number bit_past_rows alive_words alive_words_wrong
  put-sound words n l e p =
      record {
        words = ap (λ (k : ℕ). not (eqb k (alive_words m.given))) l ∙ s.words;
        alive =
            or-both (any (λ r. leb m.given.rows r && bit_at words r) (up_to (64 * length words))) p
            (ap (λ (b : Bool). not (eqb n (cond b (set_bits words) m.given.rows))) g.flagged ∙ ap not (eq-eqb n (set_bits words) e));
      }

  pub reinstated-is : bit_at m.words row ≡ false → Marked true m (reinstated m row) row
  unfolding reinstated
  reinstated-is e =
      let a = apart-set m.words row inside (bit-zero m.words row e) in
      record {
        sound =
            put-sound (with_bit m.words (row / 64) (row % 64)) (m.given.alive_count + 1) (sym a.size)
            (omega (arith, number, one_more m.words (with_bit m.words (row / 64) (row % 64)) row a inside_bits))
            (past_same m.words (with_bit m.words (row / 64) (row % 64)) row a m.given.rows g.below ∙ past_none);
        flag = refl;
        rows = refl;
        rest = refl;
        bits = high_is m.words (with_bit m.words (row / 64) (row % 64)) row a;
      }

  pub withdrawn-is : bit_at m.words row ≡ true → Marked false m (withdrawn m row) row
  unfolding withdrawn
  withdrawn-is e =
      let a = apart_cleared m.words row inside (bit-one m.words row e) in
      let i = subst (λ (n : ℕ). row < 64 * n) (sym a.size) inside_bits in
      record {
        sound =
            put-sound (without_bit m.words (row / 64) (row % 64)) (m.given.alive_count - 1) a.size
            (omega (arith, number, one_more (without_bit m.words (row / 64) (row % 64)) m.words row a i))
            (sym (past_same (without_bit m.words (row / 64) (row % 64)) m.words row a m.given.rows g.below) ∙ past_none);
        flag = refl;
        rows = refl;
        rest = refl;
        bits = low-is (without_bit m.words (row / 64) (row % 64)) m.words row a;
      }

  -- where a row is alive, the number is not 0
  pub some-alive : bit_at m.words row ≡ true → 1 ≤ m.given.alive_count
  some-alive e =
      let a = apart_cleared m.words row inside (bit-one m.words row e) in
      omega (arith, number, one_more (without_bit m.words (row / 64) (row % 64)) m.words row a (subst (λ (n : ℕ). row < 64 * n) (sym a.size) inside_bits))

  -- the row is so already
  same-is : (alive : Bool) → bit_at m.words row ≡ alive → Marked alive m m row
  same-is alive e = record { sound = s; flag = refl; rows = refl; rest = refl; bits = λ r. go r (ℕ_discrete r row) }
    where
      go : (r : ℕ) → Dec (r ≡ row) → bit_at m.words r ≡ cond (eqb r row) alive (bit_at m.words r)
      go r (yes p) = rw (eq-eqb r row p) (ap (bit_at m.words) p ∙ e)
      go r (no d) = rw (ne_eqb r row d)

  pub row_is : (alive : Bool) → Marked alive m (marked_row alive m row) row
  unfolding marked_row
  row_is true = go (bit_at m.words row) refl
    where
      go : (b : Bool) → bit_at m.words row ≡ b → Marked true m (cond b m (reinstated m row)) row
      go true e = same-is true e
      go false e = reinstated-is e
  row_is false = go (bit_at m.words row) refl
    where
      go : (b : Bool) → bit_at m.words row ≡ b → Marked false m (cond b (withdrawn m row) m) row
      go true e = withdrawn-is e
      go false e = same-is false e

-- ---- row after row

-- the first row is below the rows, and so are the others
split : (a b : Bool) → not (a && b) ≡ false → (a ≡ true) × (not b ≡ false)
split true b e = (refl, e)
split false b e = absurd (false≢true (sym e))

record AllMarked (alive : Bool) (m n : AliveSet) (rows : List ℕ) : Type 0 where
  sound : Sound n
  rest : n.given ≡ with_count n.given.alive_count m.given
  bits : (r : ℕ) → bit_at n.words r ≡ cond (elem r rows) alive (bit_at m.words r)

rows_are : (alive : Bool) (m : AliveSet) (rows : List ℕ) → Sound m → eqb m.given.flag 1 ≡ true → row_absent m rows ≡ false → AllMarked alive m (marked_rows alive m rows) rows
unfolding row_absent all_below
rows_are alive m [] s f h = record { sound = s; rest = refl; bits = λ r. refl }
rows_are alive m (row ∷ rows) s f h =
    let t = split (ltb row m.given.rows) (all (λ r. ltb r m.given.rows) rows) h in
    let a = row_is m row s (record { flagged = f; below = ltb-true row m.given.rows t.0 }) alive in
    let b =
    rows_are alive (marked_row alive m row) rows a.sound (ap (λ (n : ℕ). eqb n 1) a.flag ∙ f)
    (ap (λ (n : ℕ). not (all (λ r. ltb r n) rows)) a.rows ∙ t.1) in
    record {
      sound = b.sound;
      rest = b.rest ∙ ap (with_count (marked_rows alive (marked_row alive m row) rows).given.alive_count) a.rest;
      bits = λ r. b.bits r ∙ ap (cond (elem r rows) alive) (a.bits r) ∙ either (elem r rows) (eqb r row) alive (bit_at m.words r);
    }
  where
    either : (x y a b : Bool) → cond x a (cond y a b) ≡ cond (y || x) a b
    either true true a b = refl
    either true false a b = refl
    either false true a b = refl
    either false false a b = refl

-- ---- a call

-- what is known where a call is not refused: 2 and 6 find nothing, there is an alive set, and each row is below the rows
pub record Granted (m : AliveSet) (rows : List ℕ) : Type 0 where
  pub sound : Sound m
  pub flagged : m.given.flag ≡ 1
  pub there : row_absent m rows ≡ false

pub granted : (m : AliveSet) (rows : List ℕ) → mark_number m rows ≡ 0 → Granted m rows
unfolding mark_number mark_checks
granted m rows e =
    let p = (all-passed (mark_checks m rows) 0 tt e).0 in
    record {
      sound = record { words = passes p 2; alive = passes p 6 };
      flagged = one m.given.flag (ltb-true m.given.flag 2 (not-false (ltb m.given.flag 2) (passes p 3))) (passes p 16);
      there = passes p 15;
    }
  where
    one : (n : ℕ) → n < 2 → eqb n 0 ≡ false → n ≡ 1
    one zero h e = absurd (false≢true (sym e))
    one (suc zero) h e = refl
    one (suc (suc n)) h e = absurd (omega arith)

record Called (c : Marking) (m : AliveSet) : Type 0 where
  sound : Sound (mark_outcome c m).left
  rest : (mark_outcome c m).left.given ≡ with_count (mark_outcome c m).left.given.alive_count m.given
  bits : (r : ℕ) → bit_at (mark_outcome c m).left.words r ≡ cond (eqb (mark_number m c.rows) 0 && elem r c.rows) c.alive (bit_at m.words r)

call-is : (c : Marking) (m : AliveSet) → Sound m → Called c m
unfolding mark_outcome
call-is c m s = go (eqb (mark_number m c.rows) 0) refl
  where
    go : (b : Bool) → eqb (mark_number m c.rows) 0 ≡ b → Called c m
    go true e =
        let g = granted m c.rows (eqb-true (mark_number m c.rows) 0 e) in
        let a = rows_are c.alive m c.rows s (eq-eqb m.given.flag 1 g.flagged) g.there in
        record { sound = rw e a.sound; rest = rw e a.rest; bits = λ r. rw e (a.bits r) }
    go false e = record { sound = rw e s; rest = rw e refl; bits = λ r. rw e refl }

-- ---- any sequence of calls, refused ones among them

pub calls_keep : (m : AliveSet) (cs : List Marking) → Sound m → Kept m cs
calls_keep m cs s =
    let a = sound-after m cs s in
    record { sound = a; number = number_is (segment_of (after_markings cs m)) a.alive; rest = rest-after m cs s; rows = λ r. bits_after m cs s r }
  where
    sound-after : (m : AliveSet) (cs : List Marking) → Sound m → Sound (after_markings cs m)
    sound-after m [] s = s
    sound-after m (c ∷ cs) s = sound-after (mark_outcome c m).left cs (call-is c m s).sound

    rest-after : (m : AliveSet) (cs : List Marking) → Sound m → (after_markings cs m).given ≡ with_count (after_markings cs m).given.alive_count m.given
    rest-after m [] s = refl
    rest-after m (c ∷ cs) s =
        let a = call-is c m s in
        rest-after (mark_outcome c m).left cs a.sound ∙ ap (with_count (after_markings (c ∷ cs) m).given.alive_count) a.rest

    bits_after : (m : AliveSet) (cs : List Marking) → Sound m → (r : ℕ) → bit_at (after_markings cs m).words r ≡ last_word m cs r (bit_at m.words r)
    bits_after m [] s r = refl
    bits_after m (c ∷ cs) s r =
        let a = call-is c m s in
        bits_after (mark_outcome c m).left cs a.sound r ∙ ap (last_word (mark_outcome c m).left cs r) (a.bits r)

-- ---- a call of one row, and a run as calls of one row

-- granted, and so not refused
not-refused : (m : AliveSet) (rows : List ℕ) → Granted m rows → mark_number m rows ≡ 0
unfolding mark_number mark_checks
not-refused m rows g = rw (g.sound.words, g.sound.alive, g.there, g.flagged)

-- the first row by itself, and the others after it
granted_step : (alive : Bool) (m : AliveSet) (row : ℕ) (rows : List ℕ) → Granted m (row ∷ rows) → Granted m (row ∷ []) × Granted (marked_row alive m row) rows
unfolding row_absent all_below
granted_step alive m row rows g =
    let t = split (ltb row m.given.rows) (all (λ r. ltb r m.given.rows) rows) g.there in
    let a = row_is m row g.sound (record { flagged = eq-eqb m.given.flag 1 g.flagged; below = ltb-true row m.given.rows t.0 }) alive in (
      record { sound = g.sound; flagged = g.flagged; there = rw t.0 },
      record { sound = a.sound; flagged = a.flag ∙ g.flagged; there = ap (λ (n : ℕ). not (all (λ r. ltb r n) rows)) a.rows ∙ t.1 },
    )

-- the answer of a call of one row is by its bit: 1 where it changes, 0 where the row is so already
module _ (m : AliveSet) (row : ℕ) (z : mark_number m (row ∷ []) ≡ 0) where
  goes_on : Goes m row
  unfolding row_absent all_below
  goes_on =
      let g = granted m (row ∷ []) z in
      record { flagged = eq-eqb m.given.flag 1 g.flagged; below = ltb-true row m.given.rows (first (ltb row m.given.rows) g.there) }
    where
      first : (a : Bool) → not (a && true) ≡ false → a ≡ true
      first true e = refl
      first false e = absurd (false≢true (sym e))

  pub withdraw-answer : (withdraw_outcome row m).answer ≡ changed (cond (bit_at m.words row) 1 0)
  unfolding mark_outcome marked_row withdrawn
  withdraw-answer = rw z (go (bit_at m.words row) refl)
    where
      go : (b : Bool) → bit_at m.words row ≡ b → changed (m.given.alive_count - (cond b (withdrawn m row) m).given.alive_count) ≡ changed (cond b 1 0)
      go true e = ap changed (omega (arith, some-alive m row (granted m (row ∷ []) z).sound goes_on e))
      go false e = ap changed (omega arith)

  pub reinstate-answer : (reinstate_outcome row m).answer ≡ changed (cond (bit_at m.words row) 0 1)
  unfolding mark_outcome marked_row reinstated
  reinstate-answer = rw z (go (bit_at m.words row))
    where
      go : (b : Bool) → changed ((cond b m (reinstated m row)).given.alive_count - m.given.alive_count) ≡ changed (cond b 0 1)
      go true = ap changed (omega arith)
      go false = ap changed (omega arith)

-- one call after another, each of one row
abbrev pub one_by_one : Bool → List ℕ → List Marking
one_by_one alive rows = map (λ (row : ℕ). record { rows = row ∷ []; alive = alive }) rows

-- a run that is not refused leaves what they leave
pub run-is-calls : (alive : Bool) (m : AliveSet) (rows : List ℕ) → mark_number m rows ≡ 0 → after_markings (one_by_one alive rows) m ≡ (mark_outcome (record { rows = rows; alive = alive }) m).left
unfolding mark_outcome
run-is-calls alive m rows z = rw z (go m rows (granted m rows z))
  where
    go : (m : AliveSet) (rows : List ℕ) → Granted m rows → after_markings (one_by_one alive rows) m ≡ marked_rows alive m rows
    go m [] g = refl
    go m (row ∷ rows) g =
        let t = granted_step alive m row rows g in
        ap (λ (x : AliveSet). after_markings (one_by_one alive rows) x) (ap (λ (n : ℕ). cond (eqb n 0) (marked_row alive m row) m) (not-refused m (row ∷ []) t.0)) ∙ go (marked_row alive m row) rows t.1
