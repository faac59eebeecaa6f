-- The number of alive rows that a record holds, where 6 finds nothing wrong with it, is the number of rows that are alive. Assumes nothing.
use Prim.Native.Nat.{ℕ, zero, suc, ◌+◌, ◌-◌, ◌*◌, ◌≤◌, ◌<◌}
use native.Mathlib.Nat.{zero-add, add-zero, suc-add, add-suc}
use native.Mathlib.Omega.{arith}
use mathlib.Core.Path.{◌≡◌, refl, sym, ap, ap₂, ◌∙◌}
use mathlib.Core.List.{List, [], ◌∷◌, map}
use mathlib.Core.Bool.{Bool, true, false, not, cond, ◌&&◌}
use lib.ListN.{length, length-drop}
use lib.Seq.{length-take-le}
use lib.Dec.{eqb, leb}
use borrow.Author.Tests.{eq-eqb, eqb-true, le-leb, not-false}
use Rattle.definitions.specs.Lists.{sum, up_from, up_to, any, count}
use Rattle.definitions.specs.Segment.{Segment, SegmentRecord, Sections, alive_words, words_for, first_segment, after_first, segments_from}
use Rattle.definitions.specs.Row.{bit_number, bit_at, set_bits, is_alive, alive_rows, alive_number}
use Rattle.definitions.specs.Answer.{total, bit_past_rows, alive_set_wrong, alive_addresses}
use Rattle.definitions.proofs.Lists.{mem_up_to, any_false, or_left, or_right}
use Rattle.definitions.proofs.TimeOrder.{filter-count, alive-total}

-- ---- counts over numbers in sequence

-- tests that agree on the numbers count the same
pub count_same : (p q : ℕ → Bool) (s n : ℕ) → ((r : ℕ) → r < s + n → p r ≡ q r) → count p (up_from s n) ≡ count q (up_from s n)
count_same p q s zero h = refl
count_same p q s (suc n) h =
    ap (λ (b : Bool). cond b (suc (count p (up_from (suc s) n))) (count p (up_from (suc s) n))) (h s (omega arith))
    ∙ ap (λ (c : ℕ). cond (q s) (suc c) c) (count_same p q (suc s) n (λ r l. h r (omega arith)))

pub count_split : (p : ℕ → Bool) (s a b : ℕ) → count p (up_from s (a + b)) ≡ count p (up_from s a) + count p (up_from (s + a) b)
count_split p s zero b = rw (zero-add b, add-zero s) (sym (zero-add (count p (up_from s b))))
count_split p s (suc a) b =
    rw (suc-add a b)
    (go (count_split p (suc s) a b ∙ ap (λ (m : ℕ). count p (up_from (suc s) a) + count p (up_from m b)) (suc-add s a ∙ sym (add-suc s a))) (p s))
  where
    go : count p (up_from (suc s) (a + b)) ≡ count p (up_from (suc s) a) + count p (up_from (s + suc a) b)
        → (t : Bool) → cond t (suc (count p (up_from (suc s) (a + b)))) (count p (up_from (suc s) (a + b)))
        ≡ cond t (suc (count p (up_from (suc s) a))) (count p (up_from (suc s) a)) + count p (up_from (s + suc a) b)
    go rest true = ap suc rest ∙ sym (suc-add (count p (up_from (suc s) a)) (count p (up_from (s + suc a) b)))
    go rest false = rest

count_none : (p : ℕ → Bool) (s n : ℕ) → ((r : ℕ) → s ≤ r → r < s + n → p r ≡ false) → count p (up_from s n) ≡ 0
count_none p s zero h = refl
count_none p s (suc n) h =
    ap (λ (b : Bool). cond b (suc (count p (up_from (suc s) n))) (count p (up_from (suc s) n))) (h s (omega arith) (omega arith))
    ∙ count_none p (suc s) n (λ r l m. h r (omega arith) (omega arith))

count_every : (s n : ℕ) → count (λ r. true) (up_from s n) ≡ n
count_every s zero = refl
count_every s (suc n) = ap suc (count_every (suc s) n)

-- what is true of no number from the rows on is counted among the rows
count-rows : (p : ℕ → Bool) (rows n : ℕ) → rows ≤ n → ((r : ℕ) → rows ≤ r → r < n → p r ≡ false) → count p (up_to n) ≡ count p (up_to rows)
count-rows p rows n l h =
    let d : n ≡ rows + (n - rows) = omega arith in
    let z = count_none p (0 + rows) (n - rows) (λ r i j. h r (omega arith) (omega arith)) in
    ap (λ (m : ℕ). count p (up_to m)) d ∙ count_split p 0 rows (n - rows) ∙ (omega arith)

-- ---- the set bits

-- a bit counts as what it is
pub odd_or-even : (n c : ℕ) → n < 2 → cond (eqb n 1) (suc c) c ≡ n + c
odd_or-even zero c h = sym (zero-add c)
odd_or-even (suc zero) c h = omega arith
odd_or-even (suc (suc n)) c h = absurd (omega arith)

-- they are counted
pub bits_count : (words : List ℕ) → set_bits words ≡ count (bit_at words) (up_to (64 * length words))
unfolding set_bits bit_at
bits_count words = go (up_to (64 * length words))
  where
    go : (l : List ℕ) → sum (map (bit_number words) l) ≡ count (λ r. eqb (bit_number words r) 1) l
    go [] = refl
    go (r ∷ l) = ap (λ (n : ℕ). bit_number words r + n) (go l) ∙ sym (odd_or-even (bit_number words r) (count (λ r. eqb (bit_number words r) 1) l) (omega arith))

-- an alive set has a bit for each row
abbrev pub Enough : Segment → Type 0
Enough s = s.flag ≡ 1 → s.rows ≤ 64 * length s.alive

-- where no bit is past the rows, they are the rows' own
pub bits_rows : (s : Segment) → Enough s → bit_past_rows s ≡ false → s.flag ≡ 1 → set_bits s.alive ≡ count (bit_at s.alive) (up_to s.rows)
unfolding bit_past_rows
bits_rows s enough p f = bits_count s.alive ∙ count-rows (bit_at s.alive) s.rows (64 * length s.alive) (enough f) past
  where
    past : (r : ℕ) → s.rows ≤ r → r < 64 * length s.alive → bit_at s.alive r ≡ false
    past r h l =
        ap (λ (b : Bool). b && bit_at s.alive r) (sym (le-leb s.rows r h))
        ∙ any_false (λ r. leb s.rows r && bit_at s.alive r) (up_to (64 * length s.alive)) p (mem_up_to (64 * length s.alive) r l)

-- ---- what 6 vouches for

pub none_past : (s : Segment) → alive_set_wrong s ≡ false → bit_past_rows s ≡ false
unfolding alive_set_wrong
none_past s h = or_left (bit_past_rows s) (not (eqb s.alive_count (alive_number s))) h

pub number_is : (s : Segment) → alive_set_wrong s ≡ false → s.alive_count ≡ alive_number s
unfolding alive_set_wrong
number_is s h =
    eqb-true s.alive_count (alive_number s) (not-false (eqb s.alive_count (alive_number s)) (or_right (bit_past_rows s) (not (eqb s.alive_count (alive_number s))) h))

-- with an alive set the number is that of the bits that are set among the rows
pub alive_bits : (s : Segment) → Enough s → alive_set_wrong s ≡ false → s.flag ≡ 1 → s.alive_count ≡ count (bit_at s.alive) (up_to s.rows)
unfolding alive_number
alive_bits s enough h f =
    number_is s h ∙ ap (λ (b : Bool). cond b (set_bits s.alive) s.rows) (eq-eqb s.flag 1 f) ∙ bits_rows s enough (none_past s h) f

-- the number is that of the alive rows
pub alive-number : (s : Segment) → Enough s → alive_set_wrong s ≡ false → s.alive_count ≡ length (alive_rows s)
unfolding alive_number alive_rows is_alive
alive-number s enough h = number_is s h ∙ go (eqb s.flag 1) (eqb-true s.flag 1) ∙ sym (filter-count (is_alive s) (up_to s.rows))
  where
    go : (b : Bool) → (b ≡ true → s.flag ≡ 1) → cond b (set_bits s.alive) s.rows ≡ count (λ r. cond b (bit_at s.alive r) true) (up_to s.rows)
    go true f = bits_rows s enough (none_past s h) (f refl)
    go false f = sym (count_every 0 s.rows)

-- the first segment's alive words have a bit for each row
enough-first : (r : SegmentRecord) (s : Sections) → alive_words r ≤ length s.alive → Enough (first_segment r s)
unfolding first_segment alive_words
enough-first r s h f =
    let l = length-take-le (alive_words r) s.alive h in
    let w : alive_words r ≡ words_for r.rows = rw (eq-eqb r.flag 1 f) in
    omega (arith, l, w)

rows-total : (rs : List SegmentRecord) (s : Sections) → total alive_words rs ≤ length s.alive → any alive_set_wrong (segments_from rs s) ≡ false
    → total (λ (r : SegmentRecord). r.alive_count) rs ≡ sum (map (λ s. length (alive_rows s)) (segments_from rs s))
unfolding first_segment after_first
rows-total [] s h e = refl
rows-total (r ∷ rs) s h e =
    ap₂ ◌+◌
    (alive-number (first_segment r s) (enough-first r s (omega arith)) (or_left (alive_set_wrong (first_segment r s)) (any alive_set_wrong (segments_from rs (after_first r s))) e))
    (rows-total rs (after_first r s) (rw (length-drop (alive_words r) s.alive) (omega arith)) (or_right (alive_set_wrong (first_segment r s)) (any alive_set_wrong (segments_from rs (after_first r s))) e))

-- the alive rows of all segments are as many as their records' numbers say together
pub total-number : (rs : List SegmentRecord) (s : Sections) → total alive_words rs ≤ length s.alive → any alive_set_wrong (segments_from rs s) ≡ false
    → total (λ (r : SegmentRecord). r.alive_count) rs ≡ length (alive_addresses (segments_from rs s))
total-number rs s h e = rows-total rs s h e ∙ sym (alive-total (segments_from rs s))
