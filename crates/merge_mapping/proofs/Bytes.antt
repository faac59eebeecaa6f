-- The bits of one byte of a segment's alive bits, and bytes that have none. Assumes nothing.
use Prim.Native.Nat.{ℕ, zero, suc, ◌+◌, ◌-◌, ◌*◌, ◌/◌, ◌%◌, ◌^◌, ◌≤◌, ◌<◌}
use native.Mathlib.Nat.{zero-div, div-eq_of_lt, div-one, pow-suc}
use native.Mathlib.Omega.{arith}
use mathlib.Core.Path.{◌≡◌, refl, sym, ap, ap₂, ◌∙◌}
use mathlib.Core.Bool.{Bool, true, false, ◌&&◌, cond, and-true}
use mathlib.Core.List.{List, [], ◌∷◌}
use mathlib.Core.Logic.{◌⊎◌, inl, inr}
use lib.Dec.{eqb, ltb}
use lib.ListN.{length, get_or, replicate}
use lib.Pow.{pow_pos, shr-shr, shr_le, high, field, mod-mod-pow, ones_lt, ones_split}
use borrow.Author.Tests.{eq-eqb, lt-ltb, le-ltb, eqb-true, ltb-true}
use Rattle.definitions.specs.Lists.{all_below}
use Rattle.definitions.specs.Row.{bit_at}
use Rattle.lists.proofs.Numbers.{le-lt}
use Rattle.lists.proofs.Tests.{both_true}
use Rattle.merge_mapping.specs.Mapping.{alive_byte}

-- without an alive set every row is alive
abbrev pub alive_bit : ℕ → List ℕ → ℕ → Bool
alive_bit flag words r = cond (eqb flag 1) (bit_at words r) true

-- ---- eight bits

-- 255 has eight ones
ones : (m : ℕ) → m < 8 → 255 / 2 ^ m % 2 ≡ 1
ones m h =
    let e : 8 ≡ suc (7 - m) + m = omega arith in
    let q : 255 / 2 ^ m ≡ 2 ^ suc (7 - m) - 1 = ap (λ (n : ℕ). (2 ^ n - 1) / 2 ^ m) e ∙ ap (λ (n : ℕ). n / 2 ^ m) (ones_split (suc (7 - m)) m) ∙ high (2 ^ suc (7 - m) - 1) m (ones_lt m) in
    omega (arith, q, pow-suc 2 (7 - m), pow_pos (7 - m))

-- a byte has no bit from 8 on
no_more : (x m : ℕ) → x < 256 → 8 ≤ m → x / 2 ^ m ≡ 0
no_more x m l h =
    let e : 8 + (m - 8) ≡ m = omega arith in
    ap (λ (n : ℕ). x / 2 ^ n) (sym e) ∙ sym (shr-shr x 8 (m - 8)) ∙ ap (λ (n : ℕ). n / 2 ^ (m - 8)) (div-eq_of_lt l) ∙ zero-div (2 ^ (m - 8))

ones_bit : (m : ℕ) → eqb (255 / 2 ^ m % 2) 1 ≡ ltb m 8
ones_bit m = go (le-lt m 8)
  where
    go : (m < 8) ⊎ (8 ≤ m) → eqb (255 / 2 ^ m % 2) 1 ≡ ltb m 8
    go (inl h) = eq-eqb _ _ (ones m h) ∙ sym (lt-ltb m 8 h)
    go (inr h) = ap (λ (n : ℕ). eqb (n % 2) 1) (no_more 255 m (omega arith) h) ∙ sym (le-ltb m 8 h)

low : (x c : ℕ) → c < 8 → x % 256 / 2 ^ c % 2 ≡ x / 2 ^ c % 2
low x c h =
    let e : 8 ≡ 7 - c + 1 + c = omega arith in
    ap (λ (n : ℕ). x % 2 ^ n / 2 ^ c % 2) e ∙ ap (λ (n : ℕ). n % 2) (field x (7 - c + 1) c) ∙ mod-mod-pow (x / 2 ^ c) (7 - c) 1

-- ---- a byte of a segment's alive bits

-- eight bits of an alive set
word-bit : (words : List ℕ) (i c : ℕ) → c < 8 → eqb (get_or words (i / 8) 0 / 2 ^ (8 * (i % 8)) % 256 / 2 ^ c % 2) 1 ≡ bit_at words (8 * i + c)
unfolding bit_at
word-bit words i c h =
    let w : i / 8 ≡ (8 * i + c) / 64 = omega arith in
    let b : 8 * (i % 8) + c ≡ (8 * i + c) % 64 = omega arith in
    ap (λ (n : ℕ). eqb n 1) (low (get_or words (i / 8) 0 / 2 ^ (8 * (i % 8))) c h)
    ∙ ap (λ (n : ℕ). eqb (n % 2) 1) (shr-shr (get_or words (i / 8) 0) (8 * (i % 8)) c)
    ∙ ap₂ (λ (n m : ℕ). eqb (get_or words n 0 / 2 ^ m % 2) 1) w b

-- ones for the rows there are
full-bit : (rows i c : ℕ) → c < 8 → eqb (255 / 2 ^ (8 * i + 8 - rows) / 2 ^ c % 2) 1 ≡ ltb (8 * i + c) rows
full-bit rows i c h = ap (λ (n : ℕ). eqb (n % 2) 1) (shr-shr 255 (8 * i + 8 - rows) c) ∙ ones_bit (8 * i + 8 - rows + c) ∙ go (le-lt (8 * i + c) rows)
  where
    go : (8 * i + c < rows) ⊎ (rows ≤ 8 * i + c) → ltb (8 * i + 8 - rows + c) 8 ≡ ltb (8 * i + c) rows
    go (inl l) = lt-ltb (8 * i + 8 - rows + c) 8 (omega arith) ∙ sym (lt-ltb (8 * i + c) rows l)
    go (inr l) = le-ltb (8 * i + 8 - rows + c) 8 (omega arith) ∙ sym (le-ltb (8 * i + c) rows l)

module _ (flag : ℕ) (words : List ℕ) (rows i : ℕ) where
  byte_low : alive_byte flag words rows i < 256
  unfolding alive_byte
  byte_low = go (eqb flag 1)
    where
      go : (b : Bool) → cond b (get_or words (i / 8) 0 / 2 ^ (8 * (i % 8)) % 256) (255 / 2 ^ (8 * i + 8 - rows)) < 256
      go true = omega arith
      go false = omega (arith, shr_le 255 (8 * i + 8 - rows))

  -- no bit from 8 on
  pub byte_bits : (c : ℕ) → alive_byte flag words rows i / 2 ^ c % 2 ≡ 1 → c < 8
  byte_bits c e = go (le-lt c 8)
    where
      go : (c < 8) ⊎ (8 ≤ c) → c < 8
      go (inl h) = h
      go (inr h) = let z = no_more (alive_byte flag words rows i) c byte_low h in absurd (omega arith)

  -- the bit of a row, where no bit is set past the rows
  pub byte-bit : (c : ℕ) → c < 8 → (flag ≡ 1 → rows ≤ 8 * i + c → bit_at words (8 * i + c) ≡ false)
      → eqb (alive_byte flag words rows i / 2 ^ c % 2) 1 ≡ ltb (8 * i + c) rows && alive_bit flag words (8 * i + c)
  unfolding alive_byte
  byte-bit c h past = go (eqb flag 1) refl
    where
      within : (rows ≤ 8 * i + c → bit_at words (8 * i + c) ≡ false) → (8 * i + c < rows) ⊎ (rows ≤ 8 * i + c) → bit_at words (8 * i + c) ≡ ltb (8 * i + c) rows && bit_at words (8 * i + c)
      within p (inl l) = ap (λ (b : Bool). b && bit_at words (8 * i + c)) (sym (lt-ltb (8 * i + c) rows l))
      within p (inr l) = p l ∙ ap (λ (b : Bool). b && bit_at words (8 * i + c)) (sym (le-ltb (8 * i + c) rows l))

      go : (b : Bool) → eqb flag 1 ≡ b → eqb (cond b (get_or words (i / 8) 0 / 2 ^ (8 * (i % 8)) % 256) (255 / 2 ^ (8 * i + 8 - rows)) / 2 ^ c % 2) 1 ≡ ltb (8 * i + c) rows && cond b (bit_at words (8 * i + c)) true
      go true e = word-bit words i c h ∙ within (past (eqb-true flag 1 e)) (le-lt (8 * i + c) rows)
      go false e = full-bit rows i c h ∙ sym (and-true (ltb (8 * i + c) rows))

-- ---- bytes without a bit

-- a number without a bit is 0
pub no_bits : (w : ℕ) → ((c : ℕ) → w / 2 ^ c % 2 ≡ 1 → ⊥) → w ≡ 0
no_bits w n = below w w (small w) n
  where
    small : (x : ℕ) → x < 2 ^ x
    small zero = omega arith
    small (suc x) = let h = small x in omega (arith, pow-suc 2 x)

    below : (d x : ℕ) → x < 2 ^ d → ((c : ℕ) → x / 2 ^ c % 2 ≡ 1 → ⊥) → x ≡ 0
    below zero x l n = omega arith
    below (suc d) x l n =
        let half : x / 2 < 2 ^ d = omega (arith, pow-suc 2 d) in
        let z : x / 2 ≡ 0 = below d (x / 2) half (λ c e. n (suc c) (up c ∙ e)) in
        let odd : x % 2 ≡ 1 → ⊥ = λ e. n 0 (ap (λ (y : ℕ). y % 2) (div-one x) ∙ e) in
        omega (arith, z, odd)
      where
        up : (c : ℕ) → x / 2 ^ suc c % 2 ≡ x / 2 / 2 ^ c % 2
        up c = ap (λ (y : ℕ). y % 2) (ap (λ (m : ℕ). x / 2 ^ m) (let e : suc c ≡ 1 + c = omega arith in e) ∙ sym (shr-shr x 1 c))

-- bytes that are below 1
pub all-zero : (bits : List ℕ) → all_below 1 bits ≡ true → bits ≡ replicate (length bits) 0
unfolding all_below
all-zero [] e = refl
all-zero (x ∷ xs) e =
    let t = both_true (ltb x 1) _ e in
    let z : x ≡ 0 = omega (arith, ltb-true x 1 t.0) in
    λ i. z i ∷ all-zero xs t.1 i

pub zero-all : (bits : List ℕ) → ((i : ℕ) → get_or bits i 0 ≡ 0) → all_below 1 bits ≡ true
unfolding all_below
zero-all [] z = refl
zero-all (x ∷ xs) z = let h : x < 1 = omega (arith, z 0) in rw (lt-ltb x 1 h) (zero-all xs (λ i. z (suc i)))
