-- The set bits of the words of an alive set, word by word. Assumes nothing.
use Prim.Native.Nat.{ℕ, zero, suc, ◌+◌, ◌*◌, ◌/◌, ◌%◌, ◌^◌, ◌≤◌, ◌<◌}
use native.Mathlib.Nat.{add-suc, div-one, pow-suc}
use native.Mathlib.Omega.{arith}
use mathlib.Core.Path.{◌≡◌, refl, sym, ap, ap₂, ◌∙◌}
use mathlib.Core.List.{List, [], ◌∷◌}
use mathlib.Core.Bool.{Bool, cond}
use lib.ListN.{length, get_or}
use lib.Dec.{eqb}
use lib.Pow.{shr-shr}
use lib.Count.{ones, ones_step, ones-le}
use Rattle.std.specs.List.{sum_by}
use Rattle.std.proofs.lemmas.List.Sums.{sum_by-cons}
use Rattle.definitions.specs.Lists.{count, up_from}
use Rattle.definitions.specs.Row.{bit_at, set_bits}
use Rattle.definitions.proofs.AliveNumber.{count_same, count_split, odd_or-even, bits_count}

-- ---- counts over numbers in sequence

-- numbers that are moved up by k
count-moved : (p : ℕ → Bool) (k s n : ℕ) → count p (up_from (k + s) n) ≡ count (λ r. p (k + r)) (up_from s n)
count-moved p k s zero = refl
count-moved p k s (suc n) =
    ap (λ (c : ℕ). cond (p (k + s)) (suc c) c) (ap (λ (m : ℕ). count p (up_from m n)) (sym (add-suc k s)) ∙ count-moved p k (suc s) n)

-- ---- the digits of one word

abbrev digit : ℕ → ℕ → Bool
digit n r = eqb (n / 2 ^ r % 2) 1

-- one place up is half the number
digit_up : (n r : ℕ) → digit n (1 + r) ≡ digit (n / 2) r
digit_up n r = ap (λ (m : ℕ). eqb (m % 2) 1) (sym (shr-shr n 1 r))

digits_ones : (d n : ℕ) → n < 2 ^ d → count (digit n) (up_from 0 d) ≡ ones n
digits_ones zero n h =
    let l : n ≡ 0 = omega arith in
    let o : ones 0 ≤ 0 = ones-le 0 0 (omega arith) in
    let z : 0 ≡ ones 0 = omega arith in
    z ∙ ap ones (sym l)
digits_ones (suc d) n h =
    let half : n / 2 < 2 ^ d = omega (arith, pow-suc 2 d) in
    let rest : count (digit n) (up_from 1 d) ≡ ones (n / 2) =
    count-moved (digit n) 1 0 d ∙ count_same (λ r. digit n (1 + r)) (digit (n / 2)) 0 d (λ r l. digit_up n r) ∙ digits_ones d (n / 2) half in
    ap (λ (m : ℕ). cond (eqb (m % 2) 1) (suc (count (digit n) (up_from 1 d))) (count (digit n) (up_from 1 d))) (div-one n)
    ∙ odd_or-even (n % 2) (count (digit n) (up_from 1 d)) (omega arith)
    ∙ ap (λ (c : ℕ). n % 2 + c) rest
    ∙ sym (ones_step n)

-- ---- the words

first_word : (w : ℕ) (ws : List ℕ) (r : ℕ) → r < 0 + 64 → bit_at (w ∷ ws) r ≡ digit w r
unfolding bit_at
first_word w ws r h =
    let q : r / 64 ≡ 0 = omega arith in
    let m : r % 64 ≡ r = omega arith in
    rw (q, m)

next-words : (w : ℕ) (ws : List ℕ) (r : ℕ) → bit_at (w ∷ ws) (64 + r) ≡ bit_at ws r
unfolding bit_at
next-words w ws r =
    let q : (64 + r) / 64 ≡ suc (r / 64) = omega arith in
    let m : (64 + r) % 64 ≡ r % 64 = omega arith in
    rw (q, m)

bits_words : (w : ℕ) (ws : List ℕ) → w < 2 ^ 64 → set_bits (w ∷ ws) ≡ ones w + set_bits ws
bits_words w ws h =
    let e : 64 * suc (length ws) ≡ 64 + 64 * length ws = omega arith in
    bits_count (w ∷ ws)
    ∙ ap (λ (n : ℕ). count (bit_at (w ∷ ws)) (up_from 0 n)) e
    ∙ count_split (bit_at (w ∷ ws)) 0 64 (64 * length ws)
    ∙ ap₂ (λ (n m : ℕ). n + m)
    (count_same (bit_at (w ∷ ws)) (digit w) 0 64 (first_word w ws) ∙ digits_ones 64 w h)
    (count-moved (bit_at (w ∷ ws)) 64 0 (64 * length ws) ∙ count_same (λ r. bit_at (w ∷ ws) (64 + r)) (bit_at ws) 0 (64 * length ws) (λ r l. next-words w ws r) ∙ sym (bits_count ws))

pub sum_by-ones : (words : List ℕ) → ((i : ℕ) → get_or words i 0 < 2 ^ 64) → sum_by ones words ≡ set_bits words
unfolding set_bits
sum_by-ones [] h = refl
sum_by-ones (w ∷ ws) h = sum_by-cons ones w ws ∙ ap (λ (n : ℕ). ones w + n) (sum_by-ones ws (λ i. h (suc i))) ∙ sym (bits_words w ws (h 0))
