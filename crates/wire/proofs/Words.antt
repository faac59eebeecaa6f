-- Words out of bytes, and widths. Assumes nothing.
use mathlib.Core.Path.{◌≡◌, refl, ap, ◌∙◌}
use mathlib.Core.List.{List, [], ◌∷◌}
use mathlib.Core.Bool.{true}
use Prim.Native.Nat.{ℕ, zero, suc, ◌+◌, ◌*◌, ◌/◌, ◌<◌}
use native.Mathlib.Nat.{le_of_suc-le-suc}
use native.Mathlib.Omega.{arith}
use borrow.Author.Tests.{ltb-true}
use lib.Dec.{ltb}
use lib.ListN.{length, drop, take, get_or}
use lib.Seq.{drop-drop}
use Rattle.definitions.specs.Wire.{little_endian, words_in, words_of}
use Rattle.definitions.specs.Lists.{all_below}
use Rattle.lists.proofs.Tests.{both_true}
use Rattle.runs.specs.Put.{Below}

-- ---- words

words_in_length : (n : ℕ) (l : List ℕ) → length (words_in n l) ≡ n
unfolding words_in
words_in_length zero l = refl
words_in_length (suc n) l = ap suc (words_in_length n (drop 8 l))

words_in_at : (n : ℕ) (l : List ℕ) (i : ℕ) → i < n → get_or (words_in n l) i 0 ≡ little_endian (take 8 (drop (i * 8) l))
unfolding words_in
words_in_at zero l i h = absurd (omega arith)
words_in_at (suc n) l zero h = refl
words_in_at (suc n) l (suc i) h =
    let e : 8 + i * 8 ≡ suc i * 8 = omega arith in
    words_in_at n (drop 8 l) i (le_of_suc-le-suc h) ∙ ap (λ (m : List ℕ). little_endian (take 8 m)) (drop-drop (i * 8) 8 l ∙ ap (λ (k : ℕ). drop k l) e)

pub words-length : (l : List ℕ) → length (words_of l) ≡ length l / 8
unfolding words_of
words-length l = words_in_length (length l / 8) l

pub words-at : (l : List ℕ) (i : ℕ) → i < length l / 8 → get_or (words_of l) i 0 ≡ little_endian (take 8 (drop (i * 8) l))
unfolding words_of
words-at l i h = words_in_at (length l / 8) l i h

-- ---- widths

-- a scan that passed
pub below_all : (bound : ℕ) (ws : List ℕ) → all_below bound ws ≡ true → Below bound ws
unfolding all_below
below_all bound [] h k l = absurd (omega arith)
below_all bound (w ∷ ws) h zero l = ltb-true w bound (both_true (ltb w bound) (all_below bound ws) h).0
below_all bound (w ∷ ws) h (suc k) l = below_all bound ws (both_true (ltb w bound) (all_below bound ws) h).1 k (le_of_suc-le-suc l)
