-- The laws of the scans of a run: what each says at the next number, and at the end. Assumes nothing.
use mathlib.Core.Path.{◌≡◌, refl, ap, ◌∙◌}
use mathlib.Core.Bool.{Bool, true, false, ◌&&◌}
use mathlib.Core.List.{List, [], ◌∷◌}
use Prim.Native.Nat.{ℕ, ◌+◌, ◌≤◌, ◌<◌}
use native.Mathlib.Numerals.{add-one}
use lib.Dec.{eqb, ltb}
use lib.ListN.{length, drop, get_or, drop_of_length-le}
use lib.Seq.{drop-cons}
use borrow.Author.Tests.{lt-ltb, le-ltb, eq-eqb, ne_eqb, eqb-true, eqb-false}
use Rattle.std.specs.List.{list_all, sum_by}
use Rattle.std.proofs.lemmas.List.Sums.{sum_by-cons}
use Rattle.definitions.specs.Lists.{sum, all, all_below}

-- ---- what std says of a run, in the definitions' words

pub list_all-all : {A : Type 0} (p : A → Bool) (xs : List A) → list_all p xs ≡ all p xs
list_all-all p [] = refl
list_all-all p (x ∷ xs) = ap (λ (b : Bool). p x && b) (list_all-all p xs)

pub sum_by-sum : (xs : List ℕ) → sum_by (λ x. x) xs ≡ sum xs
sum_by-sum [] = refl
sum_by-sum (x ∷ xs) = sum_by-cons (λ x. x) x xs ∙ ap (λ (n : ℕ). x + n) (sum_by-sum xs)

-- ---- words below a limit

module _ (limit : ℕ) (xs : List ℕ) (i : ℕ) (h : i < length xs) where
  below_step : all_below limit (drop i xs) ≡ ltb (get_or xs i 0) limit && all_below limit (drop (i + 1) xs)
  unfolding all_below
  below_step = rw (add-one i, drop-cons xs i 0 h)

  pub below-high : limit ≤ get_or xs i 0 → false ≡ all_below limit (drop i xs)
  below-high k = rw (below_step, le-ltb (get_or xs i 0) limit k)

  pub below_next : get_or xs i 0 < limit → all_below limit (drop (i + 1) xs) ≡ all_below limit (drop i xs)
  below_next k = rw (below_step, lt-ltb (get_or xs i 0) limit k)

pub below_end : (limit : ℕ) (xs : List ℕ) (i : ℕ) → length xs ≤ i → true ≡ all_below limit (drop i xs)
unfolding all_below
below_end limit xs i h = rw (drop_of_length-le xs h)

-- ---- numbers that add up

-- two tests of equality that say the same
pub eqb_same : (a b c d : ℕ) → (a ≡ b → c ≡ d) → (c ≡ d → a ≡ b) → eqb a b ≡ eqb c d
eqb_same a b c d f g = go (eqb c d) refl
  where
    go : (t : Bool) → eqb c d ≡ t → eqb a b ≡ t
    go true e = eq-eqb a b (g (eqb-true c d e))
    go false e = ne_eqb a b (λ p. eqb-false c d e (f p))
