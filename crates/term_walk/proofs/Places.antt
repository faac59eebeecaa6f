-- What the first cursors give: each segment's places in the map are its own, and inside it. Assumes nothing.
use mathlib.Core.Path.{◌≡◌, ap}
use mathlib.Core.Logic.{◌⊎◌, inl, inr}
use mathlib.Core.Bool.{Bool}
use mathlib.Core.List.{List, [], ◌∷◌}
use Prim.Native.Nat.{ℕ, zero, suc, ◌+◌, ◌-◌, ◌≤◌, ◌<◌}
use native.Mathlib.Nat.{le_of_suc-le-suc}
use native.Mathlib.Omega.{arith}
use lib.ListN.{length, take, get_or-eq_default}
use lib.Seq.{take-length}
use Rattle.term_merger.specs.declared.Cursor.{Cursor}
use Rattle.term_merger.specs.Order.{cursor_in, no_cursor}
use Rattle.term_cursors.specs.Cursors.{terms_in, sum_over}
use Rattle.term_walk.specs.Walk.{Ready}
use Rattle.lists.proofs.Numbers.{le-lt}
use Rattle.term_merger.specs.Live.{left_of}

-- ---- sums over the cursors before a cursor

over-next : (f : Cursor → ℕ) (cursors : List Cursor) (s t : ℕ) → s < t → s < length cursors → sum_over f (take s cursors) + f (cursor_in cursors s) ≤ sum_over f (take t cursors)
over-next f [] s t l h = absurd (omega arith)
over-next f (x ∷ xs) s zero l h = absurd (omega arith)
over-next f (x ∷ xs) zero (suc t) l h = omega arith
over-next f (x ∷ xs) (suc s) (suc t) l h = let e = over-next f xs s t (le_of_suc-le-suc l) (le_of_suc-le-suc h) in omega arith

pub some-cursor : (cursors : List Cursor) (s i : ℕ) → i < left_of cursors s → s < length cursors
some-cursor cursors s i k = go (le-lt s (length cursors))
  where
    go : (s < length cursors) ⊎ (length cursors ≤ s) → s < length cursors
    go (inl a) = a
    go (inr a) =
        let e : left_of cursors s ≡ 0 = ap (λ (z : Cursor). z.end - z.pos) (get_or-eq_default cursors no_cursor a) in
        absurd (omega arith)

module _ {lengths bytes marks : List ℕ} {all : Bool} {cursors : List Cursor} {lens outs ords : List ℕ} (y : Ready lengths bytes marks all cursors lens outs ords) where
  -- a segment's places lie before those of the segments after it
  pub place-below : (s t i : ℕ) → s < t → i < left_of cursors s → (cursor_in cursors s).to + i < sum_over terms_in (take t cursors)
  place-below s t i l k = omega (arith, y.starts s (let w : 0 < left_of cursors s = omega arith in w), over-next terms_in cursors s t l (some-cursor cursors s i k))

  pub place : (s i : ℕ) → i < left_of cursors s → (cursor_in cursors s).to + i < length ords
  place s i k =
      let e : sum_over terms_in (take (length cursors) cursors) ≡ sum_over terms_in cursors = ap (sum_over terms_in) (take-length cursors) in
      omega (arith, place-below s (length cursors) i (some-cursor cursors s i k) k, y.places)

  pub apart : (a b i j : ℕ) → (a ≡ b → ⊥) → i < left_of cursors a → j < left_of cursors b → (cursor_in cursors a).to + i ≡ (cursor_in cursors b).to + j → ⊥
  apart a b i j d l m e = go (le-lt a b)
    where
      go : (a < b) ⊎ (b ≤ a) → ⊥
      go (inl p) = omega (arith, place-below a b i p l, y.starts b (let w : 0 < left_of cursors b = omega arith in w))
      go (inr p) = omega (arith, place-below b a j (let q : b < a = omega arith in q) m, y.starts a (let w : 0 < left_of cursors a = omega arith in w))
