-- Parts of a list that follow one another, and lists that do not fall. Assumes nothing.
use Prim.Native.Nat.{ℕ, zero, suc, ◌+◌, ◌≤◌, ◌<◌}
use native.Mathlib.Nat.{le_refl, le_trans, le_of_suc-le-suc, not-suc-le-zero, add-zero}
use native.Mathlib.Omega.{arith}
use mathlib.Core.Path.{◌≡◌, refl, sym, ap, ◌∙◌, subst}
use mathlib.Core.List.{List, [], ◌∷◌, ◌++◌, map}
use lib.ListN.{length, take, drop, get_or, take-append-drop}
use lib.Seq.{slice, slice_empty, take-take}
use lib.Dec.{T, leb, leb→le}
use lib.Ieee.Fits.{and_l, and_r}
use Rattle.definitions.specs.Lists.{up_from, concat, last, not_falling_from, not_falling}

drop_join : (a b : ℕ) (w : List ℕ) → a ≤ b → drop a (take b w) ++ drop b w ≡ drop a w
drop_join zero b w h = take-append-drop b w
drop_join (suc a) zero w h = absurd (not-suc-le-zero h)
drop_join (suc a) (suc b) [] h = refl
drop_join (suc a) (suc b) (x ∷ xs) h = drop_join a b xs (le_of_suc-le-suc h)

slice_join : (a b c : ℕ) (v : List ℕ) → a ≤ b → b ≤ c → slice a b v ++ slice b c v ≡ slice a c v
slice_join a b c v h k = ap (λ (l : List ℕ). drop a l ++ drop b (take c v)) (sym (take-take b c v k)) ∙ drop_join a b (take c v) h

-- cut where p says, and put together again
module _ (p : ℕ → ℕ) (vs : List ℕ) where
  pub walk_slices : (k m : ℕ) → ((r : ℕ) → r < k + m → p r ≤ p (suc r))
      → (p k ≤ p (k + m)) × (concat (map (λ r. slice (p r) (p (suc r)) vs) (up_from k m)) ≡ slice (p k) (p (k + m)) vs)
  walk_slices k zero up = rw (add-zero k) (le_refl (p k), sym (slice_empty (p k) vs))
  walk_slices k (suc m) up =
      let e : suc k + m ≡ k + suc m = omega arith in
      let t = walk_slices (suc k) m (λ r h. up r (omega arith)) in
      let q : p (suc k) ≤ p (k + suc m) = subst (λ (n : ℕ). p (suc k) ≤ p n) e t.0 in
      let c : concat (map (λ r. slice (p r) (p (suc r)) vs) (up_from (suc k) m)) ≡ slice (p (suc k)) (p (k + suc m)) vs = t.1 ∙ ap (λ (n : ℕ). slice (p (suc k)) (p n) vs) e in
      (le_trans (up k (omega arith)) q, ap (λ (l : List ℕ). slice (p k) (p (suc k)) vs ++ l) c ∙ slice_join (p k) (p (suc k)) (p (k + suc m)) vs (up k (omega arith)) q)

pub fall_step : (os : List ℕ) (k : ℕ) → T (not_falling os) → suc k < length os → get_or os k 0 ≤ get_or os (suc k) 0
fall_step [] k h l = absurd (not-suc-le-zero l)
fall_step (o ∷ []) k h l = absurd (not-suc-le-zero (le_of_suc-le-suc l))
fall_step (o ∷ p ∷ ps) zero h l = leb→le o p (and_l (leb o p) (not_falling_from p ps) h)
fall_step (o ∷ p ∷ ps) (suc k) h l = fall_step (p ∷ ps) k (and_r (leb o p) (not_falling_from p ps) h) (le_of_suc-le-suc l)

-- the first is at most the last
pub le-last : (o : ℕ) (os : List ℕ) → T (not_falling_from o os) → o ≤ last (o ∷ os)
le-last o [] h = le_refl o
le-last o (p ∷ ps) h = le_trans (leb→le o p (and_l (leb o p) (not_falling_from p ps) h)) (le-last p ps (and_r (leb o p) (not_falling_from p ps) h))

-- ---- the first of a list, and the last

pub first-zero : (l : List ℕ) → get_or l 0 1 ≡ 0 → get_or l 0 0 ≡ 0
first-zero [] e = refl
first-zero (x ∷ xs) e = e

pub last-at : (ns : List ℕ) (k : ℕ) → length ns ≡ suc k → get_or ns k 0 ≡ last ns
last-at [] k e = absurd (omega arith)
last-at (n ∷ []) zero e = refl
last-at (n ∷ []) (suc k) e = absurd (omega arith)
last-at (n ∷ m ∷ ns) zero e = absurd (omega arith)
last-at (n ∷ m ∷ ns) (suc k) e = last-at (m ∷ ns) k (omega arith)
