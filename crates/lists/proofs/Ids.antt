-- What is nothing for the rows that are no ids is over all rows what it is over the ids: a sum, and lists one after another. Assumes nothing.
use mathlib.Core.Path.{◌≡◌, refl, ap, ◌∙◌}
use mathlib.Core.List.{List, [], ◌∷◌, ◌++◌, map}
use mathlib.Core.Bool.{Bool, true, false, cond}
use Prim.Native.Nat.{ℕ, ◌+◌}
use native.Mathlib.Omega.{arith}
use lib.Dec.{T, ltb}
use Rattle.definitions.specs.Lists.{sum, concat, filter, all, elem, ascending, up_to}
use Rattle.definitions.proofs.Lookup.{rows_are}

sum-filter : (f : ℕ → ℕ) (p : ℕ → Bool) (l : List ℕ) → ((r : ℕ) → p r ≡ false → f r ≡ 0) → sum (map f l) ≡ sum (map f (filter p l))
sum-filter f p [] z = refl
sum-filter f p (x ∷ xs) z = go (p x) refl (sum-filter f p xs z)
  where
    go : (b : Bool) → p x ≡ b → sum (map f xs) ≡ sum (map f (filter p xs)) → f x + sum (map f xs) ≡ sum (map f (cond b (x ∷ filter p xs) (filter p xs)))
    go true e h = ap (λ (n : ℕ). f x + n) h
    go false e h = let k = z x e in omega arith

concat-filter : (f : ℕ → List ℕ) (p : ℕ → Bool) (l : List ℕ) → ((r : ℕ) → p r ≡ false → f r ≡ []) → concat (map f l) ≡ concat (map f (filter p l))
concat-filter f p [] z = refl
concat-filter f p (x ∷ xs) z = go (p x) refl (concat-filter f p xs z)
  where
    go : (b : Bool) → p x ≡ b → concat (map f xs) ≡ concat (map f (filter p xs)) → f x ++ concat (map f xs) ≡ concat (map f (cond b (x ∷ filter p xs) (filter p xs)))
    go true e h = ap (λ (l : List ℕ). f x ++ l) h
    go false e h = ap (λ (l : List ℕ). l ++ concat (map f xs)) (z x e) ∙ h

module _ (ids : List ℕ) (up : T (ascending ids)) (rows : ℕ) (below : T (all (λ i. ltb i rows) ids)) where
  pub sum_rows : (f : ℕ → ℕ) → ((r : ℕ) → elem r ids ≡ false → f r ≡ 0) → sum (map f (up_to rows)) ≡ sum (map f ids)
  sum_rows f z = sum-filter f (λ r. elem r ids) (up_to rows) z ∙ ap (λ (l : List ℕ). sum (map f l)) (rows_are ids up rows below)

  pub concat-rows : (f : ℕ → List ℕ) → ((r : ℕ) → elem r ids ≡ false → f r ≡ []) → concat (map f (up_to rows)) ≡ concat (map f ids)
  concat-rows f z = concat-filter f (λ r. elem r ids) (up_to rows) z ∙ ap (λ (l : List ℕ). concat (map f l)) (rows_are ids up rows below)
