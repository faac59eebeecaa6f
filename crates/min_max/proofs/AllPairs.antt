-- Pairs put together are the pair of all the values. Assumes nothing.
use Rattle.std.proofs.Common.{◌≡◌, ℕ, Bool, true, false, cond, ◌||◌, eqb, List, [], ◌∷◌, ◌++◌, map, sym, refl, ap, ◌∙◌, true≢false, append_assoc, append-nil}
use mathlib.Core.List.{Memᴰ}
use mathlib.Core.Bool.{false≢true}
use Rattle.definitions.specs.Lists.{concat, is_empty}
use Rattle.definitions.specs.Segment.{Pair, pair, no_pair}
use Rattle.definitions.specs.Types.{I64, U64, first_by, pair_of, extremes}
use Rattle.definitions.proofs.Least.{Order, less_order, more-order, not_self, first_in, first-low, first-is}
use Rattle.min_max.specs.Pairs.{both_pairs, pairs_from, pairs_or_none, pairs_together}

module _ {before : ℕ → ℕ → Bool} (o : Order before) where
  -- the first of a and a list is a, or the list's own
  first-or : (a u : ℕ) (us : List ℕ) → first_by before a (u ∷ us) ≡ cond (before (first_by before u us) a) (first_by before u us) a
  first-or a u us = go (before f a) refl
    where
      f : ℕ
      f = first_by before u us

      below : before f a ≡ true → (x : ℕ) → Memᴰ x (a ∷ u ∷ us) → before x f ≡ false
      below e x (Memᴰ.head q) = ap (λ (y : ℕ). before y f) q ∙ o.asym f a e
      below e x (Memᴰ.tail m) = first-low o u us m

      not-below : before f a ≡ false → (x : ℕ) → Memᴰ x (u ∷ us) → (b : Bool) → before x a ≡ b → b ≡ false
      not-below e x m true h = absurd (true≢false (sym (o.cut x f a h e) ∙ first-low o u us m))
      not-below e x m false h = refl

      above : before f a ≡ false → (x : ℕ) → Memᴰ x (a ∷ u ∷ us) → before x a ≡ false
      above e x (Memᴰ.head q) = ap (λ (y : ℕ). before y a) q ∙ not_self o a
      above e x (Memᴰ.tail m) = not-below e x m (before x a) refl

      go : (b : Bool) → before f a ≡ b → first_by before a (u ∷ us) ≡ cond b f a
      go true e = first-is o a (u ∷ us) f (Memᴰ.tail (first_in o u us)) (below e)
      go false e = first-is o a (u ∷ us) a (Memᴰ.head refl) (above e)

  first-append : (w : ℕ) (vs us : List ℕ) → first_by before w (vs ++ us) ≡ first_by before (first_by before w vs) us
  first-append w [] us = refl
  first-append w (v ∷ vs) us = first-append (cond (before v w) v w) vs us

  first-both : (w u : ℕ) (vs us : List ℕ) → first_by before w (vs ++ u ∷ us) ≡ cond (before (first_by before u us) (first_by before w vs)) (first_by before u us) (first_by before w vs)
  first-both w u vs us = first-append w vs (u ∷ us) ∙ first-or (first_by before w vs) u us

module _ (t : ℕ) where
  both_values : (w u : ℕ) (vs us : List ℕ) → both_pairs t (extremes t (w ∷ vs)) (extremes t (u ∷ us)) ≡ extremes t (w ∷ vs ++ u ∷ us)
  unfolding both_pairs
  both_values w u vs us =
      let l = first-both (less_order t) w u vs us in
      let g = first-both (more-order t) w u vs us in
      λ i. pair (sym l i) (sym g i)

  -- each list has a value
  abbrev pub Some : List (List ℕ) → Type 0
  Some vss = (vs : List ℕ) → Memᴰ vs vss → is_empty vs ≡ false

  from-values : (w : ℕ) (vs : List ℕ) (vss : List (List ℕ)) → Some vss → pairs_from t (extremes t (w ∷ vs)) (map (extremes t) vss) ≡ extremes t (w ∷ vs ++ concat vss)
  from-values w vs [] h = ap (λ (l : List ℕ). extremes t (w ∷ l)) (sym (append-nil vs))
  from-values w vs ([] ∷ vss) h = absurd (false≢true (sym (h [] (Memᴰ.head refl))))
  from-values w vs ((u ∷ us) ∷ vss) h =
      ap (λ (p : Pair). pairs_from t p (map (extremes t) vss)) (both_values w u vs us)
      ∙ from-values w (vs ++ u ∷ us) vss (λ l m. h l (Memᴰ.tail m))
      ∙ ap (λ (l : List ℕ). extremes t (w ∷ l)) (append_assoc vs (u ∷ us) (concat vss))

  or-none : (vss : List (List ℕ)) → Some vss → pairs_or_none t (map (extremes t) vss) ≡ extremes t (concat vss)
  or-none [] h = refl
  or-none ([] ∷ vss) h = absurd (false≢true (sym (h [] (Memᴰ.head refl))))
  or-none ((v ∷ vs) ∷ vss) h = from-values v vs vss (λ l m. h l (Memᴰ.tail m))

  -- the pairs of lists that have values, put together, are the pair of all of them
  pub together_values : (vss : List (List ℕ)) → Some vss → pairs_together t (map (pair_of t) vss) ≡ pair_of t (concat vss)
  unfolding pairs_together pair_of
  together_values vss h = go (eqb t I64 || eqb t U64)
    where
      go : (b : Bool) → cond b (pairs_or_none t (map (λ (l : List ℕ). cond b (extremes t l) no_pair) vss)) no_pair ≡ cond b (extremes t (concat vss)) no_pair
      go true = or-none vss h
      go false = refl
