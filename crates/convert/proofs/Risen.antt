-- The walk over the offsets of an old multivalued segment: what each row adds to the new ids and offsets, and how they are written. Assumes nothing.
use Prim.Native.Nat.{ℕ, zero, suc, ◌+◌, ◌-◌, ◌*◌, ◌/◌, ◌≤◌, ◌<◌, zero-le}
use native.Mathlib.Nat.{zero-add, add_assoc, not-suc-le-zero}
use native.Mathlib.Numerals.{add-one}
use native.Mathlib.Omega.{arith}
use mathlib.Core.Path.{◌≡◌, refl, sym, ap, ap₂, ◌∙◌}
use mathlib.Core.List.{List, [], ◌∷◌}
use mathlib.Core.Logic.{◌⊎◌, inl, inr}
use mathlib.Core.Bool.{Bool, true, false, cond}
use lib.ListN.{length, take, drop, set, get_or, length-drop}
use lib.Seq.{drop-cons, drop-drop, take_all}
use lib.Dec.{ltb}
use Rattle.runs.specs.Put.{put}
use Rattle.runs.proofs.Laws.{put_one, put-put, Filling}
use Rattle.lists.proofs.Numbers.{le-lt}
use Rattle.convert.specs.Risen.{one_if, risen_ids, risen_ends, steps_by, rises, falls}

-- ---- the next row, and the end

two-left : (os : List ℕ) (row : ℕ) → row + 1 < length os → drop row os ≡ get_or os row 0 ∷ get_or os (row + 1) 0 ∷ drop (suc (row + 1)) os
two-left os row h =
    drop-cons os row 0 (omega arith)
    ∙ ap (λ (l : List ℕ). get_or os row 0 ∷ l) (ap (λ (n : ℕ). drop n os) (sym (add-one row)) ∙ drop-cons os (row + 1) 0 h)

module _ (os : List ℕ) (row : ℕ) (h : row + 1 < length os) where
  one_left : get_or os (row + 1) 0 ∷ drop (suc (row + 1)) os ≡ drop (row + 1) os
  one_left = sym (drop-cons os (row + 1) 0 h)

  pub ids_step : (n : ℕ) → risen_ids n (drop row os) ≡ cond (ltb (get_or os row 0) (get_or os (row + 1) 0)) (n ∷ risen_ids (n + 1) (drop (row + 1) os)) (risen_ids (n + 1) (drop (row + 1) os))
  unfolding risen_ids
  ids_step n =
      ap (risen_ids n) (two-left os row h)
      ∙ ap (λ (l : List ℕ). cond (ltb (get_or os row 0) (get_or os (row + 1) 0)) (n ∷ risen_ids (suc n) l) (risen_ids (suc n) l)) one_left
      ∙ ap (λ (m : ℕ). cond (ltb (get_or os row 0) (get_or os (row + 1) 0)) (n ∷ risen_ids m (drop (row + 1) os)) (risen_ids m (drop (row + 1) os))) (sym (add-one n))

  pub ends_step : risen_ends (drop row os) ≡ cond (ltb (get_or os row 0) (get_or os (row + 1) 0)) (get_or os (row + 1) 0 ∷ risen_ends (drop (row + 1) os)) (risen_ends (drop (row + 1) os))
  unfolding risen_ends
  ends_step =
      ap risen_ends (two-left os row h)
      ∙ ap (λ (l : List ℕ). cond (ltb (get_or os row 0) (get_or os (row + 1) 0)) (get_or os (row + 1) 0 ∷ risen_ends l) (risen_ends l)) one_left

pub ids-end : (n : ℕ) (os : List ℕ) (row : ℕ) → length os ≤ row + 1 → risen_ids n (drop row os) ≡ []
unfolding risen_ids
ids-end n [] zero h = refl
ids-end n [] (suc row) h = refl
ids-end n (o ∷ []) zero h = refl
ids-end n (o ∷ p ∷ ps) zero h = absurd (omega arith)
ids-end n (o ∷ os) (suc row) h = ids-end n os row (omega arith)

pub ends-ids : (n : ℕ) (os : List ℕ) → length (risen_ends os) ≡ length (risen_ids n os)
unfolding risen_ends risen_ids
ends-ids n [] = refl
ends-ids n (o ∷ []) = refl
ends-ids n (o ∷ p ∷ ps) = go (ltb o p) (ends-ids (suc n) (p ∷ ps))
  where
    go : (b : Bool) → length (risen_ends (p ∷ ps)) ≡ length (risen_ids (suc n) (p ∷ ps))
        → length (cond b (p ∷ risen_ends (p ∷ ps)) (risen_ends (p ∷ ps))) ≡ length (cond b (n ∷ risen_ids (suc n) (p ∷ ps)) (risen_ids (suc n) (p ∷ ps)))
    go true e = ap suc e
    go false e = e

-- no more than there are rows
ids_fewer : (n o : ℕ) (os : List ℕ) → length (risen_ids n (o ∷ os)) ≤ length os
unfolding risen_ids
ids_fewer n o [] = zero-le
ids_fewer n o (p ∷ ps) = go (ltb o p) (ids_fewer (suc n) p ps)
  where
    go : (b : Bool) → length (risen_ids (suc n) (p ∷ ps)) ≤ length ps → length (cond b (n ∷ risen_ids (suc n) (p ∷ ps)) (risen_ids (suc n) (p ∷ ps))) ≤ suc (length ps)
    go true h = omega arith
    go false h = omega arith

pub ids-narrow : (os : List ℕ) → length os < 4294967296 → length (risen_ids 0 os) < 4294967295
unfolding risen_ids
ids-narrow [] h = omega arith
ids-narrow (o ∷ os) h = omega (arith, ids_fewer 0 o os)

-- ---- counted

length_if : (b : Bool) (x : ℕ) (l : List ℕ) → length (cond b (x ∷ l) l) ≡ one_if b + length l
length_if true x l = omega arith
length_if false x l = sym (zero-add (length l))

-- the rows with a value are the steps up
pub ids-rises : (n : ℕ) (os : List ℕ) → length (risen_ids n os) ≡ rises os
unfolding risen_ids steps_by
ids-rises n [] = refl
ids-rises n (o ∷ []) = refl
ids-rises n (o ∷ p ∷ ps) = length_if (ltb o p) n (risen_ids (suc n) (p ∷ ps)) ∙ ap (λ (m : ℕ). one_if (ltb o p) + m) (ids-rises (suc n) (p ∷ ps))

module _ (t : ℕ → ℕ → Bool) where
  pub steps_step : (os : List ℕ) (row : ℕ) → row + 1 < length os → steps_by t (drop row os) ≡ one_if (t (get_or os row 0) (get_or os (row + 1) 0)) + steps_by t (drop (row + 1) os)
  unfolding steps_by
  steps_step os row h =
      ap (steps_by t) (two-left os row h) ∙ ap (λ (l : List ℕ). one_if (t (get_or os row 0) (get_or os (row + 1) 0)) + steps_by t l) (one_left os row h)

  pub steps_end : (os : List ℕ) (row : ℕ) → length os ≤ row + 1 → steps_by t (drop row os) ≡ 0
  unfolding steps_by
  steps_end [] zero h = refl
  steps_end [] (suc row) h = refl
  steps_end (o ∷ []) zero h = refl
  steps_end (o ∷ p ∷ ps) zero h = absurd (omega arith)
  steps_end (o ∷ os) (suc row) h = steps_end os row (omega arith)

  -- from a row back to the one before it
  pub steps_back : (os : List ℕ) (i : ℕ) → 1 ≤ i → i < length os → steps_by t (drop (i - 1) os) ≡ one_if (t (get_or os (i - 1) 0) (get_or os i 0)) + steps_by t (drop (i + 1 - 1) os)
  steps_back os i l h =
      let e : i - 1 + 1 ≡ i = omega arith in
      let f : i - 1 + 1 ≡ i + 1 - 1 = omega arith in
      steps_step os (i - 1) (omega arith) ∙ ap₂ (λ (m n : ℕ). one_if (t (get_or os (i - 1) 0) (get_or os m 0)) + steps_by t (drop n os)) e f

  pub steps_past : (os : List ℕ) (i : ℕ) → 1 ≤ i → length os ≤ i → steps_by t (drop (i - 1) os) ≡ 0
  steps_past os i l h = steps_end os (i - 1) (omega arith)

  -- of the next two, and past them
  pub steps_pair : (rest next pair : List ℕ) → 2 ≤ length rest → pair ≡ take 2 rest → next ≡ drop 1 rest → steps_by t rest ≡ one_if (t (get_or pair 0 0) (get_or pair 1 0)) + steps_by t next
  unfolding steps_by
  steps_pair [] next pair h p n = absurd (omega arith)
  steps_pair (o ∷ []) next pair h p n = absurd (omega arith)
  steps_pair (o ∷ q ∷ qs) next pair h p n = rw (p, n)

  pub steps_none : (rest : List ℕ) → length rest < 2 → steps_by t rest ≡ 0
  unfolding steps_by
  steps_none [] h = refl
  steps_none (o ∷ []) h = refl
  steps_none (o ∷ q ∷ qs) h = absurd (omega arith)

  -- of two parts that share an element
  steps_split : (os : List ℕ) (q : ℕ) → q < length os → steps_by t (take (suc q) os) + steps_by t (drop q os) ≡ steps_by t os
  unfolding steps_by
  steps_split [] q h = absurd (not-suc-le-zero h)
  steps_split (o ∷ os) zero h = zero-add (steps_by t (o ∷ os))
  steps_split (o ∷ []) (suc q) h = absurd (omega arith)
  steps_split (o ∷ p ∷ ps) (suc q) h =
      let e = steps_split (p ∷ ps) q (omega arith) in
      let a = steps_by t (take (suc q) (p ∷ ps)) in
      let b = steps_by t (drop q (p ∷ ps)) in
      add_assoc (one_if (t o p)) a b ∙ ap (λ (m : ℕ). one_if (t o p) + m) e

  -- four parts of q rows, and the rest
  pub steps_four : (os : List ℕ) (q : ℕ) → 4 * q < length os
      → steps_by t (take (suc q) os) + steps_by t (take (suc q) (drop q os)) + steps_by t (take (suc q) (drop (q + q) os)) + steps_by t (take (suc q) (drop (q + q + q) os)) + steps_by t (drop (q + q + q + q) os)
      ≡ steps_by t os
  steps_four os q h =
      let a = steps_split os q (omega arith) in
      let b = steps_split (drop q os) q (omega (arith, length-drop q os)) in
      let c = steps_split (drop (q + q) os) q (omega (arith, length-drop (q + q) os)) in
      let d = steps_split (drop (q + q + q) os) q (omega (arith, length-drop (q + q + q) os)) in
      let x : steps_by t (drop q (drop q os)) ≡ steps_by t (drop (q + q) os) = ap (steps_by t) (drop-drop q q os) in
      let y : steps_by t (drop q (drop (q + q) os)) ≡ steps_by t (drop (q + q + q) os) = ap (steps_by t) (drop-drop q (q + q) os) in
      let z : steps_by t (drop q (drop (q + q + q) os)) ≡ steps_by t (drop (q + q + q + q) os) = ap (steps_by t) (drop-drop q (q + q + q) os) in
      omega arith

  -- as they are counted
  pub steps_all : (os : List ℕ) (q : ℕ) → 4 * q < length os → (x y : ℕ)
      → x ≡ steps_by t (take (q + 1) os) + steps_by t (take (q + q + 1 - q) (drop q os)) + steps_by t (take (q + q + q + 1 - (q + q)) (drop (q + q) os)) + steps_by t (take (q + q + q + q + 1 - (q + q + q)) (drop (q + q + q) os))
      → y ≡ steps_by t (take (length os - (q + q + q + q)) (drop (q + q + q + q) os)) → x + y ≡ steps_by t os
  steps_all os q h x y e f =
      ap₂ (λ (m n : ℕ). m + n) (e ∙ rw (add-one q, one (q + q) q (omega arith), one (q + q + q) (q + q) (omega arith), one (q + q + q + q) (q + q + q) (omega arith)))
      (f ∙ ap (steps_by t) (take_all (length os - (q + q + q + q)) (drop (q + q + q + q) os) (omega (arith, length-drop (q + q + q + q) os))))
      ∙ steps_four os q h
    where
      one : (a b : ℕ) → a ≡ b + q → a + 1 - b ≡ suc q
      one a b e = omega arith

  -- no more than there are offsets
  pub steps_few : (os : List ℕ) → steps_by t os ≤ length os
  unfolding steps_by
  steps_few [] = zero-le
  steps_few (o ∷ []) = zero-le
  steps_few (o ∷ p ∷ ps) = go (t o p) (steps_few (p ∷ ps))
    where
      go : (b : Bool) → steps_by t (p ∷ ps) ≤ suc (length ps) → one_if b + steps_by t (p ∷ ps) ≤ suc (suc (length ps))
      go true h = omega arith
      go false h = omega arith

-- ---- the four parts

pub quarter : (n : ℕ) → (n ≡ 0 → ⊥) → 4 * ((n - 1) / 4) < n
quarter zero h = absurd (h refl)
quarter (suc m) h = omega arith

pub no_steps : (os : List ℕ) → length os ≡ 0 → (0 ≡ length (risen_ids 0 os)) × (0 ≡ falls os)
unfolding risen_ids steps_by
no_steps [] h = (refl, refl)
no_steps (o ∷ os) h = absurd (omega arith)

-- ---- written

pub none_left : (l : List ℕ) → length l ≡ 0 → l ≡ []
none_left [] h = refl
none_left (x ∷ l) h = absurd (omega arith)

-- while ids are left, a row is left, and a place for it in each output
pub record Turn (os ids ends : List ℕ) (k row : ℕ) : Type 0 where
  pub left : row + 1 < length os
  pub id : k < length ids
  pub end : k + 1 < length ends

pub turn : {os ids₀ ends₀ ids ends : List ℕ} {n k row : ℕ} → n ≡ length (risen_ids 0 os) → Filling 0 (risen_ids 0 os) ids₀ (risen_ids row (drop row os)) ids k
    → Filling 1 (risen_ends os) ends₀ (risen_ends (drop row os)) ends (k + 1) → k < n → Turn os ids ends k row
turn {os} {n = n} {k} {row} m g e h =
    record {
      left = go (le-lt (row + 1) (length os));
      id = omega (arith, g.room, g.kept);
      end = omega (arith, e.room, e.kept, ends-ids 0 os);
    }
  where
    go : (row + 1 < length os) ⊎ (length os ≤ row + 1) → row + 1 < length os
    go (inl l) = l
    go (inr l) = let z : length (risen_ids row (drop row os)) ≡ 0 = ap length (ids-end row os row l) in absurd (omega (arith, g.total))

-- the rest of a list whose first element was stored
pub put_first : (x : ℕ) (vs old : List ℕ) → 0 < length old → put 1 vs (set old 0 x) ≡ put 0 (x ∷ vs) old
put_first x vs old h = ap (put 1 vs) (put_one 0 x old h) ∙ put-put 0 (x ∷ []) old (omega arith) vs
