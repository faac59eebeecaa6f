-- A row's key, by the definitions, is that of the last of the values up to its end; keys don't fall with the rows. For a segment that has passed
-- the checks. Assumes nothing.
use Prim.Native.Nat.{ℕ, zero, suc, ◌+◌, ◌-◌, ◌≤◌, ◌<◌, zero-le, suc-le-suc}
use native.Mathlib.Nat.{le_refl, le_trans, add-zero}
use native.Mathlib.Omega.{arith}
use mathlib.Core.Path.{◌≡◌, refl, sym, ap, ap₂, ◌∙◌, subst}
use mathlib.Core.Logic.{◌⊎◌, inl, inr}
use mathlib.Core.List.{List, [], ◌∷◌, map}
use lib.ListN.{length, get_or, length-map}
use lib.Seq.{slice, slice_empty, slice-cons}
use lib.Dec.{T}
use Rattle.definitions.specs.Lists.{not_falling, concat, up_to}
use Rattle.definitions.specs.Segment.{Segment}
use Rattle.definitions.specs.Row.{row_values}
use Rattle.definitions.specs.TimeOrder.{time_of, key_or, first_key, key_after}
use Rattle.definitions.proofs.Keys.{first-times}
use Rattle.column_index.specs.Lookup.{start_of, end_of, Sound}
use Rattle.column_index.proofs.Laws.{row-slice}
use Rattle.column_index.proofs.Walk.{walk_values}
use Rattle.column_index.proofs.Sound.{earlier_of, cell_earlier, earlier_zero, earlier_le, earlier_step}
use Rattle.definitions.proofs.Slices.{fall_step}
use Rattle.time_checks.specs.Times.{singles, singles_from}
use Rattle.time_checks.proofs.Several.{few}
use Rattle.time_cursors.specs.Cursors.{last_key}
use Rattle.definitions.proofs.Lists.{get_or_in, map_mem}

-- what does not fall from one number to the next does not fall
climb : (f : ℕ → ℕ) (top : ℕ) → ((n : ℕ) → n < top → f n ≤ f (suc n)) → (n k : ℕ) → n + k ≤ top → f n ≤ f (n + k)
climb f top up n zero h = subst (λ (m : ℕ). f n ≤ f m) (sym (add-zero n)) (le_refl (f n))
climb f top up n (suc k) h =
    let e : suc (n + k) ≡ n + suc k = omega arith in
    le_trans (climb f top up n k (omega arith)) (subst (λ (m : ℕ). f (n + k) ≤ f m) e (up (n + k) (omega arith)))

climb_to : (f : ℕ → ℕ) (top : ℕ) → ((n : ℕ) → n < top → f n ≤ f (suc n)) → (n m : ℕ) → n ≤ m → m ≤ top → f n ≤ f m
climb_to f top up n m h l = let e : n + (m - n) ≡ m = omega arith in subst (λ (k : ℕ). f n ≤ f k) e (climb f top up n (m - n) (omega arith))

le_by : {a b x y : ℕ} → a ≡ x → b ≡ y → x ≤ y → a ≤ b
le_by p q h = omega arith

-- the key of the last of some times
pub last-is : (vs : List ℕ) (n : ℕ) → 0 < n → n ≤ length vs → last_key vs n ≡ suc (time_of (get_or vs (n - 1) 0))
last-is [] n p h = absurd (omega arith)
last-is (v ∷ vs) n p h = refl

last-suc : (vs : List ℕ) (n : ℕ) → n < length vs → last_key vs (suc n) ≡ suc (time_of (get_or vs n 0))
last-suc vs n h = let e : suc n - 1 ≡ n = omega arith in last-is vs (suc n) (omega arith) h ∙ ap (λ (k : ℕ). suc (time_of (get_or vs k 0))) e

last-zero : (vs : List ℕ) → last_key vs 0 ≡ key_or vs 0
last-zero [] = refl
last-zero (v ∷ vs) = refl

last_step : (vs : List ℕ) → T (not_falling (map time_of vs)) → (n : ℕ) → n < length vs → last_key vs n ≤ last_key vs (suc n)
last_step vs f zero h = go vs
  where
    go : (vs : List ℕ) → last_key vs 0 ≤ last_key vs 1
    go [] = zero-le
    go (v ∷ vs) = le_refl (suc (time_of v))
last_step vs f (suc n) h =
    let a = get_or_in time_of vs n 0 0 (omega arith) in
    let b = get_or_in time_of vs (suc n) 0 0 h in
    let c = fall_step (map time_of vs) n f (rw (length-map vs time_of) h) in
    le_by (last-suc vs n (omega arith)) (last-suc vs (suc n) h) (suc-le-suc (rw (a, b) at c))

pub last_grows : (vs : List ℕ) → T (not_falling (map time_of vs)) → (n m : ℕ) → n ≤ m → m ≤ length vs → last_key vs n ≤ last_key vs m
last_grows vs f = climb_to (last_key vs) (length vs) (last_step vs f)

-- without offsets no row has several
pub none-several : {kind rows n : ℕ} {ids : List ℕ} → Sound kind rows n ids [] → (r : ℕ) → r < rows → earlier_of kind ids [] (suc r) - earlier_of kind ids [] r ≤ 1
unfolding singles singles_from
none-several so = few so refl

module _ (s : Segment) (so : Sound s.kind s.rows (length s.values) s.ids s.offsets)
    (single : (r : ℕ) → r < s.rows → earlier_of s.kind s.ids s.offsets (suc r) - earlier_of s.kind s.ids s.offsets r ≤ 1) where
  abbrev before : ℕ → ℕ
  before n = earlier_of s.kind s.ids s.offsets n

  -- the segment's first time is its first value
  first-value : first_key s (up_to s.rows) ≡ key_or s.values 0
  first-value =
      first-times s (up_to s.rows)
      ∙ ap (λ (l : List (List ℕ)). key_or (concat l) 0)
      (map_mem (row_values s) (λ r. slice (start_of s.kind s.ids s.offsets r) (end_of s.kind s.ids s.offsets r) s.values) (up_to s.rows) (λ r m. row-slice s r so.current))
      ∙ ap (λ (l : List ℕ). key_or l 0) (walk_values s.values so)

  pub key_earlier : (n : ℕ) → n ≤ s.rows → key_after s n ≡ last_key s.values (before n)
  key_earlier zero h = first-value ∙ sym (ap (last_key s.values) (earlier_zero so) ∙ last-zero s.values)
  key_earlier (suc n) h =
      go (before n) (before (suc n)) (earlier_step so n h) (earlier_le so (suc n) h) (single n h)
      (row-slice s n so.current ∙ cell_earlier s.kind s.ids s.offsets s.values n so.ascends) (key_earlier n (omega arith))
    where
      step : (c d : ℕ) → c ≤ d → d - c ≤ 1 → (d ≡ c) ⊎ (d ≡ suc c)
      step c d l w = pick (d - c) refl w
        where
          pick : (k : ℕ) → d - c ≡ k → k ≤ 1 → (d ≡ c) ⊎ (d ≡ suc c)
          pick zero e h = inl (omega arith)
          pick (suc zero) e h = inr (omega arith)
          pick (suc (suc k)) e h = absurd (omega arith)

      go : (c d : ℕ) → c ≤ d → d ≤ length s.values → d - c ≤ 1 → row_values s n ≡ slice c d s.values → key_after s n ≡ last_key s.values c
          → key_or (row_values s n) (key_after s n) ≡ last_key s.values d
      go c d l m w r ih = at (step c d l w)
        where
          at : (d ≡ c) ⊎ (d ≡ suc c) → key_or (row_values s n) (key_after s n) ≡ last_key s.values d
          at (inl e) = ap₂ key_or (r ∙ ap (λ (k : ℕ). slice c k s.values) e ∙ slice_empty c s.values) ih ∙ ap (last_key s.values) (sym e)
          at (inr e) =
              ap (λ (l : List ℕ). key_or l (key_after s n)) (r ∙ ap (λ (k : ℕ). slice c k s.values) e ∙ slice-cons c (suc c) s.values 0 (le_refl (suc c)) (omega arith))
              ∙ sym (ap (last_key s.values) e ∙ last-suc s.values c (omega arith))

  -- keys don't fall with the rows
  pub key_grows : T (not_falling (map time_of s.values)) → (n m : ℕ) → n ≤ m → m ≤ s.rows → key_after s n ≤ key_after s m
  key_grows f n m h l =
      climb_to (key_after s) s.rows
      (λ k i. le_by (key_earlier k (omega arith)) (key_earlier (suc k) i) (last_grows s.values f (before k) (before (suc k)) (earlier_step so k i) (earlier_le so (suc k) i)))
      n m h l
