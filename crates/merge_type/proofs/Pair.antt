-- The held columns' pairs, put together on a walk over the table. Assumes nothing.
use mathlib.Core.Path.{◌≡◌, refl, sym, ap, ◌∙◌}
use mathlib.Core.Bool.{Bool, true, false, cond, ◌||◌}
use mathlib.Core.List.{List, [], ◌∷◌, map}
use Prim.Native.Nat.{ℕ, zero, suc, ◌+◌, ◌≤◌, ◌<◌}
use native.Mathlib.Numerals.{add-one}
use native.Mathlib.Omega.{arith}
use lib.Dec.{eqb}
use lib.ListN.{length, drop, drop_of_length-le}
use lib.Seq.{drop-cons}
use borrow.Author.Tests.{ne_eqb}
use Rattle.definitions.specs.Segment.{Segment, Pair, no_pair}
use Rattle.min_max.specs.Pairs.{both_pairs, pairs_from, pairs_or_none, pairs_together}
use Rattle.stands.specs.declared.Stand.{Stand}
use Rattle.stands.specs.Stand.{stand_of, stand_at}
use Rattle.stands.specs.Look.{pair_at}
use Rattle.std.proofs.Common.{Option, None, Some}
use Rattle.std.specs.Option.{option_map, unwrap_or}
use Rattle.min_max.specs.declared.Range.{Range}
use Rattle.min_max.specs.Keys.{range_of, pair_in}
use Rattle.merge_type.specs.Parts.{is_part, column_of, held_in, held_pair}
use Rattle.merge_type.specs.Found.{found_pair, found_with, found_from}

-- ---- a turn at the column s

module _ (to : ℕ) (stands : List (List ℕ)) {s : ℕ} (h : s < length stands) {p : Stand} (e : p ≡ stand_at stands s) where
  pub found-next : (f : Option Pair) {f' : Option Pair} → f' ≡ found_with to f p → found_from to f' (drop (s + 1) stands) ≡ found_from to f (drop s stands)
  found-next f q = rw (q, e, add-one s, drop-cons stands s [] h)

pub found-end : (to : ℕ) (f : Option Pair) (stands : List (List ℕ)) {s : ℕ} → length stands ≤ s → found_pair f ≡ found_from to f (drop s stands)
found-end to f stands h = sym (ap (found_from to f) (drop_of_length-le stands h))

-- what is found, or 0 and 0
pub found_or : (f : Option Range) → pair_in (unwrap_or f (range_of 0 0)) ≡ found_pair (option_map pair_in f)
found_or None = refl
found_or (Some r) = refl

-- ---- what is found

abbrev pairs_in : List (List ℕ) → List Pair
pairs_in rs = map (λ (s : Segment). s.pair) (held_in rs)

module _ (to : ℕ) where
  after-some : (p : Pair) (rs : List (List ℕ)) → found_from to (Some p) rs ≡ pairs_from to p (pairs_in rs)
  unfolding found_with held_in
  after-some p [] = refl
  after-some p (r ∷ rs) = go (is_part (stand_of r)) (after-some p rs) (after-some (both_pairs to p (pair_at (stand_of r))) rs)
    where
      go : (b : Bool) → found_from to (Some p) rs ≡ pairs_from to p (pairs_in rs) → found_from to (Some (both_pairs to p (pair_at (stand_of r)))) rs ≡ pairs_from to (both_pairs to p (pair_at (stand_of r))) (pairs_in rs)
          → found_from to (cond b (Some (both_pairs to p (pair_at (stand_of r)))) (Some p)) rs
          ≡ pairs_from to p (map (λ (s : Segment). s.pair) (cond b (column_of (stand_of r).typ (pair_at (stand_of r)) ∷ held_in rs) (held_in rs)))
      go true i j = j
      go false i j = i

  after_none : (rs : List (List ℕ)) → found_from to None rs ≡ pairs_or_none to (pairs_in rs)
  unfolding found_with held_in
  after_none [] = refl
  after_none (r ∷ rs) = go (is_part (stand_of r)) (after_none rs)
    where
      go : (b : Bool) → found_from to None rs ≡ pairs_or_none to (pairs_in rs)
          → found_from to (cond b (Some (pair_at (stand_of r))) None) rs
          ≡ pairs_or_none to (map (λ (s : Segment). s.pair) (cond b (column_of (stand_of r).typ (pair_at (stand_of r)) ∷ held_in rs) (held_in rs)))
      go true i = after-some (pair_at (stand_of r)) rs
      go false i = i

  pub found-is : (rs : List (List ℕ)) → to ≤ 1 → found_from to None rs ≡ held_pair to rs
  unfolding held_pair pairs_together
  found-is rs h = after_none rs ∙ go to h
    where
      go : (k : ℕ) → k ≤ 1 → pairs_or_none to (pairs_in rs) ≡ cond (eqb k 0 || eqb k 1) (pairs_or_none to (pairs_in rs)) no_pair
      go zero h = refl
      go (suc zero) h = refl
      go (suc (suc k)) h = absurd (omega arith)

  pub found-other : (rs : List (List ℕ)) → 1 < to → no_pair ≡ held_pair to rs
  unfolding held_pair pairs_together
  found-other rs h = rw (ne_eqb to 0 (λ e. omega arith), ne_eqb to 1 (λ e. omega arith))
