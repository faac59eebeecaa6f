-- The walk over the columns: one column, and what is left behind it. Assumes nothing.
use mathlib.Core.Path.{◌≡◌}
use mathlib.Core.Bool.{Bool, true, false, cond}
use mathlib.Core.List.{List, [], ◌∷◌}
use Prim.Native.Nat.{ℕ, ◌+◌, ◌≤◌, ◌<◌}
use native.Mathlib.Numerals.{add-one}
use lib.ListN.{length, drop, drop_of_length-le}
use lib.Seq.{drop-cons}
use Rattle.stands.specs.declared.Stand.{Stand}
use Rattle.stands.specs.Stand.{stand_at}
use Rattle.stands.specs.Look.{pair_at}
use Rattle.merge_type.specs.Parts.{is_part, column_of, held_in}

-- ---- a turn at the column s, where b is whether it is held, as the code found

module _ (stands : List (List ℕ)) {s : ℕ} (h : s < length stands) {p : Stand} (e : p ≡ stand_at stands s) {b : Bool} (q : b ≡ is_part p) where
  step : held_in (drop s stands) ≡ cond b (column_of p.typ (pair_at p) ∷ held_in (drop (s + 1) stands)) (held_in (drop (s + 1) stands))
  unfolding held_in
  step = rw (q, e, add-one s, drop-cons stands s [] h)

  pub held_more : b ≡ true → held_in (drop s stands) ≡ column_of p.typ (pair_at p) ∷ held_in (drop (s + 1) stands)
  held_more k = rw (step, k)

  pub held_same : b ≡ false → held_in (drop s stands) ≡ held_in (drop (s + 1) stands)
  held_same k = rw (step, k)

pub held_end : (stands : List (List ℕ)) (s : ℕ) → length stands ≤ s → held_in (drop s stands) ≡ []
unfolding held_in
held_end stands s h = rw (drop_of_length-le stands h)
