-- From flat runs to a row's values: what the code lends is the cell, and its length is the width in words. Assumes nothing.
use Prim.Native.Nat.{ℕ, suc, ◌+◌, ◌-◌, ◌*◌, ◌≤◌, ◌<◌}
use native.Mathlib.Nat.{mul-le-mul_right}
use native.Mathlib.Omega.{arith}
use mathlib.Core.Path.{◌≡◌, refl, sym, ap, ap₂, ◌∙◌}
use mathlib.Core.List.{List, [], ◌∷◌, map}
use lib.ListN.{length, take, drop}
use lib.Seq.{drop-drop, take-take, length-slice}
use Rattle.definitions.specs.Join.{ids_from, totals_from}
use Rattle.column_index.proofs.Walk.{sound-readable, sound-rises}
use Rattle.stands.specs.Width.{ids_of, totals_of}
use Rattle.stands.specs.declared.Stand.{Stand}
use Rattle.stands.specs.Stand.{run, many}
use Rattle.stands.specs.Look.{values_at, start_in, end_in, width_in, cell_in, Within, Inside}
use Rattle.stands.specs.Stack.{SoundAt}
use Rattle.lists.proofs.Parts.{run_length, drop-take}
use Rattle.lists.proofs.Numbers.{sub-times}

-- every row of a sound segment can be looked up

pub sound-within : {place : Stand} {ids offsets : List ℕ} → SoundAt place ids offsets → (r : ℕ) → r < place.rows → Within place ids offsets r
unfolding start_in end_in
sound-within sa r h =
    record {
      ids-lie = sa.ids-lie;
      offsets-lie = sa.offsets-lie;
      readable = sound-readable sa.sound h;
      rises = sound-rises sa.sound h;
    }

module _ (place : Stand) (ids offsets values : List ℕ) (row : ℕ) (i : Inside place ids offsets values row) where
  -- where the words of the row's values begin and end among the segment's
  abbrev from : ℕ
  from = start_in place ids offsets row * place.unit

  abbrev till : ℕ
  till = end_in place ids offsets row * place.unit

  pub cell_in_lem : till ≤ many place.values
  cell_in_lem = rw i.long (mul-le-mul_right place.unit i.inside)

  -- the words from b + from to b + till of the section are the row's
  pub cell-run : run (place.values.from + from) (place.values.from + till) values ≡ cell_in place ids offsets values row
  unfolding cell_in
  cell-run =
      ap₂ (λ (m : ℕ) (l : List ℕ). take m l)
      (let k : (place.values.from + till) - (place.values.from + from) ≡ till - from = omega arith in k)
      (sym (drop-drop from place.values.from values))
      ∙ sym (drop-take from till (drop place.values.from values))
      ∙ ap (drop from) (sym (take-take till (many place.values) (drop place.values.from values) cell_in_lem))

  pub cell-length : length (cell_in place ids offsets values row) ≡ width_in place ids offsets row * place.unit
  unfolding width_in cell_in
  cell-length =
      length-slice from till (values_at place values) (rw (run_length place.values.from place.values.to values i.values-lie.ends) cell_in_lem)
      ∙ sym (sub-times (end_in place ids offsets row) (start_in place ids offsets row) place.unit)

-- ---- the definitions' row ids and offsets, from the widths

pub ids-widths : (n : ℕ) (cs : List (List ℕ)) → ids_from n cs ≡ ids_of n (map length cs)
unfolding ids_of
ids-widths n [] = refl
ids-widths n ([] ∷ cs) = ids-widths (suc n) cs
ids-widths n ((v ∷ vs) ∷ cs) = ap (λ (l : List ℕ). n ∷ l) (ids-widths (suc n) cs)

pub totals_widths : (t : ℕ) (cs : List (List ℕ)) → totals_from t cs ≡ totals_of t (map length cs)
unfolding totals_of
totals_widths t [] = refl
totals_widths t ([] ∷ cs) = totals_widths t cs
totals_widths t ((v ∷ vs) ∷ cs) = ap (λ (l : List ℕ). (t + suc (length vs)) ∷ l) (totals_widths (t + suc (length vs)) cs)
