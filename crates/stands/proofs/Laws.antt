-- A turn of the loops that write row ids and offsets. Assumes nothing.
use Prim.Native.Nat.{ℕ, zero, suc, ◌+◌, ◌≤◌, ◌<◌}
use native.Mathlib.Nat.{add-zero}
use native.Mathlib.Numerals.{add-one}
use native.Mathlib.Omega.{arith}
use mathlib.Core.Path.{◌≡◌, refl, sym, ap, ◌∙◌}
use mathlib.Core.List.{List, [], ◌∷◌, ◌++◌}
use lib.ListN.{length, get_or, set, drop, drop_of_length-le, length-set}
use lib.Seq.{drop-cons, set-set, drop-set-lt}
use Rattle.runs.specs.Put.{put}
use Rattle.runs.proofs.Laws.{Filling, fill_start, fill_more, put_one}
use Rattle.stands.specs.Width.{id_part, ids_of, totals_of}
use Rattle.stands.specs.Look.{width_in, widths, addressed, row_of}

-- a list whose first element stands already
pub first-set : (x : ℕ) (vs old : List ℕ) → put 0 (x ∷ vs) (set old 0 x) ≡ put 0 (x ∷ vs) old
unfolding put
first-set x vs old = ap (λ (l : List ℕ). x ∷ (vs ++ l)) (drop-set-lt (0 + length (x ∷ vs)) old 0 x (omega arith))

pub fill_second : (x : ℕ) (vs old : List ℕ) → length (x ∷ vs) ≤ length old → Filling 0 (x ∷ vs) (set old 0 x) vs (set old 0 x) 1
fill_second x vs old h =
    let k : length (x ∷ vs) ≤ length (set old 0 x) = rw (length-set old 0 x) h in
    let l : 0 < length (set old 0 x) = omega arith in
    fill_more (fill_start (x ∷ vs) (set old 0 x) k) (x ∷ []) vs refl (set old 0 x) 1 refl (sym (set-set old 0 x x) ∙ put_one 0 x (set old 0 x) l)

pub part-some : (row w : ℕ) → (w ≡ 0 → ⊥) → id_part row w ≡ row ∷ []
part-some row zero n = absurd (n refl)
part-some row (suc w) n = refl

-- its length is 0 or 1, whatever the row's number
pub part_length : (n w : ℕ) → length (id_part n w) ≡ length (id_part 0 w)
part_length n zero = refl
part_length n (suc w) = refl

pub ids_cons : (n w : ℕ) (ws : List ℕ) → ids_of n (w ∷ ws) ≡ id_part n w ++ ids_of (suc n) ws
unfolding ids_of
ids_cons n zero ws = refl
ids_cons n (suc w) ws = refl

pub totals_cons : (t w : ℕ) (ws : List ℕ) → totals_of t (w ∷ ws) ≡ id_part (t + w) w ++ totals_of (t + w) ws
unfolding totals_of
totals_cons t zero ws = rw (add-zero t)
totals_cons t (suc w) ws = refl

module _ (stands : List (List ℕ)) (ids offsets : List ℕ) (addresses : List (List ℕ)) (j : ℕ) where
  abbrev pub width_now : ℕ
  width_now = width_in (addressed stands (get_or addresses j [])) ids offsets (row_of (get_or addresses j []))

  pub widths_step : j < length addresses → widths stands ids offsets (drop j addresses) ≡ width_now ∷ widths stands ids offsets (drop (j + 1) addresses)
  unfolding widths
  widths_step h = rw (add-one j, drop-cons addresses j [])

  pub widths-end : length addresses ≤ j → widths stands ids offsets (drop j addresses) ≡ []
  unfolding widths
  widths-end h = rw (drop_of_length-le addresses h)

  pub ids_step : j < length addresses → (w : ℕ) → w ≡ width_now
      → ids_of j (widths stands ids offsets (drop j addresses)) ≡ id_part j w ++ ids_of (j + 1) (widths stands ids offsets (drop (j + 1) addresses))
  ids_step h w e = rw (widths_step h, ids_cons j width_now (widths stands ids offsets (drop (j + 1) addresses)), e, add-one j)

  pub ids-end : length addresses ≤ j → ids_of j (widths stands ids offsets (drop j addresses)) ≡ []
  unfolding ids_of
  ids-end h = rw (widths-end h)

  pub totals_step : j < length addresses → (t w : ℕ) → w ≡ width_now
      → totals_of t (widths stands ids offsets (drop j addresses)) ≡ id_part (t + w) w ++ totals_of (t + w) (widths stands ids offsets (drop (j + 1) addresses))
  totals_step h t w e = rw (widths_step h, totals_cons t width_now (widths stands ids offsets (drop (j + 1) addresses)), e)

  pub totals_end : length addresses ≤ j → (t : ℕ) → totals_of t (widths stands ids offsets (drop j addresses)) ≡ []
  unfolding totals_of
  totals_end h t = rw (widths-end h)
