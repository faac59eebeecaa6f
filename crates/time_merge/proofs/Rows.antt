-- The loops that write the alive rows of a run. Assumes nothing.
use Prim.Native.Nat.{ℕ, zero, suc, ◌+◌, ◌-◌, ◌≤◌, ◌<◌, zero-le, suc-le-suc}
use native.Mathlib.Nat.{add-zero}
use native.Mathlib.Omega.{arith}
use mathlib.Core.Path.{◌≡◌, refl, sym, ap, ◌∙◌, subst}
use mathlib.Core.Bool.{Bool, true, false, cond}
use mathlib.Core.List.{List, [], ◌∷◌, map}
use lib.ListN.{length, set, length-map}
use Rattle.definitions.specs.Lists.{up_from, filter}
use Rattle.lists.proofs.Lists.{up_step, up_end}
use Rattle.runs.specs.Put.{put}
use Rattle.runs.proofs.Laws.{Filling, fill-from, fill_if, fill_done}
use Rattle.time_cursors.specs.Cursors.{alive_bit}
use Rattle.time_merge.specs.Runs.{alive_up_to, LastListed, addresses}

-- ---- rows at the end

module _ (flag : ℕ) (alive : List ℕ) where
  drop-last : (r m : ℕ) → alive_bit flag alive (r + m) ≡ false → filter (alive_bit flag alive) (up_from r (suc m)) ≡ filter (alive_bit flag alive) (up_from r m)
  drop-last r zero e = let z : alive_bit flag alive r ≡ false = ap (alive_bit flag alive) (sym (add-zero r)) ∙ e in rw z
  drop-last r (suc m) e =
      ap (λ (l : List ℕ). cond (alive_bit flag alive r) (r ∷ l) l) (drop-last (suc r) m (ap (alive_bit flag alive) (let z : suc r + m ≡ r + suc m = omega arith in z) ∙ e))

  keep_last : (r m : ℕ) → alive_bit flag alive (r + m) ≡ true → 0 < length (filter (alive_bit flag alive) (up_from r (suc m)))
  keep_last r zero e = let z : alive_bit flag alive r ≡ true = ap (alive_bit flag alive) (sym (add-zero r)) ∙ e in rw z (suc-le-suc zero-le)
  keep_last r (suc m) e = go (alive_bit flag alive r) (keep_last (suc r) m (ap (alive_bit flag alive) (let z : suc r + m ≡ r + suc m = omega arith in z) ∙ e))
    where
      l : List ℕ
      l = filter (alive_bit flag alive) (up_from (suc r) (suc m))

      go : (b : Bool) → 0 < length l → 0 < length (cond b (r ∷ l) l)
      go true h = suc-le-suc zero-le
      go false h = h

  -- up to its own place there is no row
  pub none-from : (from row : ℕ) → row ≤ from → alive_up_to flag alive from from ≡ alive_up_to flag alive from row
  unfolding alive_up_to
  none-from from row h = ap (λ (n : ℕ). filter (alive_bit flag alive) (up_from from n)) (let e : from - from ≡ row - from = omega arith in e)

  -- a withdrawn row at the end is passed over
  pub shorter : (from n : ℕ) → from < n → alive_bit flag alive (n - 1) ≡ false → alive_up_to flag alive from (n - 1) ≡ alive_up_to flag alive from n
  unfolding alive_up_to
  shorter from n h e =
      let a : n - 1 ≡ from + (n - 1 - from) = omega arith in
      let b : suc (n - 1 - from) ≡ n - from = omega arith in
      sym (drop-last from (n - 1 - from) (ap (alive_bit flag alive) (sym a) ∙ e)) ∙ ap (λ (m : ℕ). filter (alive_bit flag alive) (up_from from m)) b

  -- where the last row is alive one is left
  some_left : (row n : ℕ) → row < n → alive_bit flag alive (n - 1) ≡ true → 0 < length (alive_up_to flag alive row n)
  unfolding alive_up_to
  some_left row n h e =
      let a : n - 1 ≡ row + (n - 1 - row) = omega arith in
      let b : suc (n - 1 - row) ≡ n - row = omega arith in
      subst (λ (m : ℕ). 0 < length (filter (alive_bit flag alive) (up_from row m))) b (keep_last row (n - 1 - row) (ap (alive_bit flag alive) (sym a) ∙ e))

-- ---- rows written

module _ (s flag : ℕ) (alive : List ℕ) (end : ℕ) where
  -- what is to be written from a row on
  abbrev pub rest : ℕ → List (List ℕ)
  rest row = addresses s (alive_up_to flag alive row end)

  pub rest-length : (row : ℕ) → length (rest row) ≡ length (alive_up_to flag alive row end)
  unfolding addresses
  rest-length row = length-map (alive_up_to flag alive row end) (λ r. s ∷ r ∷ [])

  rest_step : (row : ℕ) → row < end → rest row ≡ cond (alive_bit flag alive row) ((s ∷ row ∷ []) ∷ rest (row + 1)) (rest (row + 1))
  unfolding addresses alive_up_to
  rest_step row h = ap (λ (l : List ℕ). map (λ r. s ∷ r ∷ []) (filter (alive_bit flag alive) l)) (up_step row end h) ∙ go (alive_bit flag alive row)
    where
      go : (b : Bool) → map (λ r. s ∷ r ∷ []) (cond b (row ∷ alive_up_to flag alive (row + 1) end) (alive_up_to flag alive (row + 1) end))
          ≡ cond b ((s ∷ row ∷ []) ∷ map (λ r. s ∷ r ∷ []) (alive_up_to flag alive (row + 1) end)) (map (λ r. s ∷ r ∷ []) (alive_up_to flag alive (row + 1) end))
      go true = refl
      go false = refl

  -- a turn: the row before the end is alive, so one is left to be written
  module _ (row : ℕ) {start : ℕ} {whole old out : List (List ℕ)} {n : ℕ} (g : Filling start whole old (rest row) out n) (h : row < end) (last : alive_bit flag alive (end - 1) ≡ true) where
    one-to_come : n < start + length whole
    one-to_come = omega (arith, g.total, rest-length row, some_left flag alive row end h last)

    pub row_room : n < length out
    row_room = omega (arith, one-to_come, g.room, g.kept)

    pub row_written : {n' : ℕ} → n' ≡ n + cond (alive_bit flag alive row) 1 0 → Filling start whole old (rest (row + 1)) (set out n (s ∷ row ∷ [])) n'
    row_written e = fill_if g (alive_bit flag alive row) (s ∷ row ∷ []) (rest (row + 1)) (rest_step row h) one-to_come e

  pub rest_some : (row : ℕ) → row < end → alive_bit flag alive row ≡ true → 0 < length (alive_up_to flag alive row end)
  rest_some row h e = rw (← rest-length row, rest_step row h, e) (suc-le-suc zero-le)

  rest-none : (row : ℕ) → end ≤ row → rest row ≡ []
  unfolding addresses alive_up_to
  rest-none row h = ap (λ (l : List ℕ). map (λ r. s ∷ r ∷ []) (filter (alive_bit flag alive) l)) (up_end row end h)

  rows_start : (from k : ℕ) (out : List (List ℕ)) → k + length (alive_up_to flag alive from end) ≤ length out → Filling k (rest from) out (rest from) out k
  rows_start from k out h = fill-from k (rest from) out (omega (arith, rest-length from))

  rows_end : (from row : ℕ) {k n : ℕ} {old out : List (List ℕ)} → Filling k (rest from) old (rest row) out n → end ≤ row → (n ≡ k + length (alive_up_to flag alive from end)) × (out ≡ put k (rest from) old)
  rows_end from row g h = let d = fill_done g (rest-none row h) in (omega (arith, d.0, rest-length from), d.1)

-- up to the last alive row all is written
module _ (s flag : ℕ) (alive : List ℕ) (from end stop : ℕ) (l : LastListed flag alive from end stop) where
  pub all_start : (k : ℕ) (out : List (List ℕ)) → k + length (alive_up_to flag alive from end) ≤ length out → Filling k (rest s flag alive stop from) out (rest s flag alive stop from) out k
  all_start k out h = rows_start s flag alive stop from k out (rw l.same h)

  pub all_end : (row : ℕ) {k n : ℕ} {old out : List (List ℕ)} → Filling k (rest s flag alive stop from) old (rest s flag alive stop row) out n → stop ≤ row
      → (n ≡ k + length (alive_up_to flag alive from end)) × (out ≡ put k (addresses s (alive_up_to flag alive from end)) old)
  all_end row {k} {n} {old} {out} g h =
      subst (λ (rows : List ℕ). (n ≡ k + length rows) × (out ≡ put k (addresses s rows) old)) l.same (rows_end s flag alive stop from row g h)
