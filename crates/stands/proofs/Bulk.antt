-- A placed segment's row ids and running totals in bulk, and a turn of the loops over segments. Assumes nothing.
use Prim.Native.Nat.{ℕ, zero, suc, ◌+◌, ◌-◌, ◌≤◌, ◌<◌}
use native.Mathlib.Nat.{le_of_suc-le-suc, not-suc-le-zero, add-zero, zero-add}
use native.Mathlib.Numerals.{add-one}
use native.Mathlib.Omega.{arith}
use mathlib.Core.Path.{◌≡◌, refl, sym, ap, ap₂, ◌∙◌}
use mathlib.Core.List.{List, [], ◌∷◌, ◌++◌, map}
use mathlib.Core.Bool.{Bool, true, false}
use lib.ListN.{length, get_or, take, drop, drop_of_length-le}
use lib.Seq.{drop-cons, drop-drop}
use lib.Dec.{T, eqb, ltb, ltb→lt}
use borrow.Author.Tests.{eqb-true, eqb-false}
use Rattle.definitions.specs.Lists.{elem, all, up_from, up_to, sum}
use Rattle.definitions.specs.Row.{rank}
use Rattle.definitions.proofs.Fit.{rank_lt}
use Rattle.runs.specs.Put.{shifted, Below}
use Rattle.runs.proofs.Laws.{shifted-length, shifted_at}
use Rattle.column_index.specs.Lookup.{width_of, Sound}
use Rattle.column_index.proofs.Laws.{three_le}
use Rattle.column_index.proofs.Walk.{walk_widths}
use Rattle.stands.specs.Width.{ids_of, totals_of}
use Rattle.stands.specs.declared.Stand.{Stand}
use Rattle.stands.specs.Stand.{run, stand_at}
use Rattle.stands.specs.Look.{ids_at, offsets_at, start_in, end_in, width_in}
use Rattle.stands.specs.Stack.{segment_widths, stacked_widths, all_rows, SoundAt, AllSound}
use Rattle.stands.proofs.Stack.{width-empty, width-full, width-none, width-optional, width-multi, ids-none, totals_none, ids_every, totals_every, ids_walk, totals_ones, totals_walk}
use Rattle.lists.proofs.Sums.{sum-append}
use Rattle.definitions.proofs.Lists.{up_length}
use Rattle.definitions.proofs.Decode.{rank-zero}
use Rattle.definitions.proofs.Ranks.{asc_step}
use Rattle.lists.proofs.Parts.{drop-take, run_length}
use Rattle.lists.proofs.Lists.{all-at}

module _ {kind rows n : ℕ} {ids offsets : List ℕ} (s : Sound kind rows n ids offsets) where
  w : ℕ → ℕ
  w r = width_of kind ids offsets r

  below : (kind ≡ 0 → ⊥) → (kind ≡ 1 → ⊥) → T (all (λ i. ltb i rows) ids)
  below a b = go (eqb kind 2) refl
    where
      go : (e : Bool) → eqb kind 2 ≡ e → T (all (λ i. ltb i rows) ids)
      go true q = (s.optional (eqb-true kind 2 q)).0
      go false q = (s.multi (three_le kind a b (eqb-false kind 2 q))).0

  pub some : (kind ≡ 0 → ⊥) → (kind ≡ 1 → ⊥) → (r : ℕ) → elem r ids ≡ true → 0 < width_of kind ids offsets r
  some a b r e = go (eqb kind 2) refl
    where
      go : (f : Bool) → eqb kind 2 ≡ f → 0 < width_of kind ids offsets r
      go true q = let v = width-optional kind ids offsets r (eqb-true kind 2 q) e in omega arith
      go false q =
          let c = eqb-false kind 2 q in
          let t = s.multi (three_le kind a b c) in
          let l = rank_lt r ids e in
          let p = asc_step offsets (rank r ids) t.4 (omega (arith, t.1)) in
          let v = width-multi kind ids offsets r a b c e in
          omega arith

  pub bulk_ids-listed : (kind ≡ 0 → ⊥) → (kind ≡ 1 → ⊥) → (f : ℕ) → ids_of f (map (width_of kind ids offsets) (up_to rows)) ≡ shifted f ids
  bulk_ids-listed a b f =
      ap (λ (m : ℕ). ids_of m (map (width_of kind ids offsets) (up_to rows))) (sym (add-zero f))
      ∙ ids_walk (width_of kind ids offsets) ids s.ascends (some a b) (λ r e. width-none kind ids offsets r a b e) f 0 rows (rw (zero-add rows) (below a b))
      ∙ ap (λ (m : ℕ). shifted f (drop m ids)) (rank-zero ids)

  pub bulk_totals_optional : kind ≡ 2 → (t : ℕ) → totals_of t (map (width_of kind ids offsets) (up_to rows)) ≡ up_from (suc t) (length ids)
  bulk_totals_optional e t =
      let a : kind ≡ 0 → ⊥ = λ q. omega arith in
      let b : kind ≡ 1 → ⊥ = λ q. omega arith in
      let z : length ids - rank 0 ids ≡ length ids = omega (arith, rank-zero ids) in
      totals_ones (width_of kind ids offsets) ids s.ascends (some a b) (λ r f. width-none kind ids offsets r a b f) (λ r f. width-optional kind ids offsets r e f) t 0 rows (rw (zero-add rows) (below a b))
      ∙ ap (up_from (suc t)) z

  pub bulk_totals_multi : (kind ≡ 0 → ⊥) → (kind ≡ 1 → ⊥) → (kind ≡ 2 → ⊥) → (t : ℕ) → totals_of t (map (width_of kind ids offsets) (up_to rows)) ≡ shifted t (drop 1 offsets)
  bulk_totals_multi a b c t =
      let q = s.multi (three_le kind a b c) in
      let z : t ≡ t + get_or offsets (rank 0 ids) 0 = omega (arith, q.2, ap (λ (m : ℕ). get_or offsets m 0) (rank-zero ids)) in
      ap (λ (m : ℕ). totals_of m (map (width_of kind ids offsets) (up_to rows))) z
      ∙ totals_walk (width_of kind ids offsets) ids s.ascends (some a b) (λ r f. width-none kind ids offsets r a b f) offsets q.1 q.4 (λ r f. width-multi kind ids offsets r a b c f) t 0 rows (rw (zero-add rows) q.0)
      ∙ ap (λ (m : ℕ). shifted t (drop (suc m) offsets)) (rank-zero ids)

-- ---- a placed segment

module _ {place : Stand} {ids offsets : List ℕ} (sa : SoundAt place ids offsets) where
  pub ids-length : length (ids_at place ids) ≡ place.ids.to - place.ids.from
  ids-length = run_length place.ids.from place.ids.to ids sa.ids-lie.ends

  pub seg-length : length (segment_widths place ids offsets) ≡ place.rows
  unfolding segment_widths
  seg-length = up_length (width_in place ids offsets) place.rows

  pub seg-sum : sum (segment_widths place ids offsets) ≡ place.count
  unfolding segment_widths width_in start_in end_in width_of
  seg-sum = walk_widths sa.sound

  pub seg-ids-empty : place.kind ≡ 0 → (f : ℕ) → ids_of f (segment_widths place ids offsets) ≡ []
  unfolding segment_widths width_in start_in end_in width_of
  seg-ids-empty e f = ids-none (width_in place ids offsets) (λ r. width-empty place.kind (ids_at place ids) (offsets_at place offsets) r e) f 0 place.rows

  pub seg_totals_empty : place.kind ≡ 0 → (t : ℕ) → totals_of t (segment_widths place ids offsets) ≡ []
  unfolding segment_widths width_in start_in end_in width_of
  seg_totals_empty e t = totals_none (width_in place ids offsets) (λ r. width-empty place.kind (ids_at place ids) (offsets_at place offsets) r e) t 0 place.rows

  pub seg-ids-full : place.kind ≡ 1 → (f : ℕ) → ids_of f (segment_widths place ids offsets) ≡ up_from f place.rows
  unfolding segment_widths width_in start_in end_in width_of
  seg-ids-full e f = ids_every (width_in place ids offsets) (λ r. width-full place.kind (ids_at place ids) (offsets_at place offsets) r e) f 0 place.rows

  pub seg_totals_full : place.kind ≡ 1 → (t : ℕ) → totals_of t (segment_widths place ids offsets) ≡ up_from (t + 1) place.rows
  unfolding segment_widths width_in start_in end_in width_of
  seg_totals_full e t =
      totals_every (width_in place ids offsets) (λ r. width-full place.kind (ids_at place ids) (offsets_at place offsets) r e) t 0 place.rows ∙ ap (λ (m : ℕ). up_from m place.rows) (sym (add-one t))

  pub seg-ids-listed : (place.kind ≡ 0 → ⊥) → (place.kind ≡ 1 → ⊥) → (f : ℕ) → ids_of f (segment_widths place ids offsets) ≡ shifted f (ids_at place ids)
  unfolding segment_widths width_in start_in end_in width_of
  seg-ids-listed a b f = bulk_ids-listed sa.sound a b f

  pub seg_totals_optional : place.kind ≡ 2 → (t : ℕ) → totals_of t (segment_widths place ids offsets) ≡ up_from (t + 1) (place.ids.to - place.ids.from)
  unfolding segment_widths width_in start_in end_in width_of
  seg_totals_optional e t = bulk_totals_optional sa.sound e t ∙ ap₂ (λ (m k : ℕ). up_from m k) (sym (add-one t)) ids-length

  module _ (a : place.kind ≡ 0 → ⊥) (b : place.kind ≡ 1 → ⊥) (c : place.kind ≡ 2 → ⊥) where
    behind : run (place.offsets.from + 1) place.offsets.to offsets ≡ drop 1 (offsets_at place offsets)
    behind =
        ap₂ (λ (m : ℕ) (l : List ℕ). take m l)
        (let k : place.offsets.to - (place.offsets.from + 1) ≡ place.offsets.to - place.offsets.from - 1 = omega arith in k)
        (sym (drop-drop 1 place.offsets.from offsets))
        ∙ sym (drop-take 1 (place.offsets.to - place.offsets.from) (drop place.offsets.from offsets))

    pub seg_totals_multi : (t : ℕ) → totals_of t (segment_widths place ids offsets) ≡ shifted t (run (place.offsets.from + 1) place.offsets.to offsets)
    unfolding segment_widths width_in start_in end_in width_of
    seg_totals_multi t = bulk_totals_multi sa.sound a b c t ∙ ap (shifted t) (sym behind)

-- ---- every number written fits

pub shift_below : (m f rows : ℕ) (ids : List ℕ) → T (all (λ i. ltb i rows) ids) → f + rows ≤ m → Below m (shifted f ids)
shift_below m f rows ids h l k q =
    let r : k < length ids = rw (shifted-length f ids) at q in
    let p = ltb→lt (get_or ids k 0) rows (all-at (λ i. ltb i rows) ids k 0 h r) in
    rw (← shifted_at f ids k r) (omega arith)

totals_below : (t : ℕ) (ws : List ℕ) (k : ℕ) → k < length (totals_of t ws) → get_or (totals_of t ws) k 0 ≤ t + sum ws
unfolding totals_of
totals_below t [] k l = absurd (not-suc-le-zero l)
totals_below t (zero ∷ ws) k l = let p = totals_below t ws k l in omega arith
totals_below t (suc w ∷ ws) zero l = omega arith
totals_below t (suc w ∷ ws) (suc k) l = let p = totals_below (t + suc w) ws k (le_of_suc-le-suc l) in omega arith

module _ {place : Stand} {ids offsets : List ℕ} (sa : SoundAt place ids offsets) where
  pub seg-ids-below : (m f : ℕ) → (place.kind ≡ 0 → ⊥) → (place.kind ≡ 1 → ⊥) → f + place.rows ≤ m → Below m (shifted f (ids_at place ids))
  seg-ids-below m f a b l = shift_below m f place.rows (ids_at place ids) (below sa.sound a b) l

  pub seg_totals_below : (m t : ℕ) (ts : List ℕ) → totals_of t (segment_widths place ids offsets) ≡ ts → t + place.count < m → Below m ts
  seg_totals_below m t ts e l k q =
      let p = totals_below t (segment_widths place ids offsets) k (rw e q) in
      let z = seg-sum sa in
      let x : get_or (totals_of t (segment_widths place ids offsets)) k 0 ≡ get_or ts k 0 = ap (λ (l : List ℕ). get_or l k 0) e in
      omega arith

-- ---- a turn at the segment s

pub stacked_step : (stands : List (List ℕ)) (ids offsets : List ℕ) (s : ℕ) → s < length stands
    → stacked_widths (drop s stands) ids offsets ≡ segment_widths (stand_at stands s) ids offsets ++ stacked_widths (drop (s + 1) stands) ids offsets
unfolding stacked_widths
stacked_step stands ids offsets s h = rw (add-one s, drop-cons stands s [])

pub stacked-end : (stands : List (List ℕ)) (ids offsets : List ℕ) (s : ℕ) → length stands ≤ s → stacked_widths (drop s stands) ids offsets ≡ []
unfolding stacked_widths
stacked-end stands ids offsets s h = rw (drop_of_length-le stands h)

pub rows_step : (stands : List (List ℕ)) (s : ℕ) → s < length stands → all_rows (drop s stands) ≡ (stand_at stands s).rows + all_rows (drop (s + 1) stands)
unfolding all_rows
rows_step stands s h = rw (add-one s, drop-cons stands s [])

module _ {stands : List (List ℕ)} {ids offsets : List ℕ} (l : AllSound stands ids offsets) {s : ℕ} (h : s < length stands) where
  pub values_step : sum (stacked_widths (drop s stands) ids offsets) ≡ (stand_at stands s).count + sum (stacked_widths (drop (s + 1) stands) ids offsets)
  values_step =
      ap sum (stacked_step stands ids offsets s h)
      ∙ sum-append (segment_widths (stand_at stands s) ids offsets) (stacked_widths (drop (s + 1) stands) ids offsets)
      ∙ ap (λ (n : ℕ). n + sum (stacked_widths (drop (s + 1) stands) ids offsets)) (seg-sum (l.each s h))
