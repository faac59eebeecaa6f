-- How many values the rows have is what the definitions say, stacked and ordered, and within the bounds that check 7 gives. Assumes nothing.
use Prim.Native.Nat.{ℕ, zero, suc, ◌+◌, ◌≤◌, ◌<◌, zero-le}
use native.Mathlib.Nat.{le_of_suc-le-suc, not-suc-le-zero, le_refl, le_trans, zero-add}
use native.Mathlib.Omega.{arith}
use mathlib.Core.Path.{◌≡◌, refl, sym, ap, ap₂, ◌∙◌, subst}
use mathlib.Core.List.{List, [], ◌∷◌, ◌++◌, map, Memᴰ, map-append, map-map}
use mathlib.Core.Bool.{Bool, true, false, not}
use lib.ListN.{length, get_or, drop, length-map, length-append, drop_of_length-le}
use lib.Seq.{drop-cons}
use lib.Dec.{T}
use Rattle.definitions.specs.Lists.{sum, all, up_from, up_to}
use Rattle.definitions.specs.Segment.{Segment, Address, address_from, address}
use Rattle.definitions.specs.Row.{is_held, as_empty, effective}
use Rattle.definitions.specs.Join.{absent, new_word, cell_of, cell_at, rows_of, stacked_from, joined_type, terms_of, joined_cells}
use Rattle.definitions.specs.Answer.{sum_over, index_fits, is_listed, is_repeated, is_alive_at, alive_addresses, lists_alive_rows}
use Rattle.definitions.proofs.Cell.{either, effective-rows, effective-fits}
use Rattle.definitions.proofs.Accept.{lists_ordered, mem_stacked}
use Rattle.segment.specs.Lent.{addresses_of}
use Rattle.stands.specs.Stand.{stand_at}
use Rattle.stands.specs.Look.{Stands, width_in, widths, addressed, row_of, Inside}
use Rattle.stands.specs.Stack.{segment_widths, stacked_widths, all_rows}
use Rattle.stands.proofs.Bulk.{seg-sum}
use Rattle.stands.proofs.Bridge.{inside-stands, width-stands, sound-stands}
use Rattle.census.specs.Table.{Table}
use Rattle.lists.proofs.Distinct.{sum_distinct}
use Rattle.definitions.proofs.Lists.{and3, up_length}
use Rattle.lists.proofs.Sums.{sum-append}

fewer_values : (s : Segment) → length (effective s).values ≤ length s.values
unfolding effective as_empty
fewer_values s = either (λ (t : Segment). length t.values ≤ length s.values) (is_held s) s (as_empty s) (le_refl (length s.values)) zero-le

sum_ones : (l : List Address) → sum (map (λ (a : Address). 1) l) ≡ length l
sum_ones [] = refl
sum_ones (a ∷ l) = let e = sum_ones l in omega arith

pub stacked-length : (n : ℕ) (ss : List Segment) → length (stacked_from n ss) ≡ sum_over (λ (s : Segment). s.rows) ss
stacked-length n [] = refl
stacked-length n (s ∷ ss) = length-append (rows_of n s) (stacked_from (suc n) ss) ∙ ap₂ (λ (x y : ℕ). x + y) (up_length (address n) s.rows) (stacked-length (suc n) ss)

-- each alive row is listed once
pub not_repeated : (ss : List Segment) (order : List Address) → T (lists_alive_rows ss order) → is_repeated order ≡ false
unfolding lists_alive_rows
not_repeated ss order h = go (is_repeated order) (and3 (all (is_alive_at ss) order) (not (is_repeated order)) (all (λ a. is_listed a order) (alive_addresses ss)) h).1
  where
    go : (b : Bool) → T (not b) → b ≡ false
    go true k = absurd k
    go false k = refl

module _ {stands : List (List ℕ)} {ids offsets values lengths bytes words : List ℕ} {ss : List Segment} (t : Table stands ids offsets values lengths bytes words ss) where
  -- where segment k stands, as it counts
  pub there : (k : ℕ) → k < length ss → Stands (stand_at stands k) ids offsets values words (effective (get_or ss k absent)) × T (index_fits (effective (get_or ss k absent)))
  there k h = (t.each k h, effective-fits (get_or ss k absent) (t.fits k h))

  -- a row's values as the joined column has them
  abbrev cell : ℕ → Address → List ℕ
  cell required a = cell_at (joined_type required ss) (terms_of ss) ss a

  row-width : (required n r : ℕ) → n < length ss → r < (get_or ss n absent).rows → width_in (stand_at stands n) ids offsets r ≡ length (cell required (address n r))
  unfolding cell_of
  row-width required n r h l =
      let st = there n h in
      let q : r < (effective (get_or ss n absent)).rows = rw (effective-rows (get_or ss n absent)) l in
      width-stands st.0 st.1 r q (new_word (joined_type required ss) (terms_of ss) (effective (get_or ss n absent)))

  -- ---- stacked

  rows-widths : (required n : ℕ) → n < length ss → (a m : ℕ) → a + m ≤ (get_or ss n absent).rows
      → map (width_in (stand_at stands n) ids offsets) (up_from a m) ≡ map length (map (cell required) (map (address n) (up_from a m)))
  rows-widths required n h a zero l = refl
  rows-widths required n h a (suc m) l = ap₂ (λ (x : ℕ) (xs : List ℕ). x ∷ xs) (row-width required n a h (omega arith)) (rows-widths required n h (suc a) m (omega arith))

  rows_are : (n : ℕ) → n < length ss → (stand_at stands n).rows ≡ (get_or ss n absent).rows
  rows_are n h = (there n h).0.rows ∙ effective-rows (get_or ss n absent)

  segment-widths : (required n : ℕ) → n < length ss → segment_widths (stand_at stands n) ids offsets ≡ map length (map (cell required) (rows_of n (get_or ss n absent)))
  unfolding segment_widths
  segment-widths required n h =
      ap (λ (k : ℕ). map (width_in (stand_at stands n) ids offsets) (up_to k)) (rows_are n h) ∙ rows-widths required n h 0 (get_or ss n absent).rows (omega arith)

  widths-from : (required m n : ℕ) → n + m ≡ length ss → stacked_widths (drop n stands) ids offsets ≡ map length (map (cell required) (stacked_from n (drop n ss)))
  unfolding stacked_widths
  widths-from required zero n e =
      let a : length stands ≤ n = omega (arith, t.size) in
      let b : length ss ≤ n = omega arith in
      ap (λ (l : List (List ℕ)). stacked_widths l ids offsets) (drop_of_length-le stands a) ∙ ap (λ (l : List Segment). map length (map (cell required) (stacked_from n l))) (sym (drop_of_length-le ss b))
  widths-from required (suc m) n e =
      let a : n < length stands = omega (arith, t.size) in
      let b : n < length ss = omega arith in
      ap (λ (l : List (List ℕ)). stacked_widths l ids offsets) (drop-cons stands n [] a)
      ∙ ap₂ (λ (x y : List ℕ). x ++ y) (segment-widths required n b) (widths-from required m (suc n) (omega arith))
      ∙ sym (map-append length (map (cell required) (rows_of n (get_or ss n absent))) (map (cell required) (stacked_from (suc n) (drop (suc n) ss))))
      ∙ ap (map length) (sym (map-append (cell required) (rows_of n (get_or ss n absent)) (stacked_from (suc n) (drop (suc n) ss))))
      ∙ ap (λ (l : List Segment). map length (map (cell required) (stacked_from n l))) (sym (drop-cons ss n absent b))

  pub stacked-widths : (required : ℕ) → stacked_widths stands ids offsets ≡ map length (joined_cells required ss (stacked_from 0 ss))
  unfolding joined_cells
  stacked-widths required = widths-from required (length ss) 0 (zero-add (length ss))

  -- ---- ordered

  abbrev Known : List (List ℕ) → Type 0
  Known addresses = (a : Address) → Memᴰ a (addresses_of addresses) → (a.segment < length ss) × (a.row < (get_or ss a.segment absent).rows)

  widths-at : (required : ℕ) (addresses : List (List ℕ)) → Known addresses → widths stands ids offsets addresses ≡ map length (map (cell required) (addresses_of addresses))
  unfolding widths
  widths-at required [] known = refl
  widths-at required (a ∷ rest) known =
      let k = known (address_from a) (Memᴰ.head refl) in
      ap₂ (λ (n : ℕ) (l : List ℕ). n ∷ l) (row-width required (get_or a 0 0) (get_or a 1 0) k.0 k.1) (widths-at required rest (λ b m. known b (Memᴰ.tail m)))

  module _ (addresses : List (List ℕ)) (o : T (lists_alive_rows ss (addresses_of addresses))) where
    pub known_rows : (a : Address) → Memᴰ a (addresses_of addresses) → (a.segment < length ss) × (a.row < (get_or ss a.segment absent).rows)
    known_rows a m = let t = (lists_ordered ss (addresses_of addresses) o).alive a m in (t.0, t.1)

    pub ordered-widths : (required : ℕ) → widths stands ids offsets addresses ≡ map length (joined_cells required ss (addresses_of addresses))
    unfolding joined_cells
    ordered-widths required = widths-at required addresses known_rows

    in_stack : (a : Address) → Memᴰ a (addresses_of addresses) → Memᴰ a (stacked_from 0 ss)
    in_stack a m =
        let k = known_rows a m in
        mem_stacked ss a.segment a.row k.0 k.1

    -- ---- bounds

    pub ordered_fewer : (required : ℕ) → sum (widths stands ids offsets addresses) ≤ sum (stacked_widths stands ids offsets)
    unfolding joined_cells
    ordered_fewer required =
        let a = sum_distinct (λ (b : Address). length (cell required b)) (addresses_of addresses) (stacked_from 0 ss) (not_repeated ss (addresses_of addresses) o) in_stack in
        let p : sum (widths stands ids offsets addresses) ≡ sum (map (λ (b : Address). length (cell required b)) (addresses_of addresses)) = ap sum (ordered-widths required ∙ map-map length (cell required) (addresses_of addresses)) in
        let q : sum (stacked_widths stands ids offsets) ≡ sum (map (λ (b : Address). length (cell required b)) (stacked_from 0 ss)) = ap sum (stacked-widths required ∙ map-map length (cell required) (stacked_from 0 ss)) in
        omega arith

  pub ordered-rows_fit : (addresses : List (List ℕ)) → T (lists_alive_rows ss (addresses_of addresses)) → length addresses ≤ 4294967294
  ordered-rows_fit addresses o =
      let a = sum_distinct (λ (b : Address). 1) (addresses_of addresses) (stacked_from 0 ss) (not_repeated ss (addresses_of addresses) o) (in_stack addresses o) in
      let p = sum_ones (addresses_of addresses) in
      let q = sum_ones (stacked_from 0 ss) in
      let r = stacked-length 0 ss in
      let z = t.rows in
      let u : length (addresses_of addresses) ≡ length addresses = length-map addresses address_from in
      omega arith

  values-from : (m n : ℕ) → n + m ≡ length ss → sum (stacked_widths (drop n stands) ids offsets) ≤ sum_over (λ (s : Segment). length s.values) (drop n ss)
  unfolding stacked_widths
  values-from zero n e =
      let a : length stands ≤ n = omega (arith, t.size) in
      rw (drop_of_length-le stands a) zero-le
  values-from (suc m) n e =
      let a : n < length stands = omega (arith, t.size) in
      let b : n < length ss = omega arith in
      let st = there n b in
      let p = seg-sum (sound-stands st.0 st.1) in
      let q = st.0.count in
      let r = fewer_values (get_or ss n absent) in
      let z = values-from m (suc n) (omega arith) in
      let x : sum (stacked_widths (drop n stands) ids offsets) ≡ sum (segment_widths (stand_at stands n) ids offsets) + sum (stacked_widths (drop (suc n) stands) ids offsets)
      = ap (λ (l : List (List ℕ)). sum (stacked_widths l ids offsets)) (drop-cons stands n [] a) ∙ sum-append (segment_widths (stand_at stands n) ids offsets) (stacked_widths (drop (suc n) stands) ids offsets) in
      let y : sum_over (λ (s : Segment). length s.values) (drop n ss) ≡ length (get_or ss n absent).values + sum_over (λ (s : Segment). length s.values) (drop (suc n) ss)
      = ap (λ (l : List Segment). sum_over (λ (s : Segment). length s.values) l) (drop-cons ss n absent b) in
      omega arith

  pub stacked-values_fit : sum (stacked_widths stands ids offsets) ≤ 4294967294
  stacked-values_fit = le_trans (values-from (length ss) 0 (zero-add (length ss))) t.values_low

  rows-from : (m n : ℕ) → n + m ≡ length ss → all_rows (drop n stands) ≡ sum_over (λ (s : Segment). s.rows) (drop n ss)
  unfolding all_rows
  rows-from zero n e =
      let a : length stands ≤ n = omega (arith, t.size) in
      let b : length ss ≤ n = omega arith in
      ap all_rows (drop_of_length-le stands a) ∙ ap (λ (l : List Segment). sum_over (λ (s : Segment). s.rows) l) (sym (drop_of_length-le ss b))
  rows-from (suc m) n e =
      let a : n < length stands = omega (arith, t.size) in
      let b : n < length ss = omega arith in
      ap all_rows (drop-cons stands n [] a)
      ∙ ap₂ (λ (x y : ℕ). x + y) (rows_are n b) (rows-from m (suc n) (omega arith))
      ∙ ap (λ (l : List Segment). sum_over (λ (s : Segment). s.rows) l) (sym (drop-cons ss n absent b))

  pub stacked-rows_fit : all_rows stands ≤ 4294967294
  stacked-rows_fit = le_trans (subst (λ (n : ℕ). all_rows stands ≤ n) (rows-from (length ss) 0 (zero-add (length ss))) (le_refl (all_rows stands))) t.rows

  -- ---- the rows of the addresses can be looked up

  inside-at : (k : ℕ) (addresses : List (List ℕ)) → Known addresses → k < length addresses
      → (get_or (get_or addresses k []) 0 0 < length stands) × Inside (addressed stands (get_or addresses k [])) ids offsets values (row_of (get_or addresses k []))
  inside-at k [] known h = absurd (not-suc-le-zero h)
  inside-at zero (a ∷ rest) known h =
      let q = known (address_from a) (Memᴰ.head refl) in
      let st = there (get_or a 0 0) q.0 in
      (subst (λ (n : ℕ). get_or a 0 0 < n) (sym t.size) q.0, inside-stands st.0 st.1 (get_or a 1 0) (rw (effective-rows (get_or ss (get_or a 0 0) absent)) q.1))
  inside-at (suc k) (a ∷ rest) known h = inside-at k rest (λ b m. known b (Memᴰ.tail m)) (le_of_suc-le-suc h)

  module _ (addresses : List (List ℕ)) (o : T (lists_alive_rows ss (addresses_of addresses))) (k : ℕ) (h : k < length addresses) where
    pub ordered-inside : (get_or (get_or addresses k []) 0 0 < length stands) × Inside (addressed stands (get_or addresses k [])) ids offsets values (row_of (get_or addresses k []))
    ordered-inside = inside-at k addresses (known_rows addresses o) h
