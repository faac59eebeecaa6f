-- The words that the fills write are those of the values that the join's rules list, stacked and ordered. Assumes nothing.
use Prim.Native.Nat.{ℕ, zero, suc, ◌+◌, ◌*◌, ◌≤◌, ◌<◌}
use native.Mathlib.Nat.{le_of_suc-le-suc, not-suc-le-zero, zero-add}
use native.Mathlib.Omega.{arith}
use mathlib.Core.Path.{◌≡◌, refl, sym, ap, ap₂, ◌∙◌, subst}
use mathlib.Core.List.{List, [], ◌∷◌, ◌++◌, map, Memᴰ, map-append}
use lib.ListN.{length, get_or, drop, drop_of_length-le}
use lib.Seq.{slice, drop-cons}
use lib.Dec.{T}
use Rattle.definitions.specs.Lists.{concat, up_from, up_to}
use Rattle.definitions.specs.Words.{value_words}
use Rattle.definitions.specs.Segment.{Segment, Address, address_from, address}
use Rattle.definitions.specs.Row.{row_values}
use Rattle.definitions.specs.Join.{absent, new_word, cell_of, cell_at, rows_of, stacked_from, joined_type, terms_of, joined_cells}
use Rattle.definitions.specs.Answer.{index_fits, lists_alive_rows}
use Rattle.definitions.proofs.Fit.{not_old}
use Rattle.definitions.proofs.Lists.{concat-append, map_mem}
use Rattle.definitions.proofs.Cell.{effective-rows}
use Rattle.definitions.proofs.Words.{AllWords, take_words, drop-words, words_append, words-none}
use Rattle.lists.proofs.Parts.{run_length}
use Rattle.column_index.specs.Lookup.{start_of, end_of}
use Rattle.column_index.proofs.Laws.{row-slice}
use Rattle.column_index.proofs.Walk.{walk_values, fits-sound}
use Rattle.segment.specs.Lent.{addresses_of}
use Rattle.stands.specs.Stand.{many, stand_at}
use Rattle.stands.specs.Look.{values_at, start_in, end_in, width_in, cell_in, addressed, row_of}
use Rattle.stands.proofs.Cells.{cell-length}
use Rattle.stands.proofs.Bridge.{cell-stands, inside-stands}
use Rattle.column_values_merge.specs.Word.{new_words, Worded}
use Rattle.column_values_merge.specs.Stack.{stacked_words, AllWorded}
use Rattle.column_index_shuffled.specs.Order.{ordered_words}
use Rattle.census.specs.Table.{counted, Table}
use Rattle.merge_column.specs.Mapped.{Mapped}
use Rattle.merge_column.proofs.Index.{there, known_rows}
use Rattle.merge_column.proofs.Map.{Alike, Own, own-slice, own-values, worded, words_are}

concat-map : (f : ℕ → ℕ) (g : ℕ → List ℕ) (l : List ℕ) → concat (map (λ r. map f (g r)) l) ≡ map f (concat (map g l))
concat-map f g [] = refl
concat-map f g (r ∷ rs) = ap (λ (x : List ℕ). map f (g r) ++ x) (concat-map f g rs) ∙ sym (map-append f (g r) (concat (map g rs)))

-- all rows of a segment, one after another, are its values
pub all-rows : (s : Segment) → T (index_fits s) → concat (map (row_values s) (up_to s.rows)) ≡ s.values
all-rows s fit =
    ap concat (map_mem (row_values s) (λ r. slice (start_of s.kind s.ids s.offsets r) (end_of s.kind s.ids s.offsets r) s.values) (up_to s.rows) (λ r m. row-slice s r (not_old s fit)))
    ∙ walk_values s.values (fits-sound s fit)

module _ {stands : List (List ℕ)} {ids offsets values lengths bytes words : List ℕ} {ss : List Segment} (t : Table stands ids offsets values lengths bytes words ss) {map' : List ℕ} (m : Mapped map' ss) where
  abbrev cell : ℕ → Address → List ℕ
  cell required a = cell_at (joined_type required ss) (terms_of ss) ss a

  -- a value of segment n in the joined column
  abbrev value : ℕ → ℕ → ℕ → ℕ
  value required n v = new_word (joined_type required ss) (terms_of ss) (counted ss n) v

  -- ---- stacked

  rows-cells : (required n a k : ℕ) → map (cell required) (map (address n) (up_from a k)) ≡ map (λ r. map (value required n) (row_values (counted ss n) r)) (up_from a k)
  unfolding cell_of
  rows-cells required n a zero = refl
  rows-cells required n a (suc k) = ap (λ (l : List (List ℕ)). map (value required n) (row_values (counted ss n) a) ∷ l) (rows-cells required n (suc a) k)

  -- a segment's rows, one after another, are its values as the joined column has them
  segment-values : (required n : ℕ) → n < length ss → concat (map (cell required) (rows_of n (get_or ss n absent))) ≡ map (value required n) (counted ss n).values
  segment-values required n h =
      ap concat (rows-cells required n 0 (get_or ss n absent).rows)
      ∙ concat-map (value required n) (row_values (counted ss n)) (up_to (get_or ss n absent).rows)
      ∙ ap (λ (k : ℕ). map (value required n) (concat (map (row_values (counted ss n)) (up_to k)))) (sym (effective-rows (get_or ss n absent)))
      ∙ ap (map (value required n)) (all-rows (counted ss n) (there t n h).1)

  abbrev Rest : ℕ → ℕ → List ℕ
  Rest required n = concat (map (cell required) (stacked_from n (drop n ss)))

  rest_step : (required n : ℕ) → n < length ss → Rest required n ≡ map (value required n) (counted ss n).values ++ Rest required (suc n)
  rest_step required n h =
      ap (λ (l : List Segment). concat (map (cell required) (stacked_from n l))) (drop-cons ss n absent h)
      ∙ ap concat (map-append (cell required) (rows_of n (get_or ss n absent)) (stacked_from (suc n) (drop (suc n) ss)))
      ∙ concat-append (map (cell required) (rows_of n (get_or ss n absent))) (map (cell required) (stacked_from (suc n) (drop (suc n) ss)))
      ∙ ap (λ (l : List ℕ). l ++ Rest required (suc n)) (segment-values required n h)

  below : {k : ℕ} → k < length stands → k < length ss
  below {k} h = subst (λ (n : ℕ). k < n) t.size h

  pub all-worded : AllWorded stands values map'
  all-worded = record { lie = λ k h. (t.each k (below h)).values-lie; worded = λ k h. worded t m k (below h) (values_at (stand_at stands k) values) (own-values t m k (below h)) }

  -- ---- ordered

  own-cell : (n r : ℕ) → n < length ss → Own (get_or ss n absent) (cell_in (stand_at stands n) ids offsets values r)
  unfolding cell_in
  own-cell n r h = own-slice (start_in (stand_at stands n) ids offsets r * (stand_at stands n).unit) (end_in (stand_at stands n) ids offsets r * (stand_at stands n).unit) (own-values t m n h)

  abbrev Known : List (List ℕ) → Type 0
  Known addresses = (a : Address) → Memᴰ a (addresses_of addresses) → (a.segment < length ss) × (a.row < (get_or ss a.segment absent).rows)

  -- ---- the words of 64 bits, and the types as check 10 lets them pass

  module _ (all : AllWords values) (required : ℕ) (a : Alike (joined_type required ss) ss) where
    abbrev to : ℕ
    to = joined_type required ss

    words-from : (k n : ℕ) → n + k ≡ length ss → stacked_words to (drop n stands) values map' ≡ value_words to (Rest required n)
    unfolding stacked_words
    words-from zero n e =
        let l : length stands ≤ n = omega (arith, t.size) in
        let b : length ss ≤ n = omega arith in
        ap (λ (l : List (List ℕ)). stacked_words to l values map') (drop_of_length-le stands l)
        ∙ sym (words-none to)
        ∙ sym (ap (λ (l : List Segment). value_words to (concat (map (cell required) (stacked_from n l)))) (drop_of_length-le ss b))
    words-from (suc k) n e =
        let l : n < length stands = omega (arith, t.size) in
        let b : n < length ss = omega arith in
        let p = stand_at stands n in
        let st = t.each n b in
        ap (λ (x : List (List ℕ)). stacked_words to x values map') (drop-cons stands n [] l)
        ∙ ap₂ (λ (x y : List ℕ). x ++ y)
        (words_are t m n b to p.count (values_at p values) a (take_words (many p.values) (drop-words p.values.from all)) (run_length p.values.from p.values.to values st.values-lie.ends ∙ st.long) (own-values t m n b)
        ∙ ap (λ (vs : List ℕ). value_words to (map (value required n) vs)) st.values_are)
        (words-from k (suc n) (omega arith))
        ∙ sym (words_append to (map (value required n) (counted ss n).values) (Rest required (suc n)))
        ∙ ap (value_words to) (sym (rest_step required n b))

    pub stacked-words : stacked_words to stands values map' ≡ value_words to (concat (joined_cells required ss (stacked_from 0 ss)))
    unfolding joined_cells
    stacked-words = words-from (length ss) 0 (zero-add (length ss))

    -- a row's words
    cell-words : (n r : ℕ) (h : n < length ss) → r < (get_or ss n absent).rows → new_words to (stand_at stands n) map' (cell_in (stand_at stands n) ids offsets values r) ≡ value_words to (cell required (address n r))
    unfolding cell_of cell_in
    cell-words n r h l =
        let p = stand_at stands n in
        let st = there t n h in
        let q : r < (counted ss n).rows = rw (effective-rows (get_or ss n absent)) l in
        words_are t m n h to (width_in p ids offsets r) (cell_in p ids offsets values r) a
        (drop-words (start_in p ids offsets r * p.unit) (take_words (end_in p ids offsets r * p.unit) (take_words (many p.values) (drop-words p.values.from all))))
        (cell-length p ids offsets values r (inside-stands st.0 st.1 r q)) (own-cell n r h)
        ∙ ap (λ (vs : List ℕ). value_words to (map (value required n) vs)) (cell-stands st.0 st.1 r)

    words-at : (addresses : List (List ℕ)) → Known addresses → ordered_words to stands ids offsets values map' addresses ≡ value_words to (concat (map (cell required) (addresses_of addresses)))
    unfolding ordered_words
    words-at [] known = sym (words-none to)
    words-at (x ∷ rest) known =
        let k = known (address_from x) (Memᴰ.head refl) in
        ap₂ (λ (x y : List ℕ). x ++ y) (cell-words (get_or x 0 0) (get_or x 1 0) k.0 k.1) (words-at rest (λ b q. known b (Memᴰ.tail q)))
        ∙ sym (words_append to (cell required (address_from x)) (concat (map (cell required) (addresses_of rest))))

    pub ordered_words_lem : (addresses : List (List ℕ)) → T (lists_alive_rows ss (addresses_of addresses)) → ordered_words to stands ids offsets values map' addresses ≡ value_words to (concat (joined_cells required ss (addresses_of addresses)))
    unfolding joined_cells
    ordered_words_lem addresses o = words-at addresses (known_rows t addresses o)

  worded-at : (k : ℕ) (addresses : List (List ℕ)) → Known addresses → k < length addresses
      → Worded (addressed stands (get_or addresses k [])) map' (cell_in (addressed stands (get_or addresses k [])) ids offsets values (row_of (get_or addresses k [])))
  worded-at k [] known h = absurd (not-suc-le-zero h)
  worded-at zero (a ∷ rest) known h =
      let q = known (address_from a) (Memᴰ.head refl) in
      worded t m (get_or a 0 0) q.0 (cell_in (stand_at stands (get_or a 0 0)) ids offsets values (get_or a 1 0)) (own-cell (get_or a 0 0) (get_or a 1 0) q.0)
  worded-at (suc k) (a ∷ rest) known h = worded-at k rest (λ b q. known b (Memᴰ.tail q)) (le_of_suc-le-suc h)

  pub ordered-worded : (addresses : List (List ℕ)) → T (lists_alive_rows ss (addresses_of addresses)) → (k : ℕ) → k < length addresses
      → Worded (addressed stands (get_or addresses k [])) map' (cell_in (addressed stands (get_or addresses k [])) ids offsets values (row_of (get_or addresses k [])))
  ordered-worded addresses o k h = worded-at k addresses (known_rows t addresses o) h
