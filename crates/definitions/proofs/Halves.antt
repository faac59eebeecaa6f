-- A join of address columns is two joins of U64 columns, of the high words and of the low words (document 02, (g)). Assumes nothing.
use Prim.Native.Nat.{ℕ, zero, suc, ◌+◌, ◌/◌, ◌%◌, ◌^◌, max}
use mathlib.Core.Path.{◌≡◌, refl, sym, ap, ap₂, ◌∙◌}
use mathlib.Core.List.{List, [], ◌∷◌, ◌++◌, map, map-id, map-append}
use mathlib.Core.Bool.{Bool, true, false, cond, not, ◌&&◌, ◌||◌}
use lib.ListN.{length, get_or, take, drop, get_or-map, length-map}
use lib.Seq.{slice}
use lib.Dec.{T, eqb, eqb→eq}
use lib.Ieee.Fits.{and_i, and_l, and_r}
use borrow.Author.Tests.{eqb-true}
use Rattle.definitions.specs.Lists.{up_to, any, all, concat, is_empty, elem, greatest, filter, sort_terms}
use Rattle.definitions.specs.Words.{IpAddr, halves, value_words}
use Rattle.definitions.specs.Segment.{Segment, Address, by_kind}
use Rattle.definitions.specs.Row.{rank, one_at, between, if_listed, row_values, has_value, has_alive_set, is_alive, alive_rows, is_present, is_dropped, is_held, held_of, as_empty, effective, no_type}
use Rattle.definitions.specs.Types.{U64, F64, has_terms, pair_of, double_of, integer_of, coerced}
use Rattle.definitions.specs.Class.{kind_class, row_class, alive_class, class_of, greatest_class}
use Rattle.definitions.specs.Join.{Joined, absent, stacked_from, rows_of, row_order, is_used, kept_terms, terms_of, ordinal_of, map_of, new_word, cell_of, cell_at, ids_from, totals_from, encode, joined_type, joined_class, joined_cells, joined_column, join_rules}
use Rattle.definitions.proofs.Lists.{get_or_all}
use Rattle.definitions.proofs.Summary.{OfType, joined-type}

-- U64 in the place of the address type
abbrev pub half_type : ℕ → ℕ
half_type t = cond (eqb t no_type) no_type U64

-- the segment of one word of each address, with the pair of these words
abbrev pub half_of : (ℕ → ℕ) → Segment → Segment
half_of f s =
    record {
      type = half_type s.type;
      kind = s.kind;
      rows = s.rows;
      ids = s.ids;
      offsets = s.offsets;
      values = map f s.values;
      terms = s.terms;
      flag = s.flag;
      alive_count = s.alive_count;
      pair = pair_of (half_type s.type) (map f s.values);
      alive = s.alive;
    }

-- a joined column's
abbrev pub half_joined : (ℕ → ℕ) → Joined → Joined
half_joined f j =
    record {
      column =
          record {
            type = half_type j.column.type;
            class = j.column.class;
            rows = j.column.rows;
            ids = j.column.ids;
            offsets = j.column.offsets;
            values = map f j.column.values;
            terms = j.column.terms;
            pair = pair_of (half_type j.column.type) (map f j.column.values);
          };
      map = j.map;
    }

module _ (f : ℕ → ℕ) where
  -- ---- a row's values

  take-map : (n : ℕ) (l : List ℕ) → take n (map f l) ≡ map f (take n l)
  take-map zero l = refl
  take-map (suc n) [] = refl
  take-map (suc n) (x ∷ l) = ap (λ (m : List ℕ). f x ∷ m) (take-map n l)

  drop-map : (n : ℕ) (l : List ℕ) → drop n (map f l) ≡ map f (drop n l)
  drop-map zero l = refl
  drop-map (suc n) [] = refl
  drop-map (suc n) (x ∷ l) = drop-map n l

  slice-map : (a b : ℕ) (l : List ℕ) → slice a b (map f l) ≡ map f (slice a b l)
  slice-map a b l = ap (drop a) (take-map b l) ∙ drop-map a (take b l)

  cond_map : (t : Bool) (x y : List ℕ) → cond t (map f x) (map f y) ≡ map f (cond t x y)
  cond_map true x y = refl
  cond_map false x y = refl

  kind-map : (k : ℕ) (a b c d e : List ℕ) → by_kind k (map f a) (map f b) (map f c) (map f d) (map f e) ≡ map f (by_kind k a b c d e)
  kind-map k a b c d e = go (eqb k 0) (eqb k 1) (eqb k 2) (eqb k 3)
    where
      go : (p q r t : Bool) → cond p (map f a) (cond q (map f b) (cond r (map f c) (cond t (map f d) (map f e)))) ≡ map f (cond p a (cond q b (cond r c (cond t d e))))
      go true q r t = refl
      go false true r t = refl
      go false false true t = refl
      go false false false true = refl
      go false false false false = refl

  one-half : (s : Segment) (k : ℕ) → one_at (half_of f s) k ≡ map f (one_at s k)
  one-half s k = slice-map k (suc k) s.values

  between-half : (s : Segment) (k : ℕ) → between (half_of f s) k ≡ map f (between s k)
  between-half s k = slice-map (get_or s.offsets k 0) (get_or s.offsets (suc k) 0) s.values

  listed-half : (s : Segment) (r : ℕ) (l : List ℕ) → if_listed s r (map f l) ≡ map f (if_listed s r l)
  listed-half s r l = cond_map (elem r s.ids) l []

  row-half : (s : Segment) (r : ℕ) → row_values (half_of f s) r ≡ map f (row_values s r)
  unfolding row_values
  row-half s r =
      let k = rank r s.ids in
      (λ i.
      by_kind s.kind
      []
      (one-half s r i)
      ((ap (if_listed s r) (one-half s k) ∙ listed-half s r (one_at s k)) i)
      (between-half s r i)
      ((ap (if_listed s r) (between-half s k) ∙ listed-half s r (between s k)) i))
      ∙ kind-map s.kind [] (one_at s r) (if_listed s r (one_at s k)) (between s r) (if_listed s r (between s k))

  empty-map : (l : List ℕ) → is_empty (map f l) ≡ is_empty l
  empty-map [] = refl
  empty-map (x ∷ l) = refl

  class-map : (l : List ℕ) → row_class (map f l) ≡ row_class l
  class-map [] = refl
  class-map (x ∷ []) = refl
  class-map (x ∷ y ∷ l) = refl

  -- ---- a segment

  present-half : (s : Segment) → is_present (half_of f s) ≡ is_present s
  present-half s = go (eqb s.type no_type)
    where
      go : (b : Bool) → not (eqb (cond b no_type U64) no_type) ≡ not b
      go true = refl
      go false = refl

  value-half : (s : Segment) (r : ℕ) → has_value (half_of f s) r ≡ has_value s r
  value-half s r = ap not (ap is_empty (row-half s r) ∙ empty-map (row_values s r))

  dropped-half : (s : Segment) → is_dropped (half_of f s) ≡ is_dropped s
  unfolding is_dropped alive_rows is_alive
  dropped-half s = λ i. empty-map s.values i || (has_alive_set s && not (any (λ (r : ℕ). value-half s r i) (alive_rows s)))

  held-half : (s : Segment) → is_held (half_of f s) ≡ is_held s
  unfolding is_held
  held-half s = ap₂ (λ (p d : Bool). p && not d) (present-half s) (dropped-half s)

  effective-half : (s : Segment) → effective (half_of f s) ≡ half_of f (effective s)
  unfolding effective as_empty pair_of
  effective-half s = ap (λ (b : Bool). cond b (half_of f s) (as_empty s)) (held-half s) ∙ go (is_held s)
    where
      go : (b : Bool) → cond b (half_of f s) (as_empty s) ≡ half_of f (cond b s (as_empty s))
      go true = refl
      go false = refl

  class-half : (s : Segment) → class_of (half_of f s) ≡ class_of s
  unfolding class_of alive_class kind_class alive_rows is_alive
  class-half s = λ i. cond (has_alive_set s) (greatest (map (λ (r : ℕ). (ap row_class (row-half s r) ∙ class-map (row_values s r)) i) (alive_rows s))) (kind_class s)

  -- ---- all segments

  any-half : (ss : List Segment) → any is_held (map (half_of f) ss) ≡ any is_held ss
  any-half [] = refl
  any-half (s ∷ ss) = ap₂ ◌||◌ (held-half s) (any-half ss)

  greatest-half : (ss : List Segment) → greatest_class (map (half_of f) ss) ≡ greatest_class ss
  unfolding greatest_class
  greatest-half [] = refl
  greatest-half (s ∷ ss) = ap₂ max (ap class_of (effective-half s) ∙ class-half (effective s)) (greatest-half ss)

  stacked-half : (n : ℕ) (ss : List Segment) → stacked_from n (map (half_of f) ss) ≡ stacked_from n ss
  stacked-half n [] = refl
  stacked-half n (s ∷ ss) = ap (λ (l : List Address). rows_of n s ++ l) (stacked-half (suc n) ss)

  of-type : (ss : List Segment) → OfType U64 (map (half_of f) ss)
  of-type [] = tt
  of-type (s ∷ ss) = go (eqb s.type no_type) (of-type ss)
    where
      go : (b : Bool) → OfType U64 (map (half_of f) ss)
          → T ((not (not (eqb (cond b no_type U64) no_type)) || eqb (cond b no_type U64) U64) && all (λ s. not (is_present s) || eqb s.type U64) (map (half_of f) ss))
      go true h = h
      go false h = h

  -- ---- the lists of the joined column

  concat-half : (cells : List (List ℕ)) → concat (map (map f) cells) ≡ map f (concat cells)
  concat-half [] = refl
  concat-half (c ∷ cells) = ap (λ (l : List ℕ). map f c ++ l) (concat-half cells) ∙ sym (map-append f c (concat cells))

  ids-half : (n : ℕ) (cells : List (List ℕ)) → ids_from n (map (map f) cells) ≡ ids_from n cells
  ids-half n [] = refl
  ids-half n ([] ∷ cells) = ids-half (suc n) cells
  ids-half n ((v ∷ vs) ∷ cells) = ap (λ (l : List ℕ). n ∷ l) (ids-half (suc n) cells)

  totals_half : (n : ℕ) (cells : List (List ℕ)) → totals_from n (map (map f) cells) ≡ totals_from n cells
  totals_half n [] = refl
  totals_half n ([] ∷ cells) = totals_half n cells
  totals_half n ((v ∷ vs) ∷ cells) =
      ap (λ (k : ℕ). (n + suc k) ∷ totals_from (n + suc k) (map (map f) cells)) (length-map vs f) ∙ ap (λ (l : List ℕ). (n + suc (length vs)) ∷ l) (totals_half (n + suc (length vs)) cells)

-- ---- columns without terms have no terms in the join

abbrev NoTerms : List Segment → Type 0
NoTerms ss = T (all (λ s. is_empty s.terms) ss)

held_none : {A : Type 0} (g : Segment → List A) → ((s : Segment) → T (is_empty s.terms) → g s ≡ []) → (ss : List Segment) → NoTerms ss → concat (map g (held_of ss)) ≡ []
unfolding held_of
held_none g e [] h = refl
held_none {A} g e (s ∷ ss) h =
    let p = and_l (is_empty s.terms) (all (λ x. is_empty x.terms) ss) h in
    let q = and_r (is_empty s.terms) (all (λ x. is_empty x.terms) ss) h in
    go (is_held s) (e s p) (held_none g e ss q)
  where
    go : (b : Bool) → g s ≡ [] → concat (map g (filter is_held ss)) ≡ [] → concat (map g (cond b (s ∷ filter is_held ss) (filter is_held ss))) ≡ []
    go true x y = ap₂ (λ (l m : List A). l ++ m) x y
    go false x y = y

kept-none : (s : Segment) → T (is_empty s.terms) → kept_terms s ≡ []
unfolding kept_terms
kept-none s h = go s.terms (has_alive_set s) h
  where
    go : (ts : List (List ℕ)) (b : Bool) → T (is_empty ts) → cond b (map (λ k. get_or ts k []) (filter (is_used s) (up_to (length ts)))) ts ≡ []
    go [] true h = refl
    go [] false h = refl
    go (t ∷ ts) b h = absurd h

terms-none : (ss : List Segment) → NoTerms ss → terms_of ss ≡ []
unfolding terms_of
terms-none ss h = ap sort_terms (held_none kept_terms kept-none ss h)

map-none : (ss : List Segment) → NoTerms ss → map_of ss ≡ []
unfolding map_of
map-none ss h = held_none (λ (s : Segment). map (ordinal_of (terms_of ss)) s.terms) (λ s e. go s.terms e) ss h
  where
    go : (ts : List (List ℕ)) → T (is_empty ts) → map (ordinal_of (terms_of ss)) ts ≡ []
    go [] e = refl
    go (t ∷ ts) e = absurd e

-- ---- the join of columns that are all of addresses

-- words that are not ordinals, in a join that makes no doubles, stay
word_stays : (u : ℕ) (terms : List (List ℕ)) (s : Segment) (w : ℕ) → eqb u F64 ≡ false → has_terms s.type ≡ false → new_word u terms s w ≡ w
unfolding new_word coerced
word_stays u terms s w e h =
    ap (λ (b : Bool). cond b (ordinal_of terms (get_or s.terms w [])) (coerced s.type u w)) h
    ∙ ap (λ (b : Bool). cond (b && not (eqb s.type F64)) (double_of (integer_of s.type w)) w) e

cell_stays : (u : ℕ) (terms : List (List ℕ)) (s : Segment) (r : ℕ) → eqb u F64 ≡ false → has_terms (effective s).type ≡ false → cell_of u terms s r ≡ row_values (effective s) r
unfolding cell_of
cell_stays u terms s r e h = (λ i. map (λ (w : ℕ). word_stays u terms (effective s) w e h i) (row_values (effective s) r)) ∙ map-id (row_values (effective s) r)

module _ (required : ℕ) (ss : List Segment) (only : T (eqb required no_type || eqb required IpAddr)) (typed : OfType IpAddr ss) (bare : NoTerms ss) where
  abbrev type : ℕ
  type = joined_type required ss

  type-is : type ≡ cond (eqb required no_type) (cond (any is_held ss) IpAddr no_type) required
  type-is = joined-type required IpAddr ss (record { of_type = λ _. typed })

  no_doubles : eqb type F64 ≡ false
  no_doubles = ap (λ (t : ℕ). eqb t F64) type-is ∙ go (eqb required no_type) (any is_held ss) only
    where
      go : (b c : Bool) → T (b || eqb required IpAddr) → eqb (cond b (cond c IpAddr no_type) required) F64 ≡ false
      go true true h = refl
      go true false h = refl
      go false c h = ap (λ (t : ℕ). eqb t F64) (eqb→eq required IpAddr h)

  no_ordinals : (s : Segment) → T (not (is_present s) || eqb s.type IpAddr) → has_terms (effective s).type ≡ false
  unfolding effective as_empty has_terms
  no_ordinals s h = go (is_held s) (eqb s.type no_type) refl h
    where
      go : (b c : Bool) → eqb s.type no_type ≡ c → T (not (not c) || eqb s.type IpAddr) → has_terms (cond b s (as_empty s)).type ≡ false
      go false c e h = refl
      go true true e h = ap has_terms (eqb-true s.type no_type e)
      go true false e h = ap has_terms (eqb→eq s.type IpAddr h)

  module _ (f : ℕ → ℕ) where
    abbrev words : List Segment
    words = map (half_of f) ss

    bare-half : (ss : List Segment) → NoTerms ss → NoTerms (map (half_of f) ss)
    bare-half [] h = h
    bare-half (s ∷ ss) h =
        let p = and_l (is_empty s.terms) (all (λ x. is_empty x.terms) ss) h in
        let q = and_r (is_empty s.terms) (all (λ x. is_empty x.terms) ss) h in
        and_i (is_empty s.terms) (all (λ x. is_empty x.terms) (map (half_of f) ss)) p (bare-half ss q)

    type-half : joined_type (half_type required) words ≡ half_type type
    type-half =
        joined-type (half_type required) U64 words (record { of_type = λ _. of-type f ss })
        ∙ ap (λ (c : Bool). cond (eqb (half_type required) no_type) (cond c U64 no_type) (half_type required)) (any-half f ss)
        ∙ go (eqb required no_type) (any is_held ss) refl
        ∙ sym (ap half_type type-is)
      where
        go : (b c : Bool) → eqb required no_type ≡ b → cond (eqb (cond b no_type U64) no_type) (cond c U64 no_type) (cond b no_type U64) ≡ half_type (cond b (cond c IpAddr no_type) required)
        go true true e = refl
        go true false e = refl
        go false c e = rw e

    half-type : (t : ℕ) → (eqb (half_type t) F64 ≡ false) × (has_terms (half_type t) ≡ false)
    unfolding has_terms
    half-type t = go (eqb t no_type)
      where
        go : (b : Bool) → (eqb (cond b no_type U64) F64 ≡ false) × (has_terms (cond b no_type U64) ≡ false)
        go true = (refl, refl)
        go false = (refl, refl)

    cell-half : (u : ℕ) (x y : List (List ℕ)) (s : Segment) (r : ℕ) → eqb u F64 ≡ false → has_terms (effective s).type ≡ false → cell_of (half_type u) x (half_of f s) r ≡ map f (cell_of u y s r)
    cell-half u x y s r e h =
        cell_stays (half_type u) x (half_of f s) r (half-type u).0 (ap (λ (z : Segment). has_terms z.type) (effective-half f s) ∙ (half-type (effective s).type).1)
        ∙ ap (λ (z : Segment). row_values z r) (effective-half f s)
        ∙ row-half f (effective s) r
        ∙ ap (map f) (sym (cell_stays u y s r e h))

    at-half : (a : Address) → cell_at (joined_type (half_type required) words) (terms_of words) words a ≡ map f (cell_at type (terms_of ss) ss a)
    unfolding pair_of
    at-half a =
        (λ i. cell_of (type-half i) (terms_of words) (get_or-map (half_of f) ss a.segment absent i) a.row)
        ∙ cell-half type (terms_of words) (terms_of ss) (get_or ss a.segment absent) a.row no_doubles
        (no_ordinals (get_or ss a.segment absent) (get_or_all (λ s. not (is_present s) || eqb s.type IpAddr) ss a.segment absent typed tt))

    cells-half : (order : List Address) → joined_cells (half_type required) words order ≡ map (map f) (joined_cells required ss order)
    unfolding joined_cells
    cells-half [] = refl
    cells-half (a ∷ order) = ap₂ (λ (c : List ℕ) (cs : List (List ℕ)). c ∷ cs) (at-half a) (cells-half order)

    class_same : joined_class (half_type required) words ≡ joined_class required ss
    unfolding joined_class
    class_same = ap₂ (λ (t c : ℕ). cond (eqb t no_type) 0 c) type-half (greatest-half f ss) ∙ go (eqb type no_type)
      where
        go : (b : Bool) → cond (eqb (cond b no_type U64) no_type) 0 (greatest_class ss) ≡ cond b 0 (greatest_class ss)
        go true = refl
        go false = refl

    order_same : (mode : ℕ) (addresses : List Address) → row_order mode words addresses ≡ row_order mode ss addresses
    unfolding row_order
    order_same mode addresses = ap (λ (l : List Address). cond (eqb mode 0) l addresses) (stacked-half f 0 ss)

    -- the join of one word of each address is the join's own words; class, rows, ids and offsets are the same
    pub join_half : (mode : ℕ) (addresses : List Address) → join_rules (half_type required) mode words addresses ≡ half_joined f (join_rules required mode ss addresses)
    unfolding join_rules joined_column encode
    join_half mode addresses =
        let order = row_order mode ss addresses in
        let cells = joined_cells required ss order in
        let e : joined_cells (half_type required) words (row_order mode words addresses) ≡ map (map f) cells = ap (joined_cells (half_type required) words) (order_same mode addresses) ∙ cells-half order in
        λ i.
        record {
          column =
              record {
                type = type-half i;
                class = class_same i;
                rows = (ap length e ∙ length-map cells (map f)) i;
                ids = cond (eqb (class_same i) 0) [] ((ap (ids_from 0) e ∙ ids-half f 0 cells) i);
                offsets = cond (eqb (class_same i) 2) (0 ∷ (ap (totals_from 0) e ∙ totals_half f 0 cells) i) [];
                values = (ap concat e ∙ concat-half f cells) i;
                terms = (terms-none words (bare-half ss bare) ∙ sym (terms-none ss bare)) i;
                pair = pair_of (type-half i) ((ap concat e ∙ concat-half f cells) i);
              };
          map = (map-none words (bare-half ss bare) ∙ sym (map-none ss bare)) i;
        }

-- ---- both words

-- an element of the one and of the other list, in turn
abbrev pub in_turn : List ℕ → List ℕ → List ℕ
in_turn [] ys = []
in_turn (x ∷ xs) [] = []
in_turn (x ∷ xs) (y ∷ ys) = x ∷ y ∷ in_turn xs ys

abbrev pub high : ℕ → ℕ
high v = v / 2 ^ 64

abbrev pub low : ℕ → ℕ
low v = v % 2 ^ 64

halves_in_turn : (vs : List ℕ) → halves vs ≡ in_turn (map high vs) (map low vs)
halves_in_turn [] = refl
halves_in_turn (v ∷ vs) = ap (λ (ws : List ℕ). high v ∷ low v ∷ ws) (halves_in_turn vs)

-- the words of an address join are those of two U64 joins, in turn
pub two-joins : (required : ℕ) (ss : List Segment) → T (eqb required no_type || eqb required IpAddr) → OfType IpAddr ss → NoTerms ss → (mode : ℕ) (addresses : List Address)
    → value_words IpAddr (join_rules required mode ss addresses).column.values
    ≡ in_turn (join_rules (half_type required) mode (map (half_of high) ss) addresses).column.values (join_rules (half_type required) mode (map (half_of low) ss) addresses).column.values
unfolding value_words
two-joins required ss only typed bare mode addresses =
    halves_in_turn (join_rules required mode ss addresses).column.values
    ∙ sym (ap₂ (λ (h l : Joined). in_turn h.column.values l.column.values) (join_half required ss only typed bare high mode addresses) (join_half required ss only typed bare low mode addresses))
