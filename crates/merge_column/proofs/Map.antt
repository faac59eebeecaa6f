-- A segment's words become what the join's rules say: its part of the map has the new ordinals of its terms. Assumes nothing.
use Prim.Native.Nat.{ℕ, zero, suc, ◌+◌, ◌-◌, ◌*◌, ◌≤◌, ◌<◌, zero-le, suc-le-suc}
use native.Mathlib.Nat.{le_of_suc-le-suc, not-suc-le-zero, le_of_lt, add-sub_cancel_left}
use native.Mathlib.Omega.{arith}
use mathlib.Core.Path.{◌≡◌, refl, sym, ap, ap₂, ◌∙◌, subst}
use mathlib.Core.List.{List, [], ◌∷◌, ◌++◌, map, map-id}
use mathlib.Core.Bool.{Bool, true, false, ◌&&◌, cond, false≢true}
use lib.ListN.{length, get_or, take, drop, length-map, length-append}
use lib.Seq.{take_at, take-take, drop-append-add, slice}
use lib.Dec.{T, eqb, ltb, ltb→lt}
use lib.Ieee.Fits.{and_r}
use lib.Ieee.Bits.{is_true}
use borrow.Author.Tests.{eqb-true}
use Rattle.definitions.specs.Lists.{sum, all, filter, concat}
use Rattle.definitions.specs.Words.{IpAddr, words_per_value, value_words, values_in}
use Rattle.definitions.specs.Segment.{Segment}
use Rattle.definitions.specs.Row.{is_held, as_empty, effective, held_of}
use Rattle.definitions.specs.Types.{has_terms, coerced, is_coercible}
use Rattle.definitions.specs.Join.{absent, terms_of, ordinal_of, map_of, new_word, joined_type}
use Rattle.definitions.specs.Answer.{present_types, one_category, all_coercible, types_wrong}
use Rattle.definitions.proofs.Fit.{fit_values}
use Rattle.definitions.proofs.Group.{effective-held, effective-not}
use Rattle.definitions.proofs.Decode.{slice_nil}
use Rattle.definitions.proofs.Accept.{not-false}
use Rattle.definitions.proofs.Lists.{get_or_in, all_mem, map_mem, mem_at, mem-filter}
use Rattle.definitions.proofs.Words.{AllWords, words-plain, values-plain, terms-plain, becomes_alike, values_back, values-none, words-none}
use Rattle.numerical.proofs.Laws as one
use Rattle.lists.proofs.Parts.{drop-take}
use Rattle.lists.proofs.Sums.{sums_are}
use Rattle.lists.proofs.Lists.{all-at}
use Rattle.runs.specs.Put.{looked, Below}
use Rattle.runs.proofs.Laws.{below-part}
use Rattle.stands.specs.declared.Span.{Span}
use Rattle.stands.specs.declared.Stand.{Stand}
use Rattle.stands.specs.Stand.{run, part, Lies, stand_at}
use Rattle.stands.specs.Look.{values_at}
use Rattle.census.specs.Table.{counted, map_before, Table}
use Rattle.column_values_merge.specs.Word.{map_at, coerced_all, words_by, new_words, Worded}
use Rattle.column_values_merge.proofs.Laws.{coerced-other, words-none as nothing}
use Rattle.merge_column.specs.Mapped.{Mapped}

-- ---- parts of a list of parts

part_at : (p : Segment → List ℕ) (l : List Segment) (k : ℕ) (d : Segment) → k < length l
    → take (length (p (get_or l k d))) (drop (sum (map (λ s. length (p s)) (take k l))) (concat (map p l))) ≡ p (get_or l k d)
part_at p [] k d h = absurd (not-suc-le-zero h)
part_at p (x ∷ xs) zero d h = take_at (p x) (concat (map p xs)) (length (p x)) refl
part_at p (x ∷ xs) (suc k) d h =
    ap (take (length (p (get_or xs k d)))) (drop-append-add (p x) (concat (map p xs)) (sum (map (λ s. length (p s)) (take k xs)))) ∙ part_at p xs k d (le_of_suc-le-suc h)

part_end : (p : Segment → List ℕ) (l : List Segment) (k : ℕ) (d : Segment) → k < length l
    → sum (map (λ s. length (p s)) (take k l)) + length (p (get_or l k d)) ≤ length (concat (map p l))
part_end p [] k d h = absurd (not-suc-le-zero h)
part_end p (x ∷ xs) zero d h = let e = length-append (p x) (concat (map p xs)) in omega arith
part_end p (x ∷ xs) (suc k) d h =
    let e = length-append (p x) (concat (map p xs)) in
    let i = part_end p xs k d (le_of_suc-le-suc h) in
    omega arith

concat-filter : (t : Segment → Bool) (p : Segment → List ℕ) (l : List Segment) → concat (map p (filter t l)) ≡ concat (map (λ s. cond (t s) (p s) []) l)
concat-filter t p [] = refl
concat-filter t p (x ∷ xs) = go (t x) (concat-filter t p xs)
  where
    go : (b : Bool) → concat (map p (filter t xs)) ≡ concat (map (λ s. cond (t s) (p s) []) xs)
        → concat (map p (cond b (x ∷ filter t xs) (filter t xs))) ≡ cond b (p x) [] ++ concat (map (λ s. cond (t s) (p s) []) xs)
    go true e = ap (λ (l : List ℕ). p x ++ l) e
    go false e = e

-- a run at the front of a table
front-run : (a n m : ℕ) (table whole : List ℕ) → take m table ≡ whole → a + n ≤ m → run a (a + n) table ≡ take n (drop a whole)
front-run a n m table whole e h =
    ap (λ (k : ℕ). take k (drop a table)) (add-sub_cancel_left a n)
    ∙ sym (take-take n (m - a) (drop a table) (omega arith))
    ∙ ap (take n) (sym (drop-take a m table) ∙ ap (drop a) e)

-- ---- elements of a part

below-slice : (n a b : ℕ) (l : List ℕ) → Below n l → Below n (slice a b l)
below-slice n a b l h = subst (Below n) (sym (drop-take a b l)) (below-part n a (b - a) l h)

all-below : (n : ℕ) (l : List ℕ) → T (all (λ w. ltb w n) l) → Below n l
all-below n l h k q = ltb→lt (get_or l k 0) n (all-at (λ w. ltb w n) l k 0 h q)

-- two functions that agree below n agree on a list below n
map_below : (f g : ℕ → ℕ) (n : ℕ) (xs : List ℕ) → ((w : ℕ) → w < n → f w ≡ g w) → Below n xs → map f xs ≡ map g xs
map_below f g n [] e b = refl
map_below f g n (x ∷ xs) e b = ap₂ (λ (y : ℕ) (ys : List ℕ). y ∷ ys) (e x (b 0 (suc-le-suc zero-le))) (map_below f g n xs e (λ k h. b (suc k) (suc-le-suc h)))

-- ---- addresses stay as they are

not_double : {to : ℕ} → to ≡ IpAddr → to ≡ 2 → ⊥
not_double e q = omega arith

address-words : (to type : ℕ) (u : Span) (table ws : List ℕ) → type ≡ IpAddr → to ≡ IpAddr → words_by to type u table ws ≡ ws
unfolding words_by has_terms
address-words to type u table ws te oe = rw te (sym (coerced-other IpAddr to ws (not_double oe)))

address-values : (to : ℕ) (terms : List (List ℕ)) (s : Segment) (vs : List ℕ) → s.type ≡ IpAddr → to ≡ IpAddr → map (new_word to terms s) vs ≡ vs
unfolding new_word has_terms
address-values to terms s vs te oe =
    map_mem (new_word to terms s) (λ v. v) vs
    (λ v m. ap (λ (n : ℕ). cond (has_terms n) (ordinal_of terms (get_or s.terms v [])) (coerced n to v)) te ∙ sym (one.coerced-other IpAddr to v (not_double oe)))
    ∙ map-id vs

-- each held column has as many words a value as the joined one: what check 10 says of it
pub record Alike (to : ℕ) (ss : List Segment) : Type 0 where
  pub each : (k : ℕ) → k < length ss → is_held (get_or ss k absent) ≡ true → eqb (get_or ss k absent).type IpAddr ≡ eqb to IpAddr

pub alike : (required : ℕ) (ss : List Segment) → types_wrong required ss ≡ false → Alike (joined_type required ss) ss
unfolding types_wrong all_coercible held_of
alike required ss w =
    record {
      each = λ k h q.
          let to = joined_type required ss in
          let c = and_r (one_category (present_types required ss)) (all_coercible required ss) (not-false (one_category (present_types required ss) && all_coercible required ss) w) in
          let s = get_or ss k absent in
          becomes_alike s.type to s.pair
          (is_true (is_coercible s.type to s.pair) (all_mem (λ s. is_coercible s.type to s.pair) (filter is_held ss) c (mem-filter is_held ss q (mem_at ss k absent h))));
    }

-- ---- what a run of the segment's words is known to be

pub record Own (s : Segment) (vs : List ℕ) : Type 0 where
  pub ordinals : is_held s ≡ true → has_terms s.type ≡ true → Below (length s.terms) vs
  pub none : is_held s ≡ false → vs ≡ []

pub own-slice : {s : Segment} (a b : ℕ) {vs : List ℕ} → Own s vs → Own s (slice a b vs)
own-slice {s} a b {vs} o =
    record {
      ordinals = λ e t. below-slice (length s.terms) a b vs (o.ordinals e t);
      none = λ e. ap (slice a b) (o.none e) ∙ slice_nil a b;
    }

module _ {stands : List (List ℕ)} {ids offsets values lengths bytes words : List ℕ} {ss : List Segment} (t : Table stands ids offsets values lengths bytes words ss) where
  -- a segment's part of the map
  abbrev parted : Segment → List ℕ
  parted s = map (ordinal_of (terms_of ss)) (effective s).terms

  part_length : (s : Segment) → length (parted s) ≡ length (effective s).terms
  part_length s = length-map (effective s).terms (ordinal_of (terms_of ss))

  map_is : map_of ss ≡ concat (map parted ss)
  unfolding map_of held_of effective as_empty
  map_is = concat-filter is_held (λ s. map (ordinal_of (terms_of ss)) s.terms) ss ∙ ap concat (each ss)
    where
      one : (s : Segment) → cond (is_held s) (map (ordinal_of (terms_of ss)) s.terms) [] ≡ parted s
      one s = go (is_held s)
        where
          go : (b : Bool) → cond b (map (ordinal_of (terms_of ss)) s.terms) [] ≡ map (ordinal_of (terms_of ss)) (cond b s (as_empty s)).terms
          go true = refl
          go false = refl

      each : (l : List Segment) → map (λ s. cond (is_held s) (map (ordinal_of (terms_of ss)) s.terms) []) l ≡ map parted l
      each [] = refl
      each (s ∷ l) = ap₂ (λ (x : List ℕ) (xs : List (List ℕ)). x ∷ xs) (one s) (each l)

  before_parts : (k : ℕ) → k ≤ length ss → map_before ss k ≡ sum (map (λ s. length (parted s)) (take k ss))
  before_parts k h = sums_are (λ j. length (counted ss j).terms) (λ s. length (parted s)) ss absent (λ j q. sym (part_length (get_or ss j absent))) k h

  module _ {map' : List ℕ} (m : Mapped map' ss) (k : ℕ) (h : k < length ss) where
    abbrev p : Stand
    p = stand_at stands k

    abbrev n : ℕ
    n = length (counted ss k).terms

    part-fits : map_before ss k + n ≤ length (map_of ss)
    part-fits =
        let a = part_end parted ss k absent h in
        let b = before_parts k (omega arith) in
        let d = part_length (get_or ss k absent) in
        let e : length (map_of ss) ≡ length (concat (map parted ss)) = ap length map_is in
        omega arith

    map_at_lem : map_at p map' ≡ parted (get_or ss k absent)
    map_at_lem =
        ap (λ (w : Span). part w map') (t.map k h)
        ∙ front-run (map_before ss k) n (length (map_of ss)) map' (map_of ss) m.front part-fits
        ∙ (λ i. take (sym (part_length (get_or ss k absent)) i) (drop (before_parts k (le_of_lt h) i) (map_is i)))
        ∙ part_at parted ss k absent h

    map_lies : Lies p.map map'
    map_lies = subst (λ (w : Span). Lies w map') (sym (t.map k h)) (record { rises = omega arith; ends = let a = part-fits in let b = m.room in omega arith })

    ordinals-at : has_terms (get_or ss k absent).type ≡ true → Below (length (get_or ss k absent).terms) (get_or ss k absent).values
    ordinals-at e = all-below (length (get_or ss k absent).terms) (get_or ss k absent).values ((fit_values (get_or ss k absent) (t.worded k h)).ordinals e)

    own-counted : Own (get_or ss k absent) (counted ss k).values
    unfolding as_empty
    own-counted =
        record {
          ordinals = λ e q. subst (λ (s : Segment). Below (length (get_or ss k absent).terms) s.values) (sym (effective-held (get_or ss k absent) e)) (ordinals-at q);
          none = λ e. ap (λ (s : Segment). s.values) (effective-not (get_or ss k absent) e);
        }

    pub own-values : Own (get_or ss k absent) (values_at p values)
    unfolding as_empty
    own-values = go (is_held (get_or ss k absent)) refl
      where
        words_as : eqb (counted ss k).type IpAddr ≡ false → values_at p values ≡ (counted ss k).values
        words_as e = sym (values-plain (counted ss k).type e (values_at p values)) ∙ (t.each k h).values_are

        go : (b : Bool) → is_held (get_or ss k absent) ≡ b → Own (get_or ss k absent) (values_at p values)
        go true q =
            record {
              ordinals = λ e f.
                  subst (Below (length (get_or ss k absent).terms)) (sym (words_as (ap (λ (s : Segment). eqb s.type IpAddr) (effective-held (get_or ss k absent) q) ∙ terms-plain (get_or ss k absent).type f)))
                  (own-counted.ordinals e f);
              none = λ e. absurd (false≢true (sym e ∙ q));
            }
        go false q = subst (Own (get_or ss k absent)) (sym (words_as (ap (λ (s : Segment). eqb s.type IpAddr) (effective-not (get_or ss k absent) q)))) own-counted

    held-map : is_held (get_or ss k absent) ≡ true → map_at p map' ≡ map (ordinal_of (terms_of ss)) (get_or ss k absent).terms
    held-map e = map_at_lem ∙ ap (λ (s : Segment). map (ordinal_of (terms_of ss)) s.terms) (effective-held (get_or ss k absent) e)

    map-length : is_held (get_or ss k absent) ≡ true → length (map_at p map') ≡ length (get_or ss k absent).terms
    map-length e = ap length (held-map e) ∙ length-map (get_or ss k absent).terms (ordinal_of (terms_of ss))

    pub worded : (vs : List ℕ) → Own (get_or ss k absent) vs → Worded p map' vs
    worded vs o = record { code = t.small k h; map_lies = map_lies; ordinals = λ e. go (is_held (get_or ss k absent)) refl (subst (λ (n : ℕ). has_terms n ≡ true) (t.type k h) e) }
      where
        go : (b : Bool) → is_held (get_or ss k absent) ≡ b → has_terms (get_or ss k absent).type ≡ true → Below (length (map_at p map')) vs
        go true q x = subst (λ (n : ℕ). Below n vs) (sym (map-length q)) (o.ordinals q x)
        go false q x = λ j l. absurd (not-suc-le-zero (subst (λ (x : List ℕ). j < length x) (o.none q) l))

    words-held : (to : ℕ) (vs : List ℕ) → Own (get_or ss k absent) vs → is_held (get_or ss k absent) ≡ true → new_words to p map' vs ≡ map (new_word to (terms_of ss) (get_or ss k absent)) vs
    unfolding words_by looked coerced_all new_word
    words-held to vs o e = ap (λ (n : ℕ). cond (has_terms n) (looked (map_at p map') vs) (coerced_all n to vs)) (t.type k h) ∙ go (has_terms (get_or ss k absent).type) refl
      where
        go : (b : Bool) → has_terms (get_or ss k absent).type ≡ b
            → cond b (map (λ x. get_or (map_at p map') x 0) vs) (map (coerced (get_or ss k absent).type to) vs) ≡ map (λ w. cond b (ordinal_of (terms_of ss) (get_or (get_or ss k absent).terms w [])) (coerced (get_or ss k absent).type to w)) vs
        go true q =
            map_below (λ x. get_or (map_at p map') x 0) (λ w. ordinal_of (terms_of ss) (get_or (get_or ss k absent).terms w [])) (length (get_or ss k absent).terms) vs
            (λ w l. ap (λ (x : List ℕ). get_or x w 0) (held-map e) ∙ get_or_in (ordinal_of (terms_of ss)) (get_or ss k absent).terms w 0 [] l)
            (o.ordinals e q)
        go false q = refl

    -- of n values: the words that the code writes are those of the values that the rules give
    pub words_are : (to : ℕ) (n : ℕ) (ws : List ℕ) → Alike to ss → AllWords ws → length ws ≡ n * p.unit → Own (get_or ss k absent) ws
        → new_words to p map' ws ≡ value_words to (map (new_word to (terms_of ss) (counted ss k)) (values_in (counted ss k).type ws))
    words_are to n ws a all e o = go (is_held (get_or ss k absent)) refl
      where
        s : Segment
        s = get_or ss k absent

        held-unit : is_held s ≡ true → length ws ≡ n * words_per_value s.type
        held-unit q = e ∙ ap (λ (u : ℕ). n * u) ((t.each k h).unit ∙ ap (λ (x : Segment). words_per_value x.type) (effective-held s q))

        held : is_held s ≡ true → (b : Bool) → eqb s.type IpAddr ≡ b → new_words to p map' ws ≡ value_words to (map (new_word to (terms_of ss) s) (values_in s.type ws))
        held q true f =
            let te : s.type ≡ IpAddr = eqb-true s.type IpAddr f in
            let oe : to ≡ IpAddr = eqb-true to IpAddr (sym (a.each k h q) ∙ f) in
            address-words to p.typ p.map map' ws (t.type k h ∙ te) oe
            ∙ sym (values_back s.type n ws (held-unit q) all)
            ∙ ap (λ (u : ℕ). value_words u (values_in s.type ws)) (te ∙ sym oe)
            ∙ ap (value_words to) (sym (address-values to (terms_of ss) s (values_in s.type ws) te oe))
        held q false f =
            words-held to ws o q
            ∙ sym (words-plain to (sym (a.each k h q) ∙ f) (map (new_word to (terms_of ss) s) ws))
            ∙ ap (λ (vs : List ℕ). value_words to (map (new_word to (terms_of ss) s) vs)) (sym (values-plain s.type f ws))

        go : (b : Bool) → is_held s ≡ b → new_words to p map' ws ≡ value_words to (map (new_word to (terms_of ss) (counted ss k)) (values_in (counted ss k).type ws))
        go true q = held q (eqb s.type IpAddr) refl ∙ ap (λ (x : Segment). value_words to (map (new_word to (terms_of ss) x) (values_in x.type ws))) (sym (effective-held s q))
        go false q =
            ap (new_words to p map') (o.none q)
            ∙ nothing to p.typ p.map map'
            ∙ sym (words-none to)
            ∙ ap (λ (vs : List ℕ). value_words to (map (new_word to (terms_of ss) (counted ss k)) vs)) (sym (values-none (counted ss k).type))
            ∙ ap (λ (vs : List ℕ). value_words to (map (new_word to (terms_of ss) (counted ss k)) (values_in (counted ss k).type vs))) (sym (o.none q))
