-- The settled table says where the segments stand as they count, and the tally is what the definitions say. Assumes nothing.
use Prim.Native.Nat.{ℕ, zero, suc, max, ◌+◌, ◌-◌, ◌≤◌, ◌<◌, zero-le, suc-le-suc}
use native.Mathlib.Nat.{le_refl, le_of_suc-le-suc, not-suc-le-zero}
use native.Mathlib.Omega.{arith}
use mathlib.Core.Path.{◌≡◌, refl, sym, ap, ap₂, ◌∙◌, subst}
use mathlib.Core.List.{List, [], ◌∷◌}
use mathlib.Core.Bool.{Bool, true, false, cond}
use lib.ListN.{length, get_or, drop, length-drop}
use lib.Dec.{T}
use Rattle.definitions.specs.Lists.{sum, concat, filter, terms_ascending}
use Rattle.definitions.specs.Segment.{Segment, cut}
use Rattle.definitions.specs.Words.{words_per_value, values_in}
use Rattle.definitions.specs.Row.{no_type, is_held, as_empty, effective, held_of}
use Rattle.definitions.specs.Class.{class_of, greatest_class}
use Rattle.definitions.specs.Join.{absent}
use Rattle.definitions.specs.Answer.{sum_over, greatest_sum, index_fits, values_fit, terms_in, bytes_in}
use Rattle.definitions.proofs.Cell.{effective-rows, effective-fits}
use Rattle.definitions.proofs.Fit.{fit_values}
use Rattle.definitions.proofs.Sections.{cut-length}
use Rattle.lists.specs.Sums.{sum_below}
use Rattle.lists.proofs.Sums.{below_shift, below-same}
use Rattle.lists.proofs.Cuts.{cut-bytes}
use Rattle.lists.proofs.Parts.{run_length}
use Rattle.stands.specs.declared.Span.{Span}
use Rattle.stands.specs.declared.Stand.{Stand}
use Rattle.stands.specs.Stand.{run, part, many, span, Lies, stand_of, stand_at}
use Rattle.stands.specs.Look.{Stands}
use Rattle.census.specs.declared.Tally.{Tally}
use Rattle.census.specs.Census.{census_in}
use Rattle.census.specs.Class.{class_by, greatest_in}
use Rattle.census.specs.Settled.{held_by, kept, dropped, settled, text_from, settled_from, plus_tally, no_tally, tally_from}
use Rattle.census.specs.Table.{counted, map_before, Table}
use Rattle.census.proofs.Rules.{class-is, held-is}
use Rattle.census.proofs.Settled.{settled-length, tally_is}

-- the terms of a segment that has passed check 5
pub ascends : (s : Segment) → T (values_fit s) → T (terms_ascending s.terms)
ascends s fit = (fit_values s fit).ascending

-- ---- before the segments are settled

-- where the term bytes of segment k begin
abbrev pub text_before : List (List ℕ) → List ℕ → ℕ → ℕ
text_before stands lengths k = sum_below (λ j. sum (part (stand_at stands j).terms lengths)) k

-- each segment's runs lie where the table says, and the term bytes follow one another
pub record Raw (stands : List (List ℕ)) (ids offsets values lengths bytes words : List ℕ) (ss : List Segment) : Type 0 where
  pub size : length stands ≡ length ss
  pub few : length ss ≤ 256
  pub fits : (k : ℕ) → k < length ss → T (index_fits (get_or ss k absent))
  pub worded : (k : ℕ) → k < length ss → T (values_fit (get_or ss k absent))
  pub rows : sum_over (λ (s : Segment). s.rows) ss ≤ greatest_sum
  pub values_low : sum_over (λ (s : Segment). length s.values) ss ≤ greatest_sum
  pub each : (k : ℕ) → k < length ss → Stands (stand_at stands k) ids offsets values words (get_or ss k absent)
  pub type : (k : ℕ) → k < length ss → (stand_at stands k).typ ≡ (get_or ss k absent).type
  pub small : (k : ℕ) → k < length ss → (stand_at stands k).typ < 4294967296
  pub terms-lie : (k : ℕ) → k < length ss → Lies (stand_at stands k).terms lengths
  pub text_in : (k : ℕ) → k < length ss → text_before stands lengths k + sum (part (stand_at stands k).terms lengths) ≤ length bytes
  pub dict : (k : ℕ) → k < length ss → cut (part (stand_at stands k).terms lengths) (drop (text_before stands lengths k) bytes) ≡ (get_or ss k absent).terms
  pub apart : (j k : ℕ) → j < k → k < length ss → (stand_at stands j).terms.to ≤ (stand_at stands k).terms.from

-- ---- a settled segment

none-run : (a : ℕ) (l : List ℕ) → run a a l ≡ []
none-run a l = let k : a - a ≡ 0 = omega arith in rw k

kept-stands : {p : Stand} {ids offsets values words : List ℕ} {s : Segment} (m : ℕ) (w : Span) → Stands p ids offsets values words s → Stands (kept p m w) ids offsets values words s
kept-stands m w st =
    record {
      kind = st.kind;
      rows = st.rows;
      flag = st.flag;
      live = st.live;
      pair = st.pair;
      ids_are = st.ids_are;
      offsets_are = st.offsets_are;
      values_are = st.values_are;
      count = st.count;
      unit = st.unit;
      long = st.long;
      alive_are = st.alive_are;
      ids-lie = st.ids-lie;
      offsets-lie = st.offsets-lie;
      values-lie = st.values-lie;
      alive-lie = st.alive-lie;
      enough = st.enough;
    }

none_lies : {w : Span} {l : List ℕ} → Lies w l → Lies (record { from = w.from; to = w.from }) l
none_lies h = let a = h.rises in let b = h.ends in record { rises = omega arith; ends = omega arith }

dropped-stands : {p : Stand} {ids offsets values words : List ℕ} {s : Segment} (m : ℕ) (w : Span) → Stands p ids offsets values words s → Stands (dropped p m w) ids offsets values words (as_empty s)
unfolding as_empty values_in words_per_value
dropped-stands {p} {ids} {offsets} {values} m w st =
    record {
      kind = refl;
      rows = st.rows;
      flag = st.flag;
      live = st.live;
      pair = refl;
      ids_are = none-run p.ids.from ids;
      offsets_are = none-run p.offsets.from offsets;
      values_are = ap (values_in no_type) (none-run p.values.from values);
      count = refl;
      unit = refl;
      long = omega arith;
      alive_are = st.alive_are;
      ids-lie = none_lies st.ids-lie;
      offsets-lie = none_lies st.offsets-lie;
      values-lie = none_lies st.values-lie;
      alive-lie = st.alive-lie;
      enough = st.enough;
    }

module _ (ids offsets lengths words : List ℕ) where
  -- what a segment gives to the map
  held_terms : Stand → ℕ
  held_terms p = cond (held_by p.typ (census_in p ids offsets words).values) (many p.terms) 0

  -- segment k in the settled table
  settled_at : ℕ → ℕ → List (List ℕ) → ℕ → Stand
  settled_at m b old k =
      settled (stand_at old k) (census_in (stand_at old k) ids offsets words) (m + sum_below (λ j. held_terms (stand_at old j)) k) (text_from (stand_at old k) lengths (b + text_before old lengths k))

  map-to : (p : Stand) (m : ℕ) (w : Span) → (settled p (census_in p ids offsets words) m w).map.to ≡ m + held_terms p
  unfolding settled held_terms
  map-to p m w = go (held_by p.typ (census_in p ids offsets words).values)
    where
      go : (b : Bool) → (cond b (kept p m w) (dropped p m w)).map.to ≡ m + cond b (many p.terms) 0
      go true = refl
      go false = omega arith

  text-to : (p : Stand) (m : ℕ) (w : Span) → (settled p (census_in p ids offsets words) m w).text.to ≡ w.to
  unfolding settled
  text-to p m w = go (held_by p.typ (census_in p ids offsets words).values)
    where
      go : (b : Bool) → (cond b (kept p m w) (dropped p m w)).text.to ≡ w.to
      go true = refl
      go false = refl

  settled_at_lem : (m b : ℕ) (old : List (List ℕ)) (k : ℕ) → k < length old → stand_at (settled_from m b old ids offsets lengths words) k ≡ settled_at m b old k
  unfolding settled_from settled_at
  settled_at_lem m b [] k h = absurd (not-suc-le-zero h)
  settled_at_lem m b (r ∷ rs) zero h =
      let x : m ≡ m + 0 = omega arith in
      let y : b ≡ b + 0 = omega arith in
      ap₂ (λ (n : ℕ) (w : Span). settled (stand_of r) (census_in (stand_of r) ids offsets words) n w) x (ap (text_from (stand_of r) lengths) y)
  settled_at_lem m b (r ∷ rs) (suc k) h =
      let p = settled (stand_of r) (census_in (stand_of r) ids offsets words) m (text_from (stand_of r) lengths b) in
      settled_at_lem p.map.to p.text.to rs k (le_of_suc-le-suc h)
      ∙ ap₂ (λ (n : ℕ) (w : Span). settled (stand_at rs k) (census_in (stand_at rs k) ids offsets words) n w) map_on (ap (text_from (stand_at rs k) lengths) text-on)
    where
      map_on : (settled (stand_of r) (census_in (stand_of r) ids offsets words) m (text_from (stand_of r) lengths b)).map.to + sum_below (λ j. held_terms (stand_at rs j)) k
          ≡ m + sum_below (λ j. held_terms (stand_at (r ∷ rs) j)) (suc k)
      map_on =
          let e = map-to (stand_of r) m (text_from (stand_of r) lengths b) in
          let f = below_shift (λ j. held_terms (stand_at (r ∷ rs) j)) k in
          omega arith

      text-on : (settled (stand_of r) (census_in (stand_of r) ids offsets words) m (text_from (stand_of r) lengths b)).text.to + text_before rs lengths k ≡ b + text_before (r ∷ rs) lengths (suc k)
      text-on =
          let e = text-to (stand_of r) m (text_from (stand_of r) lengths b) in
          let f = below_shift (λ j. sum (part (stand_at (r ∷ rs) j).terms lengths)) k in
          omega arith

module _ {old : List (List ℕ)} {ids offsets values lengths bytes words : List ℕ} {ss : List Segment} (u : Raw old ids offsets values lengths bytes words ss) where
  abbrev stands : List (List ℕ)
  stands = settled_from 0 0 old ids offsets lengths words

  abbrev text : ℕ → ℕ
  text k = text_before old lengths k

  module _ (k : ℕ) (h : k < length ss) where
    abbrev p : Stand
    p = stand_at old k

    abbrev s : Segment
    s = get_or ss k absent

    heldness : held_by p.typ (census_in p ids offsets words).values ≡ is_held s
    heldness = ap (λ (n : ℕ). held_by n (census_in p ids offsets words).values) (u.type k h) ∙ held-is (u.each k h) (u.fits k h)

    long : length s.terms ≡ many p.terms
    long =
        sym (ap length (u.dict k h)) ∙ cut-length (part p.terms lengths) (drop (text k) bytes)
        ∙ run_length p.terms.from p.terms.to lengths (u.terms-lie k h).ends

    text-many : length (concat s.terms) ≡ sum (part p.terms lengths)
    text-many =
        let d : length (drop (text k) bytes) ≡ length bytes - text k = length-drop (text k) bytes in
        sym (ap (λ (z : List (List ℕ)). length (concat z)) (u.dict k h)) ∙ cut-bytes (part p.terms lengths) (drop (text k) bytes) (omega (arith, u.text_in k h))

    held-terms : held_terms ids offsets lengths words p ≡ length (counted ss k).terms
    unfolding held_terms effective as_empty
    held-terms = ap (λ (b : Bool). cond b (many p.terms) 0) heldness ∙ go (is_held s)
      where
        go : (b : Bool) → cond b (many p.terms) 0 ≡ length (cond b s (as_empty s)).terms
        go true = sym long
        go false = refl

  module _ (k : ℕ) (h : k < length ss) where
    abbrev at : Stand
    at = stand_at old k

    maps : sum_below (λ j. held_terms ids offsets lengths words (stand_at old j)) k ≡ map_before ss k
    maps = below-same (λ j. held_terms ids offsets lengths words (stand_at old j)) (λ j. length (counted ss j).terms) k (λ j q. held-terms j (omega arith))

    -- as it stands in the settled table
    by_held : Bool → Stand
    by_held b = cond b (kept at (map_before ss k) (span (text k) (sum (part at.terms lengths)))) (dropped at (map_before ss k) (span (text k) (sum (part at.terms lengths))))

    there : stand_at stands k ≡ by_held (is_held (get_or ss k absent))
    unfolding settled_at settled by_held
    there =
        settled_at_lem ids offsets lengths words 0 0 old k (subst (λ (n : ℕ). k < n) (sym u.size) h)
        ∙ ap₂ (λ (n : ℕ) (w : Span). settled at (census_in at ids offsets words) n w) (let z : 0 + sum_below (λ j. held_terms ids offsets lengths words (stand_at old j)) k ≡ sum_below (λ j. held_terms ids offsets lengths words (stand_at old j)) k = omega arith in z ∙ maps)
        (ap (text_from at lengths) (let z : 0 + text k ≡ text k = omega arith in z))
        ∙ ap (λ (b : Bool). cond b (kept at (map_before ss k) (span (text k) (sum (part at.terms lengths)))) (dropped at (map_before ss k) (span (text k) (sum (part at.terms lengths))))) (heldness k h)

    -- a fact of the stand and the segment, held or dropped
    either : (P : Stand → Segment → Type 0) → P (kept at (map_before ss k) (span (text k) (sum (part at.terms lengths)))) (get_or ss k absent)
        → P (dropped at (map_before ss k) (span (text k) (sum (part at.terms lengths)))) (as_empty (get_or ss k absent)) → P (stand_at stands k) (counted ss k)
    unfolding effective by_held
    either P a b = subst (λ (q : Stand). P q (counted ss k)) (sym there) (go (is_held (get_or ss k absent)))
      where
        go : (x : Bool) → P (cond x (kept at (map_before ss k) (span (text k) (sum (part at.terms lengths)))) (dropped at (map_before ss k) (span (text k) (sum (part at.terms lengths))))) (cond x (get_or ss k absent) (as_empty (get_or ss k absent)))
        go true = a
        go false = b

    each : Stands (stand_at stands k) ids offsets values words (counted ss k)
    each = either (λ q s. Stands q ids offsets values words s) (kept-stands (map_before ss k) (span (text k) (sum (part at.terms lengths))) (u.each k h)) (dropped-stands (map_before ss k) (span (text k) (sum (part at.terms lengths))) (u.each k h))

    types : (stand_at stands k).typ ≡ at.typ
    types = either (λ q s. q.typ ≡ at.typ) refl refl

    marks : (stand_at stands k).held ≡ cond (is_held (get_or ss k absent)) 1 0
    unfolding by_held
    marks = ap (λ (q : Stand). q.held) there ∙ go (is_held (get_or ss k absent))
      where
        go : (x : Bool) → (cond x (kept at (map_before ss k) (span (text k) (sum (part at.terms lengths)))) (dropped at (map_before ss k) (span (text k) (sum (part at.terms lengths))))).held ≡ cond x 1 0
        go true = refl
        go false = refl

    terms-lie : Lies (stand_at stands k).terms lengths
    terms-lie = either (λ q s. Lies q.terms lengths) (u.terms-lie k h) (none_lies (u.terms-lie k h))

    -- its terms lie where they did
    bounds : (at.terms.from ≤ (stand_at stands k).terms.from) × ((stand_at stands k).terms.to ≤ at.terms.to)
    bounds = either (λ q s. (at.terms.from ≤ q.terms.from) × (q.terms.to ≤ at.terms.to)) (le_refl at.terms.from, le_refl at.terms.to) (le_refl at.terms.from, (u.terms-lie k h).rises)

    text_in : (stand_at stands k).text.from + sum (part (stand_at stands k).terms lengths) ≤ length bytes
    text_in =
        either (λ q s. q.text.from + sum (part q.terms lengths) ≤ length bytes) (u.text_in k h)
        (let z = ap sum (none-run at.terms.from lengths) in omega (arith, u.text_in k h))

    text-long : many (stand_at stands k).text ≡ length (concat (counted ss k).terms)
    unfolding as_empty
    text-long =
        either (λ q s. many q.text ≡ length (concat s.terms)) (let e = text-many k h in omega arith) (omega arith)

    dict : cut (part (stand_at stands k).terms lengths) (drop (stand_at stands k).text.from bytes) ≡ (counted ss k).terms
    unfolding as_empty
    dict =
        either (λ q s. cut (part q.terms lengths) (drop q.text.from bytes) ≡ s.terms) (u.dict k h)
        (ap (λ (l : List ℕ). cut l (drop (text k + sum (part at.terms lengths)) bytes)) (none-run at.terms.from lengths))

    map_is : (stand_at stands k).map ≡ span (map_before ss k) (length (counted ss k).terms)
    unfolding as_empty
    map_is =
        either (λ q s. q.map ≡ span (map_before ss k) (length s.terms)) (ap (span (map_before ss k)) (sym (long k h)))
        (λ i. record { from = map_before ss k; to = (let z : map_before ss k ≡ map_before ss k + 0 = omega arith in z) i })

  pub table_is : Table stands ids offsets values lengths bytes words ss
  table_is =
      record {
        size = settled-length 0 0 old ids offsets lengths words ∙ u.size;
        few = u.few;
        fits = u.fits;
        worded = u.worded;
        rows = u.rows;
        values_low = u.values_low;
        each = each;
        type = λ k h. types k h ∙ u.type k h;
        small = λ k h. subst (λ (n : ℕ). n < 4294967296) (sym (types k h)) (u.small k h);
        held = marks;
        terms-lie = terms-lie;
        text_in = text_in;
        text-long = text-long;
        dict = dict;
        map = map_is;
        apart = λ j k l h. let a = bounds j (omega arith) in let b = bounds k h in let d = u.apart j k l h in omega (arith, a.1, b.0);
      }

-- ---- the tally

module _ (ids offsets words : List ℕ) where
  -- a running end, and sums
  tally_terms : (g : ℕ → ℕ) (t : Tally) (stands : List (List ℕ)) → t.terms ≡ g 0 → ((k : ℕ) → k < length stands → (stand_at stands k).map.to ≡ g (suc k)) → (tally_from t stands ids offsets words).terms ≡ g (length stands)
  unfolding tally_from plus_tally
  tally_terms g t [] e f = e
  tally_terms g t (r ∷ rs) e f = tally_terms (λ k. g (suc k)) (plus_tally t (stand_of r) (census_in (stand_of r) ids offsets words)) rs (f 0 (suc-le-suc zero-le)) (λ k h. f (suc k) (suc-le-suc h))

  tally_bytes : (h : ℕ → ℕ) (t : Tally) (stands : List (List ℕ)) → ((k : ℕ) → k < length stands → many (stand_at stands k).text ≡ h k) → (tally_from t stands ids offsets words).bytes ≡ t.bytes + sum_below h (length stands)
  unfolding tally_from plus_tally
  tally_bytes h t [] f = omega arith
  tally_bytes h t (r ∷ rs) f =
      let a = tally_bytes (λ k. h (suc k)) (plus_tally t (stand_of r) (census_in (stand_of r) ids offsets words)) rs (λ k l. f (suc k) (suc-le-suc l)) in
      let b = below_shift h (length rs) in
      let d = f 0 (suc-le-suc zero-le) in
      omega arith

  tally_rows : (h : ℕ → ℕ) (t : Tally) (stands : List (List ℕ)) → ((k : ℕ) → k < length stands → (stand_at stands k).rows ≡ h k) → (tally_from t stands ids offsets words).rows ≡ t.rows + sum_below h (length stands)
  unfolding tally_from plus_tally
  tally_rows h t [] f = omega arith
  tally_rows h t (r ∷ rs) f =
      let a = tally_rows (λ k. h (suc k)) (plus_tally t (stand_of r) (census_in (stand_of r) ids offsets words)) rs (λ k l. f (suc k) (suc-le-suc l)) in
      let b = below_shift h (length rs) in
      let d = f 0 (suc-le-suc zero-le) in
      omega arith

  greatest-is : (stands : List (List ℕ)) (ss : List Segment) → length stands ≡ length ss → ((k : ℕ) → k < length ss → class_by (stand_at stands k) (census_in (stand_at stands k) ids offsets words) ≡ class_of (counted ss k))
      → greatest_in stands ids offsets words ≡ greatest_class ss
  unfolding greatest_in greatest_class
  greatest-is [] [] e c = refl
  greatest-is [] (s ∷ ss) e c = absurd (omega arith)
  greatest-is (r ∷ rs) [] e c = absurd (omega arith)
  greatest-is (r ∷ rs) (s ∷ ss) e c = ap₂ max (c 0 (suc-le-suc zero-le)) (greatest-is rs ss (omega arith) (λ k h. c (suc k) (suc-le-suc h)))

-- sums over the held segments
sum-counted : (h : Segment → ℕ) (ss : List Segment) (g : ℕ → ℕ) → ((k : ℕ) → k < length ss → g k ≡ cond (is_held (get_or ss k absent)) (h (get_or ss k absent)) 0) → sum_below g (length ss) ≡ sum_over h (filter is_held ss)
sum-counted h [] g e = refl
sum-counted h (x ∷ xs) g e =
    below_shift g (length xs)
    ∙ ap₂ (λ (a b : ℕ). a + b) (e 0 (suc-le-suc zero-le)) (sum-counted h xs (λ s. g (suc s)) (λ s k. e (suc s) (suc-le-suc k)))
    ∙ go (is_held x)
  where
    go : (b : Bool) → cond b (h x) 0 + sum_over h (filter is_held xs) ≡ sum_over h (cond b (x ∷ filter is_held xs) (filter is_held xs))
    go true = refl
    go false = omega arith

sum-all : (h : Segment → ℕ) (ss : List Segment) → sum_below (λ k. h (get_or ss k absent)) (length ss) ≡ sum_over h ss
sum-all h [] = refl
sum-all h (x ∷ xs) = below_shift (λ k. h (get_or (x ∷ xs) k absent)) (length xs) ∙ ap (λ (n : ℕ). h x + n) (sum-all h xs)

-- what depends on the terms of a segment as it counts
by_terms : (h : List (List ℕ) → ℕ) → h [] ≡ 0 → (s : Segment) → h (effective s).terms ≡ cond (is_held s) (h s.terms) 0
unfolding effective as_empty
by_terms h z s = go (is_held s)
  where
    go : (b : Bool) → h (cond b s (as_empty s)).terms ≡ cond b (h s.terms) 0
    go true = refl
    go false = z

pub terms-held : (ss : List Segment) → map_before ss (length ss) ≡ sum_over terms_in (held_of ss)
unfolding held_of
terms-held ss = sum-counted terms_in ss (λ j. length (counted ss j).terms) (λ k h. by_terms length refl (get_or ss k absent))

pub bytes-held : (ss : List Segment) → sum_below (λ j. length (concat (counted ss j).terms)) (length ss) ≡ sum_over bytes_in (held_of ss)
unfolding held_of
bytes-held ss = sum-counted bytes_in ss (λ j. length (concat (counted ss j).terms)) (λ k h. by_terms (λ ts. length (concat ts)) refl (get_or ss k absent))

-- the sums that do not depend on the order of the rows
pub record Tallied (t : Tally) (ss : List Segment) : Type 0 where
  pub class : t.class ≡ greatest_class ss
  pub rows : t.rows ≡ sum_over (λ (s : Segment). s.rows) ss
  pub terms : t.terms ≡ sum_over terms_in (held_of ss)
  pub bytes : t.bytes ≡ sum_over bytes_in (held_of ss)

module _ {stands : List (List ℕ)} {ids offsets values lengths bytes words : List ℕ} {ss : List Segment} (u : Table stands ids offsets values lengths bytes words ss) where
  below : {k : ℕ} → k < length stands → k < length ss
  below {k} h = subst (λ (n : ℕ). k < n) u.size h

  pub tallied : Tallied (tally_from no_tally stands ids offsets words) ss
  tallied =
      record {
        class =
            (tally_is no_tally stands ids offsets words).0 ∙ (let z : max 0 (greatest_in stands ids offsets words) ≡ greatest_in stands ids offsets words = omega arith in z)
            ∙ greatest-is ids offsets words stands ss u.size (λ k h. class-is (u.each k h) (effective-fits (get_or ss k absent) (u.fits k h)));
        rows =
            tally_rows ids offsets words (λ k. (get_or ss k absent).rows) no_tally stands (λ k h. (u.each k (below h)).rows ∙ effective-rows (get_or ss k absent))
            ∙ (let z : 0 + sum_below (λ k. (get_or ss k absent).rows) (length stands) ≡ sum_below (λ k. (get_or ss k absent).rows) (length stands) = omega arith in z)
            ∙ ap (sum_below (λ k. (get_or ss k absent).rows)) u.size ∙ sum-all (λ (s : Segment). s.rows) ss;
        terms =
            tally_terms ids offsets words (map_before ss) no_tally stands refl (λ k h. ap (λ (w : Span). w.to) (u.map k (below h)))
            ∙ ap (map_before ss) u.size ∙ terms-held ss;
        bytes =
            tally_bytes ids offsets words (λ k. length (concat (counted ss k).terms)) no_tally stands (λ k h. u.text-long k (below h))
            ∙ (let z : 0 + sum_below (λ k. length (concat (counted ss k).terms)) (length stands) ≡ sum_below (λ k. length (concat (counted ss k).terms)) (length stands) = omega arith in z)
            ∙ ap (sum_below (λ k. length (concat (counted ss k).terms))) u.size ∙ bytes-held ss;
      }
