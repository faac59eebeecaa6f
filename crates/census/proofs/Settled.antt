-- A turn of the loop that settles the segments, and what it leaves. Assumes nothing.
use Prim.Native.Nat.{ℕ, zero, suc, max, ◌+◌, ◌*◌, ◌≤◌, ◌<◌, zero-le}
use native.Mathlib.Nat.{le_refl}
use native.Mathlib.Numerals.{add-one}
use native.Mathlib.Omega.{arith}
use mathlib.Core.Path.{◌≡◌, refl, sym, ap, ap₂, ◌∙◌, subst}
use mathlib.Core.List.{List, [], ◌∷◌, ◌++◌, map}
use mathlib.Core.Bool.{Bool, true, false, cond}
use lib.ListN.{length, get_or, drop, set, drop_of_length-le}
use lib.Seq.{drop-cons, drop-drop, drop-set-lt, get_or-drop}
use lib.Dec.{eqb}
use Rattle.definitions.specs.Lists.{up_from, up_to, sum}
use Rattle.runs.proofs.Laws.{Filling, fill_start, fill_more, fill_end, put_one, put_whole}
use Rattle.column_index.specs.Lookup.{width_of}
use Rattle.lists.proofs.Sums.{sum-append}
use Rattle.stands.specs.declared.Span.{Span}
use Rattle.stands.specs.declared.Stand.{Stand}
use Rattle.stands.specs.Stand.{many, stand_of, numbers_of, stand_at}
use Rattle.stands.specs.Width.{ids_of}
use Rattle.stands.specs.Look.{ids_at, offsets_at, alive_set_at, start_in, end_in, width_in}
use Rattle.stands.specs.Stack.{segment_widths}
use Rattle.stands.proofs.Stack.{width-empty}
use Rattle.stands.proofs.Bulk.{seg-sum}
use Rattle.census.specs.declared.Census.{Census}
use Rattle.census.specs.declared.Tally.{Tally}
use Rattle.census.specs.Census.{alive_width, alive_widths, counted_in, counted_all, alive_in, census_in, Countable}
use Rattle.census.specs.Class.{greatest_in}
use Rattle.census.specs.Settled.{held_by, kept, dropped, settled, census_as, text_from, settled_from, plus_tally, no_tally, tally_from, LowTally, Ready, AllReady}
use Rattle.census.proofs.Rows.{count-is, count-append, count-sum, count-nil, alive-le, empty-sum}

-- ---- the census of a settled segment

none-sum : (w : ℕ → ℕ) → ((r : ℕ) → w r ≡ 0) → (a m : ℕ) → sum (map w (up_from a m)) ≡ 0
none-sum w e a zero = refl
none-sum w e a (suc m) = ap₂ (λ (x y : ℕ). x + y) (e a) (none-sum w e (suc a) m)

module _ (p : Stand) (ids offsets words : List ℕ) where
  kept_census : (m : ℕ) (v : Span) → census_in (kept p m v) ids offsets words ≡ census_in p ids offsets words
  unfolding census_in alive_in counted_in alive_width segment_widths width_in start_in end_in
  kept_census m v = refl

  dropped-alive : (m : ℕ) (v : Span) → alive_in (dropped p m v) words ≡ alive_in p words
  unfolding alive_in
  dropped-alive m v = refl

  dropped-values : (m : ℕ) (v : Span) → sum (counted_in (dropped p m v) ids offsets words) ≡ 0
  unfolding counted_in segment_widths width_in start_in end_in width_of
  dropped-values m v = go (eqb p.flag 1)
    where
      go : (b : Bool) → sum (cond b (alive_widths (dropped p m v) ids offsets (alive_set_at (dropped p m v) words) 0 p.rows) (map (width_in (dropped p m v) ids offsets) (up_to p.rows))) ≡ 0
      go true = sym (empty-sum (dropped p m v) ids offsets (alive_set_at p words) refl 0 p.rows)
      go false = none-sum (width_in (dropped p m v) ids offsets) (λ r. width-empty 0 (ids_at (dropped p m v) ids) (offsets_at (dropped p m v) offsets) r refl) 0 p.rows

  dropped_census : (m : ℕ) (v : Span) → census_in (dropped p m v) ids offsets words ≡ record { alive = (census_in p ids offsets words).alive; listed = 0; values = 0 }
  unfolding census_in
  dropped_census m v =
      λ i.
      record {
        alive = dropped-alive m v i;
        listed = (let a = count-sum (counted_in (dropped p m v) ids offsets words) in let b = dropped-values m v in let d = count-is (counted_in (dropped p m v) ids offsets words) in let z : length (ids_of 0 (counted_in (dropped p m v) ids offsets words)) ≡ 0 = omega arith in z) i;
        values = dropped-values m v i;
      }

  pub settled_census : (m : ℕ) (v : Span) → census_in (settled p (census_in p ids offsets words) m v) ids offsets words ≡ census_as (settled p (census_in p ids offsets words) m v) (census_in p ids offsets words)
  unfolding settled census_as
  settled_census m v = go (held_by p.typ (census_in p ids offsets words).values)
    where
      go : (b : Bool) → census_in (cond b (kept p m v) (dropped p m v)) ids offsets words
          ≡ cond (eqb (cond b (kept p m v) (dropped p m v)).held 1) (census_in p ids offsets words) (record { alive = (census_in p ids offsets words).alive; listed = 0; values = 0 })
      go true = kept_census m v
      go false = dropped_census m v

  -- no more values than the segment has
  module _ (k : Countable p ids offsets words) where
    pub few-values : (census_in p ids offsets words).values ≤ 4294967296
    unfolding census_in counted_in
    few-values = go (eqb p.flag 1)
      where
        go : (b : Bool) → sum (cond b (alive_widths p ids offsets (alive_set_at p words) 0 p.rows) (segment_widths p ids offsets)) ≤ 4294967296
        go true = let a = alive-le p ids offsets (alive_set_at p words) in let b = seg-sum k.sound in let d = k.few in omega arith
        go false = let b = seg-sum k.sound in let d = k.few in omega arith

    pub few-listed : (census_in p ids offsets words).listed ≤ 4294967296
    unfolding census_in
    few-listed = let a = few-values in let b = count-sum (counted_in p ids offsets words) in let d = count-is (counted_in p ids offsets words) in omega arith

-- ---- turns

pub as_values : (q : Stand) (c : Census) (n : ℕ) → c.values ≤ n → (census_as q c).values ≤ n
unfolding census_as
as_values q c n h = go (eqb q.held 1)
  where
    go : (b : Bool) → (cond b c (record { alive = c.alive; listed = 0; values = 0 })).values ≤ n
    go true = h
    go false = zero-le

pub as_listed : (q : Stand) (c : Census) (n : ℕ) → c.listed ≤ n → (census_as q c).listed ≤ n
unfolding census_as
as_listed q c n h = go (eqb q.held 1)
  where
    go : (b : Bool) → (cond b c (record { alive = c.alive; listed = 0; values = 0 })).listed ≤ n
    go true = h
    go false = zero-le

-- the map's part ends at most so many terms on, and the text where it should
module _ (p : Stand) (c : Census) (m : ℕ) (v : Span) where
  map-end : (n : ℕ) → many p.terms ≤ n → (settled p c m v).map.to ≤ m + n
  unfolding settled
  map-end n h = go (held_by p.typ c.values)
    where
      go : (b : Bool) → (cond b (kept p m v) (dropped p m v)).map.to ≤ m + n
      go true = omega arith
      go false = omega arith

  rows_same : (settled p c m v).rows ≡ p.rows
  unfolding settled
  rows_same = go (held_by p.typ c.values)
    where
      go : (b : Bool) → (cond b (kept p m v) (dropped p m v)).rows ≡ p.rows
      go true = refl
      go false = refl

  text-end : (settled p c m v).text.to ≡ v.to
  unfolding settled
  text-end = go (held_by p.typ c.values)
    where
      go : (b : Bool) → (cond b (kept p m v) (dropped p m v)).text.to ≡ v.to
      go true = refl
      go false = refl

  text-rises : v.from ≤ v.to → ((settled p c m v).text.from ≤ (settled p c m v).text.to) × (v.from ≤ (settled p c m v).text.from)
  unfolding settled
  text-rises h = go (held_by p.typ c.values)
    where
      go : (b : Bool) → ((cond b (kept p m v) (dropped p m v)).text.from ≤ (cond b (kept p m v) (dropped p m v)).text.to) × (v.from ≤ (cond b (kept p m v) (dropped p m v)).text.from)
      go true = (h, le_refl v.from)
      go false = (le_refl v.to, h)

-- what is left of the table is as it was, and what is written is where the segments stand as they count
pub record Going (old : List (List ℕ)) (ids offsets lengths words : List ℕ) (now : List (List ℕ)) (t : Tally) (s : ℕ) : Type 0 where
  pub most : s ≤ length old
  pub filling : Filling 0 (settled_from 0 0 old ids offsets lengths words) old (settled_from t.terms t.text (drop s old) ids offsets lengths words) now s
  pub rest : drop s now ≡ drop s old
  pub tally : tally_from t (settled_from t.terms t.text (drop s old) ids offsets lengths words) ids offsets words ≡ tally_from no_tally (settled_from 0 0 old ids offsets lengths words) ids offsets words
  pub low : LowTally t (s * 4294967296)

pub settled-length : (m b : ℕ) (old : List (List ℕ)) (ids offsets lengths words : List ℕ) → length (settled_from m b old ids offsets lengths words) ≡ length old
unfolding settled_from
settled-length m b [] ids offsets lengths words = refl
settled-length m b (r ∷ rs) ids offsets lengths words =
    let p = settled (stand_of r) (census_in (stand_of r) ids offsets words) m (text_from (stand_of r) lengths b) in
    ap suc (settled-length p.map.to p.text.to rs ids offsets lengths words)

pub going_start : (old : List (List ℕ)) (ids offsets lengths words : List ℕ) → Going old ids offsets lengths words old no_tally 0
going_start old ids offsets lengths words =
    record {
      most = zero-le;
      filling = fill_start (settled_from 0 0 old ids offsets lengths words) old (let e = settled-length 0 0 old ids offsets lengths words in omega arith);
      rest = refl;
      tally = refl;
      low = record { rows = zero-le; listed = zero-le; values = zero-le; terms = zero-le; bytes = zero-le; text = zero-le };
    }

module _ {old : List (List ℕ)} {ids offsets lengths words : List ℕ} {now : List (List ℕ)} {t : Tally} {s : ℕ} (g : Going old ids offsets lengths words now t s) where
  going_long : length now ≡ length old
  going_long = g.filling.kept

  pub going_end : length old ≤ s → (t ≡ tally_from no_tally now ids offsets words) × (now ≡ settled_from 0 0 old ids offsets lengths words)
  unfolding settled_from tally_from
  going_end h =
      let n : drop s old ≡ [] = drop_of_length-le old h in
      let none : settled_from t.terms t.text (drop s old) ids offsets lengths words ≡ [] = ap (λ (l : List (List ℕ)). settled_from t.terms t.text l ids offsets lengths words) n in
      let whole = (fill_end g.filling none).1 ∙ put_whole (settled_from 0 0 old ids offsets lengths words) old (settled-length 0 0 old ids offsets lengths words) in
      (ap (λ (l : List (List ℕ)). tally_from t l ids offsets words) (sym none) ∙ g.tally ∙ ap (λ (l : List (List ℕ)). tally_from no_tally l ids offsets words) (sym whole), whole)

  module _ (u : AllReady old ids offsets lengths words) (below : s < length old) where
    here : get_or now s [] ≡ get_or old s []
    here =
        ap (λ (n : ℕ). get_or now n []) (let e : s ≡ s + 0 = omega arith in e) ∙ sym (get_or-drop s now 0 []) ∙ ap (λ (l : List (List ℕ)). get_or l 0 []) g.rest ∙ get_or-drop s old 0 []
        ∙ ap (λ (n : ℕ). get_or old n []) (let e : s + 0 ≡ s = omega arith in e)

    pub going_ready : {p : Stand} → p ≡ stand_at now s → Ready p ids offsets lengths words
    going_ready e = subst (λ (p : Stand). Ready p ids offsets lengths words) (sym (e ∙ ap stand_of here)) (u.each s below)

    pub going_map : {p : Stand} → p ≡ stand_at now s → t.terms + many p.terms < 18446744073709551616
    going_map e = omega (arith, u.few, below, g.low.terms, (going_ready e).terms-few)

    pub going_low : LowTally t 1099511627776
    going_low =
        record {
          rows = omega (arith, u.few, below, g.low.rows);
          listed = omega (arith, u.few, below, g.low.listed);
          values = omega (arith, u.few, below, g.low.values);
          terms = omega (arith, u.few, below, g.low.terms);
          bytes = omega (arith, u.few, below, g.low.bytes);
          text = omega (arith, u.few, below, g.low.text);
        }

    module _ {p q : Stand} {c d : Census} {v : Span} (pe : p ≡ stand_at now s) (ce : c ≡ census_in p ids offsets words) (ve : v ≡ text_from p lengths t.text) (qe : q ≡ settled p c t.terms v)
        (de : d ≡ census_as q c) where
      pub going_few : (q.rows ≤ 4294967296) × (d.listed ≤ 4294967296) × (d.values ≤ 4294967296)
      going_few =
          let k = (going_ready pe).countable in
          let a = ap (λ (y : Stand). y.rows) qe in
          let b = rows_same p c t.terms v in (
            omega (arith, k.rows),
            subst (λ (y : Census). y.listed ≤ 4294967296) (sym de) (as_listed q c 4294967296 (subst (λ (y : Census). y.listed ≤ 4294967296) (sym ce) (few-listed p ids offsets words k))),
            subst (λ (y : Census). y.values ≤ 4294967296) (sym de) (as_values q c 4294967296 (subst (λ (y : Census). y.values ≤ 4294967296) (sym ce) (few-values p ids offsets words k))),
          )

      -- the text goes on from where it ended
      ends : (v.from ≡ t.text) × (v.to ≤ t.text + 4294967296) × (v.from ≤ v.to)
      ends = let a = ap (λ (y : Span). y.from) ve in let b = ap (λ (y : Span). y.to) ve in (a, omega (arith, (going_ready pe).text-few), omega arith)

      text-is : (q.text.to ≡ v.to) × (q.text.from ≤ q.text.to) × (v.from ≤ q.text.from)
      text-is =
          let a = ap (λ (y : Stand). y.text.to) qe in
          let b = ap (λ (y : Stand). y.text.from) qe in
          let e = text-end p c t.terms v in
          let f = text-rises p c t.terms v ends.2 in
          (a ∙ e, omega (arith, f.0), omega (arith, f.1))

      pub going_text : (q.text.from ≤ q.text.to) × (q.text.to ≤ q.text.from + 4294967296)
      going_text = (text-is.1, omega (arith, text-is.0, text-is.2, ends.0, ends.1))

      census_is : d ≡ census_in q ids offsets words
      census_is =
          de ∙ ap (census_as q) ce
          ∙ ap (λ (y : Stand). census_as y (census_in p ids offsets words)) (qe ∙ ap (λ (y : Census). settled p y t.terms v) ce)
          ∙ sym (settled_census p ids offsets words t.terms v)
          ∙ ap (λ (y : Stand). census_in y ids offsets words) (sym (qe ∙ ap (λ (y : Census). settled p y t.terms v) ce))

      there : q ≡ settled (stand_at old s) (census_in (stand_at old s) ids offsets words) t.terms (text_from (stand_at old s) lengths t.text)
      there =
          qe ∙ ap₂ (λ (y : Census) (z : Span). settled p y t.terms z) ce ve
          ∙ ap (λ (y : Stand). settled y (census_in y ids offsets words) t.terms (text_from y lengths t.text)) (pe ∙ ap stand_of here)

      left : settled_from t.terms t.text (drop s old) ids offsets lengths words ≡ numbers_of q ∷ settled_from q.map.to q.text.to (drop (s + 1) old) ids offsets lengths words
      unfolding settled_from
      left =
          ap (λ (l : List (List ℕ)). settled_from t.terms t.text l ids offsets lengths words) (drop-cons old s [] below)
          ∙ ap₂ (λ (y : Stand) (n : ℕ). numbers_of y ∷ settled_from y.map.to y.text.to (drop n old) ids offsets lengths words) (sym there) (sym (add-one s))

      pub going_more : {x : Tally} {r : List ℕ} → x ≡ plus_tally t q d → r ≡ numbers_of q → Going old ids offsets lengths words (set now s r) x (s + 1)
      unfolding plus_tally tally_from
      going_more {x} {r} xe re =
          let te : x.terms ≡ q.map.to = ap (λ (y : Tally). y.terms) xe in
          let fe : x.text ≡ q.text.to = ap (λ (y : Tally). y.text) xe in
          record {
            most = omega (arith, below);
            filling =
                subst (λ (n : ℕ). Filling 0 (settled_from 0 0 old ids offsets lengths words) old (settled_from n x.text (drop (s + 1) old) ids offsets lengths words) (set now s r) (s + 1)) (sym te)
                (subst (λ (n : ℕ). Filling 0 (settled_from 0 0 old ids offsets lengths words) old (settled_from q.map.to n (drop (s + 1) old) ids offsets lengths words) (set now s r) (s + 1)) (sym fe)
                (fill_more g.filling (numbers_of q ∷ []) (settled_from q.map.to q.text.to (drop (s + 1) old) ids offsets lengths words) left (set now s r) (s + 1) refl
                (ap (λ (y : List ℕ). set now s y) re ∙ put_one s (numbers_of q) now (omega (arith, below, going_long)))));
            rest = drop-set-lt (s + 1) now s r (omega arith) ∙ sym (drop-drop 1 s now) ∙ ap (drop 1) g.rest ∙ drop-drop 1 s old;
            tally =
                (λ i. tally_from ((xe ∙ ap (plus_tally t q) census_is) i) (settled_from (te i) (fe i) (drop (s + 1) old) ids offsets lengths words) ids offsets words)
                ∙ sym (ap (λ (l : List (List ℕ)). tally_from t l ids offsets words) left)
                ∙ g.tally;
            low =
                record {
                  rows = let a = ap (λ (y : Tally). y.rows) xe in let b = going_few.0 in let f = g.low.rows in omega arith;
                  listed = let a = ap (λ (y : Tally). y.listed) xe in let b = going_few.1 in let f = g.low.listed in omega arith;
                  values = let a = ap (λ (y : Tally). y.values) xe in let b = going_few.2 in let f = g.low.values in omega arith;
                  terms =
                      let a = map-end (stand_at old s) (census_in (stand_at old s) ids offsets words) t.terms (text_from (stand_at old s) lengths t.text) 4294967296 (u.each s below).terms-few in
                      let b = ap (λ (y : Stand). y.map.to) there in
                      let f = g.low.terms in
                      omega arith;
                  bytes = let a = ap (λ (y : Tally). y.bytes) xe in let b = going_text in let f = g.low.bytes in omega (arith, b.0, b.1);
                  text = let b = text-is.0 in let f = g.low.text in omega (arith, ends.1);
                };
          }

-- ---- the sums

pub tally_is : (t : Tally) (stands : List (List ℕ)) (ids offsets words : List ℕ)
    → (((tally_from t stands ids offsets words).class ≡ max t.class (greatest_in stands ids offsets words))
    × ((tally_from t stands ids offsets words).listed ≡ t.listed + length (ids_of 0 (counted_all stands ids offsets words)))
    × ((tally_from t stands ids offsets words).values ≡ t.values + sum (counted_all stands ids offsets words)))
unfolding tally_from greatest_in counted_all plus_tally census_in
tally_is t [] ids offsets words = (let z : t.class ≡ max t.class 0 = omega arith in z, let z : t.listed ≡ t.listed + 0 = omega arith in z ∙ ap (λ (n : ℕ). t.listed + n) (sym count-nil ∙ count-is []), let z : t.values ≡ t.values + 0 = omega arith in z)
tally_is t (r ∷ rs) ids offsets words =
    let k = tally_is (plus_tally t (stand_of r) (census_in (stand_of r) ids offsets words)) rs ids offsets words in
    let a = count-append (counted_in (stand_of r) ids offsets words) (counted_all rs ids offsets words) in
    let b = count-is (counted_in (stand_of r) ids offsets words ++ counted_all rs ids offsets words) in
    let d = count-is (counted_in (stand_of r) ids offsets words) in
    let e = count-is (counted_all rs ids offsets words) in
    let f = sum-append (counted_in (stand_of r) ids offsets words) (counted_all rs ids offsets words) in
    let x = k.0 in
    let y = k.1 in
    let z = k.2 in
    (omega arith, omega arith, omega arith)
