-- Where a segment stands, its census says whether it is held, and its class, as the definitions do. Assumes nothing.
use Prim.Native.Nat.{ℕ, zero, suc, ◌+◌, ◌<◌}
use native.Mathlib.Omega.{arith}
use mathlib.Core.Path.{◌≡◌, refl, sym, ap, ap₂, ◌∙◌, subst}
use mathlib.Core.List.{List, ◌∷◌, map}
use mathlib.Core.Bool.{Bool, true, false, ◌&&◌, ◌||◌, not, cond, false≢true}
use lib.ListN.{length}
use lib.Dec.{T, eqb}
use borrow.Author.Tests.{eqb-true, eqb-false}
use Rattle.definitions.specs.Lists.{count, up_from, up_to, filter, any, is_empty, sum}
use Rattle.definitions.specs.Segment.{Segment}
use Rattle.definitions.specs.Row.{no_type, bit_at, row_values, has_value, has_alive_set, is_alive, alive_rows, is_present, is_dropped, is_held}
use Rattle.definitions.specs.Class.{kind_class, alive_class, class_of}
use Rattle.definitions.specs.Answer.{index_fits}
use Rattle.definitions.proofs.Fit.{not_old}
use Rattle.segment.proofs.Kind.{by_index_lem}
use Rattle.lists.proofs.Lists.{empty-length}
use Rattle.stands.specs.declared.Stand.{Stand}
use Rattle.stands.specs.Width.{id_part}
use Rattle.stands.specs.Look.{alive_set_at, width_in}
use Rattle.stands.specs.Stack.{segment_widths}
use Rattle.stands.proofs.Bridge.{Stands, row-width, sound-stands}
use Rattle.stands.proofs.Bulk.{seg-sum}
use Rattle.census.specs.declared.Census.{Census}
use Rattle.census.specs.Census.{census_of, alive_width, alive_widths, counted_in, alive_in, census_in}
use Rattle.census.specs.Class.{kind_class_of, count_class, class_by}
use Rattle.census.specs.Settled.{held_by}
use Rattle.census.proofs.Rows.{count_of, count-is, count-cons, counted-whole, alive-le}
use Rattle.census.proofs.Class.{class_by_count, some-value}

kind-class-is : (s : Segment) → T (index_fits s) → kind_class s ≡ kind_class_of s.kind s.rows
unfolding kind_class kind_class_of
kind-class-is s fit = by_index_lem s.kind (cond (eqb s.rows 0) 0 1) 0 1 2 2 (not_old s fit)

not-not : (b : Bool) → not (not b) ≡ b
not-not true = refl
not-not false = refl

-- ---- rows that are counted where they pass a test, and the rows that pass

-- as many rows, as many of them with a value, and as many values
record Same (n : ℕ) (ws : List ℕ) (m : ℕ) (vs : List ℕ) : Type 0 where
  pub many : n ≡ m
  pub listed : count_of ws ≡ count_of vs
  pub values : sum ws ≡ sum vs

module _ (b t : ℕ → Bool) (w f : ℕ → ℕ) where
  passed : (a m : ℕ) → ((r : ℕ) → r < a + m → b r ≡ t r) → ((r : ℕ) → r < a + m → w r ≡ f r)
      → Same (count b (up_from a m)) (map (λ r. cond (b r) (w r) 0) (up_from a m)) (length (filter t (up_from a m))) (map f (filter t (up_from a m)))
  passed a zero same wide = record { many = refl; listed = refl; values = refl }
  passed a (suc m) same wide = go (b a) (t a) (same a (omega arith)) (passed (suc a) m (λ r h. same r (omega arith)) (λ r h. wide r (omega arith)))
    where
      rest : List ℕ
      rest = map (λ r. cond (b r) (w r) 0) (up_from (suc a) m)

      go : (x y : Bool) → x ≡ y → Same (count b (up_from (suc a) m)) (map (λ r. cond (b r) (w r) 0) (up_from (suc a) m)) (length (filter t (up_from (suc a) m))) (map f (filter t (up_from (suc a) m)))
          → Same (cond x (suc (count b (up_from (suc a) m))) (count b (up_from (suc a) m))) (cond x (w a) 0 ∷ map (λ r. cond (b r) (w r) 0) (up_from (suc a) m))
          (length (cond y (a ∷ filter t (up_from (suc a) m)) (filter t (up_from (suc a) m)))) (map f (cond y (a ∷ filter t (up_from (suc a) m)) (filter t (up_from (suc a) m))))
      go true true q s =
          let e = wide a (omega arith) in
          let l = s.listed in
          let v = s.values in
          record {
            many = ap suc s.many;
            listed = count-cons (w a) rest ∙ ap₂ (λ (x y : ℕ). length (id_part 0 x) + y) e l ∙ sym (count-cons (f a) (map f (filter t (up_from (suc a) m))));
            values = ap₂ (λ (x y : ℕ). x + y) e v;
          }
      go true false q s = absurd (false≢true (sym q))
      go false true q s = absurd (false≢true q)
      go false false q s =
          record {
            many = s.many;
            listed = (let x = count-cons 0 rest in let y : length (id_part 0 0) + count_of rest ≡ count_of rest = omega arith in x ∙ y) ∙ s.listed;
            values = (let y : 0 + sum rest ≡ sum rest = omega arith in y) ∙ s.values;
          }

module _ {p : Stand} {ids offsets values words : List ℕ} {s : Segment} (st : Stands p ids offsets values words s) (fit : T (index_fits s)) where
  -- how many values each alive row has
  abbrev widths : List ℕ
  widths = map (λ r. length (row_values s r)) (alive_rows s)

  alive-same : has_alive_set s ≡ true → Same (count (bit_at (alive_set_at p words)) (up_to p.rows)) (alive_widths p ids offsets (alive_set_at p words) 0 p.rows) (length (alive_rows s)) widths
  unfolding alive_width is_alive alive_rows
  alive-same e =
      subst (λ (l : List ℕ). Same (count (bit_at l) (up_to p.rows)) (map (λ r. cond (bit_at l r) (width_in p ids offsets r) 0) (up_from 0 p.rows)) (length (filter (λ r. cond (has_alive_set s) (bit_at s.alive r) true) (up_to s.rows))) (map (λ r. length (row_values s r)) (filter (λ r. cond (has_alive_set s) (bit_at s.alive r) true) (up_to s.rows))))
      (sym st.alive_are)
      (subst (λ (n : ℕ). Same (count (bit_at s.alive) (up_to n)) (map (λ r. cond (bit_at s.alive r) (width_in p ids offsets r) 0) (up_from 0 n)) (length (filter (λ r. cond (has_alive_set s) (bit_at s.alive r) true) (up_to s.rows))) (map (λ r. length (row_values s r)) (filter (λ r. cond (has_alive_set s) (bit_at s.alive r) true) (up_to s.rows))))
      (sym st.rows)
      (passed (bit_at s.alive) (λ r. cond (has_alive_set s) (bit_at s.alive r) true) (width_in p ids offsets) (λ r. length (row_values s r)) 0 s.rows
      (λ r h. sym (ap (λ (b : Bool). cond b (bit_at s.alive r) true) e)) (λ r h. row-width st fit r (omega arith))))

  -- the census of the definitions' alive rows
  alive-census : has_alive_set s ≡ true → census_in p ids offsets words ≡ census_of (length (alive_rows s)) widths
  unfolding census_in alive_in counted_in
  alive-census e =
      let k = alive-same e in
      ap (λ (b : Bool). census_of (cond b (count (bit_at (alive_set_at p words)) (up_to p.rows)) p.rows) (cond b (alive_widths p ids offsets (alive_set_at p words) 0 p.rows) (segment_widths p ids offsets))) (ap (λ (n : ℕ). eqb n 1) st.flag ∙ e)
      ∙ (λ i. record {
        alive = k.many i;
        listed = (sym (count-is (alive_widths p ids offsets (alive_set_at p words) 0 p.rows)) ∙ k.listed ∙ count-is widths) i;
        values = k.values i;
      })

  whole-values : has_alive_set s ≡ false → (census_in p ids offsets words).values ≡ length s.values
  unfolding census_in
  whole-values e = ap sum (sym (counted-whole p ids offsets words (λ q. eqb-false s.flag 1 e (sym st.flag ∙ q)))) ∙ seg-sum (sound-stands st fit) ∙ st.count

  pub class-is : class_by p (census_in p ids offsets words) ≡ class_of s
  unfolding class_by class_of alive_class
  class-is = ap (λ (n : ℕ). cond (eqb n 1) (count_class (census_in p ids offsets words)) (kind_class_of p.kind p.rows)) st.flag ∙ go (has_alive_set s) refl
    where
      go : (b : Bool) → has_alive_set s ≡ b → cond b (count_class (census_in p ids offsets words)) (kind_class_of p.kind p.rows) ≡ cond b (alive_class s) (kind_class s)
      go true e = ap count_class (alive-census e) ∙ class_by_count (row_values s) (alive_rows s)
      go false e = ap₂ kind_class_of st.kind st.rows ∙ sym (kind-class-is s fit)

  -- no value, no row with one
  none-alive : has_alive_set s ≡ true → is_empty s.values ≡ true → any (has_value s) (alive_rows s) ≡ false
  none-alive e q = sym (some-value (row_values s) (alive_rows s)) ∙ ap (λ (n : ℕ). not (eqb n 0)) zero-sum
    where
      zero-sum : sum widths ≡ 0
      zero-sum =
          let a = alive-le p ids offsets (alive_set_at p words) in
          let b = seg-sum (sound-stands st fit) in
          let d = st.count in
          let f = eqb-true (length s.values) 0 (sym (empty-length s.values) ∙ q) in
          let g = (alive-same e).values in
          omega arith

  pub held-is : held_by s.type (census_in p ids offsets words).values ≡ is_held s
  unfolding held_by is_held is_dropped
  held-is = go (has_alive_set s) refl
    where
      set : (b : Bool) → is_empty s.values ≡ b → has_alive_set s ≡ true → any (has_value s) (alive_rows s) ≡ not (b || not (any (has_value s) (alive_rows s)))
      set true q e = none-alive e q
      set false q e = sym (not-not (any (has_value s) (alive_rows s)))

      go : (b : Bool) → has_alive_set s ≡ b → not (eqb s.type no_type) && not (eqb (census_in p ids offsets words).values 0) ≡ is_present s && not (is_empty s.values || (b && not (any (has_value s) (alive_rows s))))
      go true e =
          ap (λ (x : Bool). is_present s && x)
          (ap (λ (c : Census). not (eqb c.values 0)) (alive-census e) ∙ some-value (row_values s) (alive_rows s) ∙ set (is_empty s.values) refl e)
      go false e =
          ap (λ (x : Bool). is_present s && x)
          (ap (λ (n : ℕ). not (eqb n 0)) (whole-values e) ∙ ap not (sym (empty-length s.values)) ∙ plain (is_empty s.values))
        where
          plain : (x : Bool) → not x ≡ not (x || false)
          plain true = refl
          plain false = refl
