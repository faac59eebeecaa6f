-- Least and greatest values (document 02, (j)): their order is that of the integers that words stand for; the type rule and the coercion, which read the pairs, decide as the
-- rule over stored values does where pairs are true; and a joined column's pair is true. Assumes nothing.
use Prim.Native.Nat.{ℕ, suc, ◌-◌, ◌^◌, ◌≤◌, ◌<◌}
use native.Mathlib.Omega.{arith}
use mathlib.Core.Path.{◌≡◌, refl, sym, ap, ap₂, ◌∙◌, subst}
use mathlib.Core.List.{List, [], ◌∷◌, Memᴰ}
use mathlib.Core.Bool.{Bool, true, false, not, cond, ◌||◌, ◌&&◌, false≢true}
use lib.IntN.{pos, negsuc}
use lib.Dec.{T, eqb, ltb, leb, eqb→eq, eqb_refl, lt→ltb, ltb→lt, le→leb, leb→le}
use lib.Ieee.Fits.{and_i, and_l, and_r}
use borrow.Author.Tests.{ltb-true, ltb-false, lt-leb}
use Rattle.definitions.specs.Lists.{all, concat, is_empty}
use Rattle.definitions.specs.Segment.{Segment, Pair, pair, no_pair}
use Rattle.definitions.specs.Row.{is_held, held_of, no_type}
use Rattle.definitions.specs.Types.{I64, U64, F64, is_numerical, greatest_i64, is_negative, is_less, first_by, pair_of, has_type, every_pair, only_type, numerical_type, held_type, type_of, signed_of, integer_of, is_coercible}
use Rattle.definitions.specs.ByValues.{every_value, numerical_by_values, held_by_values, type_by_values, coercible_by_values, is_lower, IsPair}
use Rattle.definitions.specs.Join.{encode, as_segment, joined_type}
use Rattle.definitions.specs.Answer.{pair_fits, values_fit, all_coercible}
use Rattle.definitions.proofs.Lists.{and3, all_mem, filter_back}
use Rattle.definitions.proofs.Fit.{fit_values}
use Rattle.definitions.proofs.Group.{held_facts}
use Rattle.definitions.proofs.Accept.{or_cases}
use Rattle.definitions.proofs.Least.{less_order, more-order, first_in, first-low, pair_unsigned}

-- ---- the order is that of the integers

pub less_integers : (t v w : ℕ) → v < 2 ^ 64 → w < 2 ^ 64 → is_less t v w ≡ is_lower (integer_of t v) (integer_of t w)
unfolding is_less integer_of signed_of
less_integers t v w h k = go (eqb t I64) (is_negative v) (is_negative w) refl refl
  where
    turned : (b : Bool) → ltb (2 ^ 64 - suc w) (2 ^ 64 - suc v) ≡ b → ltb v w ≡ b
    turned true e = let l : 2 ^ 64 - suc w < 2 ^ 64 - suc v = ltb-true (2 ^ 64 - suc w) (2 ^ 64 - suc v) e in down (ltb v w) refl l
      where
        down : (b : Bool) → ltb v w ≡ b → 2 ^ 64 - suc w < 2 ^ 64 - suc v → b ≡ true
        down true e l = refl
        down false e l = absurd (let m : w ≤ v = ltb-false v w e in omega arith)
    turned false e = let l : 2 ^ 64 - suc v ≤ 2 ^ 64 - suc w = ltb-false (2 ^ 64 - suc w) (2 ^ 64 - suc v) e in up (ltb v w) refl l
      where
        up : (b : Bool) → ltb v w ≡ b → 2 ^ 64 - suc v ≤ 2 ^ 64 - suc w → b ≡ false
        up true e l = absurd (let m : v < w = ltb-true v w e in omega arith)
        up false e l = refl

    go : (s a b : Bool) → is_negative v ≡ a → is_negative w ≡ b
        → cond s (cond a (not b || ltb v w) (not b && ltb v w)) (ltb v w)
        ≡ is_lower (cond s (cond a (negsuc (2 ^ 64 - suc v)) (pos v)) (pos v)) (cond s (cond b (negsuc (2 ^ 64 - suc w)) (pos w)) (pos w))
    go false a b p q = refl
    go true true true p q = turned (ltb (2 ^ 64 - suc w) (2 ^ 64 - suc v)) refl
    go true true false p q = refl
    go true false true p q = refl
    go true false false p q = refl

-- so the pair of I64 or U64 values is the least and the greatest of them
pub pair-extremes : (t w : ℕ) (ws : List ℕ) → T (eqb t I64 || eqb t U64) → ((x : ℕ) → Memᴰ x (w ∷ ws) → x < 2 ^ 64) → IsPair t (w ∷ ws) (pair_of t (w ∷ ws))
unfolding pair_of
pair-extremes t w ws h word = go (eqb t I64 || eqb t U64) h
  where
    least : ℕ
    least = first_by (is_less t) w ws

    greatest : ℕ
    greatest = first_by (λ v u. is_less t u v) w ws

    least_in : Memᴰ least (w ∷ ws)
    least_in = first_in (less_order t) w ws

    greatest-in : Memᴰ greatest (w ∷ ws)
    greatest-in = first_in (more-order t) w ws

    go : (b : Bool) → T b → IsPair t (w ∷ ws) (cond b (pair least greatest) no_pair)
    go false k = absurd k
    go true k =
        record {
          least_in = least_in;
          greatest-in = greatest-in;
          least-low = λ x m. sym (less_integers t x least (word x m) (word least least_in)) ∙ first-low (less_order t) w ws m;
          greatest-high = λ x m. sym (less_integers t greatest x (word greatest greatest-in) (word x m)) ∙ first-low (more-order t) w ws m;
        }

-- ---- a test that the first one passes is passed by all, if it goes with the order

module _ (before : ℕ → ℕ → Bool) (p : ℕ → Bool) (up : (v w : ℕ) → before v w ≡ true → T (p v) → T (p w)) (down : (v w : ℕ) → before v w ≡ false → T (p w) → T (p v)) where
  by_first : (w : ℕ) (vs : List ℕ) → p (first_by before w vs) ≡ all p (w ∷ vs)
  by_first w [] = sym (only (p w))
    where
      only : (b : Bool) → b && true ≡ b
      only true = refl
      only false = refl
  by_first w (v ∷ vs) = go (before v w) refl (by_first v vs) (by_first w vs)
    where
      first : (a b x : Bool) → (T a → T b) → a && x ≡ b && (a && x)
      first true true x h = refl
      first true false x h = absurd (h tt)
      first false true x h = refl
      first false false x h = refl

      second : (a b x : Bool) → (T a → T b) → a && x ≡ a && (b && x)
      second true true x h = refl
      second true false x h = absurd (h tt)
      second false b x h = refl

      go : (b : Bool) → before v w ≡ b → p (first_by before v vs) ≡ p v && all p vs → p (first_by before w vs) ≡ p w && all p vs
          → p (first_by before (cond b v w) vs) ≡ p w && (p v && all p vs)
      go true e i j = i ∙ first (p v) (p w) (all p vs) (up v w e)
      go false e i j = j ∙ second (p w) (p v) (all p vs) (down v w e)

greatest-below : (k w : ℕ) (ws : List ℕ) → ltb (pair_of U64 (w ∷ ws)).greatest k ≡ all (λ v. ltb v k) (w ∷ ws)
unfolding pair_of is_less
greatest-below k w ws =
    by_first (λ v u. ltb u v) (λ v. ltb v k)
    (λ v u e h. lt→ltb u k (let a : u < v = ltb-true u v e in let b : v < k = ltb→lt v k h in omega arith))
    (λ v u e h. lt→ltb v k (let a : v ≤ u = ltb-false u v e in let b : u < k = ltb→lt u k h in omega arith)) w ws

greatest-most : (k w : ℕ) (ws : List ℕ) → leb (pair_of U64 (w ∷ ws)).greatest k ≡ all (λ v. leb v k) (w ∷ ws)
unfolding pair_of is_less
greatest-most k w ws =
    by_first (λ v u. ltb u v) (λ v. leb v k)
    (λ v u e h. le→leb u k (let a : u < v = ltb-true u v e in let b : v ≤ k = leb→le v k h in omega arith))
    (λ v u e h. le→leb v k (let a : v ≤ u = ltb-false u v e in let b : u ≤ k = leb→le u k h in omega arith)) w ws

least_signed : (w : ℕ) (ws : List ℕ) → not (is_negative (pair_of I64 (w ∷ ws)).least) ≡ all (λ v. not (is_negative v)) (w ∷ ws)
unfolding pair_of is_less
least_signed w ws = by_first (is_less I64) (λ v. not (is_negative v)) (λ v u. up (is_negative v) (is_negative u) (ltb v u)) (λ v u. down (is_negative v) (is_negative u) (ltb v u)) w ws
  where
    up : (a b l : Bool) → cond a (not b || l) (not b && l) ≡ true → T (not a) → T (not b)
    up true b l e h = absurd h
    up false true l e h = absurd (false≢true e)
    up false false l e h = tt

    down : (a b l : Bool) → cond a (not b || l) (not b && l) ≡ false → T (not b) → T (not a)
    down true true l e h = absurd h
    down true false l e h = absurd (false≢true (sym e))
    down false b l e h = tt

-- ---- true pairs

pub pair_is : (s : Segment) → T (pair_fits s) → s.pair ≡ pair_of s.type s.values
unfolding pair_fits
pair_is s h =
    let l = eqb s.pair.least (pair_of s.type s.values).least in
    let g = eqb s.pair.greatest (pair_of s.type s.values).greatest in
    let p = eqb→eq s.pair.least (pair_of s.type s.values).least (and_l l g h) in
    let q = eqb→eq s.pair.greatest (pair_of s.type s.values).greatest (and_r l g h) in
    λ i. record { least = p i; greatest = q i }

-- the pair of a joined column, as a segment, is true
pub joined-pair : (type class : ℕ) (terms cells : List (List ℕ)) → T (pair_fits (as_segment (encode type class terms cells)))
unfolding pair_fits as_segment encode
joined-pair type class terms cells = both (pair_of type (concat cells))
  where
    both : (p : Pair) → T (eqb p.least p.least && eqb p.greatest p.greatest)
    both p = and_i (eqb p.least p.least) (eqb p.greatest p.greatest) (eqb_refl p.least) (eqb_refl p.greatest)

-- a column with values and a true pair
pub record TruePair (s : Segment) : Type 0 where
  pub fits : T (pair_fits s)
  pub some : is_empty s.values ≡ false

module _ (t : ℕ) (test : Pair → Bool) (p : ℕ → Bool) (law : (w : ℕ) (ws : List ℕ) → test (pair_of t (w ∷ ws)) ≡ all p (w ∷ ws)) where
  some-values : (vs : List ℕ) → is_empty vs ≡ false → test (pair_of t vs) ≡ all p vs
  some-values [] e = absurd (false≢true (sym e))
  some-values (v ∷ vs) e = law v vs

  at_pair : (s : Segment) → TruePair s → T (eqb s.type t) → test s.pair ≡ all p s.values
  at_pair s h e = ap test (pair_is s h.fits ∙ ap (λ (k : ℕ). pair_of k s.values) (eqb→eq s.type t e)) ∙ some-values s.values h.some

  every_is : (held : List Segment) → ((s : Segment) → Memᴰ s held → TruePair s) → every_pair t test held ≡ every_value t p held
  unfolding every_pair every_value
  every_is [] h = refl
  every_is (s ∷ ss) h =
      ap₂ ◌&&◌ (go (eqb s.type t) (at_pair s (h s (Memᴰ.head refl)))) (every_is ss (λ x m. h x (Memᴰ.tail m)))
    where
      go : (b : Bool) → (T b → test s.pair ≡ all p s.values) → not b || test s.pair ≡ not b || all p s.values
      go true f = f tt
      go false f = refl

-- ---- the type rule decides as before

numerical_is : (held : List Segment) → ((s : Segment) → Memᴰ s held → TruePair s) → numerical_type held ≡ numerical_by_values held
unfolding numerical_type numerical_by_values
numerical_is held h =
    λ i.
    cond (not (has_type F64 held) && every_is U64 (λ p. ltb p.greatest greatest_i64) (λ w. ltb w greatest_i64) (greatest-below greatest_i64) held h i) I64
    (cond (not (has_type F64 held) && every_is I64 (λ p. not (is_negative p.least)) (λ w. not (is_negative w)) least_signed held h i) U64
    F64)

type-is : (required : ℕ) (held : List Segment) → ((s : Segment) → Memᴰ s held → TruePair s) → type_of required held ≡ type_by_values required held
unfolding type_of type_by_values
type-is required held h = ap (λ (t : ℕ). cond (eqb required no_type) t required) (go held h)
  where
    go : (held : List Segment) → ((s : Segment) → Memᴰ s held → TruePair s) → held_type held ≡ held_by_values held
    go [] h = refl
    go (s ∷ ss) h = ap (λ (t : ℕ). cond (only_type s.type ss) s.type t) (numerical_is (s ∷ ss) h)

-- and so does the coercion
coercible_is : (s : Segment) (u : ℕ) → TruePair s → is_coercible s.type u s.pair ≡ coercible_by_values s.type u s.values
unfolding is_coercible coercible_by_values
coercible_is s u h =
    λ i.
    eqb s.type u
    || (eqb u F64 && is_numerical s.type)
    || upper i
    || lower i
  where
    gate : (a b x y : Bool) → (T b → x ≡ y) → a && b && x ≡ a && b && y
    gate true true x y f = f tt
    gate true false x y f = refl
    gate false b x y f = refl

    upper : (eqb u I64 && eqb s.type U64 && leb s.pair.greatest greatest_i64) ≡ (eqb u I64 && eqb s.type U64 && all (λ w. leb w greatest_i64) s.values)
    upper = gate (eqb u I64) (eqb s.type U64) _ _ (at_pair U64 (λ p. leb p.greatest greatest_i64) (λ w. leb w greatest_i64) (greatest-most greatest_i64) s h)

    lower : (eqb u U64 && eqb s.type I64 && not (is_negative s.pair.least)) ≡ (eqb u U64 && eqb s.type I64 && all (λ w. not (is_negative w)) s.values)
    lower = gate (eqb u U64) (eqb s.type I64) _ _ (at_pair I64 (λ p. not (is_negative p.least)) (λ w. not (is_negative w)) least_signed s h)

-- of segments that have passed check 5, the held ones
pub held-true : (ss : List Segment) → T (all values_fit ss) → (s : Segment) → Memᴰ s (held_of ss) → TruePair s
unfolding held_of
held-true ss h s m =
    let t = filter_back is_held ss m in
    record { fits = (fit_values s (all_mem values_fit ss h t.0)).pair; some = (held_facts s t.1).1 }

-- the joined type is that of the rule over stored values
pub joined_by_values : (required : ℕ) (ss : List Segment) → T (all values_fit ss) → joined_type required ss ≡ type_by_values required (held_of ss)
unfolding joined_type
joined_by_values required ss h = type-is required (held_of ss) (held-true ss h)

-- and a held column can be coerced by its pair where it can be by its values
pub coercible-by-values : (required : ℕ) (ss : List Segment) → T (all values_fit ss)
    → all_coercible required ss ≡ all (λ s. coercible_by_values s.type (joined_type required ss) s.values) (held_of ss)
unfolding all_coercible
coercible-by-values required ss h = go (held_of ss) (held-true ss h)
  where
    go : (held : List Segment) → ((s : Segment) → Memᴰ s held → TruePair s)
        → all (λ s. is_coercible s.type (joined_type required ss) s.pair) held ≡ all (λ s. coercible_by_values s.type (joined_type required ss) s.values) held
    go [] f = refl
    go (s ∷ held) f = ap₂ ◌&&◌ (coercible_is s (joined_type required ss) (f s (Memᴰ.head refl))) (go held (λ x m. f x (Memᴰ.tail m)))

-- ---- coercion between I64 and U64 keeps the pair: words stay, and none is negative

module _ (t u : ℕ) (vs : List ℕ) where
  abbrev Kept : Type 0
  Kept = pair_of t vs ≡ pair_of u vs

  kept_up : T (eqb u I64 && eqb t U64 && all (λ w. leb w greatest_i64) vs) → Kept
  kept_up h =
      let k = and3 (eqb u I64) (eqb t U64) (all (λ w. leb w greatest_i64) vs) h in
      ap (λ (n : ℕ). pair_of n vs) (eqb→eq t U64 k.1)
      ∙ sym (pair_unsigned vs (λ x m. low x (all_mem (λ w. leb w greatest_i64) vs k.2 m)))
      ∙ ap (λ (n : ℕ). pair_of n vs) (sym (eqb→eq u I64 k.0))
    where
      low : (x : ℕ) → T (leb x greatest_i64) → is_negative x ≡ false
      low x e = let l : x ≤ greatest_i64 = leb→le x greatest_i64 e in lt-leb (2 ^ 63) x (omega arith)

  kept_down : T (eqb u U64 && eqb t I64 && all (λ w. not (is_negative w)) vs) → Kept
  kept_down h =
      let k = and3 (eqb u U64) (eqb t I64) (all (λ w. not (is_negative w)) vs) h in
      ap (λ (n : ℕ). pair_of n vs) (eqb→eq t I64 k.1)
      ∙ pair_unsigned vs (λ x m. none (is_negative x) (all_mem (λ w. not (is_negative w)) vs k.2 m))
      ∙ ap (λ (n : ℕ). pair_of n vs) (sym (eqb→eq u U64 k.0))
    where
      none : (b : Bool) → T (not b) → b ≡ false
      none true e = absurd e
      none false e = refl

  kept_pair : eqb u F64 ≡ false → T (coercible_by_values t u vs) → Kept
  unfolding coercible_by_values
  kept_pair n h =
      or_cases Kept (eqb t u || (eqb u F64 && is_numerical t) || (eqb u I64 && eqb t U64 && all (λ w. leb w greatest_i64) vs)) (eqb u U64 && eqb t I64 && all (λ w. not (is_negative w)) vs) h
      (λ a. or_cases Kept (eqb t u || (eqb u F64 && is_numerical t)) (eqb u I64 && eqb t U64 && all (λ w. leb w greatest_i64) vs) a
      (λ b. or_cases Kept (eqb t u) (eqb u F64 && is_numerical t) b (λ c. ap (λ (k : ℕ). pair_of k vs) (eqb→eq t u c)) (λ c. absurd (subst T n (and_l (eqb u F64) (is_numerical t) c))))
      kept_up)
      kept_down

-- a held column's pair, where it becomes a type other than F64, is that of its values by this type
pub retyped_pair : (s : Segment) (u : ℕ) → TruePair s → eqb u F64 ≡ false → T (is_coercible s.type u s.pair) → s.pair ≡ pair_of u s.values
retyped_pair s u h n k = pair_is s h.fits ∙ kept_pair s.type u s.values n (subst T (coercible_is s u h) k)
