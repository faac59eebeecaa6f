-- The order of values, and the least and the greatest of a list: they are among its values, none is below or above them, and so they depend on nothing but which values
-- there are (document 02, (j)). Assumes nothing.
use Prim.Native.Nat.{ℕ, ◌≤◌, ◌<◌}
use native.Mathlib.Omega.{arith}
use mathlib.Core.Path.{◌≡◌, refl, sym, ap, ◌∙◌}
use mathlib.Core.List.Memᴰ
use mathlib.Core.List.{List, [], ◌∷◌, Memᴰ}
use mathlib.Core.Bool.{Bool, true, false, not, cond, ◌||◌, ◌&&◌, false≢true, true≢false}
use lib.Dec.{eqb, ltb}
use borrow.Author.Tests.{ltb-true, ltb-false, lt-ltb, le-ltb}
use Rattle.definitions.specs.Segment.{pair, no_pair}
use Rattle.definitions.specs.Types.{I64, U64, is_negative, is_less, first_by, pair_of}

-- ---- orders

-- a strict order in which any two that differ are one before the other
pub record Order (before : ℕ → ℕ → Bool) : Type 0 where
  pub asym : (v w : ℕ) → before v w ≡ true → before w v ≡ false
  pub cut : (v w r : ℕ) → before v r ≡ true → before w r ≡ false → before v w ≡ true
  pub same : (v w : ℕ) → before v w ≡ false → before w v ≡ false → v ≡ w

plain-order : Order ltb
plain-order =
    record {
      asym = λ v w e. let h : v < w = ltb-true v w e in le-ltb w v (omega arith);
      cut = λ v w r e f. let h : v < r = ltb-true v r e in let k : r ≤ w = ltb-false w r f in lt-ltb v w (omega arith);
      same = λ v w e f. let h : w ≤ v = ltb-false v w e in let k : v ≤ w = ltb-false w v f in omega arith;
    }

-- two's complement: negative words before the others
abbrev signed_before : ℕ → ℕ → Bool
signed_before v w = cond (is_negative v) (not (is_negative w) || ltb v w) (not (is_negative w) && ltb v w)

module _ (v w : ℕ) where
  signed_asym : (a b : Bool) → is_negative v ≡ a → is_negative w ≡ b → cond a (not b || ltb v w) (not b && ltb v w) ≡ true → cond b (not a || ltb w v) (not a && ltb w v) ≡ false
  signed_asym true true p q e = plain-order.asym v w e
  signed_asym true false p q e = refl
  signed_asym false true p q e = absurd (false≢true e)
  signed_asym false false p q e = plain-order.asym v w e

  signed_same : (a b : Bool) → cond a (not b || ltb v w) (not b && ltb v w) ≡ false → cond b (not a || ltb w v) (not a && ltb w v) ≡ false → v ≡ w
  signed_same true true e f = plain-order.same v w e f
  signed_same true false e f = absurd (true≢false e)
  signed_same false true e f = absurd (true≢false f)
  signed_same false false e f = plain-order.same v w e f

  signed_cut : (r : ℕ) (a b c : Bool) → cond a (not c || ltb v r) (not c && ltb v r) ≡ true → cond b (not c || ltb w r) (not c && ltb w r) ≡ false
      → cond a (not b || ltb v w) (not b && ltb v w) ≡ true
  signed_cut r true true true e f = plain-order.cut v w r e f
  signed_cut r true true false e f = absurd (true≢false f)
  signed_cut r true false c e f = refl
  signed_cut r false b true e f = absurd (false≢true e)
  signed_cut r false true false e f = absurd (true≢false f)
  signed_cut r false false false e f = plain-order.cut v w r e f

signed_order : Order signed_before
signed_order =
    record {
      asym = λ v w. signed_asym v w (is_negative v) (is_negative w) refl refl;
      cut = λ v w r. signed_cut v w r (is_negative v) (is_negative w) (is_negative r);
      same = λ v w. signed_same v w (is_negative v) (is_negative w);
    }

pub less_order : (t : ℕ) → Order (is_less t)
unfolding is_less
less_order t = go (eqb t I64)
  where
    go : (b : Bool) → Order (λ (v w : ℕ). cond b (signed_before v w) (ltb v w))
    go true = signed_order
    go false = plain-order

-- the other way round
pub more-order : (t : ℕ) → Order (λ (v w : ℕ). is_less t w v)
more-order t =
    let o = less_order t in
    record {
      asym = λ v w. o.asym w v;
      cut = λ v w r e f. go o v w r e f (is_less t w v) refl;
      same = λ v w e f. o.same v w f e;
    }
  where
    go : Order (is_less t) → (v w r : ℕ) → is_less t r v ≡ true → is_less t r w ≡ false → (b : Bool) → is_less t w v ≡ b → b ≡ true
    go o v w r e f true h = refl
    go o v w r e f false h = absurd (true≢false (sym (o.cut r w v e h) ∙ f))

-- ---- the first of a list, by an order

module _ {before : ℕ → ℕ → Bool} (o : Order before) where
  pub not_self : (v : ℕ) → before v v ≡ false
  not_self v = go (before v v) refl
    where
      go : (b : Bool) → before v v ≡ b → b ≡ false
      go true e = sym e ∙ o.asym v v e
      go false e = refl

  -- it is one of them
  pub first_in : (w : ℕ) (vs : List ℕ) → Memᴰ (first_by before w vs) (w ∷ vs)
  first_in w [] = Memᴰ.head refl
  first_in w (v ∷ vs) = go (before v w) (first_in v vs) (first_in w vs)
    where
      skip : {x : ℕ} → Memᴰ x (w ∷ vs) → Memᴰ x (w ∷ v ∷ vs)
      skip (Memᴰ.head e) = Memᴰ.head e
      skip (Memᴰ.tail m) = Memᴰ.tail (Memᴰ.tail m)

      go : (b : Bool) → Memᴰ (first_by before v vs) (v ∷ vs) → Memᴰ (first_by before w vs) (w ∷ vs) → Memᴰ (first_by before (cond b v w) vs) (w ∷ v ∷ vs)
      go true i j = Memᴰ.tail i
      go false i j = skip j

  -- and none of them is before it
  pub first-low : (w : ℕ) (vs : List ℕ) {x : ℕ} → Memᴰ x (w ∷ vs) → before x (first_by before w vs) ≡ false
  first-low w [] (Memᴰ.head e) = ap (λ (y : ℕ). before y w) e ∙ not_self w
  first-low w [] (Memᴰ.tail m) = absurd (Memᴰ.not-nil m)
  first-low w (v ∷ vs) {x} m = go (before v w) refl (λ y m. first-low v vs m) (λ y m. first-low w vs m) m
    where
      Goal : ℕ → ℕ → Type 0
      Goal y n = before y (first_by before n vs) ≡ false

      -- v is before w, and nothing of v and the others before the first one
      lower : before v w ≡ true → Goal v v → (b : Bool) → before w (first_by before v vs) ≡ b → b ≡ false
      lower e i true h = absurd (true≢false (sym (o.cut w v (first_by before v vs) h i) ∙ o.asym v w e))
      lower e i false h = refl

      upper : before v w ≡ false → Goal w w → (b : Bool) → before v (first_by before w vs) ≡ b → b ≡ false
      upper e i true h = absurd (true≢false (sym (o.cut v w (first_by before w vs) h i) ∙ e))
      upper e i false h = refl

      go : (b : Bool) → before v w ≡ b → ((y : ℕ) → Memᴰ y (v ∷ vs) → Goal y v) → ((y : ℕ) → Memᴰ y (w ∷ vs) → Goal y w)
          → Memᴰ x (w ∷ v ∷ vs) → before x (first_by before (cond b v w) vs) ≡ false
      go true e i j (Memᴰ.head q) =
          ap (λ (y : ℕ). before y (first_by before v vs)) q ∙ lower e (i v (Memᴰ.head refl)) (before w (first_by before v vs)) refl
      go true e i j (Memᴰ.tail m) = i x m
      go false e i j (Memᴰ.head q) = j x (Memᴰ.head q)
      go false e i j (Memᴰ.tail (Memᴰ.head q)) =
          ap (λ (y : ℕ). before y (first_by before w vs)) q ∙ upper e (j w (Memᴰ.head refl)) (before v (first_by before w vs)) refl
      go false e i j (Memᴰ.tail (Memᴰ.tail m)) = j x (Memᴰ.tail m)

  -- no other one is both
  pub first-is : (w : ℕ) (vs : List ℕ) (m : ℕ) → Memᴰ m (w ∷ vs) → ((x : ℕ) → Memᴰ x (w ∷ vs) → before x m ≡ false) → first_by before w vs ≡ m
  first-is w vs m i l = o.same (first_by before w vs) m (l (first_by before w vs) (first_in w vs)) (first-low w vs i)

-- the first one of the same values, by an order that goes with the other one among them
first_alike : {before other : ℕ → ℕ → Bool} → Order before → Order other → (w u : ℕ) (vs us : List ℕ) → ((x : ℕ) → Memᴰ x (w ∷ vs) → Memᴰ x (u ∷ us)) → ((x : ℕ) → Memᴰ x (u ∷ us) → Memᴰ x (w ∷ vs))
    → ((x y : ℕ) → Memᴰ x (w ∷ vs) → Memᴰ y (w ∷ vs) → before x y ≡ other x y) → first_by before w vs ≡ first_by other u us
first_alike {other = other} o q w u vs us there back agree =
    let m = first_by other u us in
    let i = back m (first_in q u us) in
    first-is o w vs m i (λ x k. agree x m k i ∙ first-low q u us (there x k))

-- ---- the pair of a list

-- it depends on nothing but which values there are
pub pair_members : (t : ℕ) (xs ys : List ℕ) → ((x : ℕ) → Memᴰ x xs → Memᴰ x ys) → ((x : ℕ) → Memᴰ x ys → Memᴰ x xs) → pair_of t xs ≡ pair_of t ys
unfolding pair_of
pair_members t [] [] there back = refl
pair_members t [] (y ∷ ys) there back = absurd (Memᴰ.not-nil (back y (Memᴰ.head refl)))
pair_members t (x ∷ xs) [] there back = absurd (Memᴰ.not-nil (there x (Memᴰ.head refl)))
pair_members t (x ∷ xs) (y ∷ ys) there back =
    let l = first_alike (less_order t) (less_order t) x y xs ys there back (λ a b m n. refl) in
    let g = first_alike (more-order t) (more-order t) x y xs ys there back (λ a b m n. refl) in
    λ i. cond (eqb t I64 || eqb t U64) (pair (l i) (g i)) no_pair

-- of words that are not negative it is the same for I64 and U64
less_alike : (v w : ℕ) → is_negative v ≡ false → is_negative w ≡ false → is_less I64 v w ≡ is_less U64 v w
unfolding is_less
less_alike v w h k = rw (h, k)

pub pair_unsigned : (vs : List ℕ) → ((x : ℕ) → Memᴰ x vs → is_negative x ≡ false) → pair_of I64 vs ≡ pair_of U64 vs
unfolding pair_of
pair_unsigned [] h = refl
pair_unsigned (v ∷ vs) h =
    let l = first_alike (less_order I64) (less_order U64) v v vs vs (λ x m. m) (λ x m. m) (λ a b m n. less_alike a b (h a m) (h b n)) in
    let g = first_alike (more-order I64) (more-order U64) v v vs vs (λ x m. m) (λ x m. m) (λ a b m n. less_alike b a (h b n) (h a m)) in
    λ i. pair (l i) (g i)
