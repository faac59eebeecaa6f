-- The walk over the dictionaries, without the code: D s i is term i of segment s, N s how many it has, K s i 0 if it is marked.
-- P s terms of segment s are passed, out is what is written. Assumes nothing.
use mathlib.Core.Path.{◌≡◌, refl, sym, ap, ap₂, ◌∙◌, subst}
use mathlib.Core.Logic.{◌⊎◌, inl, inr}
use mathlib.Core.Bool.{Bool, true, false, cond, ◌||◌, false≢true, true≢false, or-false}
use mathlib.Core.List.{List, [], ◌∷◌, ◌++◌}
use Prim.Native.Nat.{ℕ, suc, ◌+◌, ◌≤◌, ◌<◌, Ordering, zero-le, suc-le-suc}
use native.Mathlib.Omega.{arith}
use lib.Dec.{T, eqb}
use lib.Ieee.Fits.{and_l, and_r, and_i}
use lib.ListN.{length, get_or, set, length-append}
use lib.Seq.{get_or-set_same, get_or-set_other}
use borrow.Author.Tests.{eq-eqb, ne_eqb}
use Rattle.definitions.specs.Lists.{compare_bytes, is_same, is_below, has_term, place_of, terms_ascending, terms_ascending_from}
use Rattle.definitions.specs.Join.{ordinal_of}
use Rattle.definitions.proofs.Terms.{Before, CmpBytes, cmp_bytes, before-is, same-is, before_trans, before-below, self_present, has_term-append}
use Rattle.lists.proofs.Numbers.{same?}
use Rattle.definitions.proofs.Lists.{or-holds}

-- ---- byte strings

abbrev pub AtM : List ℕ → List ℕ → Type 0
AtM u v = Before u v ⊎ (u ≡ v)

pub at_before : (u v w : List ℕ) → AtM u v → Before v w → Before u w
at_before u v w (inl b) c = before_trans b c
at_before u v w (inr e) c = subst (λ (z : List ℕ). Before z w) (sym e) c

pub irreflexive : (t : List ℕ) → Before t t → ⊥
irreflexive t b =
    let e : compare_bytes t t ≡ Ordering.lt = before-is b in
    let f : compare_bytes t t ≡ Ordering.eq = same-is t in
    let z : ◌≡◌ {A = ℕ} 0 1 = cc in
    omega arith

pub same-eq : (u t : List ℕ) → is_same (compare_bytes u t) ≡ true → u ≡ t
same-eq u t h = go (compare_bytes u t) (cmp_bytes u t) h
  where
    go : (o : Ordering) → CmpBytes o u t → is_same o ≡ true → u ≡ t
    go Ordering.lt k h = absurd (false≢true h)
    go Ordering.eq k h = k
    go Ordering.gt k h = absurd (false≢true h)

pub differ : (u t : List ℕ) → is_same (compare_bytes u t) ≡ false → u ≡ t → ⊥
differ u t h e = true≢false (sym (ap (λ (z : List ℕ). is_same (compare_bytes z t)) e ∙ ap is_same (same-is t)) ∙ h)

not_same : (u t : List ℕ) → (u ≡ t → ⊥) → is_same (compare_bytes u t) ≡ false
not_same u t d = go (compare_bytes u t) (cmp_bytes u t)
  where
    go : (o : Ordering) → CmpBytes o u t → is_same o ≡ false
    go Ordering.lt k = refl
    go Ordering.eq k = absurd (d k)
    go Ordering.gt k = refl

pub has_tail : (u y : List ℕ) (ys : List (List ℕ)) → has_term u ys ≡ true → has_term u (y ∷ ys) ≡ true
has_tail u y ys e = or-holds (is_same (compare_bytes u y)) (has_term u ys) e

pub has_left : (u : List ℕ) (l m : List (List ℕ)) → has_term u l ≡ true → has_term u (l ++ m) ≡ true
has_left u l m h = has_term-append u l m ∙ ap (λ (b : Bool). b || has_term u m) h

pub has_right : (u : List ℕ) (l m : List (List ℕ)) → has_term u m ≡ true → has_term u (l ++ m) ≡ true
has_right u l m h = has_term-append u l m ∙ or-holds (has_term u l) (has_term u m) h

pub has-cases : (u : List ℕ) (l m : List (List ℕ)) → has_term u (l ++ m) ≡ true → (has_term u l ≡ true) ⊎ (has_term u m ≡ true)
has-cases u l m h = go (has_term u l) (sym (has_term-append u l m) ∙ h)
  where
    go : (a : Bool) → a || has_term u m ≡ true → (a ≡ true) ⊎ (has_term u m ≡ true)
    go true e = inl refl
    go false e = inr e

pub has_snoc : (u t : List ℕ) (l : List (List ℕ)) → has_term u (l ++ (t ∷ [])) ≡ true → (has_term u l ≡ true) ⊎ (u ≡ t)
has_snoc u t l h = go (has-cases u l (t ∷ []) h)
  where
    go : (has_term u l ≡ true) ⊎ (is_same (compare_bytes u t) || false ≡ true) → (has_term u l ≡ true) ⊎ (u ≡ t)
    go (inl k) = inl k
    go (inr k) = inr (same-eq u t (sym (or-false (is_same (compare_bytes u t))) ∙ k))

pub has_self : (t : List ℕ) (l : List (List ℕ)) → has_term t (l ++ (t ∷ [])) ≡ true
has_self t l = has_right t l (t ∷ []) (self_present t [])

pub has-pos : (t : List ℕ) (l : List (List ℕ)) → has_term t l ≡ true → 0 < length l
has-pos t [] h = absurd (false≢true h)
has-pos t (y ∷ ys) h = suc-le-suc zero-le

has-not : (u t : List ℕ) (l : List (List ℕ)) → (u ≡ t → ⊥) → has_term u (l ++ (t ∷ [])) ≡ has_term u l
has-not u t l d = has_term-append u l (t ∷ []) ∙ ap (λ (b : Bool). has_term u l || (b || false)) (not_same u t d) ∙ or-false (has_term u l)

place-not : (u t : List ℕ) (l : List (List ℕ)) → has_term u l ≡ true → place_of u (l ++ (t ∷ [])) ≡ place_of u l
place-not u t [] h = absurd (false≢true h)
place-not u t (y ∷ ys) h = go (is_same (compare_bytes u y)) h (λ (k : has_term u ys ≡ true). place-not u t ys k)
  where
    go : (a : Bool) → a || has_term u ys ≡ true → (has_term u ys ≡ true → place_of u (ys ++ (t ∷ [])) ≡ place_of u ys) → cond a 0 (suc (place_of u (ys ++ (t ∷ [])))) ≡ cond a 0 (suc (place_of u ys))
    go true h f = refl
    go false h f = ap suc (f h)

pub place-new : (t : List ℕ) (l : List (List ℕ)) → has_term t l ≡ false → place_of t (l ++ (t ∷ [])) ≡ length l
place-new t [] h = rw (same-is t)
place-new t (y ∷ ys) h = go (is_same (compare_bytes t y)) h (λ (k : has_term t ys ≡ false). place-new t ys k)
  where
    go : (a : Bool) → a || has_term t ys ≡ false → (has_term t ys ≡ false → place_of t (ys ++ (t ∷ [])) ≡ length ys) → cond a 0 (suc (place_of t (ys ++ (t ∷ [])))) ≡ suc (length ys)
    go true h f = absurd (true≢false h)
    go false h f = ap suc (f h)

pub ordinal_old : (u t : List ℕ) (l : List (List ℕ)) → (u ≡ t → ⊥) → ordinal_of (l ++ (t ∷ [])) u ≡ ordinal_of l u
unfolding ordinal_of
ordinal_old u t l d = rw (has-not u t l d) (go (has_term u l) refl)
  where
    go : (a : Bool) → has_term u l ≡ a → cond a (place_of u (l ++ (t ∷ []))) 0 ≡ cond a (place_of u l) 0
    go true e = place-not u t l e
    go false e = refl

pub ordinal-has : (t : List ℕ) (l : List (List ℕ)) → has_term t l ≡ true → ordinal_of l t ≡ place_of t l
unfolding ordinal_of
ordinal-has t l e = rw e

pub ordinal-none : (t : List ℕ) (l : List (List ℕ)) → has_term t l ≡ false → ordinal_of l t ≡ 0
unfolding ordinal_of
ordinal-none t l e = rw e

pub ordinal-new : (t : List ℕ) (l : List (List ℕ)) → has_term t l ≡ false → ordinal_of (l ++ (t ∷ [])) t ≡ length l
ordinal-new t l e = ordinal-has t (l ++ (t ∷ [])) (has_self t l) ∙ place-new t l e

from_snoc : (x t : List ℕ) (l : List (List ℕ)) → T (terms_ascending_from x l) → Before x t → ((u : List ℕ) → has_term u l ≡ true → Before u t) → T (terms_ascending_from x (l ++ (t ∷ [])))
from_snoc x t [] h b f = and_i (is_below (compare_bytes x t)) true (before-below b) tt
from_snoc x t (y ∷ ys) h b f =
    and_i (is_below (compare_bytes x y)) (terms_ascending_from y (ys ++ (t ∷ []))) (and_l (is_below (compare_bytes x y)) (terms_ascending_from y ys) h)
    (from_snoc y t ys (and_r (is_below (compare_bytes x y)) (terms_ascending_from y ys) h) (f y (self_present y ys)) (λ u k. f u (has_tail u y ys k)))

pub asc_snoc : (t : List ℕ) (l : List (List ℕ)) → T (terms_ascending l) → ((u : List ℕ) → has_term u l ≡ true → Before u t) → T (terms_ascending (l ++ (t ∷ [])))
asc_snoc t [] h f = tt
asc_snoc t (y ∷ ys) h f = from_snoc y t ys h (f y (self_present y ys)) (λ u k. f u (has_tail u y ys k))

-- ---- one more term of segment s is passed

unfoldable pub bump : (ℕ → ℕ) → ℕ → ℕ → ℕ
bump P s x = cond (eqb x s) (P x + 1) (P x)

pub bump-here : (P : ℕ → ℕ) (s : ℕ) → bump P s s ≡ P s + 1
unfolding bump
bump-here P s = rw (eq-eqb s s refl)

pub bump-there : (P : ℕ → ℕ) (s x : ℕ) → (x ≡ s → ⊥) → bump P s x ≡ P x
unfolding bump
bump-there P s x d = rw (ne_eqb x s d)

pub bump_at : (P : ℕ → ℕ) (s x : ℕ) → x ≡ s → bump P s x ≡ P s + 1
bump_at P s x e = ap (bump P s) e ∙ bump-here P s

pub bump-cases : (P : ℕ → ℕ) (s x i : ℕ) → i < bump P s x → (i < P x) ⊎ ((x ≡ s) × (i ≡ P s))
bump-cases P s x i h = go (same? x s)
  where
    new : x ≡ s → (i ≡ P s) ⊎ (i ≡ P s → ⊥) → (i < P x) ⊎ ((x ≡ s) × (i ≡ P s))
    new e (inl f) = inr (e, f)
    new e (inr d) = inl (omega (arith, bump_at P s x e, ap P e))

    go : (x ≡ s) ⊎ (x ≡ s → ⊥) → (i < P x) ⊎ ((x ≡ s) × (i ≡ P s))
    go (inl e) = new e (same? i (P s))
    go (inr d) = inl (omega (arith, bump-there P s x d))

module _ (D : ℕ → ℕ → List ℕ) (N : ℕ → ℕ) (K : ℕ → ℕ → ℕ) where
  abbrev pub From : List ℕ → Type 0
  From u = (s : ℕ) × (i : ℕ) × (i < N s) × (D s i ≡ u) × (K s i ≡ 0)

  -- a passed term x against term q of segment y, which is not passed: x is below it, or it is the same and written if marked
  abbrev pub Ahead : List (List ℕ) → List ℕ → ℕ → ℕ → Type 0
  Ahead out x y q = Before x (D y q) ⊎ ((x ≡ D y q) × (K y q ≡ 0 → has_term (D y q) out ≡ true))

  pub record Merging (P : ℕ → ℕ) (out : List (List ℕ)) : Type 0 where
    pub asc : T (terms_ascending out)
    pub sound : (u : List ℕ) → has_term u out ≡ true → From u
    pub complete : (x i : ℕ) → i < P x → K x i ≡ 0 → has_term (D x i) out ≡ true
    pub ahead : (x i y : ℕ) → i < P x → P y < N y → Ahead out (D x i) y (P y)
    pub below : (u : List ℕ) → has_term u out ≡ true → (y : ℕ) → P y < N y → AtM u (D y (P y))

  module _ (P : ℕ → ℕ) (out : List (List ℕ)) (s : ℕ) (g : Merging P out) (live : P s < N s) (next : P s + 1 < N s → Before (D s (P s)) (D s (P s + 1)))
      (least : (y : ℕ) → P y < N y → Before (D s (P s)) (D y (P y)) ⊎ ((D s (P s) ≡ D y (P y)) × (K s (P s) ≤ K y (P y)))) where
    behind-next : (u : List ℕ) (y : ℕ) → y ≡ s → bump P s y < N y → AtM u (D s (P s)) → Before u (D y (bump P s y))
    behind-next u y e l a =
        let q : bump P s y ≡ P s + 1 = bump_at P s y e in
        let k : D s (P s + 1) ≡ D y (bump P s y) = ap₂ D (sym e) (sym q) in
        subst (λ (z : List ℕ). Before u z) k (at_before u (D s (P s)) (D s (P s + 1)) a (next (omega (arith, ap N e))))

    ahead_at : (out : List (List ℕ)) (x : List ℕ) (y q : ℕ) → Ahead out x y q → AtM x (D y q)
    ahead_at out x y q (inl b) = inl b
    ahead_at out x y q (inr (e, f)) = inr e

    passed : (x i : ℕ) → (i < P x) ⊎ ((x ≡ s) × (i ≡ P s)) → AtM (D x i) (D s (P s))
    passed x i (inl l) = ahead_at out (D x i) s (P s) (g.ahead x i s l live)
    passed x i (inr (e, f)) = inr (ap₂ D e f)

    module _ (m : K s (P s) ≡ 0 → has_term (D s (P s)) out ≡ true) where
      keep_complete : (x i : ℕ) → (i < P x) ⊎ ((x ≡ s) × (i ≡ P s)) → K x i ≡ 0 → has_term (D x i) out ≡ true
      keep_complete x i (inl l) k = g.complete x i l k
      keep_complete x i (inr (e, f)) k = subst (λ (z : List ℕ). has_term z out ≡ true) (sym (ap₂ D e f)) (m (sym (ap₂ K e f) ∙ k))

      least_ahead : (y : ℕ) → P y < N y → Ahead out (D s (P s)) y (P y)
      least_ahead y l = go (least y l)
        where
          go : Before (D s (P s)) (D y (P y)) ⊎ ((D s (P s) ≡ D y (P y)) × (K s (P s) ≤ K y (P y))) → Ahead out (D s (P s)) y (P y)
          go (inl b) = inl b
          go (inr (e, f)) = inr (e, λ k. subst (λ (z : List ℕ). has_term z out ≡ true) e (m (omega arith)))

      keep_other : (x i y : ℕ) → (i < P x) ⊎ ((x ≡ s) × (i ≡ P s)) → P y < N y → Ahead out (D x i) y (P y)
      keep_other x i y (inl l) k = g.ahead x i y l k
      keep_other x i y (inr (e, f)) k = subst (λ (z : List ℕ). Ahead out z y (P y)) (sym (ap₂ D e f)) (least_ahead y k)

      keep_ahead : (x i y : ℕ) → (i < P x) ⊎ ((x ≡ s) × (i ≡ P s)) → bump P s y < N y → (y ≡ s) ⊎ (y ≡ s → ⊥) → Ahead out (D x i) y (bump P s y)
      keep_ahead x i y p l (inl e) = inl (behind-next (D x i) y e l (passed x i p))
      keep_ahead x i y p l (inr d) =
          let q : bump P s y ≡ P y = bump-there P s y d in
          subst (λ (z : ℕ). Ahead out (D x i) y z) (sym q) (keep_other x i y p (omega arith))

      keep_below : (u : List ℕ) → has_term u out ≡ true → (y : ℕ) → bump P s y < N y → (y ≡ s) ⊎ (y ≡ s → ⊥) → AtM u (D y (bump P s y))
      keep_below u h y l (inl e) = inl (behind-next u y e l (g.below u h s live))
      keep_below u h y l (inr d) =
          let q : bump P s y ≡ P y = bump-there P s y d in
          subst (λ (z : ℕ). AtM u (D y z)) (sym q) (g.below u h y (omega arith))

      pub keep : Merging (bump P s) out
      keep =
          record {
            asc = g.asc;
            sound = g.sound;
            complete = λ x i h k. keep_complete x i (bump-cases P s x i h) k;
            ahead = λ x i y h l. keep_ahead x i y (bump-cases P s x i h) l (same? y s);
            below = λ u h y l. keep_below u h y l (same? y s);
          }

    module _ (marked : K s (P s) ≡ 0) (new : has_term (D s (P s)) out ≡ false) where
      abbrev more : List (List ℕ)
      more = out ++ (D s (P s) ∷ [])

      pub strictly : (u : List ℕ) → has_term u out ≡ true → Before u (D s (P s))
      strictly u h = go (g.below u h s live)
        where
          go : AtM u (D s (P s)) → Before u (D s (P s))
          go (inl b) = b
          go (inr e) = absurd (true≢false (sym (subst (λ (z : List ℕ). has_term z out ≡ true) e h) ∙ new))

      -- a passed term is none that is added
      pub unlike : (x i : ℕ) → i < P x → D x i ≡ D s (P s) → ⊥
      unlike x i l e = go (g.ahead x i s l live)
        where
          go : Ahead out (D x i) s (P s) → ⊥
          go (inl b) = irreflexive (D s (P s)) (subst (λ (z : List ℕ). Before z (D s (P s))) e b)
          go (inr (f, h)) = true≢false (sym (h marked) ∙ new)

      add-sound : (u : List ℕ) → (has_term u out ≡ true) ⊎ (u ≡ D s (P s)) → From u
      add-sound u (inl h) = g.sound u h
      add-sound u (inr e) = (s, P s, live, sym e, marked)

      add-below : (u : List ℕ) → (has_term u out ≡ true) ⊎ (u ≡ D s (P s)) → (y : ℕ) → P y < N y → AtM u (D y (P y))
      add-below u (inl h) y l = g.below u h y l
      add-below u (inr e) y l = subst (λ (z : List ℕ). AtM z (D y (P y))) (sym e) (go (least y l))
        where
          go : Before (D s (P s)) (D y (P y)) ⊎ ((D s (P s) ≡ D y (P y)) × (K s (P s) ≤ K y (P y))) → AtM (D s (P s)) (D y (P y))
          go (inl b) = inl b
          go (inr (f, k)) = inr f

      add_ahead : (x : List ℕ) (y q : ℕ) → Ahead out x y q → Ahead more x y q
      add_ahead x y q (inl b) = inl b
      add_ahead x y q (inr (e, f)) = inr (e, λ k. has_left (D y q) out (D s (P s) ∷ []) (f k))

      pub add : Merging P more
      add =
          record {
            asc = asc_snoc (D s (P s)) out g.asc strictly;
            sound = λ u h. add-sound u (has_snoc u (D s (P s)) out h);
            complete = λ x i h k. has_left (D x i) out (D s (P s) ∷ []) (g.complete x i h k);
            ahead = λ x i y h l. add_ahead (D x i) y (P y) (g.ahead x i y h l);
            below = λ u h y l. add-below u (has_snoc u (D s (P s)) out h) y l;
          }

  -- ---- the map: M s is where segment s begins in it

  abbrev pub Mapped : (ℕ → ℕ) → (ℕ → ℕ) → List (List ℕ) → List ℕ → Type 0
  Mapped M P out map = (x i : ℕ) → i < P x → get_or map (M x + i) 0 ≡ ordinal_of out (D x i)

  pub mapped_add : (M P : ℕ → ℕ) (out : List (List ℕ)) (map : List ℕ) (t : List ℕ) → ((x i : ℕ) → i < P x → D x i ≡ t → ⊥) → Mapped M P out map → Mapped M P (out ++ (t ∷ [])) map
  mapped_add M P out map t d h x i l = h x i l ∙ sym (ordinal_old (D x i) t out (d x i l))

  pub mapped_keep : (M P : ℕ → ℕ) (out : List (List ℕ)) (map : List ℕ) (s v : ℕ) → M s + P s < length map → ((x i : ℕ) → i < P x → M x + i ≡ M s + P s → ⊥)
      → v ≡ ordinal_of out (D s (P s)) → Mapped M P out map → Mapped M (bump P s) out (set map (M s + P s) v)
  mapped_keep M P out map s v inside apart e h x i l = go (bump-cases P s x i l)
    where
      go : (i < P x) ⊎ ((x ≡ s) × (i ≡ P s)) → get_or (set map (M s + P s) v) (M x + i) 0 ≡ ordinal_of out (D x i)
      go (inl k) = get_or-set_other map (M s + P s) (M x + i) v 0 (apart x i k) ∙ h x i k
      go (inr (f, k)) =
          ap₂ (λ (a b : ℕ). get_or (set map (M s + P s) v) (M a + b) 0) f k
          ∙ get_or-set_same map (M s + P s) v 0 inside ∙ e ∙ ap (ordinal_of out) (sym (ap₂ D f k))

-- ---- the last term written

pub record LastIs (out : List (List ℕ)) (n : ℕ) (last : List ℕ) : Type 0 where
  pub size : n ≡ length out
  pub place : 0 < n → place_of last out + 1 ≡ n
  pub has : 0 < n → has_term last out ≡ true
  pub top : 0 < n → (u : List ℕ) → has_term u out ≡ true → AtM u last

pub last_hit : (out : List (List ℕ)) (n : ℕ) (last t : List ℕ) → LastIs out n last → 0 < n → t ≡ last → (has_term t out ≡ true) × (ordinal_of out t + 1 ≡ n)
last_hit out n last t l p e =
    let h : has_term t out ≡ true = subst (λ (z : List ℕ). has_term z out ≡ true) (sym e) (l.has p) in
    (h, ap (λ (z : ℕ). z + 1) (ordinal-has t out h ∙ ap (λ (z : List ℕ). place_of z out) e) ∙ l.place p)

pub last_miss : (out : List (List ℕ)) (n : ℕ) (last t : List ℕ) → LastIs out n last → ((u : List ℕ) → has_term u out ≡ true → AtM u t) → (0 < n → t ≡ last → ⊥) → has_term t out ≡ false
last_miss out n last t l below d = go (has_term t out) refl
  where
    clash : AtM t last → AtM last t → (t ≡ last → ⊥) → ⊥
    clash (inl a) (inl b) x = irreflexive t (before_trans a b)
    clash (inl a) (inr f) x = x (sym f)
    clash (inr e) b x = x e

    go : (a : Bool) → has_term t out ≡ a → a ≡ false
    go false e = refl
    go true e =
        let p : 0 < n = omega (arith, has-pos t out e, l.size) in
        absurd (clash (l.top p t e) (below last (l.has p)) (d p))

pub last_added : (out : List (List ℕ)) (n : ℕ) (last t : List ℕ) → LastIs out n last → has_term t out ≡ false → ((u : List ℕ) → has_term u out ≡ true → Before u t) → LastIs (out ++ (t ∷ [])) (n + 1) t
last_added out n last t l new b =
    record {
      size = ap (λ (z : ℕ). z + 1) l.size ∙ sym (length-append out (t ∷ []));
      place = λ p. ap (λ (z : ℕ). z + 1) (place-new t out new ∙ sym l.size);
      has = λ p. has_self t out;
      top = λ p u h. go u (has_snoc u t out h);
    }
  where
    go : (u : List ℕ) → (has_term u out ≡ true) ⊎ (u ≡ t) → AtM u t
    go u (inl h) = inl (b u h)
    go u (inr e) = inr e
