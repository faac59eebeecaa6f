-- The laws of the order of segments and of the heap. Assumes nothing.
use mathlib.Core.Path.{◌≡◌, refl, sym, ap, ap₂, ◌∙◌, subst}
use mathlib.Core.Logic.{◌⊎◌, inl, inr, ◌≢◌}
use mathlib.Core.Bool.{Bool, true, false, cond, false≢true, true≢false}
use mathlib.Core.List.{List, [], ◌∷◌, ◌++◌}
use Prim.Native.Nat.{ℕ, zero, suc, ◌+◌, ◌-◌, ◌/◌, ◌≤◌, ◌<◌, compare, Ordering}
use native.Mathlib.Nat.{le_of_suc-le-suc}
use native.Mathlib.Numerals.{add-one}
use native.Mathlib.Omega.{arith}
use lib.Arith.{lt_of_le-ne}
use lib.Dec.{eqb, ltb}
use lib.ListN.{length, set, get_or, take, length-set}
use lib.Seq.{get_or-set_other, get_or-set_same, take-set-lt, get_or-take, length-take-le, take-suc-set, take-suc}
use Rattle.definitions.specs.Lists.{and_then, compare_bytes, is_below}
use Rattle.definitions.proofs.Terms.{Before, CmpBytes, cmp_bytes, after_is, same-is, before_trans}
use borrow.Author.Tests.{lt-ltb, le-ltb, ltb-true, ltb-false}
use Rattle.std.specs.declared.cmp.Ordering as std
use Rattle.std.specs.Ordering.{nat_cmp, ordering_then, is_lt}
use Rattle.term_order.specs.Order.{order_of}
use Rattle.term_order.specs.Key.{keyed, Inside}
use Rattle.term_order.proofs.Laws.{numbers-order}
use Rattle.term_merger.specs.Order.{cursor_in, key_of, tie_of, order_at, comes_before, TermsInside}
use Rattle.term_merger.specs.Heap.{one, count, Ordered, Sinking, first_child, FirstChild, Risen, Pushed}
use Rattle.term_merger.specs.Live.{top_lives, kept_len, kept_numbers, Settled}
use Rattle.term_merger.specs.declared.Heap.{Heap}
use Rattle.term_merger.specs.declared.Cursor.{Cursor}
use Rattle.lists.proofs.Numbers.{same?, le-lt}

-- ---- the order of segments: by k, then by t

abbrev pub Le : List ℕ → List ℕ → List ℕ → List ℕ → Type 0
Le k t k' t' = Before k k' ⊎ ((k ≡ k') × (Before t t' ⊎ (t ≡ t')))

abbrev below2 : List ℕ → List ℕ → List ℕ → List ℕ → Bool
below2 k t k' t' = is_below (and_then (compare_bytes k k') (compare_bytes t t'))

le_of : (k t k' t' : List ℕ) → below2 k' t' k t ≡ false → Le k t k' t'
le_of k t k' t' h = go (compare_bytes k' k) (cmp_bytes k' k) (compare_bytes t' t) (cmp_bytes t' t) h
  where
    go : (o : Ordering) → CmpBytes o k' k → (p : Ordering) → CmpBytes p t' t → is_below (and_then o p) ≡ false → Le k t k' t'
    go Ordering.lt x p y z = absurd (true≢false z)
    go Ordering.eq x Ordering.lt y z = absurd (true≢false z)
    go Ordering.eq x Ordering.eq y z = inr (sym x, inr (sym y))
    go Ordering.eq x Ordering.gt y z = inr (sym x, inl y)
    go Ordering.gt x p y z = inl x

of_le : (k t k' t' : List ℕ) → Le k t k' t' → below2 k' t' k t ≡ false
of_le k t k' t' (inl b) = rw (after_is b)
of_le k t k' t' (inr (e, inl b)) = rw (e, same-is k', after_is b)
of_le k t k' t' (inr (e, inr f)) = rw (e, same-is k', f, same-is t')

le_trans : (k t k' t' k'' t'' : List ℕ) → Le k t k' t' → Le k' t' k'' t'' → Le k t k'' t''
le_trans k t k' t' k'' t'' (inl b) (inl c) = inl (before_trans b c)
le_trans k t k' t' k'' t'' (inl b) (inr (f, y)) = inl (subst (λ (z : List ℕ). Before k z) f b)
le_trans k t k' t' k'' t'' (inr (e, x)) (inl c) = inl (subst (λ (z : List ℕ). Before z k'') (sym e) c)
le_trans k t k' t' k'' t'' (inr (e, x)) (inr (f, y)) = inr (e ∙ f, ties x y)
  where
    ties : Before t t' ⊎ (t ≡ t') → Before t' t'' ⊎ (t' ≡ t'') → Before t t'' ⊎ (t ≡ t'')
    ties (inl b) (inl c) = inl (before_trans b c)
    ties (inl b) (inr g) = inl (subst (λ (z : List ℕ). Before t z) g b)
    ties (inr g) (inl c) = inl (subst (λ (z : List ℕ). Before z t'') (sym g) c)
    ties (inr g) (inr h) = inr (g ∙ h)

of_below : (k t k' t' : List ℕ) → below2 k t k' t' ≡ true → Le k t k' t'
of_below k t k' t' h = go (compare_bytes k k') (cmp_bytes k k') (compare_bytes t t') (cmp_bytes t t') h
  where
    go : (o : Ordering) → CmpBytes o k k' → (p : Ordering) → CmpBytes p t t' → is_below (and_then o p) ≡ true → Le k t k' t'
    go Ordering.lt x p y z = inl x
    go Ordering.eq x Ordering.lt y z = inr (x, inl y)
    go Ordering.eq x Ordering.eq y z = absurd (false≢true z)
    go Ordering.eq x Ordering.gt y z = absurd (false≢true z)
    go Ordering.gt x p y z = absurd (false≢true z)

-- a stands at or before b
abbrev pub AtMost : List ℕ → List Cursor → ℕ → ℕ → Type 0
AtMost bytes cursors a b = comes_before bytes cursors b a ≡ false

module _ (bytes : List ℕ) (cursors : List Cursor) where
  pub at-most-le : (a b : ℕ) → AtMost bytes cursors a b → Le (key_of bytes cursors a) (tie_of cursors a) (key_of bytes cursors b) (tie_of cursors b)
  unfolding comes_before order_at
  at-most-le a b h = le_of _ _ _ _ h

  le-at-most : (a b : ℕ) → Le (key_of bytes cursors a) (tie_of cursors a) (key_of bytes cursors b) (tie_of cursors b) → AtMost bytes cursors a b
  unfolding comes_before order_at
  le-at-most a b h = of_le _ _ _ _ h

  pub at-most-refl : (a : ℕ) → AtMost bytes cursors a a
  at-most-refl a = le-at-most a a (inr (refl, inr refl))

  pub at-most_trans : (a b c : ℕ) → AtMost bytes cursors a b → AtMost bytes cursors b c → AtMost bytes cursors a c
  at-most_trans a b c h k = le-at-most a c (le_trans _ _ _ _ _ _ (at-most-le a b h) (at-most-le b c k))

  before-le : (a b : ℕ) → comes_before bytes cursors a b ≡ true → Le (key_of bytes cursors a) (tie_of cursors a) (key_of bytes cursors b) (tie_of cursors b)
  unfolding comes_before order_at
  before-le a b h = of_below _ _ _ _ h

  pub before-at-most : (a b : ℕ) → comes_before bytes cursors a b ≡ true → AtMost bytes cursors a b
  before-at-most a b h = le-at-most a b (before-le a b h)

-- ---- what a list holds

pub count_set : (x : ℕ) (xs : List ℕ) (i v : ℕ) → i < length xs → count x (set xs i v) + one (eqb x (get_or xs i 0)) ≡ count x xs + one (eqb x v)
unfolding count
count_set x [] i v h = omega arith
count_set x (y ∷ ys) zero v h = omega arith
count_set x (y ∷ ys) (suc i) v h = let e = count_set x ys i v (le_of_suc-le-suc h) in omega arith

pub count-append : (x : ℕ) (xs ys : List ℕ) → count x (xs ++ ys) ≡ count x xs + count x ys
unfolding count
count-append x [] ys = omega arith
count-append x (z ∷ zs) ys = let e = count-append x zs ys in omega arith

-- two numbers of the first n change places
pub count-swap : (seg : List ℕ) (n i p : ℕ) → n ≤ length seg → i < n → p < n → (p ≡ i → ⊥) → (x : ℕ)
    → count x (take n (set (set seg i (get_or seg p 0)) p (get_or seg i 0))) ≡ count x (take n seg)
count-swap seg n i p h hi hp d x =
    let a : ℕ = get_or seg i 0 in
    let b : ℕ = get_or seg p 0 in
    let l : List ℕ = take n seg in
    let m : length l ≡ n = length-take-le n seg h in
    let e₀ : take n (set (set seg i b) p a) ≡ set (set l i b) p a = take-set-lt n (set seg i b) p a hp ∙ ap (λ (z : List ℕ). set z p a) (take-set-lt n seg i b hi) in
    let ga : get_or l i 0 ≡ a = get_or-take n seg i 0 hi in
    let gb : get_or l p 0 ≡ b = get_or-take n seg p 0 hp in
    let e₁ : count x (set l i b) + one (eqb x (get_or l i 0)) ≡ count x l + one (eqb x b) = count_set x l i b (omega arith) in
    let e₂ : count x (set (set l i b) p a) + one (eqb x (get_or (set l i b) p 0)) ≡ count x (set l i b) + one (eqb x a) = count_set x (set l i b) p a (rw length-set (omega arith)) in
    let o : get_or (set l i b) p 0 ≡ b = get_or-set_other l i p b 0 d ∙ gb in
    let e₃ : one (eqb x (get_or (set l i b) p 0)) ≡ one (eqb x b) = ap (λ (z : ℕ). one (eqb x z)) o in
    let e₄ : one (eqb x (get_or l i 0)) ≡ one (eqb x a) = ap (λ (z : ℕ). one (eqb x z)) ga in
    let e₅ : count x (take n (set (set seg i b) p a)) ≡ count x (set (set l i b) p a) = ap (count x) e₀ in
    omega arith

-- ---- order kept while a number goes up or down. g j is the number at place j

move : (le : ℕ → ℕ → Type 0) {a a' b b' : ℕ} → a' ≡ a → b' ≡ b → le a b → le a' b'
move le {a} {a'} {b} {b'} p q h = subst (λ (x : ℕ). le x b') (sym p) (subst (λ (y : ℕ). le a y) (sym q) h)

pub record Rising (le : ℕ → ℕ → Type 0) (g : ℕ → ℕ) (i n : ℕ) : Type 0 where
  pub others : (j : ℕ) → 0 < j → j < n → (j ≡ i → ⊥) → le (g ((j - 1) / 2)) (g j)
  pub under : (j : ℕ) → 0 < j → j < n → (j - 1) / 2 ≡ i → 0 < i → le (g ((i - 1) / 2)) (g j)

pub rising_start : (le : ℕ → ℕ → Type 0) (g : ℕ → ℕ) (n : ℕ) → ((j : ℕ) → 0 < j → j < n → le (g ((j - 1) / 2)) (g j)) → Rising le g n (n + 1)
rising_start le g n o = record { others = λ j p l d. o j p (let x : j ≢ n = d in lt_of_le-ne (omega arith) x); under = λ j p l e q. absurd (omega arith) }

pub rising-end : (le : ℕ → ℕ → Type 0) (g : ℕ → ℕ) (i n : ℕ) → Rising le g i n → (0 < i → le (g ((i - 1) / 2)) (g i)) → (j : ℕ) → 0 < j → j < n → le (g ((j - 1) / 2)) (g j)
rising-end le g i n r h j p l = go (same? j i)
  where
    go : (j ≡ i) ⊎ (j ≡ i → ⊥) → le (g ((j - 1) / 2)) (g j)
    go (inl e) = subst (λ (x : ℕ). le (g ((x - 1) / 2)) (g x)) (sym e) (h (omega arith))
    go (inr d) = r.others j p l d

module _ (le : ℕ → ℕ → Type 0) (tr : (a b c : ℕ) → le a b → le b c → le a c) (g g' : ℕ → ℕ) (i n : ℕ) (r : Rising le g i n) (pos : 0 < i) (inside : i < n) (less : le (g i) (g ((i - 1) / 2)))
    (at_p : g' ((i - 1) / 2) ≡ g i) (at_i : g' i ≡ g ((i - 1) / 2)) (rest : (j : ℕ) → (j ≡ (i - 1) / 2 → ⊥) → (j ≡ i → ⊥) → g' j ≡ g j) where
  up_others : (j : ℕ) → 0 < j → j < n → (j ≡ (i - 1) / 2 → ⊥) → le (g' ((j - 1) / 2)) (g' j)
  up_others j q l d = go (same? j i) (same? ((j - 1) / 2) i) (same? ((j - 1) / 2) ((i - 1) / 2))
    where
      go : (j ≡ i) ⊎ (j ≡ i → ⊥) → ((j - 1) / 2 ≡ i) ⊎ ((j - 1) / 2 ≡ i → ⊥) → ((j - 1) / 2 ≡ (i - 1) / 2) ⊎ ((j - 1) / 2 ≡ (i - 1) / 2 → ⊥) → le (g' ((j - 1) / 2)) (g' j)
      go (inl e) u v = subst (λ (x : ℕ). le (g' ((x - 1) / 2)) (g' x)) (sym e) (move le at_p at_i less)
      go (inr e) (inl u) v = move le (ap g' u ∙ at_i) (rest j d e) (r.under j q l u pos)
      go (inr e) (inr u) (inl v) = move le (ap g' v ∙ at_p) (rest j d e) (tr _ _ _ less (subst (λ (x : ℕ). le (g x) (g j)) v (r.others j q l e)))
      go (inr e) (inr u) (inr v) = move le (rest ((j - 1) / 2) v u) (rest j d e) (r.others j q l e)

  up_under : (j : ℕ) → 0 < j → j < n → (j - 1) / 2 ≡ (i - 1) / 2 → 0 < (i - 1) / 2 → le (g' (((i - 1) / 2 - 1) / 2)) (g' j)
  up_under j q l e z = go (same? j i)
    where
      top : g' (((i - 1) / 2 - 1) / 2) ≡ g (((i - 1) / 2 - 1) / 2)
      top = rest (((i - 1) / 2 - 1) / 2) (λ x. omega arith) (λ x. omega arith)

      above : le (g (((i - 1) / 2 - 1) / 2)) (g ((i - 1) / 2))
      above = r.others ((i - 1) / 2) z (omega arith) (λ x. omega arith)

      go : (j ≡ i) ⊎ (j ≡ i → ⊥) → le (g' (((i - 1) / 2 - 1) / 2)) (g' j)
      go (inl x) = move le top (ap g' x ∙ at_i) above
      go (inr x) = move le top (rest j (λ y. omega arith) x) (tr _ _ _ above (subst (λ (y : ℕ). le (g y) (g j)) e (r.others j q l x)))

  pub rising-swap : Rising le g' ((i - 1) / 2) n
  rising-swap = record { others = up_others; under = up_under }

module _ (le : ℕ → ℕ → Type 0) (g g' : ℕ → ℕ) (i c n : ℕ)
    (others : (j : ℕ) → 0 < j → j < n → ((j - 1) / 2 ≡ i → ⊥) → le (g ((j - 1) / 2)) (g j))
    (under : (j : ℕ) → 0 < j → j < n → (j - 1) / 2 ≡ i → 0 < i → le (g ((i - 1) / 2)) (g j))
    (child : (c - 1) / 2 ≡ i) (pos : 0 < c) (inside : c < n) (less : le (g c) (g i))
    (least : (j : ℕ) → 0 < j → j < n → (j - 1) / 2 ≡ i → le (g c) (g j))
    (at_c : g' c ≡ g i) (at_i : g' i ≡ g c) (rest : (j : ℕ) → (j ≡ i → ⊥) → (j ≡ c → ⊥) → g' j ≡ g j) where
  pub down_others : (j : ℕ) → 0 < j → j < n → ((j - 1) / 2 ≡ c → ⊥) → le (g' ((j - 1) / 2)) (g' j)
  down_others j q l d = go (same? j c) (same? j i) (same? ((j - 1) / 2) i)
    where
      go : (j ≡ c) ⊎ (j ≡ c → ⊥) → (j ≡ i) ⊎ (j ≡ i → ⊥) → ((j - 1) / 2 ≡ i) ⊎ ((j - 1) / 2 ≡ i → ⊥) → le (g' ((j - 1) / 2)) (g' j)
      go (inl e) u v = move le (ap (λ (x : ℕ). g' ((x - 1) / 2)) e ∙ ap g' child ∙ at_i) (ap g' e ∙ at_c) less
      go (inr e) (inl u) v =
          move le (rest ((j - 1) / 2) (λ x. omega arith) d ∙ ap (λ (x : ℕ). g ((x - 1) / 2)) u) (ap g' u ∙ at_i) (under c pos inside child (omega arith))
      go (inr e) (inr u) (inl v) = move le (ap g' v ∙ at_i) (rest j u e) (least j q l v)
      go (inr e) (inr u) (inr v) = move le (rest ((j - 1) / 2) v d) (rest j u e) (others j q l v)

  pub down_under : (j : ℕ) → 0 < j → j < n → (j - 1) / 2 ≡ c → 0 < c → le (g' ((c - 1) / 2)) (g' j)
  down_under j q l e z =
      move le (ap g' child ∙ at_i) (rest j (λ x. omega arith) (λ x. omega arith)) (subst (λ (y : ℕ). le (g y) (g j)) e (others j q l (λ x. omega arith)))

-- the first place has the least
pub root_least : (le : ℕ → ℕ → Type 0) → ((a : ℕ) → le a a) → ((a b c : ℕ) → le a b → le b c → le a c) → (g : ℕ → ℕ) (n : ℕ)
    → ((j : ℕ) → 0 < j → j < n → le (g ((j - 1) / 2)) (g j)) → (m j : ℕ) → j ≤ m → j < n → le (g 0) (g j)
root_least le rf tr g n o zero j h l = subst (λ (x : ℕ). le (g 0) (g x)) (let e : 0 ≡ j = omega arith in e) (rf (g 0))
root_least le rf tr g n o (suc m) j h l = go (same? j 0) (λ (k : 0 < j). root_least le rf tr g n o m ((j - 1) / 2) (omega arith) (omega arith))
  where
    go : (j ≡ 0) ⊎ (j ≡ 0 → ⊥) → (0 < j → le (g 0) (g ((j - 1) / 2))) → le (g 0) (g j)
    go (inl e) f = subst (λ (x : ℕ). le (g 0) (g x)) (sym e) (rf (g 0))
    go (inr d) f = let p : 0 < j = omega arith in tr _ _ _ (f p) (o j p l)

-- what is at most both places under the first is at most all others
pub children_least : (le : ℕ → ℕ → Type 0) → ((a b c : ℕ) → le a b → le b c → le a c) → (g : ℕ → ℕ) (n a : ℕ)
    → ((j : ℕ) → 0 < j → j < n → le (g ((j - 1) / 2)) (g j)) → ((j : ℕ) → 1 ≤ j → j ≤ 2 → j < n → le a (g j)) → (m j : ℕ) → j ≤ m → 0 < j → j < n → le a (g j)
children_least le tr g n a o f zero j h p l = absurd (omega arith)
children_least le tr g n a o f (suc m) j h p l = go (le-lt j 3) (λ (k : 3 ≤ j). children_least le tr g n a o f m ((j - 1) / 2) (omega arith) (omega arith) (omega arith))
  where
    go : (j < 3) ⊎ (3 ≤ j) → (3 ≤ j → le a (g ((j - 1) / 2))) → le a (g j)
    go (inl k) t = f j p (omega arith) l
    go (inr k) t = tr _ _ _ (t k) (o j p l)

-- ---- the same over the heap's array

module _ (bytes : List ℕ) (cursors : List Cursor) where
  abbrev pub Up : List ℕ → ℕ → ℕ → Type 0
  Up seg i n = Rising (AtMost bytes cursors) (λ j. get_or seg j 0) i n

  pub up_start : (seg : List ℕ) (n : ℕ) → Ordered bytes cursors seg n → Up seg n (n + 1)
  unfolding Ordered
  up_start seg n o = rising_start (AtMost bytes cursors) (λ j. get_or seg j 0) n o

  pub up_end : (seg : List ℕ) (i n : ℕ) → Up seg i n → (0 < i → AtMost bytes cursors (get_or seg ((i - 1) / 2) 0) (get_or seg i 0)) → Ordered bytes cursors seg n
  unfolding Ordered
  up_end seg i n r h = rising-end (AtMost bytes cursors) (λ j. get_or seg j 0) i n r h

  pub up_swap : (seg : List ℕ) (i n : ℕ) → 0 < i → i < n → i < length seg → AtMost bytes cursors (get_or seg i 0) (get_or seg ((i - 1) / 2) 0) → Up seg i n
      → Up (set (set seg i (get_or seg ((i - 1) / 2) 0)) ((i - 1) / 2) (get_or seg i 0)) ((i - 1) / 2) n
  up_swap seg i n pos inside len less r =
      let q : ℕ = (i - 1) / 2 in
      let s₁ : List ℕ = set seg i (get_or seg q 0) in
      let s₂ : List ℕ = set s₁ q (get_or seg i 0) in
      rising-swap (AtMost bytes cursors) (at-most_trans bytes cursors) (λ j. get_or seg j 0) (λ j. get_or s₂ j 0) i n r pos inside less
      (get_or-set_same s₁ q (get_or seg i 0) 0 (rw length-set (omega arith)))
      (get_or-set_other s₁ q i (get_or seg i 0) 0 (λ e. omega arith) ∙ get_or-set_same seg i (get_or seg q 0) 0 len)
      (λ j d e. get_or-set_other s₁ q j (get_or seg i 0) 0 d ∙ get_or-set_other seg i j (get_or seg q 0) 0 e)

  pub down_swap : (seg : List ℕ) (i c n : ℕ) → (c - 1) / 2 ≡ i → 0 < c → c < n → c < length seg → AtMost bytes cursors (get_or seg c 0) (get_or seg i 0)
      → ((j : ℕ) → 0 < j → j < n → (j - 1) / 2 ≡ i → AtMost bytes cursors (get_or seg c 0) (get_or seg j 0)) → Sinking bytes cursors seg i n
      → Sinking bytes cursors (set (set seg c (get_or seg i 0)) i (get_or seg c 0)) c n
  down_swap seg i c n child pos inside len less least r =
      let s₁ : List ℕ = set seg c (get_or seg i 0) in
      let s₂ : List ℕ = set s₁ i (get_or seg c 0) in
      let ac : get_or s₂ c 0 ≡ get_or seg i 0 = get_or-set_other s₁ i c (get_or seg c 0) 0 (λ e. omega arith) ∙ get_or-set_same seg c (get_or seg i 0) 0 len in
      let ai : get_or s₂ i 0 ≡ get_or seg c 0 = get_or-set_same s₁ i (get_or seg c 0) 0 (rw length-set (omega arith)) in
      let rs : (j : ℕ) → (j ≡ i → ⊥) → (j ≡ c → ⊥) → get_or s₂ j 0 ≡ get_or seg j 0 = λ j d e. get_or-set_other s₁ i j (get_or seg c 0) 0 d ∙ get_or-set_other seg c j (get_or seg i 0) 0 e in
      record {
        others = down_others (AtMost bytes cursors) (λ j. get_or seg j 0) (λ j. get_or s₂ j 0) i c n r.others r.under child pos inside less least ac ai rs;
        under = down_under (AtMost bytes cursors) (λ j. get_or seg j 0) (λ j. get_or s₂ j 0) i c n r.others r.under child pos inside less least ac ai rs;
      }

  pub down_end : (seg : List ℕ) (i n : ℕ) → Sinking bytes cursors seg i n → ((j : ℕ) → 0 < j → j < n → (j - 1) / 2 ≡ i → AtMost bytes cursors (get_or seg i 0) (get_or seg j 0)) → Ordered bytes cursors seg n
  unfolding Ordered
  down_end seg i n r h j p l = go (same? ((j - 1) / 2) i)
    where
      go : ((j - 1) / 2 ≡ i) ⊎ ((j - 1) / 2 ≡ i → ⊥) → AtMost bytes cursors (get_or seg ((j - 1) / 2) 0) (get_or seg j 0)
      go (inl e) = subst (λ (x : ℕ). AtMost bytes cursors (get_or seg x 0) (get_or seg j 0)) (sym e) (h j p l e)
      go (inr d) = r.others j p l d

  -- the last number goes to the first place
  pub down_start : (seg : List ℕ) (v n : ℕ) → Sinking bytes cursors seg 0 (n + 1) → Sinking bytes cursors (set seg 0 v) 0 n
  down_start seg v n o =
      record {
        others = λ j p l d. move (AtMost bytes cursors) (get_or-set_other seg 0 ((j - 1) / 2) v 0 d) (get_or-set_other seg 0 j v 0 (λ e. omega arith)) (o.others j p (omega arith) d);
        under = λ j p l e q. absurd (omega arith);
      }

  pub top_least : (seg : List ℕ) (n j : ℕ) → Ordered bytes cursors seg n → j < n → AtMost bytes cursors (get_or seg 0 0) (get_or seg j 0)
  unfolding Ordered
  top_least seg n j o l = root_least (AtMost bytes cursors) (at-most-refl bytes cursors) (at-most_trans bytes cursors) (λ j. get_or seg j 0) n o j j (omega arith) l

  -- of all but the top the first of its children is the least
  pub child_least : (seg : List ℕ) (n c j : ℕ) → Ordered bytes cursors seg n → FirstChild bytes cursors seg 1 n c → 0 < j → j < n → AtMost bytes cursors (get_or seg c 0) (get_or seg j 0)
  unfolding Ordered
  child_least seg n c j o f p l = children_least (AtMost bytes cursors) (at-most_trans bytes cursors) (λ j. get_or seg j 0) n (get_or seg c 0) o (λ j a b k. f.least j a (omega arith) k) j j (omega arith) p l

-- ---- what the code's comparison says

pub inside-at : (bytes : List ℕ) (cursors : List Cursor) (s : ℕ) → TermsInside bytes cursors → s < 256 → Inside bytes (cursor_in cursors s).key
unfolding TermsInside
inside-at bytes cursors s r h = r s h

-- keys, then marks, then numbers
pub compared : (bytes : List ℕ) (cursors : List Cursor) (a b : ℕ) {o p q r t : std.Ordering}
    → o ≡ order_of (compare_bytes (keyed bytes (cursor_in cursors a).key) (keyed bytes (cursor_in cursors b).key))
    → p ≡ nat_cmp (cursor_in cursors a).unmarked (cursor_in cursors b).unmarked → q ≡ ordering_then o p → r ≡ nat_cmp a b → t ≡ ordering_then q r
    → is_lt t ≡ comes_before bytes cursors a b
unfolding comes_before order_at key_of
compared bytes cursors a b eo ep eq er et =
    ap is_lt (et ∙ ap₂ ordering_then (eq ∙ ap₂ ordering_then eo (ep ∙ numbers-order _ _)) (er ∙ numbers-order a b))
    ∙ go (compare_bytes (keyed bytes (cursor_in cursors a).key) (keyed bytes (cursor_in cursors b).key)) (compare (cursor_in cursors a).unmarked (cursor_in cursors b).unmarked) (compare a b)
  where
    go : (x y z : Ordering) → is_lt (ordering_then (ordering_then (order_of x) (order_of y)) (order_of z)) ≡ is_below (and_then x (and_then y (and_then z Ordering.eq)))
    go Ordering.lt y z = refl
    go Ordering.eq Ordering.lt z = refl
    go Ordering.eq Ordering.eq Ordering.lt = refl
    go Ordering.eq Ordering.eq Ordering.eq = refl
    go Ordering.eq Ordering.eq Ordering.gt = refl
    go Ordering.eq Ordering.gt z = refl
    go Ordering.gt y z = refl

-- ---- the first child

module _ (bytes : List ℕ) (cursors : List Cursor) (seg : List ℕ) (l n : ℕ) where
  last-is : n ≤ l + 1 → l ≡ first_child bytes cursors seg l n
  unfolding first_child
  last-is h = rw (le-ltb (l + 1) n h)

  first-is : AtMost bytes cursors (get_or seg l 0) (get_or seg (l + 1) 0) → l ≡ first_child bytes cursors seg l n
  unfolding first_child
  first-is k = rw k (go (ltb (l + 1) n))
    where
      go : (b : Bool) → l ≡ cond b l l
      go true = refl
      go false = refl

  second_is : l + 1 < n → comes_before bytes cursors (get_or seg (l + 1) 0) (get_or seg l 0) ≡ true → l + 1 ≡ first_child bytes cursors seg l n
  unfolding first_child
  second_is h k = rw (lt-ltb (l + 1) n h, k)

  pub child_last : l < n → n ≤ l + 1 → FirstChild bytes cursors seg l n l
  child_last h k =
      record {
        is = last-is k;
        low = omega arith;
        high = omega arith;
        inside = h;
        least = λ j p q r. subst (λ (x : ℕ). AtMost bytes cursors (get_or seg l 0) (get_or seg x 0)) (let e : l ≡ j = omega arith in e) (at-most-refl bytes cursors (get_or seg l 0));
      }

  pub child_first : l < n → AtMost bytes cursors (get_or seg l 0) (get_or seg (l + 1) 0) → FirstChild bytes cursors seg l n l
  child_first h k = record { is = first-is k; low = omega arith; high = omega arith; inside = h; least = λ j p q r. go j p q (same? j l) }
    where
      go : (j : ℕ) → l ≤ j → j ≤ l + 1 → (j ≡ l) ⊎ (j ≡ l → ⊥) → AtMost bytes cursors (get_or seg l 0) (get_or seg j 0)
      go j p q (inl e) = subst (λ (x : ℕ). AtMost bytes cursors (get_or seg l 0) (get_or seg x 0)) (sym e) (at-most-refl bytes cursors (get_or seg l 0))
      go j p q (inr d) = subst (λ (x : ℕ). AtMost bytes cursors (get_or seg l 0) (get_or seg x 0)) (let x : j ≢ l = d in let e : l + 1 ≡ j = omega arith in e) k

  pub child_second : l + 1 < n → comes_before bytes cursors (get_or seg (l + 1) 0) (get_or seg l 0) ≡ true → FirstChild bytes cursors seg l n (l + 1)
  child_second h k = record { is = second_is h k; low = omega arith; high = omega arith; inside = h; least = λ j p q r. go j p q (same? j l) }
    where
      go : (j : ℕ) → l ≤ j → j ≤ l + 1 → (j ≡ l) ⊎ (j ≡ l → ⊥) → AtMost bytes cursors (get_or seg (l + 1) 0) (get_or seg j 0)
      go j p q (inl e) = subst (λ (x : ℕ). AtMost bytes cursors (get_or seg (l + 1) 0) (get_or seg x 0)) (sym e) (before-at-most bytes cursors (get_or seg (l + 1) 0) (get_or seg l 0) k)
      go j p q (inr d) =
          subst (λ (x : ℕ). AtMost bytes cursors (get_or seg (l + 1) 0) (get_or seg x 0)) (let x : j ≢ l = d in let e : l + 1 ≡ j = omega arith in e) (at-most-refl bytes cursors (get_or seg (l + 1) 0))

-- ---- push and pop

module _ (bytes : List ℕ) (cursors : List Cursor) where
  pub ordered-set : (seg : List ℕ) (n v : ℕ) → Ordered bytes cursors seg n → Ordered bytes cursors (set seg n v) n
  unfolding Ordered
  ordered-set seg n v o j p l = move (AtMost bytes cursors) (get_or-set_other seg n ((j - 1) / 2) v 0 (λ e. omega arith)) (get_or-set_other seg n j v 0 (λ e. omega arith)) (o j p l)

  pub ordered_at : (seg : List ℕ) (n m : ℕ) → n ≡ m → Ordered bytes cursors seg n → Ordered bytes cursors seg m
  ordered_at seg n m e o = subst (λ (x : ℕ). Ordered bytes cursors seg x) e o

count-one : (x v : ℕ) → count x (v ∷ []) ≡ one (eqb x v)
unfolding count
count-one x v = omega arith

count-put : (seg : List ℕ) (n v x : ℕ) → n < length seg → count x (take (n + 1) (set seg n v)) ≡ count x (take n seg) + one (eqb x v)
count-put seg n v x h =
    let e : take (n + 1) (set seg n v) ≡ take n seg ++ (v ∷ []) = ap (λ (m : ℕ). take m (set seg n v)) (add-one n) ∙ take-suc-set seg n v h in
    ap (count x) e ∙ count-append x (take n seg) (v ∷ []) ∙ ap (λ (m : ℕ). count x (take n seg) + m) (count-one x v)

count-more : (seg : List ℕ) (n x : ℕ) → n < length seg → count x (take (n + 1) seg) ≡ count x (take n seg) + one (eqb x (get_or seg n 0))
count-more seg n x h =
    let e : take (n + 1) seg ≡ take n seg ++ (get_or seg n 0 ∷ []) = ap (λ (m : ℕ). take m seg) (add-one n) ∙ take-suc seg n 0 h in
    ap (count x) e ∙ count-append x (take n seg) (get_or seg n 0 ∷ []) ∙ ap (λ (m : ℕ). count x (take n seg) + m) (count-one x (get_or seg n 0))

-- the last of n + 1 numbers takes the place of the first
count-drop : (seg : List ℕ) (n x : ℕ) → n < length seg → count x (take n (set seg 0 (get_or seg n 0))) + one (eqb x (get_or seg 0 0)) ≡ count x (take (n + 1) seg)
count-drop seg zero x h = sym (count-more seg 0 x h)
count-drop seg (suc n) x h =
    let v : ℕ = get_or seg (suc n) 0 in
    let l : List ℕ = take (suc n) seg in
    let e : take (suc n) (set seg 0 v) ≡ set l 0 v = take-set-lt (suc n) seg 0 v (omega arith) in
    let f : count x (set l 0 v) + one (eqb x (get_or l 0 0)) ≡ count x l + one (eqb x v) = count_set x l 0 v (rw (length-take-le (suc n) seg (omega arith)) (omega arith)) in
    let g : one (eqb x (get_or l 0 0)) ≡ one (eqb x (get_or seg 0 0)) = ap (λ (z : ℕ). one (eqb x z)) (get_or-take (suc n) seg 0 0 (omega arith)) in
    let k : count x (take (suc n + 1) seg) ≡ count x l + one (eqb x v) = count-more seg (suc n) x h in
    let m : count x (take (suc n) (set seg 0 v)) ≡ count x (set l 0 v) = ap (count x) e in
    omega arith

module _ (bytes : List ℕ) (cursors : List Cursor) where
  pub pushed : (h r : Heap) (s : ℕ) → length h.seg ≡ 256 → h.len < 256 → r.len ≡ h.len + 1 → Risen bytes cursors (set h.seg h.len s) (h.len + 1) r.seg → Pushed bytes cursors h s r
  pushed h r s l k n g =
      record {
        len = n;
        in_heap_order = ordered_at bytes cursors r.seg (h.len + 1) r.len (sym n) g.in_heap_order;
        holds = λ x. ap (λ (z : ℕ). count x (take z r.seg)) n ∙ g.holds x ∙ count-put h.seg h.len s x (omega arith);
      }

-- ---- the top stays or leaves

module _ (cursors : List Cursor) (seg : List ℕ) (len : ℕ) where
  abbrev lives : Bool
  lives = top_lives cursors seg

  pub top_stays : (cursor_in cursors (get_or seg 0 0)).pos < (cursor_in cursors (get_or seg 0 0)).end → (len ≡ kept_len cursors seg len) × (seg ≡ kept_numbers cursors seg len)
  unfolding kept_len kept_numbers
  top_stays l =
      let e : lives ≡ true = lt-ltb (cursor_in cursors (get_or seg 0 0)).pos (cursor_in cursors (get_or seg 0 0)).end l in
      (sym (ap (λ (b : Bool). cond b len (len - 1)) e), sym (ap (λ (b : Bool). cond b seg (set seg 0 (get_or seg (len - 1) 0))) e))

  pub top_leaves : (cursor_in cursors (get_or seg 0 0)).end ≤ (cursor_in cursors (get_or seg 0 0)).pos → (len - 1 ≡ kept_len cursors seg len) × (set seg 0 (get_or seg (len - 1) 0) ≡ kept_numbers cursors seg len)
  unfolding kept_len kept_numbers
  top_leaves l =
      let e : lives ≡ false = le-ltb (cursor_in cursors (get_or seg 0 0)).pos (cursor_in cursors (get_or seg 0 0)).end l in
      (sym (ap (λ (b : Bool). cond b len (len - 1)) e), sym (ap (λ (b : Bool). cond b seg (set seg 0 (get_or seg (len - 1) 0))) e))

  pub kept-long : length seg ≡ 256 → length (kept_numbers cursors seg len) ≡ 256
  unfolding kept_numbers
  kept-long h = go lives
    where
      go : (b : Bool) → length (cond b seg (set seg 0 (get_or seg (len - 1) 0))) ≡ 256
      go true = h
      go false = length-set seg 0 (get_or seg (len - 1) 0) ∙ h

  pub kept-few : kept_len cursors seg len ≤ len
  unfolding kept_len
  kept-few = go lives
    where
      go : (b : Bool) → cond b len (len - 1) ≤ len
      go true = omega arith
      go false = omega arith

  -- what is left is in order but for the one at the first place
  module _ (bytes : List ℕ) (some : 0 < len) where
    pub kept_sinking : Sinking bytes cursors seg 0 len → Sinking bytes cursors (kept_numbers cursors seg len) 0 (kept_len cursors seg len)
    unfolding kept_len kept_numbers
    kept_sinking o = go lives
      where
        go : (b : Bool) → Sinking bytes cursors (cond b seg (set seg 0 (get_or seg (len - 1) 0))) 0 (cond b len (len - 1))
        go true = o
        go false = down_start bytes cursors seg (get_or seg (len - 1) 0) (len - 1) (subst (λ (n : ℕ). Sinking bytes cursors seg 0 n) (let e : len ≡ len - 1 + 1 = omega arith in e) o)

    -- and once that one has sunk, in order
    pub settled : {seg' : List ℕ} → length seg ≡ 256 → len ≤ 256 → Risen bytes cursors (kept_numbers cursors seg len) (kept_len cursors seg len) seg' → Settled bytes cursors seg len seg' (kept_len cursors seg len)
    unfolding kept_len kept_numbers
    settled {seg'} k m g = go lives refl g
      where
        go : (b : Bool) → lives ≡ b → Risen bytes cursors (cond b seg (set seg 0 (get_or seg (len - 1) 0))) (cond b len (len - 1)) seg' → Settled bytes cursors seg len seg' (cond b len (len - 1))
        go true e g = inl (record { left = ltb-true (cursor_in cursors (get_or seg 0 0)).pos (cursor_in cursors (get_or seg 0 0)).end e; size = refl; long = g.long; in_heap_order = g.in_heap_order; holds = g.holds })
        go false e g =
            let q : len - 1 + 1 ≡ len = omega arith in
            inr
            (record {
              left = ltb-false (cursor_in cursors (get_or seg 0 0)).pos (cursor_in cursors (get_or seg 0 0)).end e;
              size = q;
              long = g.long;
              in_heap_order = g.in_heap_order;
              holds = λ x. ap (λ (y : ℕ). y + one (eqb x (get_or seg 0 0))) (g.holds x) ∙ count-drop seg (len - 1) x (omega arith) ∙ ap (λ (y : ℕ). count x (take y seg)) q;
            })

    -- the same of what the code has: m numbers in seg₁
    module _ {m : ℕ} {seg₁ : List ℕ} (me : m ≡ kept_len cursors seg len) (se : seg₁ ≡ kept_numbers cursors seg len) (long : length seg ≡ 256) (few : len ≤ 256) where
      pub sift_given : Sinking bytes cursors seg 0 len → (length seg₁ ≡ 256) × (m ≤ 256) × Sinking bytes cursors seg₁ 0 m
      sift_given o = (
        ap length se ∙ kept-long long,
        omega (arith, me, kept-few),
        subst (λ (x : List ℕ). Sinking bytes cursors x 0 m) (sym se) (subst (λ (n : ℕ). Sinking bytes cursors (kept_numbers cursors seg len) 0 n) (sym me) (kept_sinking o)),
      )

      pub sift_left : {seg' : List ℕ} → Risen bytes cursors seg₁ m seg' → Settled bytes cursors seg len seg' m
      sift_left {seg'} g =
          subst (λ (n : ℕ). Settled bytes cursors seg len seg' n) (sym me)
          (settled long few (subst (λ (n : ℕ). Risen bytes cursors (kept_numbers cursors seg len) n seg') me (subst (λ (x : List ℕ). Risen bytes cursors x m seg') se g)))
