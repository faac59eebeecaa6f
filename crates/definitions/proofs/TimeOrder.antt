-- The time order by counts: it lists each alive row once, so it passes check 9 of an ordered join of the same segments; it is sorted; and it is what taking
-- the first of the rows that are left again and again gives. Assumes nothing.
use Prim.Native.Nat.{ℕ, zero, suc, ◌+◌, ◌≤◌, ◌<◌, zero-le, suc-le-suc}
use native.Mathlib.Nat.{le_trans, le_of_eq, le_of_suc-le-suc, not-suc-le-zero, add-zero, zero-add, suc-add}
use native.Mathlib.Omega.{arith}
use mathlib.Core.Path.{◌≡◌, refl, sym, ap, ◌∙◌, subst}
use mathlib.Core.List.{List, [], ◌∷◌, ◌++◌, map}
use mathlib.Core.Bool.{Bool, true, false, not, cond, ◌||◌, ◌&&◌, false≢true, or-true, and-eq-true_iff}
use lib.ListN.{length, get_or}
use lib.Dec.{T, eqb, ltb, ltb→lt}
use lib.Arith.{lt_of_le-ne}
use lib.Ieee.Bits.{is_true}
use borrow.Author.Tests.{eq-eqb, ne_eqb, lt-ltb, ltb-true, ltb-false, eqb-true, eqb-false, not-false}
use Rattle.definitions.specs.Lists.{up_from, up_to, all, any, filter, count, sum, is_empty}
use Rattle.definitions.specs.Segment.{Segment, Address, Input, segments_of, address as at}
use Rattle.definitions.specs.Row.{is_alive, alive_rows}
use Rattle.definitions.specs.Join.{absent, rows_of, stacked_from}
use Rattle.definitions.specs.Answer.{same_address, is_listed, is_repeated, is_alive_at, alive_addresses, lists_alive_rows, addresses_wrong}
use Rattle.definitions.specs.TimeOrder.{key_of, is_before, insert_address, sort_addresses, time_order, in_order_from, in_time_order, IsTimeOrder}
use Rattle.definitions.proofs.Accept.{same_address_lem}
use Rattle.definitions.proofs.Lists.{and3, and-fails}

-- ---- counts

one_more : (b : Bool) {m : ℕ} (n k : ℕ) → m ≡ n + k → cond b (suc m) m ≡ cond b (suc n) n + k
one_more true n k e = ap suc e ∙ sym (suc-add n k)
one_more false n k e = e

counted : (b : Bool) {m n : ℕ} → m ≡ n → cond b (suc m) m ≡ cond b (suc n) n
counted true e = ap suc e
counted false e = e

-- what is known where a test is counted
none_head : (b : Bool) {n : ℕ} → cond b (suc n) n ≡ 0 → (b ≡ false) × (n ≡ 0)
none_head true e = absurd (omega arith)
none_head false e = (refl, e)

module _ {A : Type 0} (p : A → Bool) where
  pub count-append : (xs ys : List A) → count p (xs ++ ys) ≡ count p xs + count p ys
  count-append [] ys = sym (zero-add (count p ys))
  count-append (x ∷ xs) ys = one_more (p x) (count p xs) (count p ys) (count-append xs ys)

  pub filter-count : (xs : List A) → length (filter p xs) ≡ count p xs
  filter-count [] = refl
  filter-count (x ∷ xs) = go (p x) (filter-count xs)
    where
      go : (b : Bool) → length (filter p xs) ≡ count p xs → length (cond b (x ∷ filter p xs) (filter p xs)) ≡ cond b (suc (count p xs)) (count p xs)
      go true e = ap suc e
      go false e = e

  any_none : (xs : List A) → count p xs ≡ 0 → any p xs ≡ false
  any_none [] e = refl
  any_none (x ∷ xs) e = let t = none_head (p x) e in rw t.0 (any_none xs t.1)

  any_some : (xs : List A) → 0 < count p xs → any p xs ≡ true
  any_some [] h = absurd (not-suc-le-zero h)
  any_some (x ∷ xs) h = go (p x) h (λ k. any_some xs k)
    where
      go : (b : Bool) → 0 < cond b (suc (count p xs)) (count p xs) → (0 < count p xs → any p xs ≡ true) → b || any p xs ≡ true
      go true h f = refl
      go false h f = f h

  pub all_filter : (f : A → Bool) (xs : List A) → ((x : A) → p x ≡ true → f x ≡ true) → all f (filter p xs) ≡ true
  all_filter f [] h = refl
  all_filter f (x ∷ xs) h = go (p x) refl (all_filter f xs h)
    where
      go : (b : Bool) → p x ≡ b → all f (filter p xs) ≡ true → all f (cond b (x ∷ filter p xs) (filter p xs)) ≡ true
      go true e k = rw (h x e) k
      go false e k = k

-- all pass where none fails, and the other way
all_none : {A : Type 0} (p : A → Bool) (xs : List A) → count (λ x. not (p x)) xs ≡ 0 → all p xs ≡ true
all_none p [] e = refl
all_none p (x ∷ xs) e =
    let t = none_head (not (p x)) e in
    rw (not-false (p x) t.0) (all_none p xs t.1)

none-all : {A : Type 0} (p : A → Bool) (xs : List A) → all p xs ≡ true → count (λ x. not (p x)) xs ≡ 0
none-all p [] e = refl
none-all p (x ∷ xs) e = go (p x) e (λ k. none-all p xs k)
  where
    go : (b : Bool) → b && all p xs ≡ true → (all p xs ≡ true → count (λ x. not (p x)) xs ≡ 0)
        → cond (not b) (suc (count (λ x. not (p x)) xs)) (count (λ x. not (p x)) xs) ≡ 0
    go true e f = f e
    go false e f = absurd (false≢true e)

pub filter_same : {A : Type 0} (p q : A → Bool) (xs : List A) → ((x : A) → p x ≡ q x) → filter p xs ≡ filter q xs
filter_same p q [] h = refl
filter_same p q (x ∷ xs) h = rw (h x, filter_same p q xs h)

pub filter-nothing : {A : Type 0} (p : A → Bool) (xs : List A) → ((x : A) → p x ≡ false) → filter p xs ≡ []
filter-nothing p [] h = refl
filter-nothing p (x ∷ xs) h = rw (h x) (filter-nothing p xs h)

-- ---- the sort only moves the elements

module _ (ss : List Segment) where
  count-insert : (p : Address → Bool) (a : Address) (bs : List Address) → count p (insert_address ss a bs) ≡ count p (a ∷ bs)
  count-insert p a [] = refl
  count-insert p a (b ∷ bs) = go (is_before ss a b) (count-insert p a bs)
    where
      swap : (u v : Bool) (m n : ℕ) → m ≡ cond u (suc n) n → cond v (suc m) m ≡ cond u (suc (cond v (suc n) n)) (cond v (suc n) n)
      swap true true m n e = ap suc e
      swap true false m n e = e
      swap false true m n e = ap suc e
      swap false false m n e = e

      go : (t : Bool) → count p (insert_address ss a bs) ≡ count p (a ∷ bs) → count p (cond t (a ∷ b ∷ bs) (b ∷ insert_address ss a bs)) ≡ count p (a ∷ b ∷ bs)
      go true e = refl
      go false e = swap (p a) (p b) (count p (insert_address ss a bs)) (count p bs) e

  pub count_sort : (p : Address → Bool) (bs : List Address) → count p (sort_addresses ss bs) ≡ count p bs
  count_sort p [] = refl
  count_sort p (a ∷ bs) = count-insert p a (sort_addresses ss bs) ∙ counted (p a) (count_sort p bs)

  all_sort : (p : Address → Bool) (bs : List Address) → all p bs ≡ true → all p (sort_addresses ss bs) ≡ true
  all_sort p bs e = all_none p (sort_addresses ss bs) (count_sort (λ a. not (p a)) bs ∙ none-all p bs e)

  count_every : (bs : List Address) → count (λ a. true) bs ≡ length bs
  count_every [] = refl
  count_every (b ∷ bs) = ap suc (count_every bs)

  pub length_sort : (bs : List Address) → length (sort_addresses ss bs) ≡ length bs
  length_sort bs = sym (count_every (sort_addresses ss bs)) ∙ count_sort (λ a. true) bs ∙ count_every bs

  -- a list whose elements all come after a
  insert-first : (a : Address) (bs : List Address) → all (is_before ss a) bs ≡ true → insert_address ss a bs ≡ a ∷ bs
  insert-first a [] e = refl
  insert-first a (b ∷ bs) e = go (is_before ss a b) e
    where
      go : (t : Bool) → t && all (is_before ss a) bs ≡ true → cond t (a ∷ b ∷ bs) (b ∷ insert_address ss a bs) ≡ a ∷ b ∷ bs
      go true e = refl
      go false e = absurd (false≢true e)

-- ---- a is in the list once, and comes before whatever else passes p; q passes the same but for a

module _ (ss : List Segment) (a : Address) (p q : Address → Bool) (pa : p a ≡ true) (qa : q a ≡ false)
    (others : (b : Address) → same_address a b ≡ false → p b ≡ q b)
    (first : (b : Address) → same_address a b ≡ false → p b ≡ true → (is_before ss b a ≡ false) × (is_before ss a b ≡ true)) where
  rest-same : (bs : List Address) → count (same_address a) bs ≡ 0 → filter p bs ≡ filter q bs
  rest-same [] e = refl
  rest-same (b ∷ bs) e = let t = none_head (same_address a b) e in rw (others b t.0, rest-same bs t.1)

  rest-after : (bs : List Address) → count (same_address a) bs ≡ 0 → all (is_before ss a) (filter p bs) ≡ true
  rest-after [] e = refl
  rest-after (b ∷ bs) e = let t = none_head (same_address a b) e in go (p b) refl t.0 (rest-after bs t.1)
    where
      go : (u : Bool) → p b ≡ u → same_address a b ≡ false → all (is_before ss a) (filter p bs) ≡ true → all (is_before ss a) (cond u (b ∷ filter p bs) (filter p bs)) ≡ true
      go true k d f = rw (first b d k).1 f
      go false k d f = f

  pub take-first : (bs : List Address) → count (same_address a) bs ≡ 1 → sort_addresses ss (filter p bs) ≡ a ∷ sort_addresses ss (filter q bs)
  take-first [] e = absurd (omega arith)
  take-first (b ∷ bs) e = go (same_address a b) refl e (λ k. take-first bs k)
    where
      here : b ≡ a → count (same_address a) bs ≡ 0 → sort_addresses ss (filter p (b ∷ bs)) ≡ a ∷ sort_addresses ss (filter q (b ∷ bs))
      here s z =
          rw (s, pa, qa)
          (insert-first ss a (sort_addresses ss (filter p bs)) (all_sort ss (is_before ss a) (filter p bs) (rest-after bs z))
          ∙ ap (λ (l : List Address). a ∷ sort_addresses ss l) (rest-same bs z))

      there : (u : Bool) → p b ≡ u → q b ≡ u → same_address a b ≡ false → sort_addresses ss (filter p bs) ≡ a ∷ sort_addresses ss (filter q bs)
          → sort_addresses ss (cond u (b ∷ filter p bs) (filter p bs)) ≡ a ∷ sort_addresses ss (cond u (b ∷ filter q bs) (filter q bs))
      there true k l d f = ap (insert_address ss b) f ∙ ap (λ (t : Bool). cond t (b ∷ a ∷ sort_addresses ss (filter q bs)) (a ∷ insert_address ss b (sort_addresses ss (filter q bs)))) (first b d k).0
      there false k l d f = f

      go : (t : Bool) → same_address a b ≡ t → cond t (suc (count (same_address a) bs)) (count (same_address a) bs) ≡ 1
          → (count (same_address a) bs ≡ 1 → sort_addresses ss (filter p bs) ≡ a ∷ sort_addresses ss (filter q bs))
          → sort_addresses ss (filter p (b ∷ bs)) ≡ a ∷ sort_addresses ss (filter q (b ∷ bs))
      go true s e f = here (sym (same_address_lem a b s)) (let z : count (same_address a) bs ≡ 0 = omega arith in z)
      go false s e f = rw (sym (others b s)) (there (p b) refl (sym (others b s)) s (f e))

-- ---- all rows, segment after segment: each once

count-absent : (a : Address) (n u m : ℕ) → (a.segment ≡ n → ⊥) → count (same_address a) (map (at n) (up_from u m)) ≡ 0
count-absent a n u zero d = refl
count-absent a n u (suc m) d = rw (ne_eqb a.segment n d) (count-absent a n (suc u) m d)

count_past : (a : Address) (n u m : ℕ) → a.row < u → count (same_address a) (map (at n) (up_from u m)) ≡ 0
count_past a n u zero h = refl
count_past a n u (suc m) h =
    rw (and-fails (eqb a.segment n) (eqb a.row u) (ne_eqb a.row u (λ e. omega arith))) (count_past a n (suc u) m (omega arith))

count-row : (a : Address) (n u m : ℕ) → a.segment ≡ n → u ≤ a.row → a.row < u + m → count (same_address a) (map (at n) (up_from u m)) ≡ 1
count-row a n u zero e l h = absurd (omega arith)
count-row a n u (suc m) e l h = go (eqb a.row u) refl (λ k. count-row a n (suc u) m e k (omega arith))
  where
    go : (b : Bool) → eqb a.row u ≡ b → (suc u ≤ a.row → count (same_address a) (map (at n) (up_from (suc u) m)) ≡ 1)
        → count (same_address a) (map (at n) (up_from u (suc m))) ≡ 1
    go true k f =
        let r = eqb-true a.row u k in
        rw (eq-eqb a.segment n e, k) (ap suc (count_past a n (suc u) m (omega arith)))
    go false k f = rw (eq-eqb a.segment n e, k) (f (let d = eqb-false a.row u k in differ u a.row l (λ x. d (sym x))))
      where
        differ : (x y : ℕ) → x ≤ y → (x ≡ y → ⊥) → suc x ≤ y
        differ x y h d = ltb-true x y (go2 (ltb x y) refl)
          where
            go2 : (t : Bool) → ltb x y ≡ t → t ≡ true
            go2 true e = refl
            go2 false e = absurd (d (let k = ltb-false x y e in omega arith))

stacked-before : (a : Address) (n : ℕ) (ss : List Segment) → a.segment < n → count (same_address a) (stacked_from n ss) ≡ 0
stacked-before a n [] h = refl
stacked-before a n (s ∷ ss) h =
    let e = count-absent a n 0 s.rows (λ k. omega arith) in
    let f = stacked-before a (suc n) ss (omega arith) in
    count-append (same_address a) (rows_of n s) (stacked_from (suc n) ss) ∙ (omega arith)

stacked_once : (a : Address) (n k : ℕ) (ss : List Segment) → a.segment ≡ n + k → k < length ss → a.row < (get_or ss k absent).rows → count (same_address a) (stacked_from n ss) ≡ 1
stacked_once a n k [] e h l = absurd (not-suc-le-zero h)
stacked_once a n zero (s ∷ ss) e h l =
    let i = count-row a n 0 s.rows (omega arith) zero-le (omega arith) in
    let f = stacked-before a (suc n) ss (omega arith) in
    count-append (same_address a) (rows_of n s) (stacked_from (suc n) ss) ∙ (omega arith)
stacked_once a n (suc k) (s ∷ ss) e h l =
    let i = count-absent a n 0 s.rows (λ x. omega arith) in
    let f = stacked_once a (suc n) k ss (omega arith) (le_of_suc-le-suc h) l in
    count-append (same_address a) (rows_of n s) (stacked_from (suc n) ss) ∙ (omega arith)

-- what an alive address says
pub record Alive (ss : List Segment) (a : Address) : Type 0 where
  pub segment : a.segment < length ss
  pub row : a.row < (get_or ss a.segment absent).rows
  pub alive : is_alive (get_or ss a.segment absent) a.row ≡ true

pub alive_back : (ss : List Segment) (a : Address) → is_alive_at ss a ≡ true → Alive ss a
unfolding is_alive_at
alive_back ss a e =
    let t = and3 (ltb a.segment (length ss)) (ltb a.row (get_or ss a.segment absent).rows) (is_alive (get_or ss a.segment absent) a.row) (subst T (sym e) tt) in
    record {
      segment = ltb→lt a.segment (length ss) t.0;
      row = ltb→lt a.row (get_or ss a.segment absent).rows t.1;
      alive = is_true (is_alive (get_or ss a.segment absent) a.row) t.2;
    }

pub alive-at : (ss : List Segment) (a : Address) → Alive ss a → is_alive_at ss a ≡ true
unfolding is_alive_at
alive-at ss a v = rw (lt-ltb a.segment (length ss) v.segment, lt-ltb a.row (get_or ss a.segment absent).rows v.row, v.alive)

pub alive_once : (ss : List Segment) (a : Address) → Alive ss a → count (same_address a) (stacked_from 0 ss) ≡ 1
alive_once ss a v = stacked_once a 0 a.segment ss (sym (zero-add a.segment)) v.segment v.row

-- ---- the time order is accepted as the row order of an ordered join of the same segments

pub same_self : (a : Address) → same_address a a ≡ true
same_self a = rw (eq-eqb a.segment a.segment refl, eq-eqb a.row a.row refl)

count-filter : (p : Address → Bool) (a : Address) (bs : List Address) → count (same_address a) (filter p bs) ≡ cond (p a) (count (same_address a) bs) 0
count-filter p a [] = go (p a)
  where
    go : (b : Bool) → ◌≡◌ {A = ℕ} 0 (cond b 0 0)
    go true = refl
    go false = refl
count-filter p a (b ∷ bs) = go (same_address a b) refl (count-filter p a bs)
  where
    n : ℕ
    n = count (same_address a) bs

    same : (u : Bool) → same_address a b ≡ true → count (same_address a) (filter p bs) ≡ cond u n 0 → count (same_address a) (cond u (b ∷ filter p bs) (filter p bs)) ≡ cond u (suc n) 0
    same true s e = rw s (ap suc e)
    same false s e = e

    other : (u v : Bool) → same_address a b ≡ false → count (same_address a) (filter p bs) ≡ cond v n 0 → count (same_address a) (cond u (b ∷ filter p bs) (filter p bs)) ≡ cond v n 0
    other true v s e = rw s e
    other false v s e = e

    go : (t : Bool) → same_address a b ≡ t → count (same_address a) (filter p bs) ≡ cond (p a) n 0 → count (same_address a) (filter p (b ∷ bs)) ≡ cond (p a) (count (same_address a) (b ∷ bs)) 0
    go true s e = rw (s, sym (ap p (same_address_lem a b s))) (same (p a) s e)
    go false s e = rw s (other (p b) (p a) s e)

-- no address is in the list twice
abbrev EachOnce : List Address → Type 0
EachOnce bs = (a : Address) → count (same_address a) bs ≤ 1

first_once : (b : Address) (bs : List Address) → EachOnce (b ∷ bs) → count (same_address b) bs ≡ 0
first_once b bs h = let t : suc (count (same_address b) bs) ≤ 1 = rw (same_self b) at (h b) in omega arith

rest_once : (b : Address) (bs : List Address) → EachOnce (b ∷ bs) → EachOnce bs
rest_once b bs h a = le_trans (grown (same_address a b) (count (same_address a) bs)) (h a)
  where
    grown : (t : Bool) (n : ℕ) → n ≤ cond t (suc n) n
    grown true n = omega arith
    grown false n = omega arith

not_repeated : (bs : List Address) → EachOnce bs → is_repeated bs ≡ false
not_repeated [] h = refl
not_repeated (b ∷ bs) h = rw (any_none (same_address b) bs (first_once b bs h)) (not_repeated bs (rest_once b bs h))

-- no alive row is there twice
alive-each_once : (ss : List Segment) → EachOnce (alive_addresses ss)
unfolding alive_addresses
alive-each_once ss a = most a (is_alive_at ss a) refl
  where
    most : (a : Address) (b : Bool) → is_alive_at ss a ≡ b → count (same_address a) (filter (is_alive_at ss) (stacked_from 0 ss)) ≤ 1
    most a true e = let k : count (same_address a) (filter (is_alive_at ss) (stacked_from 0 ss)) ≡ 1 = count-filter (is_alive_at ss) a (stacked_from 0 ss) ∙ ap (λ (b : Bool). cond b (count (same_address a) (stacked_from 0 ss)) 0) e ∙ alive_once ss a (alive_back ss a e) in omega arith
    most a false e = let k : count (same_address a) (filter (is_alive_at ss) (stacked_from 0 ss)) ≡ 0 = count-filter (is_alive_at ss) a (stacked_from 0 ss) ∙ ap (λ (b : Bool). cond b (count (same_address a) (stacked_from 0 ss)) 0) e in omega arith

pub alive_distinct : (ss : List Segment) → is_repeated (alive_addresses ss) ≡ false
alive_distinct ss = not_repeated (alive_addresses ss) (alive-each_once ss)

pub count-order : (ss : List Segment) (a : Address) → count (same_address a) (time_order ss) ≡ cond (is_alive_at ss a) (count (same_address a) (stacked_from 0 ss)) 0
unfolding time_order alive_addresses
count-order ss a = count_sort ss (same_address a) (filter (is_alive_at ss) (stacked_from 0 ss)) ∙ count-filter (is_alive_at ss) a (stacked_from 0 ss)

order_once : (ss : List Segment) (a : Address) → is_alive_at ss a ≡ true → count (same_address a) (time_order ss) ≡ 1
order_once ss a e = count-order ss a ∙ ap (λ (b : Bool). cond b (count (same_address a) (stacked_from 0 ss)) 0) e ∙ alive_once ss a (alive_back ss a e)

pub order-accepted : (ss : List Segment) → lists_alive_rows ss (time_order ss) ≡ true
unfolding lists_alive_rows time_order alive_addresses
order-accepted ss =
    let once : EachOnce (time_order ss) = λ a. le_trans (le_of_eq (count_sort ss (same_address a) (alive_addresses ss))) (alive-each_once ss a) in
    rw (all_sort ss (is_alive_at ss) (filter (is_alive_at ss) (stacked_from 0 ss)) (all_filter (is_alive_at ss) (is_alive_at ss) (stacked_from 0 ss) (λ a e. e)), not_repeated (time_order ss) once)
    (all_filter (is_alive_at ss) (λ a. is_listed a (time_order ss)) (stacked_from 0 ss) (λ a e. any_some (same_address a) (time_order ss) (let k = order_once ss a e in omega arith)))

pub order-joins : (i : Input) → eqb i.mode 0 ≡ false → i.addresses ≡ time_order (segments_of i) → addresses_wrong i ≡ false
unfolding addresses_wrong
order-joins i m e =
    ap (λ (b : Bool). not (cond b (is_empty i.addresses) (lists_alive_rows (segments_of i) i.addresses))) m
    ∙ ap not (ap (lists_alive_rows (segments_of i)) e ∙ order-accepted (segments_of i))

-- ---- the time order is sorted

-- two that are compared by a number, and where it is the same by what comes next: if one is not before, the other is
other-first : (k l : ℕ) (x y : Bool) → (eqb k l ≡ true → x ≡ false → y ≡ true) → ltb k l || (eqb k l && x) ≡ false → ltb l k || (eqb l k && y) ≡ true
other-first k l x y next e = go (ltb k l) (eqb k l) refl refl e
  where
    go : (u v : Bool) → ltb k l ≡ u → eqb k l ≡ v → u || (v && x) ≡ false → ltb l k || (eqb l k && y) ≡ true
    go true v p q e = absurd (false≢true (sym e))
    go false true p q e = rw (eq-eqb l k (sym (eqb-true k l q)), next q e) (or-true (ltb l k))
    go false false p q e = rw (lt-ltb l k (lt_of_le-ne (ltb-false k l p) (λ z. eqb-false k l q (sym z))))

last-first : (r u : ℕ) → eqb r u ≡ false → ltb r u ≡ false → ltb u r ≡ true
last-first r u d e = lt-ltb u r (lt_of_le-ne (ltb-false r u e) (λ z. eqb-false r u d (sym z)))

module _ (ss : List Segment) where
  total : (a b : Address) → same_address a b ≡ false → is_before ss a b ≡ false → is_before ss b a ≡ true
  unfolding is_before
  total a b d =
      other-first (key_of ss a) (key_of ss b) _ _
      (λ _. other-first a.segment b.segment _ _ (λ q. last-first a.row b.row (subst (λ (t : Bool). t && eqb a.row b.row ≡ false) q d)))

  -- after c, and after the rows in order that follow c
  insert-from : (c a : Address) (bs : List Address) → count (same_address a) bs ≡ 0 → is_before ss c a ≡ true → in_order_from ss c bs ≡ true → in_order_from ss c (insert_address ss a bs) ≡ true
  insert-from c a [] z h o = rw h
  insert-from c a (b ∷ bs) z h o =
      let d = none_head (same_address a b) z in
      let o = (and-eq-true_iff (is_before ss c b) (in_order_from ss b bs)).0 o in
      go (is_before ss a b) refl o.0 o.1 (λ k. insert-from b a bs d.1 (total a b d.0 k) o.1)
    where
      go : (t : Bool) → is_before ss a b ≡ t → is_before ss c b ≡ true → in_order_from ss b bs ≡ true → (is_before ss a b ≡ false → in_order_from ss b (insert_address ss a bs) ≡ true)
          → in_order_from ss c (cond t (a ∷ b ∷ bs) (b ∷ insert_address ss a bs)) ≡ true
      go true k l o f = rw (h, k, o)
      go false k l o f = rw (l, f k)

  insert_in_order : (a : Address) (bs : List Address) → count (same_address a) bs ≡ 0 → in_time_order ss bs ≡ true → in_time_order ss (insert_address ss a bs) ≡ true
  insert_in_order a [] z o = refl
  insert_in_order a (b ∷ bs) z o = let d = none_head (same_address a b) z in go (is_before ss a b) refl (λ k. insert-from b a bs d.1 (total a b d.0 k) o)
    where
      go : (t : Bool) → is_before ss a b ≡ t → (is_before ss a b ≡ false → in_order_from ss b (insert_address ss a bs) ≡ true) → in_time_order ss (cond t (a ∷ b ∷ bs) (b ∷ insert_address ss a bs)) ≡ true
      go true k f = rw (k, o)
      go false k f = f k

  sort_in_order : (bs : List Address) → EachOnce bs → in_time_order ss (sort_addresses ss bs) ≡ true
  sort_in_order [] h = refl
  sort_in_order (a ∷ bs) h = insert_in_order a (sort_addresses ss bs) (count_sort ss (same_address a) bs ∙ first_once a bs h) (sort_in_order bs (rest_once a bs h))

pub order-sorted : (ss : List Segment) → IsTimeOrder ss (time_order ss)
unfolding time_order
order-sorted ss = record { alive = order-accepted ss; rising = sort_in_order ss (alive_addresses ss) (alive-each_once ss) }

-- ---- how many addresses there are

count-rows : (f : Address → Bool) (s : Segment) (n u m : ℕ) → ((r : ℕ) → r < u + m → f (at n r) ≡ is_alive s r) → count f (map (at n) (up_from u m)) ≡ count (is_alive s) (up_from u m)
count-rows f s n u zero h = refl
count-rows f s n u (suc m) h = rw (h u (omega arith)) (counted (is_alive s u) (count-rows f s n (suc u) m (λ r l. h r (omega arith))))

count-stacked : (f : Address → Bool) (n : ℕ) (ss : List Segment) → ((k r : ℕ) → k < length ss → r < (get_or ss k absent).rows → f (at (n + k) r) ≡ is_alive (get_or ss k absent) r)
    → count f (stacked_from n ss) ≡ sum (map (λ s. length (alive_rows s)) ss)
unfolding alive_rows
count-stacked f n [] h = refl
count-stacked f n (s ∷ ss) h =
    let a : count f (rows_of n s) ≡ count (is_alive s) (up_to s.rows) =
    count-rows f s n 0 s.rows (λ r l. ap (λ (x : ℕ). f (at x r)) (sym (add-zero n)) ∙ h 0 r (suc-le-suc zero-le) (omega arith)) in
    let b = count-stacked f (suc n) ss (λ k r l m. ap (λ (x : ℕ). f (at x r)) (let e : suc n + k ≡ n + suc k = omega arith in e) ∙ h (suc k) r (suc-le-suc l) m) in
    let c = filter-count (is_alive s) (up_to s.rows) in
    count-append f (rows_of n s) (stacked_from (suc n) ss) ∙ (omega arith)

pub alive-total : (ss : List Segment) → length (alive_addresses ss) ≡ sum (map (λ s. length (alive_rows s)) ss)
unfolding alive_addresses is_alive_at
alive-total ss =
    filter-count (is_alive_at ss) (stacked_from 0 ss)
    ∙ count-stacked (is_alive_at ss) 0 ss
    (λ k r h l. ap (λ (x : ℕ). is_alive_at ss (at x r)) (zero-add k) ∙ rw (lt-ltb k (length ss) h, lt-ltb r (get_or ss k absent).rows l) refl)

pub order-length : (ss : List Segment) → length (time_order ss) ≡ length (alive_addresses ss)
unfolding time_order
order-length ss = length_sort ss (alive_addresses ss)
