-- Laws of tests, members, maps and numbers in sequence that the others share. Assumes nothing.
use Prim.Native.Nat.{ℕ, zero, suc, ◌+◌, ◌≤◌, ◌<◌, zero-le}
use native.Mathlib.Nat.{le_trans, le_of_suc-le-suc, not-suc-le-zero, le-max_left, le-max_right, max-le, zero-add, add-zero, suc-add, add-suc}
use native.Mathlib.Omega.{arith}
use mathlib.Core.Path.{◌≡◌, refl, sym, ap, ap₂, ◌∙◌, subst}
use mathlib.Core.List.Memᴰ
use mathlib.Core.List.{List, [], ◌∷◌, ◌++◌, map, append_assoc, Memᴰ}
use mathlib.Core.Bool.{Bool, true, false, cond, ◌||◌, ◌&&◌, false≢true, or_assoc}
use lib.ListN.{length, get_or, length-append, length-map}
use lib.Dec.{T, eqb, eqb→eq, eqb_refl}
use lib.Ieee.Fits.{and_i, and_l, and_r}
use lib.Ieee.Bits.{is_true}
use Rattle.definitions.specs.Lists.{sum, up_from, up_to, all, any, filter, concat, elem, greatest}

-- ---- tests

pub or-both : (a : Bool) {b : Bool} → a ≡ false → b ≡ false → a || b ≡ false
or-both true p q = p
or-both false p q = q

pub or_left : (a b : Bool) → a || b ≡ false → a ≡ false
or_left true b e = absurd (false≢true (sym e))
or_left false b e = refl

pub or_right : (a b : Bool) → a || b ≡ false → b ≡ false
or_right true b e = absurd (false≢true (sym e))
or_right false b e = e

pub or-holds : (a b : Bool) → b ≡ true → a || b ≡ true
or-holds true b e = refl
or-holds false b e = e

pub and-fails : (b c : Bool) → c ≡ false → b && c ≡ false
and-fails true c e = e
and-fails false c e = refl

pub and3 : (a b c : Bool) → T (a && b && c) → T a × T b × T c
and3 true true true h = (tt, tt, tt)
and3 true true false h = absurd h
and3 true false c h = absurd h
and3 false b c h = absurd h

pub and4 : (a b c d : Bool) → T (a && b && c && d) → T a × T b × T c × T d
and4 a b c d h = let t = and3 a b c (and_l (a && b && c) d h) in (t.0, t.1, t.2, and_r (a && b && c) d h)

-- ---- `any` and `all`, by their members

pub any-true : {A : Type 0} (p : A → Bool) (l : List A) → any p l ≡ true → (x : A) × Memᴰ x l × (p x ≡ true)
any-true p [] e = absurd (false≢true e)
any-true {A} p (x ∷ xs) e = go (p x) refl e (λ f. any-true p xs f)
  where
    go : (b : Bool) → p x ≡ b → b || any p xs ≡ true → (any p xs ≡ true → (y : A) × Memᴰ y xs × (p y ≡ true)) → (y : A) × Memᴰ y (x ∷ xs) × (p y ≡ true)
    go true q e f = (x, Memᴰ.head refl, q)
    go false q e f = let t = f e in (t.0, Memᴰ.tail t.1, t.2)

pub any_false : {A : Type 0} (p : A → Bool) (l : List A) {x : A} → any p l ≡ false → Memᴰ x l → p x ≡ false
any_false {A = A} p [] e x4 = elim x4 [ ]
any_false p (y ∷ ys) e (Memᴰ.head q) = ap p q ∙ or_left (p y) (any p ys) e
any_false p (y ∷ ys) e (Memᴰ.tail m) = any_false p ys (or_right (p y) (any p ys) e) m

pub any_none : {A : Type 0} (p : A → Bool) (l : List A) → ((x : A) → Memᴰ x l → p x ≡ false) → any p l ≡ false
any_none p [] f = refl
any_none p (x ∷ xs) f = rw (f x (Memᴰ.head refl)) (any_none p xs (λ y m. f y (Memᴰ.tail m)))

pub any_mem : {A : Type 0} (p : A → Bool) {x : A} {l : List A} → Memᴰ x l → p x ≡ true → any p l ≡ true
any_mem p (Memᴰ.head {x = y} {xs = ys} q) e = rw (ap p (sym q) ∙ e)
any_mem p (Memᴰ.tail {x = y} {xs = ys} m) e = or-holds (p y) (any p ys) (any_mem p m e)

pub any_append : {A : Type 0} (p : A → Bool) (xs ys : List A) → any p (xs ++ ys) ≡ any p xs || any p ys
any_append p [] ys = refl
any_append p (x ∷ xs) ys = ap (λ (b : Bool). p x || b) (any_append p xs ys) ∙ sym (or_assoc (p x) (any p xs) (any p ys))

pub all_mem : {A : Type 0} (p : A → Bool) (l : List A) {x : A} → T (all p l) → Memᴰ x l → T (p x)
all_mem {A = A} p [] h x4 = elim x4 [ ]
all_mem p (y ∷ ys) h (Memᴰ.head q) = subst (λ z. T (p z)) (sym q) (and_l (p y) (all p ys) h)
all_mem p (y ∷ ys) h (Memᴰ.tail m) = all_mem p ys (and_r (p y) (all p ys) h) m

pub all_of : {A : Type 0} (p : A → Bool) (l : List A) → ((x : A) → Memᴰ x l → T (p x)) → T (all p l)
all_of p [] h = tt
all_of p (x ∷ xs) h = and_i (p x) (all p xs) (h x (Memᴰ.head refl)) (all_of p xs (λ y m. h y (Memᴰ.tail m)))

pub all_map : {A B : Type 0} (p : B → Bool) (f : A → B) (l : List A) → ((x : A) → Memᴰ x l → T (p (f x))) → T (all p (map f l))
all_map p f [] h = tt
all_map p f (x ∷ xs) h = and_i (p (f x)) (all p (map f xs)) (h x (Memᴰ.head refl)) (all_map p f xs (λ y m. h y (Memᴰ.tail m)))

pub get_or_all : {A : Type 0} (p : A → Bool) (l : List A) (k : ℕ) (d : A) → T (all p l) → T (p d) → T (p (get_or l k d))
get_or_all p [] k d h e = e
get_or_all p (x ∷ xs) zero d h e = and_l (p x) (all p xs) h
get_or_all p (x ∷ xs) (suc k) d h e = get_or_all p xs k d (and_r (p x) (all p xs) h) e

-- ---- members

pub mem_at : {A : Type 0} (l : List A) (r : ℕ) (d : A) → r < length l → Memᴰ (get_or l r d) l
mem_at [] r d h = absurd (not-suc-le-zero h)
mem_at (x ∷ xs) zero d h = Memᴰ.head refl
mem_at (x ∷ xs) (suc r) d h = Memᴰ.tail (mem_at xs r d (le_of_suc-le-suc h))

pub mem_map_back : {A B : Type 0} (f : A → B) (l : List A) {y : B} → Memᴰ y (map f l) → (x : A) × Memᴰ x l × (y ≡ f x)
mem_map_back f l m = let t = Memᴰ.of_map f l m in (t.0, t.1, sym t.2)

pub mem-filter : {A : Type 0} (p : A → Bool) {x : A} (l : List A) → p x ≡ true → Memᴰ x l → Memᴰ x (filter p l)
mem-filter {A = A} p {x = x} [] e x3 = elim x3 [ ]
mem-filter p (y ∷ ys) e (Memᴰ.head q) = rw (ap p (sym q) ∙ e) (Memᴰ.head q)
mem-filter p {x} (y ∷ ys) e (Memᴰ.tail m) = go (p y) (mem-filter p ys e m)
  where
    go : (b : Bool) → Memᴰ x (filter p ys) → Memᴰ x (cond b (y ∷ filter p ys) (filter p ys))
    go true k = Memᴰ.tail k
    go false k = k

pub filter_back : {A : Type 0} (p : A → Bool) (l : List A) {x : A} → Memᴰ x (filter p l) → Memᴰ x l × (p x ≡ true)
filter_back p [] m = absurd (Memᴰ.not-nil m)
filter_back p (y ∷ ys) {x} m = go (p y) refl m (λ k. filter_back p ys k)
  where
    go : (b : Bool) → p y ≡ b → Memᴰ x (cond b (y ∷ filter p ys) (filter p ys)) → (Memᴰ x (filter p ys) → Memᴰ x ys × (p x ≡ true))
        → Memᴰ x (y ∷ ys) × (p x ≡ true)
    go true q (Memᴰ.head h) f = (Memᴰ.head h, ap p h ∙ q)
    go true q (Memᴰ.tail k) f = let t = f k in (Memᴰ.tail t.0, t.1)
    go false q k f = let t = f k in (Memᴰ.tail t.0, t.1)

pub mem_elem : (w : ℕ) (l : List ℕ) → Memᴰ w l → elem w l ≡ true
mem_elem w l m = any_mem (eqb w) m (is_true (eqb w w) (eqb_refl w))

pub elem_mem : (n : ℕ) (l : List ℕ) → elem n l ≡ true → Memᴰ n l
elem_mem n l e = let t = any-true (eqb n) l e in Memᴰ.cast (eqb→eq n t.0 (subst T (sym t.2) tt)) t.1

pub greatest_ge : {A : Type 0} (f : A → ℕ) {x : A} {l : List A} → Memᴰ x l → f x ≤ greatest (map f l)
greatest_ge f (Memᴰ.head {x = y} {xs = ys} q) = rw q (le-max_left (f y) (greatest (map f ys)))
greatest_ge f (Memᴰ.tail {x = y} {xs = ys} m) = le_trans (greatest_ge f m) (le-max_right (f y) (greatest (map f ys)))

pub greatest-le : {A : Type 0} (f : A → ℕ) (k : ℕ) (l : List A) → ((x : A) → Memᴰ x l → f x ≤ k) → greatest (map f l) ≤ k
greatest-le f k [] h = zero-le
greatest-le f k (x ∷ xs) h = max-le (h x (Memᴰ.head refl)) (greatest-le f k xs (λ y m. h y (Memᴰ.tail m)))

-- ---- maps

pub get_or_in : {A B : Type 0} (f : A → B) (l : List A) (k : ℕ) (d : B) (e : A) → k < length l → get_or (map f l) k d ≡ f (get_or l k e)
get_or_in f [] k d e h = absurd (not-suc-le-zero h)
get_or_in f (x ∷ xs) zero d e h = refl
get_or_in f (x ∷ xs) (suc k) d e h = get_or_in f xs k d e (le_of_suc-le-suc h)

pub map_mem : {A B : Type 0} (f g : A → B) (l : List A) → ((x : A) → Memᴰ x l → f x ≡ g x) → map f l ≡ map g l
map_mem f g [] h = refl
map_mem {B = B} f g (x ∷ xs) h = ap₂ (λ (y : B) (ys : List B). y ∷ ys) (h x (Memᴰ.head refl)) (map_mem f g xs (λ y m. h y (Memᴰ.tail m)))

pub length-concat : (ls : List (List ℕ)) → length (concat ls) ≡ sum (map length ls)
length-concat [] = refl
length-concat (l ∷ ls) = length-append l (concat ls) ∙ ap (λ (n : ℕ). length l + n) (length-concat ls)

pub concat-append : (xs ys : List (List ℕ)) → concat (xs ++ ys) ≡ concat xs ++ concat ys
concat-append [] ys = refl
concat-append (x ∷ xs) ys = ap (λ (l : List ℕ). x ++ l) (concat-append xs ys) ∙ sym (append_assoc x (concat xs) (concat ys))

-- ---- numbers in sequence

pub length-up_from : (s n : ℕ) → length (up_from s n) ≡ n
length-up_from s zero = refl
length-up_from s (suc n) = ap suc (length-up_from (suc s) n)

pub up_length : {A : Type 0} (f : ℕ → A) (n : ℕ) → length (map f (up_to n)) ≡ n
up_length f n = length-map (up_to n) f ∙ length-up_from 0 n

pub up_at : {A : Type 0} (f : ℕ → A) (d : A) (a n k : ℕ) → k < n → get_or (map f (up_from a n)) k d ≡ f (a + k)
up_at f d a zero k h = absurd (omega arith)
up_at f d a (suc n) zero h = ap f (omega arith)
up_at f d a (suc n) (suc k) h = up_at f d (suc a) n k (le_of_suc-le-suc h) ∙ ap f (omega arith)

pub mem_up_from : (s n k : ℕ) → k < n → Memᴰ (s + k) (up_from s n)
mem_up_from s zero k h = absurd (not-suc-le-zero h)
mem_up_from s (suc n) zero h = Memᴰ.head (add-zero s)
mem_up_from s (suc n) (suc k) h = Memᴰ.tail (subst (λ (m : ℕ). Memᴰ m (up_from (suc s) n)) (suc-add s k ∙ sym (add-suc s k)) (mem_up_from (suc s) n k (le_of_suc-le-suc h)))

pub mem_up_to : (n k : ℕ) → k < n → Memᴰ k (up_to n)
mem_up_to n k h = subst (λ (m : ℕ). Memᴰ m (up_to n)) (zero-add k) (mem_up_from 0 n k h)

pub up_from-below : (s n : ℕ) {k : ℕ} → Memᴰ k (up_from s n) → k < s + n
up_from-below s zero {k = k} x' = elim x' [ ]
up_from-below s (suc n) (Memᴰ.head q) = omega arith
up_from-below s (suc n) {k} (Memᴰ.tail m) = let h : k < suc s + n = up_from-below (suc s) n m in omega arith
