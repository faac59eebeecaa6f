-- The laws of words: terms stand in the order of their keys. Assumes nothing.
use Prim.Native.Nat.{ℕ, zero, suc, ◌+◌, ◌-◌, ◌*◌, ◌%◌, ◌≤◌, ◌<◌, ◌^◌, min, compare, Ordering, zero-le, suc-le-suc}
use native.Mathlib.Nat.{le_refl, lt_of_lt_of_le, add-zero, add-suc, min-eq_left, min-eq_right, suc-mul, mul-le-mul_right, mul_assoc}
use native.Mathlib.Numerals.{add-one}
use native.Mathlib.Omega.{arith}
use mathlib.Core.Path.{◌≡◌, refl, sym, ap, ap₂, ◌∙◌, subst}
use mathlib.Core.Logic.{◌⊎◌, inl, inr, ⊎_elim}
use mathlib.Core.List.{List, [], ◌∷◌}
use lib.ListN.{length, take, drop, get_or, length-take, drop_of_length-le, get_or-eq_default}
use lib.Seq.{drop-cons, drop-drop, get_or-drop, get_or-take}
use lib.Pow.{pow_mono, pow-add, shl_exact}
use Rattle.std.specs.Array.{IsFirstChunk}
use Rattle.std.specs.Int.{w64, from_be_bytes}
use Rattle.lists.proofs.Numbers.{le-lt}
use Rattle.lists.proofs.Parts.{drop-take, run_length}
use Rattle.definitions.specs.Lists.{and_then, compare_bytes}
use Rattle.definitions.proofs.Terms.{Cmp, cmp, is_lt, is_eq, is_gt, Before, CmpBytes, cmp_bytes, before-is, same-is}
use Rattle.term_order.specs.Key.{value_of, word_of, rest_of, term_in, keyed, key_at, Inside, AllBytes}
use Rattle.term_order.specs.declared.Key.{Key}
use Rattle.std.specs.declared.cmp.Ordering as std
use Rattle.std.specs.declared.cmp.Ordering.TheVariants.{Less, Greater}
use Rattle.std.specs.Ordering.{nat_cmp, ordering_then, MatchOrdering}
use Rattle.term_order.specs.Order.{order_of}
use Rattle.term_order.proofs.Laws.{numbers-order}

-- ---- what is known of bytes

pub bytes_drop : (n : ℕ) (t : List ℕ) → AllBytes t → AllBytes (drop n t)
bytes_drop n t b = record { byte = λ i. rw (get_or-drop n t i 0) (b.byte (n + i)) }

pub bytes_take : (n : ℕ) (t : List ℕ) → AllBytes t → AllBytes (take n t)
bytes_take n t b = record { byte = λ i. go i (le-lt i n) }
  where
    go : (i : ℕ) → (i < n) ⊎ (n ≤ i) → get_or (take n t) i 0 < 256
    go i (inl h) = rw (get_or-take n t i 0 h) (b.byte i)
    go i (inr h) = let e : get_or (take n t) i 0 ≡ 0 = get_or-eq_default (take n t) 0 (omega (arith, length-take n t)) in omega arith

pub bytes-in : (bytes : List ℕ) (from till : ℕ) → AllBytes bytes → AllBytes (term_in bytes from till)
bytes-in bytes from till b = bytes_take (till - from) (drop from bytes) (bytes_drop from bytes b)

-- ---- numbers one after another

and_assoc : (o p q : Ordering) → and_then (and_then o p) q ≡ and_then o (and_then p q)
and_assoc Ordering.lt p q = refl
and_assoc Ordering.eq p q = refl
and_assoc Ordering.gt p q = refl

-- x is at most y, and else it is below
low : (x y : ℕ) → x ≤ y → and_then (compare x y) Ordering.lt ≡ Ordering.lt
low x y h = go (compare x y) (cmp x y)
  where
    go : (o : Ordering) → Cmp o x y → and_then o Ordering.lt ≡ Ordering.lt
    go Ordering.lt q = refl
    go Ordering.eq q = refl
    go Ordering.gt q = absurd (omega arith)

-- the same the other way round
high : (x y : ℕ) → y ≤ x → and_then (compare x y) Ordering.gt ≡ Ordering.gt
high x y h = go (compare x y) (cmp x y)
  where
    go : (o : Ordering) → Cmp o x y → and_then o Ordering.gt ≡ Ordering.gt
    go Ordering.lt q = absurd (omega arith)
    go Ordering.eq q = refl
    go Ordering.gt q = refl

-- the first numbers differ, and they don't
differ : (x y : ℕ) (o : Ordering) → (x ≡ y → ⊥) → and_then (compare x y) o ≡ compare x y
differ x y o d = go (compare x y) (cmp x y)
  where
    go : (p : Ordering) → Cmp p x y → and_then p o ≡ p
    go Ordering.lt q = refl
    go Ordering.eq q = absurd (d q)
    go Ordering.gt q = refl

agree : (x y : ℕ) (o : Ordering) → x ≡ y → and_then (compare x y) o ≡ o
agree x y o e = ap (λ (p : Ordering). and_then p o) (ap (compare x) (sym e) ∙ is_eq x)

below : (m v w x y : ℕ) → x < m → v < w → v * m + x < w * m + y
below m v w x y h l = let e : suc v * m ≤ w * m = mul-le-mul_right m l in omega (arith, suc-mul v m)

-- numbers of two digits in the base m
digits : (m v w x y : ℕ) → x < m → y < m → compare (v * m + x) (w * m + y) ≡ and_then (compare v w) (compare x y)
digits m v w x y h k = go (compare v w) (cmp v w) (compare x y) (cmp x y)
  where
    go : (o : Ordering) → Cmp o v w → (p : Ordering) → Cmp p x y → compare (v * m + x) (w * m + y) ≡ and_then o p
    go Ordering.lt l p q = is_lt (v * m + x) (w * m + y) (below m v w x y h l)
    go Ordering.eq e Ordering.lt q = is_lt (v * m + x) (w * m + y) (omega (arith, ap (λ (n : ℕ). n * m) e))
    go Ordering.eq e Ordering.eq q = ap₂ (λ (a b : ℕ). compare (v * m + x) (a * m + b)) (sym e) (sym q) ∙ is_eq (v * m + x)
    go Ordering.eq e Ordering.gt q = is_gt (v * m + x) (w * m + y) (omega (arith, ap (λ (n : ℕ). n * m) e))
    go Ordering.gt l p q = is_gt (v * m + x) (w * m + y) (below m w v y x k l)

-- ---- the first k bytes and the rest

abbrev rest_at : ℕ → List ℕ → List ℕ
rest_at k t = min k (length t) ∷ drop k t

-- there is a byte more
rest-full : (k : ℕ) (t : List ℕ) → k < length t → rest_at k t ≡ k ∷ get_or t k 0 ∷ drop (suc k) t
rest-full k t h = ap₂ (λ (n : ℕ) (l : List ℕ). n ∷ l) (let w : k ≤ length t = omega arith in min-eq_left w) (drop-cons t k 0 h)

rest-next : (k : ℕ) (t : List ℕ) → k < length t → rest_at (suc k) t ≡ suc k ∷ drop (suc k) t
rest-next k t h = ap (λ (n : ℕ). n ∷ drop (suc k) t) (min-eq_left h)

-- there is none
rest-short : (k : ℕ) (t : List ℕ) → length t ≤ k → rest_at k t ≡ length t ∷ []
rest-short k t h = ap₂ (λ (n : ℕ) (l : List ℕ). n ∷ l) (min-eq_right h) (drop_of_length-le t h)

none-at : (k : ℕ) (t : List ℕ) → length t ≤ k → get_or t k 0 ≡ 0
none-at k t h = get_or-eq_default t 0 h

short-full : (k n x y : ℕ) (l : List ℕ) → n ≤ k → x ≡ 0 → compare_bytes (n ∷ []) (k ∷ y ∷ l) ≡ and_then (compare x y) (compare_bytes (n ∷ []) (suc k ∷ l))
short-full k n x y l h e =
    low n k h ∙ sym (ap (λ (o : Ordering). and_then (compare x y) (and_then o (compare_bytes [] l))) (is_lt n (suc k) (suc-le-suc h)) ∙ low x y (omega arith))

full-short : (k n x y : ℕ) (l : List ℕ) → n ≤ k → y ≡ 0 → compare_bytes (k ∷ x ∷ l) (n ∷ []) ≡ and_then (compare x y) (compare_bytes (suc k ∷ l) (n ∷ []))
full-short k n x y l h e =
    high k n h ∙ sym (ap (λ (o : Ordering). and_then (compare x y) (and_then o (compare_bytes l []))) (is_gt (suc k) n (suc-le-suc h)) ∙ high x y (omega arith))

full-full : (k x y : ℕ) (l m : List ℕ) → compare_bytes (k ∷ x ∷ l) (k ∷ y ∷ m) ≡ and_then (compare x y) (compare_bytes (suc k ∷ l) (suc k ∷ m))
full-full k x y l m = rw (is_eq k, is_eq (suc k))

short-short : (x y : ℕ) (l m : List ℕ) → x ≡ 0 → y ≡ 0 → compare_bytes l m ≡ and_then (compare x y) (compare_bytes l m)
short-short x y l m e f = sym (ap (λ (o : Ordering). and_then o (compare_bytes l m)) (ap₂ compare e f ∙ is_eq 0))

-- one byte more tells, or leaves it to the rest
rest_step : (k : ℕ) (a b : List ℕ) → compare_bytes (rest_at k a) (rest_at k b) ≡ and_then (compare (get_or a k 0) (get_or b k 0)) (compare_bytes (rest_at (suc k) a) (rest_at (suc k) b))
rest_step k a b = go (le-lt k (length a)) (le-lt k (length b))
  where
    later : (t : List ℕ) → length t ≤ k → length t ≤ suc k
    later t h = omega arith

    go : (k < length a) ⊎ (length a ≤ k) → (k < length b) ⊎ (length b ≤ k)
        → compare_bytes (rest_at k a) (rest_at k b) ≡ and_then (compare (get_or a k 0) (get_or b k 0)) (compare_bytes (rest_at (suc k) a) (rest_at (suc k) b))
    go (inl h) (inl i) = ap₂ compare_bytes (rest-full k a h) (rest-full k b i) ∙ full-full k (get_or a k 0) (get_or b k 0) (drop (suc k) a) (drop (suc k) b)
        ∙ sym (ap (and_then (compare (get_or a k 0) (get_or b k 0))) (ap₂ compare_bytes (rest-next k a h) (rest-next k b i)))
    go (inl h) (inr i) = ap₂ compare_bytes (rest-full k a h) (rest-short k b i) ∙ full-short k (length b) (get_or a k 0) (get_or b k 0) (drop (suc k) a) i (none-at k b i)
        ∙ sym (ap (and_then (compare (get_or a k 0) (get_or b k 0))) (ap₂ compare_bytes (rest-next k a h) (rest-short (suc k) b (later b i))))
    go (inr h) (inl i) = ap₂ compare_bytes (rest-short k a h) (rest-full k b i) ∙ short-full k (length a) (get_or a k 0) (get_or b k 0) (drop (suc k) b) h (none-at k a h)
        ∙ sym (ap (and_then (compare (get_or a k 0) (get_or b k 0))) (ap₂ compare_bytes (rest-short (suc k) a (later a h)) (rest-next k b i)))
    go (inr h) (inr i) = ap₂ compare_bytes (rest-short k a h) (rest-short k b i) ∙ short-short (get_or a k 0) (get_or b k 0) (length a ∷ []) (length b ∷ []) (none-at k a h) (none-at k b i)
        ∙ sym (ap (and_then (compare (get_or a k 0) (get_or b k 0))) (ap₂ compare_bytes (rest-short (suc k) a (later a h)) (rest-short (suc k) b (later b i))))

-- the number of the first k bytes tells, or leaves it to the rest
value-order : (k : ℕ) (a b : List ℕ) → AllBytes a → AllBytes b → compare_bytes a b ≡ and_then (compare (value_of k a) (value_of k b)) (compare_bytes (rest_at k a) (rest_at k b))
unfolding value_of
value-order zero a b p q =
    sym (ap₂ (λ (n m : ℕ). and_then (compare n m) (compare_bytes a b)) (let w : min 0 (length a) ≡ 0 = omega arith in w) (let w : min 0 (length b) ≡ 0 = omega arith in w))
value-order (suc k) a b p q =
    value-order k a b p q
    ∙ ap (and_then (compare (value_of k a) (value_of k b))) (rest_step k a b)
    ∙ sym (and_assoc (compare (value_of k a) (value_of k b)) (compare (get_or a k 0) (get_or b k 0)) (compare_bytes (rest_at (suc k) a) (rest_at (suc k) b)))
    ∙ ap (λ (o : Ordering). and_then o (compare_bytes (rest_at (suc k) a) (rest_at (suc k) b))) (sym (digits 256 (value_of k a) (value_of k b) (get_or a k 0) (get_or b k 0) (p.byte k) (q.byte k)))

-- ---- the value of more bytes

pub value_nil : (k : ℕ) → value_of k [] ≡ 0
unfolding value_of
value_nil zero = refl
value_nil (suc k) = ap (λ (n : ℕ). n * 256 + 0) (value_nil k)

power : (k : ℕ) → 2 ^ (8 * suc k) ≡ 2 ^ (8 * k) * 256
power k = ap (λ (n : ℕ). 2 ^ n) (let w : 8 * suc k ≡ 8 * k + 8 = omega arith in w) ∙ pow-add 2 (8 * k) 8

pub value-below : (k : ℕ) (t : List ℕ) → AllBytes t → value_of k t < 2 ^ (8 * k)
unfolding value_of
value-below zero t b = suc-le-suc zero-le
value-below (suc k) t b = let e = value-below k t b in let f = b.byte k in rw (power k) (omega arith)

pub value-add : (j k : ℕ) (t : List ℕ) → value_of (j + k) t ≡ value_of j t * 2 ^ (8 * k) + value_of k (drop j t)
unfolding value_of
value-add j zero t = ap (λ (n : ℕ). value_of n t) (add-zero j) ∙ (let w : value_of j t ≡ value_of j t * 1 + 0 = omega arith in w)
value-add j (suc k) t =
    let e : value_of (j + k) t ≡ value_of j t * 2 ^ (8 * k) + value_of k (drop j t) = value-add j k t in
    let f : get_or (drop j t) k 0 ≡ get_or t (j + k) 0 = get_or-drop j t k 0 in
    let g : value_of j t * 2 ^ (8 * k) * 256 ≡ value_of j t * 2 ^ (8 * suc k) = mul_assoc (value_of j t) (2 ^ (8 * k)) 256 ∙ ap (λ (n : ℕ). value_of j t * n) (sym (power k)) in
    ap (λ (n : ℕ). value_of n t) (add-suc j k) ∙ (let w : value_of (j + k) t * 256 + get_or t (j + k) 0 ≡ value_of j t * 2 ^ (8 * suc k) + (value_of k (drop j t) * 256 + get_or (drop j t) k 0) = omega arith in w)

-- only the first k bytes count
pub value-take : (k n : ℕ) (t : List ℕ) → k ≤ n → value_of k (take n t) ≡ value_of k t
unfolding value_of
value-take zero n t h = refl
value-take (suc k) n t h = ap₂ (λ (v x : ℕ). v * 256 + x) (value-take k n t (omega arith)) (get_or-take n t k 0 h)

-- a term of n bytes in k more
pub value_up : (n k : ℕ) (t : List ℕ) → value_of (n + k) (take n t) ≡ value_of n t * 2 ^ (8 * k)
value_up n k t =
    value-add n k (take n t)
    ∙ ap₂ (λ (v w : ℕ). v * 2 ^ (8 * k) + w) (value-take n n t (le_refl n)) (ap (value_of k) (drop_of_length-le (take n t) (let w : length (take n t) ≤ n = omega (arith, length-take n t) in w)) ∙ value_nil k)
    ∙ add-zero (value_of n t * 2 ^ (8 * k))

-- ---- keys

-- one of two terms ends within the first k bytes: the shorter comes first
rest-ends : (k : ℕ) (a b : List ℕ) → (length a ≤ k) ⊎ (length b ≤ k) → compare_bytes (rest_at k a) (rest_at k b) ≡ compare (length a) (length b)
rest-ends k a b e = go (le-lt k (length a)) (le-lt k (length b)) e
  where
    settled : (o : Ordering) → and_then o Ordering.eq ≡ o
    settled Ordering.lt = refl
    settled Ordering.eq = refl
    settled Ordering.gt = refl

    go : (k < length a) ⊎ (length a ≤ k) → (k < length b) ⊎ (length b ≤ k) → (length a ≤ k) ⊎ (length b ≤ k) → compare_bytes (rest_at k a) (rest_at k b) ≡ compare (length a) (length b)
    go (inr h) (inr i) d = ap₂ compare_bytes (rest-short k a h) (rest-short k b i) ∙ settled (compare (length a) (length b))
    go (inr h) (inl i) d = ap₂ compare_bytes (rest-short k a h) (rest-full k b i) ∙ low (length a) k h ∙ sym (is_lt (length a) (length b) (omega arith))
    go (inl h) (inr i) d = ap₂ compare_bytes (rest-full k a h) (rest-short k b i) ∙ high k (length b) i ∙ sym (is_gt (length a) (length b) (omega arith))
    go (inl h) (inl i) (inl d) = absurd (omega arith)
    go (inl h) (inl i) (inr d) = absurd (omega arith)

-- two terms whose words are the same
pub rest-lengths : (a b : List ℕ) → (length a ≤ 16) ⊎ (length b ≤ 16) → compare_bytes (rest_of a) (rest_of b) ≡ compare (length a) (length b)
unfolding rest_of
rest-lengths a b h = rest-ends 16 a b h

pub rest-long : (a b : List ℕ) → 16 < length a → 16 < length b → compare_bytes (rest_of a) (rest_of b) ≡ compare_bytes (drop 16 a) (drop 16 b)
unfolding rest_of
rest-long a b h k =
    ap₂ (λ (n m : ℕ). and_then (compare n m) (compare_bytes (drop 16 a) (drop 16 b))) (let w : min 16 (length a) ≡ 16 = omega arith in w) (let w : min 16 (length b) ≡ 16 = omega arith in w)

-- two numbers of k bytes each tell, or leave it to the rest
pair-order : (k : ℕ) (a b : List ℕ) → AllBytes a → AllBytes b
    → compare_bytes (value_of k a ∷ value_of k (drop k a) ∷ rest_at (k + k) a) (value_of k b ∷ value_of k (drop k b) ∷ rest_at (k + k) b) ≡ compare_bytes a b
pair-order k a b p q =
    let o = compare_bytes (rest_at (k + k) a) (rest_at (k + k) b) in
    sym
    (value-order (k + k) a b p q
    ∙ ap (λ (x : Ordering). and_then x o) (ap₂ compare (value-add k k a) (value-add k k b)
    ∙ digits (2 ^ (8 * k)) (value_of k a) (value_of k b) (value_of k (drop k a)) (value_of k (drop k b)) (value-below k (drop k a) (bytes_drop k a p)) (value-below k (drop k b) (bytes_drop k b q)))
    ∙ and_assoc (compare (value_of k a) (value_of k b)) (compare (value_of k (drop k a)) (value_of k (drop k b))) o)

-- by what a term's key is compared
abbrev pub packed : List ℕ → List ℕ
packed t = word_of t ∷ word_of (drop 8 t) ∷ rest_of t

pub packed-order : (a b : List ℕ) → AllBytes a → AllBytes b → compare_bytes (packed a) (packed b) ≡ compare_bytes a b
unfolding rest_of word_of
packed-order a b p q = pair-order 8 a b p q

pub packed-before : (a b : List ℕ) → AllBytes a → AllBytes b → Before (packed a) (packed b) → Before a b
packed-before a b p q h = subst (λ (o : Ordering). CmpBytes o a b) (sym (packed-order a b p q) ∙ before-is h) (cmp_bytes a b)

pub packed-same : (a b : List ℕ) → AllBytes a → AllBytes b → packed a ≡ packed b → a ≡ b
packed-same a b p q e = subst (λ (o : Ordering). CmpBytes o a b) (sym (packed-order a b p q) ∙ ap (compare_bytes (packed a)) (sym e) ∙ same-is (packed a)) (cmp_bytes a b)

pub keyed-at : (bytes : List ℕ) (from till : ℕ) → keyed bytes (key_at bytes from till) ≡ packed (term_in bytes from till)
unfolding keyed
keyed-at bytes from till = refl

-- ---- where terms stand

-- the bytes after the first k
pub rest-stands : (bytes : List ℕ) (from till k : ℕ) → drop k (term_in bytes from till) ≡ term_in bytes (from + k) till
rest-stands bytes from till k =
    drop-take k (till - from) (drop from bytes)
    ∙ ap₂ (λ (n : ℕ) (l : List ℕ). take n l) (let w : till - from - k ≡ till - (from + k) = omega arith in w) (drop-drop k from bytes)

module _ {bytes : List ℕ} {a b : Key} (p : Inside bytes a) (q : Inside bytes b) where
  -- one of two terms ends within the words
  pub rests_short : (a.till - a.from ≤ 16) ⊎ (b.till - b.from ≤ 16)
      → compare_bytes (rest_of (term_in bytes a.from a.till)) (rest_of (term_in bytes b.from b.till)) ≡ compare (a.till - a.from) (b.till - b.from)
  rests_short h =
      let e : length (term_in bytes a.from a.till) ≡ a.till - a.from = run_length a.from a.till bytes p.high in
      let f : length (term_in bytes b.from b.till) ≡ b.till - b.from = run_length b.from b.till bytes q.high in
      rest-lengths (term_in bytes a.from a.till) (term_in bytes b.from b.till) (⊎_elim (λ k. inl (omega arith)) (λ k. inr (omega arith)) h) ∙ ap₂ compare e f

  -- the second does, the first doesn't
  pub rests_after : 16 < a.till - a.from → b.till - b.from ≤ 16
      → compare_bytes (rest_of (term_in bytes a.from a.till)) (rest_of (term_in bytes b.from b.till)) ≡ Ordering.gt
  rests_after h k = rests_short (inr k) ∙ is_gt (a.till - a.from) (b.till - b.from) (omega arith)

  -- none does
  pub rests_long : 16 < a.till - a.from → 16 < b.till - b.from
      → compare_bytes (rest_of (term_in bytes a.from a.till)) (rest_of (term_in bytes b.from b.till)) ≡ compare_bytes (term_in bytes (a.from + 16) a.till) (term_in bytes (b.from + 16) b.till)
  rests_long h k =
      let e : length (term_in bytes a.from a.till) ≡ a.till - a.from = run_length a.from a.till bytes p.high in
      let f : length (term_in bytes b.from b.till) ≡ b.till - b.from = run_length b.from b.till bytes q.high in
      rest-long (term_in bytes a.from a.till) (term_in bytes b.from b.till) (omega arith) (omega arith)
      ∙ ap₂ compare_bytes (rest-stands bytes a.from a.till 16) (rest-stands bytes b.from b.till 16)

-- the first words tell, or the second ones, or else the rests: o and p are the orders of the words, and r is that of the keys
pub keys_tell : (bytes : List ℕ) (a b : Key) {o p t r : std.Ordering} {Q : Type 0} → o ≡ nat_cmp a.first b.first → p ≡ nat_cmp a.second b.second → t ≡ ordering_then o p
    → MatchOrdering t (r ≡ Less) Q (r ≡ Greater)
    → (Q → r ≡ order_of (compare_bytes (rest_of (term_in bytes a.from a.till)) (rest_of (term_in bytes b.from b.till))))
    → r ≡ order_of (compare_bytes (keyed bytes a) (keyed bytes b))
unfolding keyed
keys_tell bytes a b {o} {p} {t} {r} {Q} eo ep et m f =
    go (compare a.first b.first) (compare a.second b.second)
    (subst (λ (x : std.Ordering). MatchOrdering x (r ≡ Less) Q (r ≡ Greater)) (et ∙ ap₂ ordering_then (eo ∙ numbers-order a.first b.first) (ep ∙ numbers-order a.second b.second)) m)
  where
    rests : Ordering
    rests = compare_bytes (rest_of (term_in bytes a.from a.till)) (rest_of (term_in bytes b.from b.till))

    go : (x y : Ordering) → MatchOrdering (ordering_then (order_of x) (order_of y)) (r ≡ Less) Q (r ≡ Greater) → r ≡ order_of (and_then x (and_then y rests))
    go Ordering.lt y m = m
    go Ordering.eq Ordering.lt m = m
    go Ordering.eq Ordering.eq m = f m
    go Ordering.eq Ordering.gt m = m
    go Ordering.gt y m = m

-- ---- a number made byte by byte

module _ (bytes : List ℕ) (w i : ℕ) (e : w ≡ value_of i bytes) where
  pub number-below : AllBytes bytes → w < 2 ^ (8 * i)
  number-below all = rw e (value-below i bytes all)

  pub number-fits : AllBytes bytes → i < length bytes → length bytes ≤ 8 → w < 72057594037927936
  number-fits all h k = lt_of_lt_of_le (number-below all) (let l : 8 * i ≤ 56 = omega arith in pow_mono l)

  pub number-more : w * 256 + get_or bytes i 0 ≡ value_of (i + 1) bytes
  unfolding value_of
  number-more = rw (add-one i, e)

-- ---- words

-- there are eight bytes
pub word-bytes : (t h : List ℕ) → IsFirstChunk t h 8 → from_be_bytes w64 h ≡ word_of t
unfolding value_of word_of
word-bytes t h f =
    let at : (i : ℕ) → i < 8 → get_or h i 0 ≡ get_or t i 0 = λ i l. ap (λ (x : List ℕ). get_or x i 0) f.same ∙ get_or-take 8 t i 0 l in
    let w : from_be_bytes w64 h ≡ value_of 8 t = omega (arith, at 0 (omega arith), at 1 (omega arith), at 2 (omega arith), at 3 (omega arith), at 4 (omega arith), at 5 (omega arith), at 6 (omega arith), at 7 (omega arith)) in
    w

-- there are fewer
pub word_none : (t : List ℕ) → t ≡ [] → 0 ≡ word_of t
unfolding word_of
word_none t e = sym (ap (value_of 8) e ∙ value_nil 8)

pub word-short : (n w : ℕ) (l : List ℕ) → n < 8 → w ≡ value_of n l → w < 2 ^ (8 * n) → (w * 2 ^ (8 * (8 - n))) % 18446744073709551616 ≡ word_of (take n l)
unfolding word_of
word-short n w l h e b =
    shl_exact (8 * n) (8 * (8 - n)) 64 b (omega arith)
    ∙ ap (λ (v : ℕ). v * 2 ^ (8 * (8 - n))) e
    ∙ sym (value_up n (8 - n) l)
    ∙ ap (λ (k : ℕ). value_of k (take n l)) (let z : n + (8 - n) ≡ 8 = omega arith in z)

-- the key of no bytes at the start
pub key-none : (bytes : List ℕ) → ◌≡◌ {A = Key} (record { from = 0; till = 0; first = 0; second = 0 }) (key_at bytes 0 0)
key-none bytes = λ i. record { from = 0; till = 0; first = word_none [] refl i; second = word_none [] refl i }
