-- Keys keep the order of the type, so the least and the greatest key are those of the least and the greatest value. Assumes nothing.
use Rattle.std.proofs.Common.{◌≡◌, ℕ, zero, suc, ◌+◌, ◌-◌, ◌<◌, ◌≤◌, min, max, Bool, true, false, cond, not, ◌&&◌, ◌||◌, eqb, ltb, List, [], ◌∷◌, length, get_or, refl, ap, ◌∙◌, ap₂, arith, ltb-false, ltb-true, le-ltb, lt-ltb, leb-false, leb-true}
use Rattle.definitions.specs.Segment.{pair, no_pair}
use Rattle.definitions.specs.Types.{I64, is_negative, is_less, first_by, extremes, pair_of}
use Rattle.min_max.specs.declared.Range.{Range}
use Rattle.min_max.specs.Keys.{shift_of, key_of, word_of, range_of, with_key, range_from, all_keys}

-- ---- one word

-- a word of I64: the negative ones go below the others
high : (w : ℕ) → w < 18446744073709551616 → is_negative w ≡ true → key_of 9223372036854775808 w ≡ w - 9223372036854775808
high w h e = let k : 9223372036854775808 ≤ w = leb-true 9223372036854775808 w e in omega arith

low : (w : ℕ) → is_negative w ≡ false → key_of 9223372036854775808 w ≡ w + 9223372036854775808
low w e = let k : w < 9223372036854775808 = leb-false 9223372036854775808 w e in omega arith

plain : (w : ℕ) → w < 18446744073709551616 → key_of 0 w ≡ w
plain w h = omega arith

same_test : (a b c d : ℕ) → (a < b → c < d) → (c < d → a < b) → ltb a b ≡ ltb c d
same_test a b c d f g = go (ltb a b) (ltb c d) refl refl
  where
    go : (x y : Bool) → ltb a b ≡ x → ltb c d ≡ y → x ≡ y
    go true true p q = refl
    go true false p q = absurd (let h : c < d = f (ltb-true a b p) in let k : d ≤ c = ltb-false c d q in omega arith)
    go false true p q = absurd (let h : a < b = g (ltb-true c d q) in let k : b ≤ a = ltb-false a b p in omega arith)
    go false false p q = refl

signed_less : (v w : ℕ) → v < 18446744073709551616 → w < 18446744073709551616 → (a b : Bool) → is_negative v ≡ a → is_negative w ≡ b
    → ltb (key_of 9223372036854775808 v) (key_of 9223372036854775808 w) ≡ cond a (not b || ltb v w) (not b && ltb v w)
signed_less v w h k true true p q =
    let m : 9223372036854775808 ≤ v = leb-true 9223372036854775808 v p in
    let n : 9223372036854775808 ≤ w = leb-true 9223372036854775808 w q in
    ap₂ ltb (high v h p) (high w k q) ∙ same_test (v - 9223372036854775808) (w - 9223372036854775808) v w (λ l. omega arith) (λ l. omega arith)
signed_less v w h k true false p q =
    let m : 9223372036854775808 ≤ v = leb-true 9223372036854775808 v p in
    ap₂ ltb (high v h p) (low w q) ∙ lt-ltb (v - 9223372036854775808) (w + 9223372036854775808) (omega arith)
signed_less v w h k false true p q =
    ap₂ ltb (low v p) (high w k q) ∙ le-ltb (v + 9223372036854775808) (w - 9223372036854775808) (omega arith)
signed_less v w h k false false p q = ap₂ ltb (low v p) (low w q) ∙ same_test (v + 9223372036854775808) (w + 9223372036854775808) v w (λ l. omega arith) (λ l. omega arith)

-- keys are as unsigned numbers what words are by their type
pub key_less : (t v w : ℕ) → v < 18446744073709551616 → w < 18446744073709551616 → ltb (key_of (shift_of t) v) (key_of (shift_of t) w) ≡ is_less t v w
unfolding shift_of is_less
key_less t v w h k = go (eqb t I64)
  where
    go : (b : Bool) → ltb (key_of (cond b 9223372036854775808 0) v) (key_of (cond b 9223372036854775808 0) w)
        ≡ cond b (cond (is_negative v) (not (is_negative w) || ltb v w) (not (is_negative w) && ltb v w)) (ltb v w)
    go true = signed_less v w h k (is_negative v) (is_negative w) refl refl
    go false = ap₂ ltb (plain v h) (plain w k)

-- and a word is that of its key
pub word_back : (t w : ℕ) → w < 18446744073709551616 → word_of (shift_of t) (key_of (shift_of t) w) ≡ w
unfolding shift_of
word_back t w h = go (eqb t I64)
  where
    go : (b : Bool) → word_of (cond b 9223372036854775808 0) (key_of (cond b 9223372036854775808 0) w) ≡ w
    go true = omega arith
    go false = omega arith

-- ---- a run of words

-- words of lent memory
abbrev pub AllWords : List ℕ → Type 0
AllWords ws = (k : ℕ) → get_or ws k 0 < 18446744073709551616

module _ (t : ℕ) where
  abbrev key : ℕ → ℕ
  key w = key_of (shift_of t) w

  lower-key : (a v : ℕ) → a < 18446744073709551616 → v < 18446744073709551616 → min (key a) (key v) ≡ key (cond (is_less t v a) v a)
  lower-key a v h k = go (is_less t v a) (key_less t v a k h)
    where
      go : (b : Bool) → ltb (key v) (key a) ≡ b → min (key a) (key v) ≡ key (cond b v a)
      go true e = let l : key v < key a = ltb-true (key v) (key a) e in omega arith
      go false e = let l : key a ≤ key v = ltb-false (key v) (key a) e in omega arith

  upper-key : (a v : ℕ) → a < 18446744073709551616 → v < 18446744073709551616 → max (key a) (key v) ≡ key (cond (is_less t a v) v a)
  upper-key a v h k = go (is_less t a v) (key_less t a v h k)
    where
      go : (b : Bool) → ltb (key a) (key v) ≡ b → max (key a) (key v) ≡ key (cond b v a)
      go true e = let l : key a < key v = ltb-true (key a) (key v) e in omega arith
      go false e = let l : key v ≤ key a = ltb-false (key a) (key v) e in omega arith

  either : (b : Bool) (v a : ℕ) → v < 18446744073709551616 → a < 18446744073709551616 → cond b v a < 18446744073709551616
  either true v a h k = h
  either false v a h k = k

  range_words : (a b : ℕ) (vs : List ℕ) → a < 18446744073709551616 → b < 18446744073709551616 → AllWords vs
      → range_from (range_of (key a) (key b)) (all_keys (shift_of t) vs) ≡ range_of (key (first_by (λ v u. is_less t v u) a vs)) (key (first_by (λ v u. is_less t u v) b vs))
  unfolding all_keys
  range_words a b [] h k l = refl
  range_words a b (v ∷ vs) h k l =
      (λ i. range_from (range_of (lower-key a v h (l 0) i) (upper-key b v k (l 0) i)) (all_keys (shift_of t) vs))
      ∙ range_words (cond (is_less t v a) v a) (cond (is_less t b v) v b) vs (either (is_less t v a) v a (l 0) h) (either (is_less t b v) v b (l 0) k) (λ n. l (suc n))

  first_word : (before : ℕ → ℕ → Bool) (a : ℕ) (vs : List ℕ) → a < 18446744073709551616 → AllWords vs → first_by before a vs < 18446744073709551616
  first_word before a [] h l = h
  first_word before a (v ∷ vs) h l = first_word before (cond (before v a) v a) vs (either (before v a) v a (l 0) h) (λ n. l (suc n))

  -- from the first word's key on, the words of the keys that are found are the least and the greatest
  pub extremes-found : (ws : List ℕ) → 0 < length ws → AllWords ws → {r : Range} → r ≡ range_from (range_of (key (get_or ws 0 0)) (key (get_or ws 0 0))) (all_keys (shift_of t) ws)
      → pair (word_of (shift_of t) r.least) (word_of (shift_of t) r.greatest) ≡ extremes t ws
  unfolding all_keys
  extremes-found [] h l e = absurd (omega arith)
  extremes-found (w ∷ ws) h l {r} e =
      let tail : AllWords ws = λ n. l (suc n) in
      let twice : with_key (range_of (key w) (key w)) (key w) ≡ range_of (key w) (key w) = λ i. range_of ((let m : min (key w) (key w) ≡ key w = omega arith in m) i) ((let m : max (key w) (key w) ≡ key w = omega arith in m) i) in
      let found = e ∙ ap (λ (p : Range). range_from p (all_keys (shift_of t) ws)) twice ∙ range_words w w ws (l 0) (l 0) tail in
      (λ i. pair (word_of (shift_of t) (found i).least) (word_of (shift_of t) (found i).greatest))
      ∙ (λ i. pair (word_back t (first_by (λ v u. is_less t v u) w ws) (first_word (λ v u. is_less t v u) w ws (l 0) tail) i) (word_back t (first_by (λ v u. is_less t u v) w ws) (first_word (λ v u. is_less t u v) w ws (l 0) tail) i))

-- ---- the pair of a type

pub pair-none : (t : ℕ) (ws : List ℕ) → length ws ≡ 0 → no_pair ≡ pair_of t ws
unfolding pair_of
pair-none t [] h = go (eqb t 0 || eqb t 1)
  where
    go : (b : Bool) → no_pair ≡ cond b no_pair no_pair
    go true = refl
    go false = refl
pair-none t (w ∷ ws) h = absurd (omega arith)

pub pair-some : (t : ℕ) (ws : List ℕ) → t ≤ 1 → extremes t ws ≡ pair_of t ws
unfolding pair_of
pair-some zero ws h = refl
pair-some (suc zero) ws h = refl
pair-some (suc (suc t)) ws h = absurd (omega arith)
