-- Ranges of keys, over a run of words. Assumes nothing.
use Rattle.std.proofs.Common.{◌≡◌, ℕ, zero, suc, ◌+◌, ◌*◌, ◌/◌, ◌<◌, ◌≤◌, List, [], length, get_or, drop, sym, ap, ◌∙◌, ap₂, add-one, arith, drop_of_length-le, drop-cons}
use Rattle.std.proofs.lemmas.List.{get_or-take, get_or-drop}
use Rattle.std.specs.Simd.{first_chunks}
use Rattle.min_max.specs.declared.Range.{Range}
use Rattle.min_max.specs.Keys.{key_of, range_of, both_of, with_key, range_from, all_keys}

pub range_is : {a b l g : ℕ} → a ≡ l → b ≡ g → range_of a b ≡ range_of l g
range_is p q = λ i. range_of (p i) (q i)

-- ---- one word more

module _ (p : Range) (shift : ℕ) (ws : List ℕ) (i : ℕ) where
  pub from_step : i < length ws → range_from p (all_keys shift (drop i ws)) ≡ range_from (with_key p (key_of shift (get_or ws i 0))) (all_keys shift (drop (i + 1) ws))
  unfolding all_keys
  from_step h = rw (add-one i, drop-cons ws i 0 h)

  pub from_end : length ws ≤ i → range_from p (all_keys shift (drop i ws)) ≡ p
  unfolding all_keys
  from_end h = rw (drop_of_length-le ws h)

-- ---- ranges side by side

module _ (p q : Range) (k : ℕ) where
  left : with_key (both_of p q) k ≡ both_of (with_key p k) q
  left = range_is (omega arith) (omega arith)

  right : with_key (both_of p q) k ≡ both_of p (with_key q k)
  right = range_is (omega arith) (omega arith)

abbrev pub of_four : Range → Range → Range → Range → Range
of_four a b c d = both_of (both_of a b) (both_of c d)

module _ (a b c d : Range) (k : ℕ) where
  to-first : with_key (of_four a b c d) k ≡ of_four (with_key a k) b c d
  to-first = left (both_of a b) (both_of c d) k ∙ ap (λ (x : Range). both_of x (both_of c d)) (left a b k)

  to-second : with_key (of_four a b c d) k ≡ of_four a (with_key b k) c d
  to-second = left (both_of a b) (both_of c d) k ∙ ap (λ (x : Range). both_of x (both_of c d)) (right a b k)

  to-third : with_key (of_four a b c d) k ≡ of_four a b (with_key c k) d
  to-third = right (both_of a b) (both_of c d) k ∙ ap (both_of (both_of a b)) (left c d k)

  to-fourth : with_key (of_four a b c d) k ≡ of_four a b c (with_key d k)
  to-fourth = right (both_of a b) (both_of c d) k ∙ ap (both_of (both_of a b)) (right c d k)

-- ---- words cut into fours

chunk_at : (m i j : ℕ) (ws : List ℕ) → i < m → j < 4 → get_or (get_or (first_chunks 4 m ws) i []) j 0 ≡ get_or ws (i * 4 + j) 0
chunk_at zero i j ws h k = absurd (omega arith)
chunk_at (suc m) zero j ws h k = get_or-take 4 ws j 0 k ∙ ap (λ (n : ℕ). get_or ws n 0) (let e : j ≡ 0 * 4 + j = omega arith in e)
chunk_at (suc m) (suc i) j ws h k =
    chunk_at m i j (drop 4 ws) (omega arith) k
    ∙ get_or-drop 4 ws (i * 4 + j) 0
    ∙ ap (λ (n : ℕ). get_or ws n 0) (let e : 4 + (i * 4 + j) ≡ suc i * 4 + j = omega arith in e)

module _ (shift : ℕ) (ws : List ℕ) (i : ℕ) (h : i < length ws / 4) where
  abbrev key : ℕ → ℕ
  key j = key_of shift (get_or (get_or (first_chunks 4 (length ws / 4) ws) i []) j 0)

  -- word j of the i-th four
  next : (p : Range) (j m n : ℕ) → j < 4 → m ≡ i * 4 + j → n ≡ m + 1 → range_from p (all_keys shift (drop m ws)) ≡ range_from (with_key p (key j)) (all_keys shift (drop n ws))
  next p j m n k e f =
      let inside : m < length ws = omega arith in
      let word : get_or ws m 0 ≡ get_or (get_or (first_chunks 4 (length ws / 4) ws) i []) j 0 = ap (λ (x : ℕ). get_or ws x 0) e ∙ sym (chunk_at (length ws / 4) i j ws h k) in
      from_step p shift ws m inside ∙ ap₂ (λ (w x : ℕ). range_from (with_key p (key_of shift w)) (all_keys shift (drop x ws))) word (sym f)

  -- four words more, each with a range of its own
  pub four_more : (a b c d : Range) → range_from (of_four a b c d) (all_keys shift (drop (i * 4) ws))
      ≡ range_from (of_four (with_key a (key 0)) (with_key b (key 1)) (with_key c (key 2)) (with_key d (key 3))) (all_keys shift (drop ((i + 1) * 4) ws))
  four_more a b c d =
      next (of_four a b c d) 0 (i * 4) (i * 4 + 1) (omega arith) (omega arith) (omega arith)
      ∙ ap (λ (x : Range). range_from x (all_keys shift (drop (i * 4 + 1) ws))) (to-first a b c d (key 0))
      ∙ next (of_four (with_key a (key 0)) b c d) 1 (i * 4 + 1) (i * 4 + 2) (omega arith) (omega arith) (omega arith)
      ∙ ap (λ (x : Range). range_from x (all_keys shift (drop (i * 4 + 2) ws))) (to-second (with_key a (key 0)) b c d (key 1))
      ∙ next (of_four (with_key a (key 0)) (with_key b (key 1)) c d) 2 (i * 4 + 2) (i * 4 + 3) (omega arith) (omega arith) (omega arith)
      ∙ ap (λ (x : Range). range_from x (all_keys shift (drop (i * 4 + 3) ws))) (to-third (with_key a (key 0)) (with_key b (key 1)) c d (key 2))
      ∙ next (of_four (with_key a (key 0)) (with_key b (key 1)) (with_key c (key 2)) d) 3 (i * 4 + 3) ((i + 1) * 4) (omega arith) (omega arith) (omega arith)
      ∙ ap (λ (x : Range). range_from x (all_keys shift (drop ((i + 1) * 4) ws))) (to-fourth (with_key a (key 0)) (with_key b (key 1)) (with_key c (key 2)) d (key 3))
