-- Values and their words, one or two: read back, counted, put one after another, and cut at values (document 02, (g)). Assumes nothing.
use Prim.Native.Nat.{ℕ, zero, suc, ◌+◌, ◌*◌, ◌/◌, ◌%◌, ◌^◌, ◌<◌}
use native.Mathlib.Nat.{mul-one, add-zero, div-add-mod', mul-add-div_right, div-eq_of_lt, mul-add-mod_self_right, mod-eq_of_lt}
use native.Mathlib.Omega.{arith}
use mathlib.Core.Path.{◌≡◌, refl, sym, ap, ap₂, ◌∙◌, subst}
use mathlib.Core.List.{List, [], ◌∷◌, ◌++◌}
use mathlib.Core.Bool.{Bool, true, false, cond, and-false, or-false}
use lib.ListN.{length, get_or, take, drop}
use lib.Seq.{slice, take_at, take-nil, drop-nil, get_or-drop}
use lib.Dec.{eqb}
use borrow.Author.Tests.{eqb-true}
use Rattle.definitions.specs.Words.{IpAddr, words_per_value, ip_addr_of, halves, paired, value_words, values_in}
use Rattle.definitions.specs.Segment.{Pair}
use Rattle.definitions.specs.Types.{is_numerical, has_terms, is_coercible}

-- each is a 64-bit word, as in lent memory
pub record AllWords (ws : List ℕ) : Type 0 where
  pub word : (i : ℕ) → get_or ws i 0 < 2 ^ 64

pub take_words : (n : ℕ) {ws : List ℕ} → AllWords ws → AllWords (take n ws)
take_words n {ws} h = record { word = go n ws h.word }
  where
    go : (n : ℕ) (ws : List ℕ) → ((i : ℕ) → get_or ws i 0 < 2 ^ 64) → (i : ℕ) → get_or (take n ws) i 0 < 2 ^ 64
    go zero ws h i = omega arith
    go (suc n) [] h i = omega arith
    go (suc n) (w ∷ ws) h zero = h 0
    go (suc n) (w ∷ ws) h (suc i) = go n ws (λ k. h (suc k)) i

pub drop-words : (n : ℕ) {ws : List ℕ} → AllWords ws → AllWords (drop n ws)
drop-words n {ws} h = record { word = λ i. rw (get_or-drop n ws i 0) (h.word (n + i)) }

-- ---- addresses

paired-halves : (vs : List ℕ) → paired (halves vs) ≡ vs
paired-halves [] = refl
paired-halves (v ∷ vs) = ap₂ (λ (w : ℕ) (ws : List ℕ). w ∷ ws) (div-add-mod' v (2 ^ 64)) (paired-halves vs)

length-halves : (vs : List ℕ) → length (halves vs) ≡ length vs * 2
length-halves [] = refl
length-halves (v ∷ vs) = let k = length-halves vs in omega arith

halves-append : (xs ys : List ℕ) → halves (xs ++ ys) ≡ halves xs ++ halves ys
halves-append [] ys = refl
halves-append (x ∷ xs) ys = ap (λ (l : List ℕ). x / 2 ^ 64 ∷ x % 2 ^ 64 ∷ l) (halves-append xs ys)

double : (n : ℕ) → suc n * 2 ≡ suc (suc (n * 2))
double n = omega arith

paired-take : (n : ℕ) (ws : List ℕ) → paired (take (n * 2) ws) ≡ take n (paired ws)
paired-take zero ws = refl
paired-take (suc n) [] = rw (double n)
paired-take (suc n) (high ∷ []) = rw (double n) (ap (λ (l : List ℕ). paired (high ∷ l)) (take-nil {A = ℕ} (suc (n * 2))))
paired-take (suc n) (high ∷ low ∷ ws) = rw (double n) (ap (λ (vs : List ℕ). ip_addr_of high low ∷ vs) (paired-take n ws))

paired-drop : (n : ℕ) (ws : List ℕ) → paired (drop (n * 2) ws) ≡ drop n (paired ws)
paired-drop zero ws = refl
paired-drop (suc n) [] = rw (double n)
paired-drop (suc n) (high ∷ []) = rw (double n) (ap paired (drop-nil {A = ℕ} (suc (n * 2))))
paired-drop (suc n) (high ∷ low ∷ ws) = rw (double n) (paired-drop n ws)

length-paired : (n : ℕ) (ws : List ℕ) → length ws ≡ n * 2 → length (paired ws) ≡ n
length-paired zero [] e = refl
length-paired (suc n) [] e = absurd (omega arith)
length-paired n (w ∷ []) e = absurd (omega arith)
length-paired zero (high ∷ low ∷ ws) e = absurd (omega arith)
length-paired (suc n) (high ∷ low ∷ ws) e = ap suc (length-paired n ws (omega arith))

upper : (h l m : ℕ) → 0 < m → l < m → (h * m + l) / m ≡ h
upper h l m p k = mul-add-div_right p h l ∙ ap (λ (x : ℕ). h + x) (div-eq_of_lt k) ∙ add-zero h

lower : (h l m : ℕ) → l < m → (h * m + l) % m ≡ l
lower h l m k = mul-add-mod_self_right h m l ∙ mod-eq_of_lt k

-- 64-bit words, two for an address, are the words of the addresses that they say
halves-paired : (n : ℕ) (ws : List ℕ) → length ws ≡ n * 2 → ((i : ℕ) → get_or ws i 0 < 2 ^ 64) → halves (paired ws) ≡ ws
halves-paired n [] e h = refl
halves-paired zero (w ∷ ws) e h = absurd (omega arith)
halves-paired (suc n) (high ∷ []) e h = absurd (omega arith)
halves-paired (suc n) (high ∷ low ∷ ws) e h =
    let l : low < 2 ^ 64 = h 1 in
    λ i. upper high low (2 ^ 64) (let z : 0 < 2 ^ 64 = omega arith in z) l i ∷ lower high low (2 ^ 64) l i ∷ halves-paired n ws (omega arith) (λ k. h (suc (suc k))) i

-- ---- values of any type

-- all types but one have one word a value
pub words-plain : (type : ℕ) → eqb type IpAddr ≡ false → (vs : List ℕ) → value_words type vs ≡ vs
unfolding value_words
words-plain type e vs = rw e

pub values-plain : (type : ℕ) → eqb type IpAddr ≡ false → (ws : List ℕ) → values_in type ws ≡ ws
unfolding values_in
values-plain type e ws = rw e

-- a type of which something holds that does not hold of addresses is another one
pub not-address : (p : ℕ → Bool) → p IpAddr ≡ false → (type : ℕ) → p type ≡ true → eqb type IpAddr ≡ false
not-address p none type h = go (eqb type IpAddr) refl
  where
    go : (b : Bool) → eqb type IpAddr ≡ b → b ≡ false
    go true e = sym h ∙ ap p (eqb-true type IpAddr e) ∙ none
    go false e = refl

-- ordinals are no addresses
pub terms-plain : (type : ℕ) → has_terms type ≡ true → eqb type IpAddr ≡ false
unfolding has_terms
terms-plain type h = not-address has_terms refl type h

-- a test that does not look into addresses says the same of words and of the values that they say
pub unseen : (test : ℕ → List ℕ → Bool) → ((vs ws : List ℕ) → test IpAddr vs ≡ test IpAddr ws) → (type : ℕ) (ws : List ℕ) → test type (values_in type ws) ≡ test type ws
unseen test blind type ws = go (eqb type IpAddr) refl
  where
    go : (b : Bool) → eqb type IpAddr ≡ b → test type (values_in type ws) ≡ test type ws
    go true e = rw (eqb-true type IpAddr e) (blind (values_in IpAddr ws) ws)
    go false e = ap (test type) (values-plain type e ws)

-- nothing but an address becomes one, and it becomes nothing else
pub address-becomes : (u : ℕ) (p : Pair) → is_coercible IpAddr u p ≡ eqb IpAddr u
unfolding is_coercible is_numerical
address-becomes u p = simp (and-false, or-false)

pub becomes_alike : (t u : ℕ) (r : Pair) → is_coercible t u r ≡ true → eqb t IpAddr ≡ eqb u IpAddr
unfolding is_coercible
becomes_alike t u r h = go (eqb t IpAddr) (eqb u IpAddr) refl refl
  where
    go : (a b : Bool) → eqb t IpAddr ≡ a → eqb u IpAddr ≡ b → a ≡ b
    go true true p q = refl
    go false false p q = refl
    go true false p q =
        let e : is_coercible IpAddr u r ≡ true = subst (λ (n : ℕ). is_coercible n u r ≡ true) (eqb-true t IpAddr p) h in
        ap (λ (n : ℕ). eqb n IpAddr) (eqb-true IpAddr u (sym (address-becomes u r) ∙ e)) ∙ q
    go false true p q =
        let e : is_coercible t IpAddr r ≡ true = subst (λ (n : ℕ). is_coercible t n r ≡ true) (eqb-true u IpAddr q) h in
        sym p ∙ (simp or-false at e)

either_none : (b : Bool) → cond {A = List ℕ} b [] [] ≡ []
either_none true = refl
either_none false = refl

module _ (type : ℕ) where
  pub length-words : (vs : List ℕ) → length (value_words type vs) ≡ length vs * words_per_value type
  unfolding value_words words_per_value
  length-words vs = go (eqb type IpAddr)
    where
      go : (b : Bool) → length (cond b (halves vs) vs) ≡ length vs * cond {A = ℕ} b 2 1
      go true = length-halves vs
      go false = sym (mul-one (length vs))

  pub length-values : (n : ℕ) (ws : List ℕ) → length ws ≡ n * words_per_value type → length (values_in type ws) ≡ n
  unfolding values_in words_per_value
  length-values n ws = go (eqb type IpAddr)
    where
      go : (b : Bool) → length ws ≡ n * cond {A = ℕ} b 2 1 → length (cond b (paired ws) ws) ≡ n
      go true e = length-paired n ws e
      go false e = e ∙ mul-one n

  -- values are what their words say
  words_back : (vs : List ℕ) → values_in type (value_words type vs) ≡ vs
  unfolding value_words values_in
  words_back vs = go (eqb type IpAddr)
    where
      go : (b : Bool) → cond b (paired (cond b (halves vs) vs)) (cond b (halves vs) vs) ≡ vs
      go true = paired-halves vs
      go false = refl

  -- also where something stands behind them
  pub values-first : (vs rest : List ℕ) → values_in type (take (length vs * words_per_value type) (value_words type vs ++ rest)) ≡ vs
  values-first vs rest = ap (values_in type) (take_at (value_words type vs) rest (length vs * words_per_value type) (length-words vs)) ∙ words_back vs

  -- words of n values are the words of the values that they say
  pub values_back : (n : ℕ) (ws : List ℕ) → length ws ≡ n * words_per_value type → AllWords ws → value_words type (values_in type ws) ≡ ws
  unfolding value_words values_in words_per_value
  values_back n ws = go (eqb type IpAddr)
    where
      go : (b : Bool) → length ws ≡ n * cond {A = ℕ} b 2 1 → AllWords ws → cond b (halves (cond b (paired ws) ws)) (cond b (paired ws) ws) ≡ ws
      go true e h = halves-paired n ws e h.word
      go false e h = refl

  pub words_append : (xs ys : List ℕ) → value_words type (xs ++ ys) ≡ value_words type xs ++ value_words type ys
  unfolding value_words
  words_append xs ys = go (eqb type IpAddr)
    where
      go : (b : Bool) → cond b (halves (xs ++ ys)) (xs ++ ys) ≡ cond b (halves xs) xs ++ cond b (halves ys) ys
      go true = halves-append xs ys
      go false = refl

  pub values-none : values_in type [] ≡ []
  unfolding values_in
  values-none = either_none (eqb type IpAddr)

  pub words-none : value_words type [] ≡ []
  unfolding value_words
  words-none = either_none (eqb type IpAddr)

  -- a part of the words, cut at values, says a part of the values
  pub values-slice : (a b : ℕ) (ws : List ℕ) → values_in type (slice (a * words_per_value type) (b * words_per_value type) ws) ≡ slice a b (values_in type ws)
  unfolding values_in words_per_value
  values-slice a b ws = go (eqb type IpAddr)
    where
      go : (t : Bool) → cond t (paired (slice (a * cond {A = ℕ} t 2 1) (b * cond {A = ℕ} t 2 1) ws)) (slice (a * cond {A = ℕ} t 2 1) (b * cond {A = ℕ} t 2 1) ws)
          ≡ slice a b (cond t (paired ws) ws)
      go true = paired-drop a (take (b * 2) ws) ∙ ap (drop a) (paired-take b ws)
      go false = λ i. slice (mul-one a i) (mul-one b i) ws
