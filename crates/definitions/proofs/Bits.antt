-- The bits of the numbers of a list: setting or clearing one of them leaves every other as it was. Words of an alive set and working bytes alike. Assumes nothing.
use Prim.Native.Nat.{ℕ, zero, suc, ◌+◌, ◌-◌, ◌*◌, ◌/◌, ◌%◌, ◌^◌, ◌≤◌, ◌<◌}
use native.Mathlib.Nat.{pow-suc, add-div_right, add-mul-div_right, add-mul-mod_self_right, le-div_iff_mul-le, one-mul}
use native.Mathlib.Decide.{ℕ_discrete}
use native.Mathlib.Omega.{arith}
use mathlib.Core.Path.{◌≡◌, refl, sym, ap, ◌∙◌, subst}
use mathlib.Core.List.{List}
use mathlib.Core.Logic.{◌⊎◌, inl, inr}
use lib.ListN.{length, get_or, set}
use lib.Seq.{get_or-set_same, get_or-set_other}
use lib.Pow.{pow_pos, pow-add, shr-shr, shl_exact}
use Rattle.definitions.specs.Lists.{bit_in, with_bit, without_bit}

-- ---- one number

-- one of two numbers that differ is the greater
three : (b c : ℕ) → (c ≡ b → ⊥) → ((k : ℕ) × (b ≡ c + suc k)) ⊎ ((k : ℕ) × (c ≡ b + suc k))
three zero zero h = absurd (h refl)
three zero (suc c) h = inr (c, omega arith)
three (suc b) zero h = inl (b, omega arith)
three (suc b) (suc c) h = go (three b c (λ e. h (ap suc e)))
  where
    go : ((k : ℕ) × (b ≡ c + suc k)) ⊎ ((k : ℕ) × (c ≡ b + suc k)) → ((k : ℕ) × (suc b ≡ suc c + suc k)) ⊎ ((k : ℕ) × (suc c ≡ suc b + suc k))
    go (inl t) = inl (t.0, let e = t.1 in omega arith)
    go (inr t) = inr (t.0, let e = t.1 in omega arith)

-- a bit that is 0, set: the bit itself
set_here : (w b : ℕ) → w / 2 ^ b % 2 ≡ 0 → (w + 2 ^ b) / 2 ^ b % 2 ≡ 1
set_here w b e = ap (λ (x : ℕ). x % 2) (add-div_right w (pow_pos b)) ∙ next (w / 2 ^ b) e
  where
    next : (x : ℕ) → x % 2 ≡ 0 → (x + 1) % 2 ≡ 1
    next x e = omega arith

-- the others
set_there : (w b c : ℕ) → w / 2 ^ b % 2 ≡ 0 → (c ≡ b → ⊥) → (w + 2 ^ b) / 2 ^ c % 2 ≡ w / 2 ^ c % 2
set_there w b c e h = go (three b c h)
  where
    above : (k : ℕ) → b ≡ c + suc k → (w + 2 ^ b) / 2 ^ c % 2 ≡ w / 2 ^ c % 2
    above k q =
        ap (λ (x : ℕ). (w + x) / 2 ^ c % 2) (ap (λ (x : ℕ). 2 ^ x) (q ∙ swap c k) ∙ pow-add 2 (suc k) c)
        ∙ ap (λ (x : ℕ). x % 2) (add-mul-div_right w (2 ^ suc k) (pow_pos c))
        ∙ ap (λ (x : ℕ). (w / 2 ^ c + x) % 2) (pow-suc 2 k)
        ∙ add-mul-mod_self_right (w / 2 ^ c) (2 ^ k) 2
      where
        swap : (c k : ℕ) → c + suc k ≡ suc k + c
        swap c k = omega arith

    half : (x : ℕ) → x % 2 ≡ 0 → (x + 1) / 2 ≡ x / 2
    half x e = omega arith

    below : (k : ℕ) → c ≡ b + suc k → (w + 2 ^ b) / 2 ^ c % 2 ≡ w / 2 ^ c % 2
    below k q = ap (λ (x : ℕ). x % 2) (at (w + 2 ^ b) ∙ ap (λ (x : ℕ). x / 2 / 2 ^ k) (add-div_right w (pow_pos b)) ∙ ap (λ (x : ℕ). x / 2 ^ k) (half (w / 2 ^ b) e) ∙ sym (at w))
      where
        at : (x : ℕ) → x / 2 ^ c ≡ x / 2 ^ b / 2 / 2 ^ k
        at x = ap (λ (n : ℕ). x / 2 ^ n) q ∙ sym (shr-shr x b (suc k)) ∙ ap (λ (n : ℕ). x / 2 ^ b / 2 ^ n) (one_up k) ∙ sym (shr-shr (x / 2 ^ b) 1 k)
          where
            one_up : (k : ℕ) → suc k ≡ 1 + k
            one_up k = omega arith

    go : ((k : ℕ) × (b ≡ c + suc k)) ⊎ ((k : ℕ) × (c ≡ b + suc k)) → (w + 2 ^ b) / 2 ^ c % 2 ≡ w / 2 ^ c % 2
    go (inl t) = above t.0 t.1
    go (inr t) = below t.0 t.1

-- a number whose bit is 1 is one whose bit is 0, with the bit's weight added
pub cleared : (w b : ℕ) → w / 2 ^ b % 2 ≡ 1 → ((w - 2 ^ b) + 2 ^ b ≡ w) × ((w - 2 ^ b) / 2 ^ b % 2 ≡ 0)
cleared w b e =
    let one : 1 ≤ w / 2 ^ b = odd (w / 2 ^ b) e in
    let le : 2 ^ b ≤ w = subst (λ (x : ℕ). x ≤ w) (one-mul (2 ^ b)) ((le-div_iff_mul-le (pow_pos b)).0 one) in
    let back : (w - 2 ^ b) + 2 ^ b ≡ w = sub_back w (2 ^ b) le in
    (back, even ((w - 2 ^ b) / 2 ^ b) (w / 2 ^ b) (sym (add-div_right (w - 2 ^ b) (pow_pos b)) ∙ ap (λ (x : ℕ). x / 2 ^ b) back) e)
  where
    odd : (x : ℕ) → x % 2 ≡ 1 → 1 ≤ x
    odd x e = omega arith

    sub_back : (w p : ℕ) → p ≤ w → (w - p) + p ≡ w
    sub_back w p h = omega arith

    even : (x y : ℕ) → x + 1 ≡ y → y % 2 ≡ 1 → x % 2 ≡ 0
    even x y q e = omega arith

-- one shifted up within 64 bits
pub weight_is : (b : ℕ) → b < 64 → (1 * 2 ^ b) % 2 ^ 64 ≡ 2 ^ b
weight_is b h = shl_exact 1 b 64 (omega arith) (omega arith) ∙ one-mul (2 ^ b)

-- ---- a list of numbers

module _ (xs : List ℕ) (i b : ℕ) (inside : i < length xs) where
  -- a number put in, seen at its own place
  put-here : (w c : ℕ) → bit_in (set xs i w) i c ≡ w / 2 ^ c % 2
  put-here w c = ap (λ (x : ℕ). x / 2 ^ c % 2) (get_or-set_same xs i w 0 inside)

  -- one that differs from the old one in bit b alone, seen elsewhere
  put-there : (w : ℕ) → ((c : ℕ) → (c ≡ b → ⊥) → w / 2 ^ c % 2 ≡ bit_in xs i c) → (j c : ℕ) → (j ≡ i → c ≡ b → ⊥) → bit_in (set xs i w) j c ≡ bit_in xs j c
  put-there w same j c h = go (ℕ_discrete j i)
    where
      go : Dec (j ≡ i) → bit_in (set xs i w) j c ≡ bit_in xs j c
      go (yes q) =
          ap (λ (k : ℕ). bit_in (set xs i w) k c) q ∙ put-here w c ∙ same c (h q) ∙ ap (λ (k : ℕ). bit_in xs k c) (sym q)
      go (no n) = ap (λ (x : ℕ). x / 2 ^ c % 2) (get_or-set_other xs i j w 0 n)

  module _ (e : bit_in xs i b ≡ 0) where
    pub bit-set : bit_in (with_bit xs i b) i b ≡ 1
    bit-set = put-here (get_or xs i 0 + 2 ^ b) b ∙ set_here (get_or xs i 0) b e

    pub bit-set-others : (j c : ℕ) → (j ≡ i → c ≡ b → ⊥) → bit_in (with_bit xs i b) j c ≡ bit_in xs j c
    bit-set-others = put-there (get_or xs i 0 + 2 ^ b) (λ c h. set_there (get_or xs i 0) b c e h)

  module _ (e : bit_in xs i b ≡ 1) where
    pub bit_cleared : bit_in (without_bit xs i b) i b ≡ 0
    bit_cleared = put-here (get_or xs i 0 - 2 ^ b) b ∙ (cleared (get_or xs i 0) b e).1

    pub bit_cleared_others : (j c : ℕ) → (j ≡ i → c ≡ b → ⊥) → bit_in (without_bit xs i b) j c ≡ bit_in xs j c
    bit_cleared_others =
        let t = cleared (get_or xs i 0) b e in
        put-there (get_or xs i 0 - 2 ^ b) (λ c h. sym (set_there (get_or xs i 0 - 2 ^ b) b c t.1 h) ∙ ap (λ (x : ℕ). x / 2 ^ c % 2) t.0)
