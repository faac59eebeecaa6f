-- What `io::decimal` writes is the listing's decimal. Assumes nothing.
use mathlib.Core.Path.{◌≡◌, refl, sym, ap, ◌∙◌}
use mathlib.Core.List.{List, [], ◌∷◌, ◌++◌}
use mathlib.Core.Bool.{Bool, true, false, cond}
use Prim.Native.Nat.{ℕ, zero, suc, ◌+◌, ◌-◌, ◌/◌, ◌%◌, ◌^◌, ◌≤◌, ◌<◌}
use native.Mathlib.Nat.{pow-suc, one-le-pow, pow-le-pow_right, mod-eq_of_lt, le_of_suc-le-suc}
use native.Mathlib.Omega.{arith}
use borrow.Author.Tests.{lt-ltb, le-ltb, leb-true, leb-false}
use lib.ListN.{length, length-append}
use lib.Dec.{ltb, leb}
use Rattle.io.specs.Digits.{last_digits, IsDigitCount}
use Rattle.definitions.specs.Listing.{decimal, decimal_within, digit}

one-digit : (n : ℕ) → n < 10 → last_digits 10 1 n ≡ digit n ∷ []
one-digit n h = ap (λ (m : ℕ). digit m ∷ []) (mod-eq_of_lt h)

within : (k r n : ℕ) → r ≤ k → n < 10 ^ suc r → (zero < r → 10 ^ r ≤ n) → last_digits 10 (suc r) n ≡ decimal_within k n
within zero zero n h b l = one-digit n b
within zero (suc r) n h b l = absurd (omega arith)
within (suc k) zero n h b l = one-digit n b ∙ sym (ap (λ (t : Bool). cond t (digit n ∷ []) (decimal_within k (n / 10) ++ (digit (n % 10) ∷ []))) (lt-ltb n 10 b))
within (suc k) (suc r) n h b l =
    let p = pow-suc 10 r in
    let q = pow-suc 10 (suc r) in
    let o = one-le-pow r 10 (omega arith) in
    let m : 10 ^ suc r ≤ n = l (omega arith) in
    let i : last_digits 10 (suc r) (n / 10) ≡ decimal_within k (n / 10) = within k r (n / 10) (le_of_suc-le-suc h) (omega arith) (λ _. omega arith) in
    rw (le-ltb n 10 (omega arith)) (ap (λ (ds : List ℕ). ds ++ (digit (n % 10) ∷ [])) i)

-- 64 bits have at most twenty digits
few : (n q : ℕ) → n < 18446744073709551616 → (1 < suc q → 10 ^ (suc q - 1) ≤ n) → (t : Bool) → leb q 19 ≡ t → q ≤ 19
few n q b f true e = leb-true q 19 e
few n q b f false e =
    let h : 20 ≤ q = leb-false q 19 e in
    let p : 10 ^ 20 ≤ 10 ^ q = pow-le-pow_right (omega arith) h in
    let s : suc q - 1 ≡ q = omega arith in
    let m : 10 ^ q ≤ n = rw s at (f (omega arith)) in
    absurd (omega arith)

pub decimal-is : (n r : ℕ) → n < 18446744073709551616 → IsDigitCount 10 1 n r → last_digits 10 r n ≡ decimal n
unfolding decimal
decimal-is n zero b f = absurd (omega (arith, f.0))
decimal-is n (suc q) b f =
    let s : suc q - 1 ≡ q = omega arith in
    within 19 q n (few n q b f.2 (leb q 19) refl) f.1 (λ z. rw s at (f.2 (omega arith)))

within-length : (k n : ℕ) → length (decimal_within k n) ≤ k + 1
within-length zero n = omega arith
within-length (suc k) n = go (n / 10) (n % 10) (decimal_within k (n / 10)) (within-length k (n / 10)) (ltb n 10)
  where
    go : (a b : ℕ) (l : List ℕ) → length l ≤ k + 1 → (t : Bool) → length (cond t (digit n ∷ []) (l ++ (digit b ∷ []))) ≤ suc k + 1
    go a b l h true = omega arith
    go a b l h false = omega (arith, length-append l (digit b ∷ []))

-- at most twenty digits
pub decimal-length : (n : ℕ) → length (decimal n) ≤ 20
unfolding decimal
decimal-length n = within-length 19 n
