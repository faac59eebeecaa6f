-- Working bytes that are zero, and a part of them marked and cleared. Assumes nothing.
use mathlib.Core.Path.{◌≡◌, sym, ap, ◌∙◌}
use mathlib.Core.List.{List, ◌++◌}
use Prim.Native.Nat.{ℕ, ◌+◌, ◌-◌, ◌≤◌}
use native.Mathlib.Omega.{arith}
use lib.ListN.{length, take, drop, replicate, length-replicate, length-append, replicate-append-replicate}
use lib.Seq.{length-take-le, take_at, drop_at}
use Rattle.lists.proofs.Lists.{take-zeros, drop-zeros}

pub zero_again : (w : List ℕ) (n : ℕ) → w ≡ replicate n 0 → w ≡ replicate (length w) 0
zero_again w n e = e ∙ ap (λ (m : ℕ). replicate m 0) (sym (ap length e ∙ length-replicate n 0))

-- where the first n elements of a list are written anew
module _ {A : Type 0} (n : ℕ) (m w : List A) (h : n ≤ length w) (l : length m ≡ length (take n w)) where
  front_is : length m ≡ n
  front_is = l ∙ length-take-le n w h

  pub front-within : n ≤ length (m ++ drop n w)
  front-within = rw (length-append m (drop n w)) (let e = front_is in omega arith)

  pub front_long : n ≡ length (take n (m ++ drop n w))
  front_long = sym (ap length (take_at m (drop n w) n front_is) ∙ front_is)

module _ (w : List ℕ) (n : ℕ) (h : n ≤ length w) (z : w ≡ replicate (length w) 0) where
  zero_back : drop n w ≡ replicate (length w - n) 0
  zero_back = ap (drop n) z ∙ drop-zeros n (length w)

  -- the part is zero too
  pub part-zero : take n w ≡ replicate (length (take n w)) 0
  part-zero = ap (take n) z ∙ take-zeros n (length w) h ∙ ap (λ (k : ℕ). replicate k 0) (sym (length-take-le n w h))

  -- m stands where the part stood
  module _ (m : List ℕ) (l : length m ≡ length (take n w)) where
    -- and the part is cleared
    pub cleared : (c : List ℕ) → c ≡ replicate (length (take n (m ++ drop n w))) 0 → c ++ drop n (m ++ drop n w) ≡ replicate (length w) 0
    cleared c e =
        (λ i. (e ∙ ap (λ (k : ℕ). replicate k 0) (sym (front_long n m w h l))) i ++ (drop_at m (drop n w) n (front_is n m w h l) ∙ zero_back) i)
        ∙ replicate-append-replicate n (length w - n) 0
        ∙ ap (λ (k : ℕ). replicate k 0) (let e : n + (length w - n) ≡ length w = omega arith in e)
