-- Rows that are listed once: their widths sum up to no more than all rows' widths. Assumes nothing.
use Prim.Native.Nat.{ℕ, ◌+◌, ◌≤◌, zero-le}
use native.Mathlib.Omega.{arith}
use mathlib.Core.Path.{◌≡◌, refl, sym, ap, ◌∙◌, subst}
use mathlib.Core.List.{List, [], ◌∷◌, map, Memᴰ}
use mathlib.Core.Bool.{false, false≢true}
use Rattle.definitions.specs.Lists.{sum}
use Rattle.definitions.specs.Segment.{Address}
use Rattle.definitions.specs.Answer.{same_address, is_listed, is_repeated}
use Rattle.definitions.proofs.Lists.{any_false}
use Rattle.definitions.proofs.TimeOrder.{same_self}
use Rattle.lists.proofs.Tests.{neither}

module _ (f : Address → ℕ) where
  -- a list without one of its members
  record Without (a : Address) (m : List Address) : Type 0 where
    pub rest : List Address
    pub total : sum (map f m) ≡ f a + sum (map f rest)
    pub others : (b : Address) → Memᴰ b m → (b ≡ a → ⊥) → Memᴰ b rest

  without : (a : Address) (m : List Address) → Memᴰ a m → Without a m
  without a [] x' = elim x' [ ]
  without a (x ∷ xs) (Memᴰ.head q) =
      record {
        rest = xs;
        total = ap (λ (b : Address). f b + sum (map f xs)) (sym q);
        others = λ b n d. first b n d;
      }
    where
      first : (b : Address) → Memᴰ b (x ∷ xs) → (b ≡ a → ⊥) → Memᴰ b xs
      first b (Memᴰ.head p) d = absurd (d (p ∙ sym q))
      first b (Memᴰ.tail n) d = n
  without a (x ∷ xs) (Memᴰ.tail m) = go (without a xs m)
    where
      go : Without a xs → Without a (x ∷ xs)
      go w =
          record {
            rest = x ∷ w.rest;
            total = let t = w.total in omega arith;
            others = λ b n d. next b n d;
          }
        where
          next : (b : Address) → Memᴰ b (x ∷ xs) → (b ≡ a → ⊥) → Memᴰ b (x ∷ w.rest)
          next b (Memᴰ.head p) d = Memᴰ.head p
          next b (Memᴰ.tail n) d = Memᴰ.tail (w.others b n d)

  pub sum_distinct : (l m : List Address) → is_repeated l ≡ false → ((a : Address) → Memᴰ a l → Memᴰ a m) → sum (map f l) ≤ sum (map f m)
  sum_distinct [] m r s = zero-le
  sum_distinct (a ∷ l) m r s =
      let t = neither (is_listed a l) (is_repeated l) r in
      let w = without a m (s a (Memᴰ.head refl)) in
      let ih = sum_distinct l w.rest t.1 (λ b n. w.others b (s b (Memᴰ.tail n)) (λ q. false≢true (sym (subst (λ (c : Address). same_address a c ≡ false) q (any_false (same_address a) l t.0 n)) ∙ same_self a))) in
      let e = w.total in
      omega arith
