-- A row's bit in a word of 64 bits, set by an or and cleared by an and; where it is 0, its weight can be added. Assumes nothing.
use Prim.Native.Nat.{ℕ, ◌+◌, ◌-◌, ◌*◌, ◌/◌, ◌%◌, ◌^◌, ◌<◌}
use native.Mathlib.Nat.{zero-mul, one-mul}
use native.Mathlib.Omega.{arith}
use mathlib.Core.Path.{◌≡◌, ap, ◌∙◌, subst}
use mathlib.Core.List.{List}
use mathlib.Core.Bool.{true, false}
use lib.Bits.{bit_and, bit_or}
use lib.ListN.{get_or}
use Rattle.std.proofs.lemmas.Nat.{or_disjoint, or_lt, and-not, and_comm}
use Rattle.std.proofs.lemmas.Nat.Bits.{and_pow}
use Rattle.definitions.specs.Row.{bit_at}
use Rattle.definitions.proofs.Bits.{weight_is}
use Rattle.definitions.proofs.Withdraw.{bit-zero, bit-one}

module _ (words : List ℕ) (row : ℕ) where
  abbrev word : ℕ
  word = get_or words (row / 64) 0

  abbrev weight : ℕ
  weight = 2 ^ (row % 64)

  pub or_weight : bit_at words row ≡ false → bit_or word (1 * weight % 2 ^ 64) ≡ word + weight
  or_weight e =
      let z : bit_and word weight ≡ 0 = and_pow word (row % 64) ∙ ap (λ (b : ℕ). b * weight) (bit-zero words row e) ∙ zero-mul weight in
      rw (weight_is (row % 64) (omega arith), or_disjoint word weight z)

  pub weight_fits : word < 2 ^ 64 → bit_at words row ≡ false → word + 2 ^ (row % 64) < 2 ^ 64
  weight_fits h e = subst (λ (n : ℕ). n < 2 ^ 64) (or_weight e) (or_lt 64 word (1 * weight % 2 ^ 64) h (omega arith))

  pub and_weight : word < 2 ^ 64 → bit_at words row ≡ true → bit_and word (2 ^ 64 - 1 - 1 * weight % 2 ^ 64) ≡ word - weight
  and_weight h e =
      let o : bit_and weight word ≡ weight = and_comm weight word ∙ and_pow word (row % 64) ∙ ap (λ (b : ℕ). b * weight) (bit-one words row e) ∙ one-mul weight in
      let l : weight < 2 ^ 64 = omega (arith, weight_is (row % 64) (omega arith)) in
      let s = and-not 64 weight word l h in
      rw (weight_is (row % 64) (omega arith), and_comm) (omega arith)
