-- Where a segment is not of kind 3, its kind is one of those that a join takes. Assumes nothing.
use Prim.Native.Nat.{ℕ, suc, ◌+◌}
use native.Mathlib.Omega.{arith}
use mathlib.Core.Path.{◌≡◌, ap, ◌∙◌}
use mathlib.Core.Bool.{Bool, false, cond}
use lib.Dec.{eqb}
use borrow.Author.Tests.{ne_eqb}
use Rattle.definitions.specs.Segment.{by_kind}
use Rattle.segment.specs.Kind.{by_index}

pub by_index_lem : {A : Type 0} (kind : ℕ) (a b c d e : A) → eqb kind 3 ≡ false → by_kind kind a b c d e ≡ by_index kind a b c e
by_index_lem kind a b c d e h = ap (λ (t : Bool). cond (eqb kind 0) a (cond (eqb kind 1) b (cond (eqb kind 2) c (cond t d e)))) h

above : {A : Type 0} (k : ℕ) (a b c e : A) → by_index (3 + k) a b c e ≡ e
above k a b c e = rw (ne_eqb (3 + k) 0 (λ h. omega arith), ne_eqb (3 + k) 1 (λ h. omega arith), ne_eqb (3 + k) 2 (λ h. omega arith))

pub index_multi : {A : Type 0} (k : ℕ) (a b c e : A) → by_index (suc (suc (suc k))) a b c e ≡ e
index_multi k a b c e = ap (λ (n : ℕ). by_index n a b c e) (let q : suc (suc (suc k)) ≡ 3 + k = omega arith in q) ∙ above k a b c e
