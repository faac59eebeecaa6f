use Prim.Native.Nat.{ℕ, ◌+◌}
use Rattle.lists.proofs.Parts.{run_length}
use Rattle.term_walk.proofs.Merge.{same-eq, differ}
use mathlib.Core.Path.{refl, sym, ap, ◌∙◌}
use mathlib.Core.Logic.{inl, inr}
use native.Mathlib.Omega.{arith}
use Rattle.term_walk.proofs.take_term.Goals as goal
use Rattle.term_walk.proofs.take_term.Goals.{else-n-gt0-via-then-n-gt0+else-same_term, else-n-gt0-via-else-n-gt0}

pub returns-then-same_term : goal.returns-then-same_term
returns-then-same_term c =
    inl (record { some = c.if-n-gt0.true; same = same-eq _ _ (sym c.same_term.ensures ∙ c.if-same_term.true); ordinal = omega arith; last = refl; lengths = refl; texts = refl })

pub returns-then-cursor-ne0 : goal.returns-then-cursor-ne0
returns-then-cursor-ne0 c =
    inr (inl (record { other = λ p e. elim c.else-n-gt0.branch [ else-n-gt0-via-then-n-gt0+else-same_term w ↦ differ _ _ (sym w.same_term.ensures ∙ w.if-same_term.false) e | else-n-gt0-via-else-n-gt0 w ↦ omega arith ]; unmarked = c.if-cursor-ne0.true; ordinal = refl; last = refl; lengths = refl; texts = refl }))

pub returns : goal.returns
returns c =
    inr (inr (record { other = λ p e. elim c.else-n-gt0.branch [ else-n-gt0-via-then-n-gt0+else-same_term w ↦ differ _ _ (sym w.same_term.ensures ∙ w.if-same_term.false) e | else-n-gt0-via-else-n-gt0 w ↦ omega arith ]; marked = c.if-cursor-ne0.false; ordinal = refl; terms = refl; used = ap (λ (n : ℕ). c.args.last.kept.bytes + n) (run_length _ _ _ c.requires.inside.0.high); copied = c.copy_term-copied.ensures.value; key = refl; lengths = refl; texts = c.copy_term-copied.ensures.out_after }))
