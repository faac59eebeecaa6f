use mathlib.Core.Path.{sym, ap, ◌∙◌}
use Prim.Native.Nat.{ℕ}
use Rattle.term_cursors.proofs.Cursors.{there, not-there, cursor-is}
use Rattle.term_cursors.proofs.cursor_at.Goals as goal
use Rattle.term_cursors.proofs.cursor_at.Goals.{then-at, else-at}

pub returns : goal.returns
returns c =
    cursor-is _ _ _ _ _ _ _ _
    (elim c.if-at.branch [ then-at w ↦ ap (λ (x : ℕ × ℕ). x.0) w.n-is ∙ sym (there _ _ _ w.if-at.true) | else-at w ↦ ap (λ (x : ℕ × ℕ). x.0) w.n-is ∙ sym (not-there _ _ _ w.if-at.false) ])
    (elim c.if-at.branch [
      | then-at w ↦ ap (λ (x : ℕ × ℕ). x.1) w.n-is ∙ w.unmarked_at.ensures ∙ sym (there _ _ _ w.if-at.true)
      | else-at w ↦ ap (λ (x : ℕ × ℕ). x.1) w.n-is ∙ sym (not-there _ _ _ w.if-at.false)
    ])
    c.key_at.ensures
