use mathlib.Core.Bool.{Bool, true, false, cond}
use mathlib.Core.Path.{◌≡◌, refl}
use mir.Val.{bool_byte}
use Rattle.term_cursors.specs.Cursors.{unmarked_at}
use Rattle.term_cursors.proofs.unmarked_at.Goals as goal
use Rattle.term_cursors.proofs.unmarked_at.Goals.{then-not-all, else-not-all}

byte-is : (b : Bool) → bool_byte b ≡ cond b 1 0
byte-is true = refl
byte-is false = refl

pub returns : goal.returns
unfolding unmarked_at
returns c =
    elim c.if-not-all.branch [ then-not-all w ↦ rw (w.result-is, w.if-not-all.true) (byte-is _) | else-not-all w ↦ rw (w.result-is, w.if-not-all.false) ]
