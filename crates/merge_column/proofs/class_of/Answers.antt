use mathlib.Core.Path.{refl}
use Rattle.merge_column.proofs.Laws.{class-none, class-some}
use Rattle.merge_column.proofs.class_of.Goals as goal

pub returns-then-typ-eq255 : goal.returns-then-typ-eq255
returns-then-typ-eq255 c =
    class-none _ _ c.if-typ-eq255.true

pub returns : goal.returns
returns c =
    class-some _ _ _ c.if-typ-eq255.false refl
