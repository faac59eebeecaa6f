use mathlib.Core.Path.{refl}
use borrow.Author.Tests.{lt-ltb, le-ltb}
use Rattle.lists.proofs.Tests.{taken, other}
use Rattle.merge_column.specs.Plan.{enough_for}
use Rattle.merge_column.proofs.has_room.Goals as goal

pub returns-then-space-x : goal.returns-then-space-x
unfolding enough_for
returns-then-space-x c =
    taken _ _ (lt-ltb _ _ c.if-space-x.true)

pub returns-then-space-x-2 : goal.returns-then-space-x-2
unfolding enough_for
returns-then-space-x-2 c =
    other _ (le-ltb _ _ c.if-space-x.false) (taken _ _ (lt-ltb _ _ c.if-space-x-2.true))

pub returns-then-space-x-3 : goal.returns-then-space-x-3
unfolding enough_for
returns-then-space-x-3 c =
    other _ (le-ltb _ _ c.if-space-x.false) (other _ (le-ltb _ _ c.if-space-x-2.false) (taken _ _ (lt-ltb _ _ c.if-space-x-3.true)))

pub returns-then-space-x-4 : goal.returns-then-space-x-4
unfolding enough_for
returns-then-space-x-4 c =
    other _ (le-ltb _ _ c.if-space-x.false) (other _ (le-ltb _ _ c.if-space-x-2.false) (other _ (le-ltb _ _ c.if-space-x-3.false) (taken _ _ (lt-ltb _ _ c.if-space-x-4.true))))

pub returns-then-space-bytes : goal.returns-then-space-bytes
unfolding enough_for
returns-then-space-bytes c =
    other _ (le-ltb _ _ c.if-space-x.false) (other _ (le-ltb _ _ c.if-space-x-2.false) (other _ (le-ltb _ _ c.if-space-x-3.false) (other _ (le-ltb _ _ c.if-space-x-4.false) (taken _ _ (lt-ltb _ _ c.if-space-bytes.true)))))

pub returns : goal.returns
unfolding enough_for
returns c =
    other _ (le-ltb _ _ c.if-space-x.false) (other _ (le-ltb _ _ c.if-space-x-2.false) (other _ (le-ltb _ _ c.if-space-x-3.false) (other _ (le-ltb _ _ c.if-space-x-4.false) (other _ (le-ltb _ _ c.if-space-bytes.false) (refl)))))
