use mathlib.Core.Path.{ap, sym, ◌∙◌}
use Prim.Native.Nat.{ℕ}
use lib.ListN.{length, get_or}
use borrow.Author.Tests.{eqb-true, eqb-false}
use Rattle.definitions.specs.TimeOrder.{time_of}
use Rattle.time_cursors.proofs.Laws.{key-none, key_time}
use Rattle.time_cursors.proofs.key_cursor.Goals as goal

pub returns-then-is_empty : goal.returns-then-is_empty
returns-then-is_empty c = key-none c.args.values.now _ _ _ (eqb-true (length c.args.values.now) 0 (sym c.is_empty.ensures ∙ c.if-is_empty.true))

pub returns-else-is_empty : goal.returns-else-is_empty
returns-else-is_empty c =
    key_time c.args.values.now _ _ _ _ (eqb-false (length c.args.values.now) 0 (sym c.is_empty.ensures ∙ c.if-is_empty.false))
    (c.time_of-t.ensures ∙ ap (λ (x : ℕ). time_of (get_or c.args.values.now x 0)) c.saturating_sub.ensures)
