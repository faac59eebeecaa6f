use mathlib.Core.Path.{ap}
use Rattle.term_merger.specs.declared.Cursor.{Cursor}
use lib.ListN.{set}
use Rattle.term_cursors.proofs.put_cursor.Goals as goal

pub returns : goal.returns
returns c =
    ap (λ (r : Cursor). set c.args.cursors.now c.args.s r) c.cursor_at.ensures
