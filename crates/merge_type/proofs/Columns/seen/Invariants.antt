use mathlib.Core.Path.{◌≡◌}
use lib.ListN.{drop}
use Rattle.merge_type.specs.Parts.{held_in}
use Rattle.numerical.specs.Seen.{seen_from, none_seen}
use Rattle.merge_type.proofs.Columns.seen.Given as goal

abbrev pub invariant-loop-row : goal.invariant-loop-row
invariant-loop-row l = seen_from l.seen (held_in (drop l.row-index l.self.stands.now)) ≡ seen_from none_seen (held_in l.self.stands.now)
