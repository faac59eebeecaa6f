use Rattle.std.proofs.Common.{◌≡◌, None}
use lib.ListN.{drop}
use Rattle.std.specs.Option.{option_map}
use Rattle.min_max.specs.Keys.{pair_in}
use Rattle.merge_type.specs.Found.{found_from}
use Rattle.merge_type.proofs.held_pair.Given as goal

abbrev pub invariant-loop-row : goal.invariant-loop-row
invariant-loop-row l = found_from l.to (option_map pair_in l.found) (drop l.row-index l.stands) ≡ found_from l.to None l.stands
