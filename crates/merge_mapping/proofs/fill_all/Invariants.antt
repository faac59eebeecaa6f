use Rattle.std.proofs.Common.{◌≡◌}
use Rattle.merge_mapping.specs.Mapping.{laid_out}
use Rattle.merge_mapping.proofs.fill_all.Given as goal

abbrev pub invariant-loop-numbers : goal.invariant-loop-numbers
invariant-loop-numbers l = l.bits ≡ laid_out l.stands l.alive l.initial.bits l.numbers-index
