use Rattle.std.proofs.Common.{◌≡◌, ◌+◌, ◌*◌, ◌≤◌, drop}
use Rattle.definitions.specs.Answer.{total}
use Rattle.segment.specs.Records.{records_of}
use Rattle.time_checks.specs.Times.{alive_of}
use Rattle.time_checks.proofs.all_alive.Given as goal

abbrev pub invariant-loop-numbers : goal.invariant-loop-numbers
invariant-loop-numbers l = (l.n + total alive_of (records_of (drop l.numbers-index l.records)) ≡ total alive_of (records_of l.records)) × (l.n ≤ l.numbers-index * 4294967296)
