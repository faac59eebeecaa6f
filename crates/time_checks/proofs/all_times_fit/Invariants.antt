use Rattle.std.proofs.Common.{◌≡◌, ◌+◌, ◌≤◌, length, drop}
use Rattle.time_checks.specs.Times.{times_from}
use Rattle.segment.specs.Records.{records_of}
use Rattle.definitions.specs.Segment.{SegmentRecord, record_words}
use Rattle.definitions.specs.Answer.{total}
use Rattle.time_checks.proofs.all_times_fit.Given as goal

abbrev pub invariant-loop-numbers : goal.invariant-loop-numbers
invariant-loop-numbers l = (l.o + total (λ (r : SegmentRecord). r.offsets) (records_of (drop l.numbers-index l.records)) ≤ length l.offsets) × (l.v + total record_words (records_of (drop l.numbers-index l.records)) ≤ length l.values) × (times_from (records_of (drop l.numbers-index l.records)) (drop l.o l.offsets) (drop l.v l.values) ≡ times_from (records_of l.records) l.offsets l.values)
