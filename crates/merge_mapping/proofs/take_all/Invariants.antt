use Rattle.std.proofs.Common.{◌≡◌, drop}
use Rattle.segment.specs.Lent.{addresses_of}
use Rattle.merge_mapping.specs.Mapping.{takes, left_by}
use Rattle.merge_mapping.proofs.take_all.Given as goal

abbrev pub invariant-loop-seg : goal.invariant-loop-seg
invariant-loop-seg l =
    (takes l.stands l.bits (drop l.seg-index (addresses_of l.addresses)) ≡ takes l.stands l.initial.bits (addresses_of l.addresses)) × (left_by l.stands l.bits (drop l.seg-index (addresses_of l.addresses)) ≡ left_by l.stands l.initial.bits (addresses_of l.addresses))
