use Rattle.std.proofs.Common.{◌∙◌}
use Rattle.segment.specs.Lent.{addresses_of}
use Rattle.stands.proofs.Fill.{lent-stands}
use Rattle.merge_mapping.proofs.Stood.{words-lent, room-lent, room_then, once_bad, once_good, once_clean}
use Rattle.merge_mapping.proofs.each_once.Goals as goal

pub fill_all-requires-clause-all_worded : goal.fill_all-requires-clause-all_worded
fill_all-requires-clause-all_worded c =
    words-lent c.args.records.now c.args.alive.now c.args.bits.now c.requires (lent-stands c.args.records.now _ c.fill_stands.ensures)

pub fill_all-requires-clause-room : goal.fill_all-requires-clause-room
fill_all-requires-clause-room c =
    room-lent c.args.records.now c.args.alive.now c.args.bits.now c.requires (lent-stands c.args.records.now _ c.fill_stands.ensures)

pub take_all-requires : goal.take_all-requires
take_all-requires c =
    room_then c.args.records.now c.args.alive.now c.args.bits.now c.requires (lent-stands c.args.records.now _ c.fill_stands.ensures) c.fill_all.ensures

pub returns-then-take_all-clause-value : goal.returns-then-take_all-clause-value
returns-then-take_all-clause-value c =
    let is = lent-stands c.args.records.now _ c.fill_stands.ensures in
    once_good c.args.records.now c.args.alive.now c.args.bits.now c.requires is c.fill_all.ensures (addresses_of c.args.addresses.now) c.take_all.ensures.value c.if-take_all.true c.take_all.ensures.bits_after c.none_left.ensures

pub returns-then-take_all-clause-bits_after : goal.returns-then-take_all-clause-bits_after
returns-then-take_all-clause-bits_after c =
    let is = lent-stands c.args.records.now _ c.fill_stands.ensures in
    once_clean c.args.records.now c.args.alive.now c.args.bits.now c.requires is c.fill_all.ensures (addresses_of c.args.addresses.now) c.take_all.ensures.value c.if-take_all.true c.take_all.ensures.bits_after c.none_left.ensures

pub returns-else-take_all-clause-value : goal.returns-else-take_all-clause-value
returns-else-take_all-clause-value c =
    let is = lent-stands c.args.records.now _ c.fill_stands.ensures in
    c.if-take_all.false ∙ once_bad c.args.records.now c.args.alive.now c.args.bits.now c.requires is c.fill_all.ensures (addresses_of c.args.addresses.now) c.take_all.ensures.value c.if-take_all.false
