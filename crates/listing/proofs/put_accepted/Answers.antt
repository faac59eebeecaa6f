use native.Mathlib.Omega.{arith}
use borrow.Author.Rules.{rules}
use mathlib.Core.Path.{◌∙◌}
use native.Mathlib.Nat.{zero-add}
use Rattle.definitions.specs.Segment.{cut}
use Rattle.listing.proofs.Writing.{start, room, room-last, more, last}
use Rattle.listing.proofs.Lines as lines
use Rattle.listing.proofs.put_accepted.Goals as goal

pub value-requires : goal.value-requires
value-requires c =
    room _ (start _ (record { room = omega (arith, c.requires.map_in_bounds) }) (lines.accepted-is c.args.kind c.args.class c.args.rows c.args.ids.now c.args.offsets.now c.args.values c.args.words.now (cut c.args.lengths.now c.args.bytes.now) c.args.map.now))

pub numbers_part-requires : goal.numbers_part-requires
numbers_part-requires c =
    room _ (more (start _ (record { room = omega (arith, c.requires.map_in_bounds) }) (lines.accepted-is c.args.kind c.args.class c.args.rows c.args.ids.now c.args.offsets.now c.args.values c.args.words.now (cut c.args.lengths.now c.args.bytes.now) c.args.map.now)) c.value.ensures)

pub lists_part-requires : goal.lists_part-requires
lists_part-requires c =
    room _ (more (more (start _ (record { room = omega (arith, c.requires.map_in_bounds) }) (lines.accepted-is c.args.kind c.args.class c.args.rows c.args.ids.now c.args.offsets.now c.args.values c.args.words.now (cut c.args.lengths.now c.args.bytes.now) c.args.map.now)) c.value.ensures) c.numbers_part.ensures)

pub terms_part-requires-clause-map_in_bounds : goal.terms_part-requires-clause-map_in_bounds
terms_part-requires-clause-map_in_bounds c =
    room-last (more (more (more (start _ (record { room = omega (arith, c.requires.map_in_bounds) }) (lines.accepted-is c.args.kind c.args.class c.args.rows c.args.ids.now c.args.offsets.now c.args.values c.args.words.now (cut c.args.lengths.now c.args.bytes.now) c.args.map.now)) c.value.ensures) c.numbers_part.ensures) c.lists_part.ensures)

pub returns-clause-value : goal.returns-clause-value
returns-clause-value c =
    (last (more (more (more (start _ (record { room = omega (arith, c.requires.map_in_bounds) }) (lines.accepted-is c.args.kind c.args.class c.args.rows c.args.ids.now c.args.offsets.now c.args.values c.args.words.now (cut c.args.lengths.now c.args.bytes.now) c.args.map.now)) c.value.ensures) c.numbers_part.ensures) c.lists_part.ensures) c.terms_part.ensures).at ∙ zero-add _

pub returns-clause-out_after : goal.returns-clause-out_after
returns-clause-out_after c =
    let w = last (more (more (more (start _ (record { room = omega (arith, c.requires.map_in_bounds) }) (lines.accepted-is c.args.kind c.args.class c.args.rows c.args.ids.now c.args.offsets.now c.args.values c.args.words.now (cut c.args.lengths.now c.args.bytes.now) c.args.map.now)) c.value.ensures) c.numbers_part.ensures) c.lists_part.ensures) c.terms_part.ensures in
    search rules
