use native.Mathlib.Omega.{arith}
use lib.ListN.{length}
use Rattle.definitions.specs.Wire.{word_sections}
use Rattle.wire.proofs.Sections as laws
use Rattle.wire.proofs.read_addresses.Goals as goal

pub section-s-requires-clause-bounded : goal.section-s-requires-clause-bounded
section-s-requires-clause-bounded c =
    c.requires.narrow.bounded

pub section-s-requires-clause-k_in_bounds : goal.section-s-requires-clause-k_in_bounds
section-s-requires-clause-k_in_bounds c =
    c.requires.narrow.stands

pub fill_addresses-requires-clause-below : goal.fill_addresses-requires-clause-below
fill_addresses-requires-clause-below c =
    (laws.group_ok 2 4294967296 8 _ _ _ (length c.args.out.now) c.requires.narrow c.section-s.ensures (λ h. omega (arith, h, c.requires.words_in_bounds))).0

pub fill_addresses-requires-clause-words_in_bounds : goal.fill_addresses-requires-clause-words_in_bounds
fill_addresses-requires-clause-words_in_bounds c =
    (laws.group_ok 2 4294967296 8 _ _ _ (length c.args.out.now) c.requires.narrow c.section-s.ensures (λ h. omega (arith, h, c.requires.words_in_bounds))).1

pub returns-clause-value : goal.returns-clause-value
returns-clause-value c =
    (laws.addresses_done (word_sections c.args.words.now) _ c.args.out.now _ c.section-s.ensures c.fill_addresses.ensures).0

pub returns-clause-out_after : goal.returns-clause-out_after
returns-clause-out_after c =
    (laws.addresses_done (word_sections c.args.words.now) _ c.args.out.now _ c.section-s.ensures c.fill_addresses.ensures).1
