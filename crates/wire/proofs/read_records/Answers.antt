use Rattle.definitions.specs.Wire.{word_sections}
use Rattle.wire.proofs.Sections as laws
use Rattle.wire.proofs.read_records.Goals as goal

pub section-s-requires-clause-bounded : goal.section-s-requires-clause-bounded
section-s-requires-clause-bounded c =
    c.requires.narrow_records.bounded

pub section-s-requires-clause-k_in_bounds : goal.section-s-requires-clause-k_in_bounds
section-s-requires-clause-k_in_bounds c =
    c.requires.narrow_records.stands

pub fill_records-requires-clause-words_value : goal.fill_records-requires-clause-words_value
fill_records-requires-clause-words_value c =
    (laws.records_ok _ _ _ _ c.requires.narrow_records c.section-s.ensures c.requires.record_width_in_bounds).0

pub fill_records-requires-clause-record_width_in_bounds : goal.fill_records-requires-clause-record_width_in_bounds
fill_records-requires-clause-record_width_in_bounds c =
    (laws.records_ok _ _ _ _ c.requires.narrow_records c.section-s.ensures c.requires.record_width_in_bounds).1

pub returns-clause-value : goal.returns-clause-value
returns-clause-value c =
    (laws.records_done (word_sections c.args.words.now) _ c.args.out.now _ c.section-s.ensures c.fill_records.ensures).0

pub returns-clause-out_after : goal.returns-clause-out_after
returns-clause-out_after c =
    (laws.records_done (word_sections c.args.words.now) _ c.args.out.now _ c.section-s.ensures c.fill_records.ensures).1
