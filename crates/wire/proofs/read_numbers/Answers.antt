use Rattle.wire.proofs.Sections as laws
use Rattle.wire.proofs.read_numbers.Goals as goal

pub fill-requires-clause-below : goal.fill-requires-clause-below
fill-requires-clause-below g c =
    (laws.fill_ok _ _ _ _ _ _ c.requires.narrow c.section-s.ensures c.requires.words_in_bounds).0

pub fill-requires-clause-words_in_bounds : goal.fill-requires-clause-words_in_bounds
fill-requires-clause-words_in_bounds g c =
    (laws.fill_ok _ _ _ _ _ _ c.requires.narrow c.section-s.ensures c.requires.words_in_bounds).1
