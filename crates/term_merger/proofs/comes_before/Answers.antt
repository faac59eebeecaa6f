use mathlib.Core.Path.{◌∙◌}
use Rattle.term_merger.proofs.Laws.{inside-at, compared}
use Rattle.term_merger.proofs.comes_before.Goals as goal

pub compare_keys-requires-clause-inside : goal.compare_keys-requires-clause-inside
compare_keys-requires-clause-inside c = inside-at _ _ _ c.requires.1 c.ranges.a.fits

pub compare_keys-requires-clause-inside_2 : goal.compare_keys-requires-clause-inside_2
compare_keys-requires-clause-inside_2 c = inside-at _ _ _ c.requires.1 c.ranges.b.fits

pub returns : goal.returns
returns c = c.is_lt.ensures ∙ compared _ _ _ _ c.compare_keys.ensures c.cmp.ensures c.then.ensures c.cmp-2.ensures c.then-2.ensures
