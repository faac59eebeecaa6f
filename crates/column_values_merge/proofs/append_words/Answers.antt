use Rattle.std.proofs.Common.{sym}
use Rattle.column_values_merge.proofs.Laws.{words-looked, words-coerced}
use Rattle.column_values_merge.proofs.append_words.Goals as goal

pub returns-then-has_terms : goal.returns-then-has_terms
returns-then-has_terms c =
    rw (← words-looked c.args.to _ _ _ _ (sym c.if-has_terms.ensures)) c.append_mapped.ensures

pub returns-else-has_terms : goal.returns-else-has_terms
returns-else-has_terms c =
    rw (← words-coerced c.args.to _ c.args.part c.args.map.now _ (sym c.if-has_terms.ensures)) c.append_coerced.ensures
