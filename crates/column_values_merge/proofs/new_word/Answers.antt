use Rattle.std.proofs.Common.{refl, sym, ◌∙◌}
use Rattle.column_values_merge.proofs.Laws.{coerced-one, ordinal_in, looked-one, words-coerced}
use Rattle.column_values_merge.proofs.new_word.Goals as goal

pub returns-then-has_terms : goal.returns-then-has_terms
returns-then-has_terms c =
    let e = sym c.if-has_terms.ensures in
    looked-one c.args.to c.args.typ c.args.part c.args.map.now c.args.word _ e (ordinal_in c.args.typ c.args.part c.args.map.now c.args.word c.requires e) refl

pub returns-else-has_terms : goal.returns-else-has_terms
returns-else-has_terms c =
    coerced-one _ _ _ c.coerce.ensures ∙ words-coerced c.args.to _ c.args.part c.args.map.now _ (sym c.if-has_terms.ensures)
