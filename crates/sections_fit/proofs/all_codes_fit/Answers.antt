use Rattle.std.proofs.Common.{refl, ◌∙◌, ℕ, List, ◌&&◌, rules, tests}
use Rattle.std.proofs.lemmas.Iterator.{YieldsList-from_slice}
use Rattle.std.proofs.lemmas.Iterator.Search.{all_from_yields_List}
use Rattle.std.proofs.lemmas.List.Recursion.{same_from_clauses}
use Rattle.std.specs.List.{list_all}
use Rattle.segment.specs.Records.{row_record, records_of}
use Rattle.segment_fit.specs.Fits.{fits_codes}
use Rattle.sections_fit.specs.Walks.{codes_from}
use Rattle.sections_fit.proofs.all_codes_fit.Goals as goal

pub returns : goal.returns
unfolding codes_from
returns c =
    let rs = c.args.records.now in
    let p = λ (r : List ℕ). fits_codes (row_record r) in
    all_from_yields_List p _ _ _ c.all.ensures.ran (YieldsList-from_slice rs cc) (λ x b q k. search (rules, tests))
    ∙ same_from_clauses (list_all p) (λ l. codes_from (records_of l)) (λ x b. p x && b) refl (λ _ _. refl) (λ _ _. refl) rs
