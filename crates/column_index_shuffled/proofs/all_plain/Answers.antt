use Rattle.std.proofs.Common.{refl, ◌∙◌, ℕ, List, ◌&&◌, rules, tests}
use Rattle.std.proofs.lemmas.Iterator.{YieldsList-from_slice}
use Rattle.std.proofs.lemmas.Iterator.Search.{all_from_yields_List}
use Rattle.std.proofs.lemmas.List.Recursion.{same_from_clauses}
use Rattle.std.specs.List.{list_all}
use Rattle.definitions.specs.Lists.{all}
use Rattle.stands.specs.Stand.{stand_of}
use Rattle.column_index_shuffled.specs.Plain.{is_plain, all_plain}
use Rattle.column_index_shuffled.proofs.all_plain.Goals as goal

pub returns : goal.returns
unfolding all_plain
returns c =
    let xs = c.args.stands.now in
    let p = λ (r : List ℕ). is_plain c.args.to (stand_of r) in
    all_from_yields_List p _ _ _ c.all.ensures.ran (YieldsList-from_slice xs cc) (λ x b q k. search (rules, tests))
    ∙ same_from_clauses (list_all p) (all p) (λ x b. p x && b) refl (λ _ _. refl) (λ _ _. refl) xs
