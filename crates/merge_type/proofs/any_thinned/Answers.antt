use Rattle.std.proofs.Common.{refl, ◌∙◌, ℕ, List, ◌||◌, rules, tests}
use Rattle.std.proofs.lemmas.Iterator.{YieldsList-from_slice}
use Rattle.std.proofs.lemmas.Iterator.Search.{any_from_yields_List}
use Rattle.std.proofs.lemmas.List.Recursion.{same_from_clauses}
use Rattle.std.specs.List.{list_any}
use Rattle.definitions.specs.Lists.{any}
use Rattle.stands.specs.Stand.{stand_of}
use Rattle.merge_type.specs.Parts.{is_thinned, any_thinned}
use Rattle.merge_type.proofs.any_thinned.Goals as goal

pub returns : goal.returns
unfolding any_thinned
returns c =
    let rs = c.args.stands.now in
    let p = λ (r : List ℕ). is_thinned (stand_of r) in
    any_from_yields_List p _ _ _ c.any.ensures.ran (YieldsList-from_slice rs cc) (λ x b q k. search (rules, tests))
    ∙ same_from_clauses (list_any p) (any p) (λ x b. p x || b) refl (λ _ _. refl) (λ _ _. refl) rs
