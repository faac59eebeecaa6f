use Rattle.std.proofs.Common.{rules}
use borrow.Author.Tests.{tests}
use mathlib.Core.Path.{◌∙◌}
use lib.Dec.{ltb}
use Rattle.std.proofs.lemmas.Iterator.{YieldsList-from_slice}
use Rattle.std.proofs.lemmas.Iterator.Search.{all_from_yields_List}
use Rattle.definitions.specs.Lists.{all_below}
use Rattle.runs.proofs.Scans.{list_all-all}
use Rattle.runs.proofs.all_below.Goals as goal

pub returns : goal.returns
unfolding all_below
returns c =
    all_from_yields_List (λ x. ltb x c.args.limit) _ _ _ c.all.ensures.ran (YieldsList-from_slice c.args.words.now cc) (λ x b q k. search (rules, tests)) ∙ list_all-all (λ x. ltb x c.args.limit) c.args.words.now
