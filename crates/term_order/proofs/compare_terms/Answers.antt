use mathlib.Core.Path.{◌∙◌}
use Rattle.term_order.proofs.Laws.{lists-order}
use Rattle.term_order.proofs.compare_terms.Goals as goal

pub returns : goal.returns
returns c = c.cmp.ensures ∙ lists-order c.args.a.now c.args.b.now
