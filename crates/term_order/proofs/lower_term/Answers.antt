use Rattle.term_order.proofs.Laws.{lower}
use Rattle.term_order.proofs.lower_term.Goals as goal

pub returns : goal.returns
returns c = lower c.args.a c.args.b c.min.ensures
