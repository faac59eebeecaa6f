use borrow.Author.Rules.{rules}
use Rattle.term_order.proofs.Words.{keys_tell}
use Rattle.term_order.proofs.compare_keys.Goals as goal

pub returns : goal.returns
returns c = keys_tell c.args.bytes.now c.args.a c.args.b c.cmp.ensures c.cmp-2.ensures c.then.ensures c.then_with.ensures (λ q. search rules)
