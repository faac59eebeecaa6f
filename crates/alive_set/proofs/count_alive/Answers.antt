use Rattle.std.proofs.Common.{arith}
use Rattle.std.proofs.lemmas.Grind.{common_steps}
use Rattle.alive_set.proofs.Ones.{sum_by-ones}
use Rattle.alive_set.proofs.count_alive.Goals as goal

pub returns : goal.returns
returns c = grind (arith, common_steps, sum_by-ones c.args.words.now (λ i. (c.type_inv.words i).fits))
