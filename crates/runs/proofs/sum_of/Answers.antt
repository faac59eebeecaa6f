use Rattle.std.proofs.Common.{arith}
use Rattle.std.proofs.lemmas.Grind.{common_steps}
use Rattle.runs.proofs.Scans.{sum_by-sum}
use Rattle.runs.proofs.sum_of.Goals as goal

pub sum-requires-clause-fits : goal.sum-requires-clause-fits
sum-requires-clause-fits c = grind (arith, common_steps, sum_by-sum c.args.xs.now)

pub returns : goal.returns
returns c = grind (arith, common_steps, sum_by-sum c.args.xs.now)
