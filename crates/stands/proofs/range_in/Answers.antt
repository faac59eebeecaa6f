use Rattle.stands.specs.Look.{start_in, end_in}
use Rattle.stands.proofs.range_in.Goals as goal

pub returns-clause-start_value : goal.returns-clause-start_value
unfolding start_in
returns-clause-start_value c = rw (c.of.ensures, c.of-2.ensures) at c.value_range.ensures.start_value

pub returns-clause-end_value : goal.returns-clause-end_value
unfolding end_in
returns-clause-end_value c = rw (c.of.ensures, c.of-2.ensures) at c.value_range.ensures.end_value
