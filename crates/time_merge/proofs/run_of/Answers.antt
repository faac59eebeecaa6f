use Rattle.time_merge.proofs.Reaching.{run_fits, run_more}
use Rattle.time_merge.proofs.run_of.Goals as goal

pub times_within-m-requires : goal.times_within-m-requires
times_within-m-requires c =
    run_fits c.requires.left c.requires.times_at

pub returns : goal.returns
returns c =
    run_more c.requires.left c.requires.times_at _ c.bound_of-bound.ensures _ c.times_within-m.ensures _ c.row_of.ensures
