use Rattle.merge_mapping.proofs.Turns.{laid_start, laid_next}
use Rattle.merge_mapping.proofs.fill_all.Goals as goal

pub loop-numbers-init : goal.loop-numbers-init
loop-numbers-init c = laid_start _ _ _

pub loop-numbers-preserved : goal.loop-numbers-preserved
loop-numbers-preserved c =
    laid_next _ _ _ _ c.from-p.ensures c.loop-numbers.invariant c.fill_bits.ensures
