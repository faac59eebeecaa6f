use Rattle.wire.proofs.Sections as laws
use native.Mathlib.Omega.{arith}
use Rattle.wire.proofs.read_number.Goals as goal

pub overflow_cast-result : goal.overflow_cast-result
overflow_cast-result c =
    omega (arith, laws.number_ok _ _ _ _ _ _ c.requires.narrow c.section.ensures c.requires.i_in_bounds)
