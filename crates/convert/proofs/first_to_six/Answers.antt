use mathlib.Core.Path.{sym, ◌∙◌}
use native.Mathlib.Omega.{arith}
use Rattle.segment.specs.Records.{record_in}
use Rattle.segment.specs.Lent.{sections_of}
use Rattle.convert.proofs.Own.{exact}
use Rattle.convert.proofs.first_to_six.Goals as goal

pub values_fit-requires : goal.values_fit-requires
values_fit-requires c =
    let x = exact (record_in c.args.r) (sections_of c.args.sections.now) (sym c.lengths_fit.ensures.value ∙ c.if-not-lengths_fit.false) in
    omega (arith, x.bytes)
