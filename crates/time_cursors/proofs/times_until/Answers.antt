use mathlib.Core.Path.{◌∙◌}
use native.Mathlib.Omega.{arith}
use Rattle.time_cursors.proofs.Laws.{times_none, times-full, times-listed}
use Rattle.time_cursors.proofs.times_until.Goals as goal

pub returns-in-0 : goal.returns-in-0
returns-in-0 c = times_none _ _ _ c.in-0.is

pub returns-in-1 : goal.returns-in-1
returns-in-1 c = times-full _ _ _ c.in-1.is

pub returns-in_default : goal.returns-in_default
returns-in_default c = c.ids_until.ensures ∙ times-listed _ _ _ (λ e. omega arith) (λ e. omega arith)
