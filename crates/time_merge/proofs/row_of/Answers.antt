use native.Mathlib.Omega.{arith}
use Rattle.time_merge.proofs.Reaching.{row-none, row-full, row-end, row_listed}
use Rattle.time_merge.proofs.row_of.Goals as goal

pub returns-in-0 : goal.returns-in-0
returns-in-0 c = row-none _ _ _ _ c.in-0.is

pub returns-in-1 : goal.returns-in-1
returns-in-1 c = row-full _ _ _ _ c.in-1.is

pub returns-in_default : goal.returns-in_default
returns-in_default c = row-end _ _ _ _ (λ e. omega arith) (λ e. omega arith) c.if-ids-m.true

pub returns-in_default-2 : goal.returns-in_default-2
returns-in_default-2 c = row_listed _ _ _ _ (λ e. omega arith) (λ e. omega arith) c.if-ids-m.false
