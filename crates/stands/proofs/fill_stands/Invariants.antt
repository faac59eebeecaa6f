use mathlib.Core.Path.{◌≡◌}
use Prim.Native.Nat.{◌*◌}
use lib.ListN.{length}
use Rattle.runs.proofs.Laws.{putting}
use Rattle.stands.specs.Stand.{table, numbers_of, Low, stand_in}
use Rattle.stands.proofs.Fill.{Ends}
use Rattle.stands.proofs.fill_stands.Given as goal

abbrev pub invariant-loop-s : goal.invariant-loop-s
invariant-loop-s l = Ends l.records l.s l.p × Low l.p (l.s * 8589934592) × (l.stands ≡ putting 0 (table (λ k. numbers_of (stand_in l.records k)) (length l.records)) l.initial.stands l.s)
