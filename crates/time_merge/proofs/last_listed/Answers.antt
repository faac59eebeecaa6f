use native.Mathlib.Nat.{le_refl}
use native.Mathlib.Omega.{arith}
use mathlib.Core.Path.{sym, ◌∙◌}
use Rattle.time_merge.proofs.Rows.{shorter, none-from}
use Rattle.time_merge.proofs.last_listed.Goals as goal

pub loop-row-preserved : goal.loop-row-preserved
loop-row-preserved c = shorter _ _ _ _ c.loop-row-test.true (sym c.is_listed.ensures ∙ c.if-is_listed.false) ∙ c.loop-row.invariant

pub returns : goal.returns
returns c =
    record {
      low = le_refl c.args.from;
      high = c.requires.from_le_end;
      same = none-from _ _ _ _ c.loop-row-test.false ∙ c.loop-row.invariant;
      last = λ h. absurd (omega arith);
    }
