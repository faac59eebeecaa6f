use Rattle.stands.specs.declared.Stand.{Stand}
use mathlib.Core.Path.{sym, ap, ◌∙◌, subst}
use native.Mathlib.Omega.{arith}
use Rattle.segment.specs.declared.Record.{Record}
use Rattle.segment.specs.Records.{record_in}
use Rattle.runs.proofs.Laws.{putting-none}
use Rattle.stands.specs.Stand.{numbers_of, next_stand, Low, stand_in}
use Rattle.stands.proofs.Fill.{Ends, table_more, table-all, ends-none, ends_next, next-is, low-none, low-next, low-enough}
use Rattle.stands.proofs.fill_stands.Goals as goal

pub loop-s-init : goal.loop-s-init
loop-s-init c =
    (subst (Ends c.args.records.now 0) (sym c.before_all-p.ensures) (ends-none _), subst (λ (x : Stand). Low x 0) (sym c.before_all-p.ensures) low-none, putting-none _ _ _)

pub next-p-requires : goal.next-p-requires
next-p-requires c =
    low-enough _ c.loop-s.invariant.1 (omega arith)

pub loop-s-preserved : goal.loop-s-preserved
loop-s-preserved c =
    let e = c.next-p.ensures.value ∙ ap (λ (x : Record). next_stand c.loop-s.p (record_in x)) c.from.ensures ∙ next-is c.loop-s.invariant.0 in
    (ends_next _ e, low-next _ c.loop-s.invariant.1 c.next-p.ensures.grown, rw c.loop-s.invariant.2 (table_more (λ k. numbers_of (stand_in c.args.records.now k)) _ _ _ _ c.requires.records_in_bounds c.loop-s-test.true (c.from-in-loop-s.ensures ∙ ap numbers_of e)))

pub returns : goal.returns
returns c =
    c.loop-s.invariant.2 ∙ table-all (λ k. numbers_of (stand_in c.args.records.now k)) _ _ _ (omega arith) c.loop-s-test.false
