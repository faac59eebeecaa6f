use Rattle.std.proofs.Common.{arith}
use Rattle.std.proofs.lemmas.Result.{err_from_is_err_and}
use Rattle.segment.proofs.Walk.{records-long}
use Rattle.time_checks.specs.Lent.{times_in}
use Rattle.time_checks.proofs.Own.{stopped, first-ready, later}
use Rattle.time_checks.proofs.answer.Goals as goal

pub returns-in_err-first_to_seven : goal.returns-in_err-first_to_seven
returns-in_err-first_to_seven c =
    let p = err_from_is_err_and c.from_residual.result c.from_residual.ensures.1 in
    rw (p.1, p.2) (stopped (times_in c.args.records.now c.args.sections.now c.args.space) _ c.in_err-first_to_seven.ensures)

pub all_alive-requires : goal.all_alive-requires
all_alive-requires c =
    let y = first-ready (times_in c.args.records.now c.args.sections.now c.args.space) c.in_ok-first_to_seven.ensures in
    omega (arith, y.few, records-long c.args.records.now)

pub all_times_fit-requires : goal.all_times_fit-requires
all_times_fit-requires c =
    let y = first-ready (times_in c.args.records.now c.args.sections.now c.args.space) c.in_ok-first_to_seven.ensures in
    record { offsets = omega (arith, y.exact.offsets); words = omega (arith, y.exact.words) }

pub returns-then-space-all_alive : goal.returns-then-space-all_alive
returns-then-space-all_alive c =
    let e = later (times_in c.args.records.now c.args.sections.now c.args.space) c.in_ok-first_to_seven.ensures in
    grind arith

pub returns-then-not-all_times_fit : goal.returns-then-not-all_times_fit
returns-then-not-all_times_fit c =
    let e = later (times_in c.args.records.now c.args.sections.now c.args.space) c.in_ok-first_to_seven.ensures in
    grind arith

pub returns : goal.returns
returns c =
    let e = later (times_in c.args.records.now c.args.sections.now c.args.space) c.in_ok-first_to_seven.ensures in
    grind arith
