use mathlib.Core.Path.{◌≡◌, refl, ap, ◌∙◌}
use mathlib.Core.Bool.{not}
use Prim.Native.Nat.{ℕ}
use native.Mathlib.Omega.{arith}
use lib.ListN.{length, replicate}
use Rattle.definitions.specs.Answer.{total}
use Rattle.definitions.proofs.Accept.{plain-passed}
use Rattle.definitions.proofs.Checks.{passes}
use Rattle.runs.proofs.Zeros.{zero_again}
use Rattle.sections_fit.proofs.Seven.{known, ready}
use Rattle.sections_fit.specs.declared.Totals.{Totals}
use Rattle.segment.specs.Records.{records_of}
use Rattle.segment.specs.Lent.{input_in}
use Rattle.segment.proofs.Walk.{records-long}
use Rattle.merge_mapping.specs.Mapping.{rows_in}
use Rattle.merge_mapping.proofs.Own.{input-within}
use Rattle.std.proofs.lemmas.Result.{err_from_is_err_and}
use Rattle.refusal.proofs.Number.{number_not-zero}
use Rattle.verdict.proofs.Answer.{nine-seven, nine-passed, nine-first, nine-room, nine_eight, nine-nine, nine-none, room-rows}
use Rattle.verdict.proofs.verdict.Goals as goal

-- that the checks up to 7 are passed goes by a name of its own in each answer, so that a must-fail edit can follow it

pub returns-in_err-first_to_seven-clause-value : goal.returns-in_err-first_to_seven-clause-value
returns-in_err-first_to_seven-clause-value c =
    let e = err_from_is_err_and c.from_residual.result c.from_residual.ensures.1 in
    rw (e.1, e.2) (nine-first _ (nine-seven (input_in c.args.mode c.args.required c.args.records.now c.args.sections.now c.args.addresses.now (length c.args.work.now)) c.in_err-first_to_seven.ensures) (number_not-zero _))

pub totals_of-t-requires : goal.totals_of-t-requires
totals_of-t-requires c =
    let i = input_in c.args.mode c.args.required c.args.records.now c.args.sections.now c.args.addresses.now (length c.args.work.now) in
    let p1 = nine-passed i c.in_ok-first_to_seven.ensures refl in
    let r = ready i.records i.sections (plain-passed i p1) in
    omega (arith, r.few, records-long c.args.records.now)

pub room_enough-requires-clause-rows_bound : goal.room_enough-requires-clause-rows_bound
room_enough-requires-clause-rows_bound c =
    let i = input_in c.args.mode c.args.required c.args.records.now c.args.sections.now c.args.addresses.now (length c.args.work.now) in
    let p2 = nine-passed i c.in_ok-first_to_seven.ensures refl in
    let t : c.totals_of-t.result.rows ≡ total rows_in (records_of c.args.records.now) = ap (λ (x : Totals). x.rows) c.totals_of-t.ensures in
    omega (arith, (ready i.records i.sections (plain-passed i p2)).rows)

pub room_enough-requires-clause-terms_bound : goal.room_enough-requires-clause-terms_bound
room_enough-requires-clause-terms_bound c =
    let i = input_in c.args.mode c.args.required c.args.records.now c.args.sections.now c.args.addresses.now (length c.args.work.now) in
    let p3 = nine-passed i c.in_ok-first_to_seven.ensures refl in
    let r = ready i.records i.sections (plain-passed i p3) in
    omega arith

pub returns-then-not-room_enough-clause-value : goal.returns-then-not-room_enough-clause-value
returns-then-not-room_enough-clause-value c =
    let i = input_in c.args.mode c.args.required c.args.records.now c.args.sections.now c.args.addresses.now (length c.args.work.now) in
    let p4 = nine-passed i c.in_ok-first_to_seven.ensures refl in
    let b = nine-room i p4 (ap (λ (x : Totals). x.rows) c.totals_of-t.ensures) refl c.zero.auto.work c.room_enough.ensures in
    nine_eight i p4 c.room_enough.result b (ap not c.if-not-room_enough.true)

pub addresses_fit-requires : goal.addresses_fit-requires
addresses_fit-requires c =
    let i = input_in c.args.mode c.args.required c.args.records.now c.args.sections.now c.args.addresses.now (length c.args.work.now) in
    let p5 = nine-passed i c.in_ok-first_to_seven.ensures refl in
    let r = ready i.records i.sections (plain-passed i p5) in
    record {
      few = r.few;
      held = omega (arith, r.exact.alive);
      within = input-within i (passes p5 6);
      counted = ap (λ (x : Totals). x.rows) c.totals_of-t.ensures;
      room = λ n. room-rows c.args.mode c.totals_of-t.result.rows _ _ c.room_enough.ensures c.if-not-room_enough.false (known i p5) n;
      clean = zero_again _ (length c.args.work.now) c.zero.ensures;
    }

pub returns-then-not-addresses_fit-clause-value : goal.returns-then-not-addresses_fit-clause-value
returns-then-not-addresses_fit-clause-value c =
    let i = input_in c.args.mode c.args.required c.args.records.now c.args.sections.now c.args.addresses.now (length c.args.work.now) in
    let p6 = nine-passed i c.in_ok-first_to_seven.ensures refl in
    let b = nine-room i p6 (ap (λ (x : Totals). x.rows) c.totals_of-t.ensures) refl c.zero.auto.work c.room_enough.ensures in
    nine-nine i p6 c.room_enough.result b (ap not c.if-not-room_enough.false) c.addresses_fit.ensures.value (ap not c.if-not-addresses_fit.true)

pub returns-clause-value : goal.returns-clause-value
returns-clause-value c =
    let i = input_in c.args.mode c.args.required c.args.records.now c.args.sections.now c.args.addresses.now (length c.args.work.now) in
    let p7 = nine-passed i c.in_ok-first_to_seven.ensures refl in
    let b = nine-room i p7 (ap (λ (x : Totals). x.rows) c.totals_of-t.ensures) refl c.zero.auto.work c.room_enough.ensures in
    nine-none i p7 c.room_enough.result b (ap not c.if-not-room_enough.false) c.addresses_fit.ensures.value (ap not c.if-not-addresses_fit.false)

pub returns-then-not-addresses_fit-clause-work_after : goal.returns-then-not-addresses_fit-clause-work_after
returns-then-not-addresses_fit-clause-work_after c =
    c.addresses_fit.ensures.work_after ∙ ap (λ (n : ℕ). replicate n 0) c.zero.auto.work

pub returns-clause-work_after : goal.returns-clause-work_after
returns-clause-work_after c =
    c.addresses_fit.ensures.work_after ∙ ap (λ (n : ℕ). replicate n 0) c.zero.auto.work
