use Prim.Native.Nat.{ℕ}
use mathlib.Core.Path.{sym, ap, ◌∙◌}
use native.Mathlib.Omega.{arith}
use lib.ListN.{length}
use Rattle.definitions.specs.Listing.{answer_text, answer_name, value_line}
use Rattle.listing.specs.Shown.{outputs}
use Rattle.listing.proofs.Outcome as outcome
use Rattle.merge.specs.Whole.{answer_of}
use Rattle.std.specs.Prelude.{Result}
use Rattle.refusal.specs.declared.Refusal.{Refusal}
use Rattle.merge_checked.specs.declared.Numbers.{Numbers}
use Rattle.reply.proofs.put_answer.Goals as goal

pub returns-in-Ok-clause-upper_bound : goal.returns-in-Ok-clause-upper_bound
returns-in-Ok-clause-upper_bound c =
    let b = (outputs c.args.ids.now c.args.offsets.now c.args.values.now c.args.lengths.now c.args.bytes.now c.args.map.now) in
    let e = ap (λ (x : Result Numbers Refusal). answer_text b (answer_of x)) (sym c.in-Ok.is) in
    omega (arith, outcome.text-room b (answer_of c.args.answer) c.requires.short, c.put_column.ensures.value, ap length e)

pub returns-in-Err-clause-upper_bound : goal.returns-in-Err-clause-upper_bound
returns-in-Err-clause-upper_bound c =
    let b = (outputs c.args.ids.now c.args.offsets.now c.args.values.now c.args.lengths.now c.args.bytes.now c.args.map.now) in
    let e = ap (λ (x : Result Numbers Refusal). answer_text b (answer_of x)) (sym c.in-Err.is) in
    let n = ap (λ (k : ℕ). length (value_line answer_name k)) (c.from.ensures ∙ c.from-number.ensures) in
    omega (arith, outcome.text-room b (answer_of c.args.answer) c.requires.short, c.put_refusal.ensures.value, n, ap length e)
