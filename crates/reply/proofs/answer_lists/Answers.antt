use mathlib.Core.Path.{ap, ◌∙◌}
use mathlib.Core.List.{List}
use Prim.Native.Nat.{ℕ}
use lib.ListN.{length}
use Rattle.definitions.specs.Outcome.{Lent, join_outcome}
use Rattle.definitions.specs.Listing.{listing}
use Rattle.runs.specs.Put.{put}
use Rattle.listing.proofs.Outcome as outcome
use Rattle.reply.proofs.Laws as laws
use Rattle.reply.proofs.answer_lists.Goals as goal

pub put_answer-requires-clause-announced_by : goal.put_answer-requires-clause-announced_by
put_answer-requires-clause-announced_by c =
    outcome.left-readable _ _ _ c.join-answer.ensures

pub returns-clause-value : goal.returns-clause-value
returns-clause-value c =
    let t = outcome.left-text _ _ _ c.join-answer.ensures in
    let p = laws.lent_program c.args.mode c.args.required c.args.records.now c.args.sections.now.ids.now c.args.sections.now.offsets.now c.args.sections.now.values.now c.args.sections.now.lengths.now c.args.sections.now.bytes.now c.args.sections.now.alive.now c.args.addresses.now in
    let e = t ∙ ap (λ (x : Lent). listing (join_outcome x)) p in
    c.put_answer.ensures.value ∙ ap length e

pub returns-clause-out_after : goal.returns-clause-out_after
returns-clause-out_after c =
    let t = outcome.left-text _ _ _ c.join-answer.ensures in
    let p = laws.lent_program c.args.mode c.args.required c.args.records.now c.args.sections.now.ids.now c.args.sections.now.offsets.now c.args.sections.now.values.now c.args.sections.now.lengths.now c.args.sections.now.bytes.now c.args.sections.now.alive.now c.args.addresses.now in
    let e = t ∙ ap (λ (x : Lent). listing (join_outcome x)) p in
    c.put_answer.ensures.out_after ∙ ap (λ (x : List ℕ). put 0 x c.args.out.now) e
