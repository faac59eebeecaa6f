use mathlib.Core.Path.{sym, ap, ◌∙◌}
use mathlib.Core.List.{List}
use Prim.Native.Nat.{ℕ}
use native.Mathlib.Omega.{arith}
use lib.ListN.{length}
use borrow.Author.Rules.{rules}
use lib.Seq.{length-take-le}
use Rattle.definitions.specs.Listing.{answer_name}
use Rattle.runs.specs.Put.{put}
use Rattle.wire.proofs.Fitting as fitting
use Rattle.listing.proofs.Outcome as outcome
use Rattle.listing.proofs.Lengths.{value-length}
use Rattle.reply.proofs.Laws as laws
use mathlib.Core.Bool.{not}
use Rattle.reply.proofs.reply.Goals as goal

pub returns-then-not-read_input-clause-prefix_len : goal.returns-then-not-read_input-clause-prefix_len
returns-then-not-read_input-clause-prefix_len c =
    laws.counted _ _ (omega (arith, c.put_refusal.ensures.value, value-length answer_name 2, c.requires))

pub returns-then-not-read_input-clause-value : goal.returns-then-not-read_input-clause-value
returns-then-not-read_input-clause-value c =
    let e = outcome.reply_no c.args.input.now _ c.read_input.ensures.value (ap not c.if-not-read_input.true) in
    c.put_refusal.ensures.value ∙ ap length e

pub returns-then-not-read_input-clause-out_after : goal.returns-then-not-read_input-clause-out_after
returns-then-not-read_input-clause-out_after c =
    let e = outcome.reply_no c.args.input.now _ c.read_input.ensures.value (ap not c.if-not-read_input.true) in
    c.put_refusal.ensures.out_after ∙ ap (λ (x : List ℕ). put 0 x c.args.out.now) e

pub slice_bounds-words-end : goal.slice_bounds-words-end
slice_bounds-words-end c =
    let r = fitting.ready c.args.input.now _ _ _ _ _ c.read_input.ensures.value (ap not c.if-not-read_input.false) c.read_input.ensures.words_after c.read_input.ensures.bounds_after (search rules) in
    omega (arith, r.room)

pub slice_bounds-answer_words-end : goal.slice_bounds-answer_words-end
slice_bounds-answer_words-end c =
    let r = fitting.ready c.args.input.now _ _ _ _ _ c.read_input.ensures.value (ap not c.if-not-read_input.false) c.read_input.ensures.words_after c.read_input.ensures.bounds_after (search rules) in
    sym (length-take-le _ _ (omega (arith, r.room)))

pub answer_words-requires-clause-fitted : goal.answer_words-requires-clause-fitted
answer_words-requires-clause-fitted c =
    let r = fitting.ready c.args.input.now _ _ _ _ _ c.read_input.ensures.value (ap not c.if-not-read_input.false) c.read_input.ensures.words_after c.read_input.ensures.bounds_after (search rules) in
    r.fitted

pub returns-clause-value : goal.returns-clause-value
returns-clause-value c =
    let r = fitting.ready c.args.input.now _ _ _ _ _ c.read_input.ensures.value (ap not c.if-not-read_input.false) c.read_input.ensures.words_after c.read_input.ensures.bounds_after (search rules) in
    let e = outcome.reply_yes c.args.input.now _ r.said (laws.lent_same c.args.input.now _ r.list) in
    c.answer_words.ensures.value ∙ ap length e

pub returns-clause-out_after : goal.returns-clause-out_after
returns-clause-out_after c =
    let r = fitting.ready c.args.input.now _ _ _ _ _ c.read_input.ensures.value (ap not c.if-not-read_input.false) c.read_input.ensures.words_after c.read_input.ensures.bounds_after (search rules) in
    let e = outcome.reply_yes c.args.input.now _ r.said (laws.lent_same c.args.input.now _ r.list) in
    c.answer_words.ensures.out_after ∙ ap (λ (x : List ℕ). put 0 x c.args.out.now) e
