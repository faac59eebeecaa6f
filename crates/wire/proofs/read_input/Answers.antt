use mathlib.Core.Path.{sym, ap, ◌∙◌}
use mathlib.Core.List.{List}
use Prim.Native.Nat.{ℕ}
use native.Mathlib.Omega.{arith}
use lib.Seq.{length-take-le}
use Rattle.definitions.specs.Wire.{words_of, words_fit}
use Rattle.wire.specs.Bounds.{bounds_of}
use Rattle.runs.specs.Put.{put}
use Rattle.wire.proofs.Words.{words-length}
use Rattle.wire.proofs.Sections.{bounded}
use Rattle.runs.proofs.Laws.{front-lent}
use Rattle.lists.proofs.Tests.{left, chosen}
use Rattle.wire.proofs.Input as laws
use Rattle.wire.proofs.Input.{short}
use borrow.Author.Tests.{not-true, not-false}
use mathlib.Core.Bool.{not}
use Rattle.wire.proofs.read_input.Goals as goal

pub returns-then-not-whole_words-clause-value : goal.returns-then-not-whole_words-clause-value
returns-then-not-whole_words-clause-value c =
    laws.no_fit _ (sym c.whole_words.ensures ∙ not-true _ (ap not c.if-not-whole_words.true))

pub returns-then-not-whole_words-clause-words_after : goal.returns-then-not-whole_words-clause-words_after
returns-then-not-whole_words-clause-words_after c =
    left _ _ (sym c.whole_words.ensures ∙ not-true _ (ap not c.if-not-whole_words.true))

pub returns-then-not-whole_words-clause-bounds_after : goal.returns-then-not-whole_words-clause-bounds_after
returns-then-not-whole_words-clause-bounds_after c =
    left _ _ (sym c.whole_words.ensures ∙ not-true _ (ap not c.if-not-whole_words.true))

pub read_words-n-requires : goal.read_words-n-requires
read_words-n-requires c =
    omega (arith, words-length c.args.input.now, short c.args.input.now c.whole_words.ensures (ap not c.if-not-whole_words.false), c.requires.in_bounds)

pub slice_bounds-section_bounds-end : goal.slice_bounds-section_bounds-end
slice_bounds-section_bounds-end c =
    omega (arith, c.read_words-n.ensures.value, words-length c.args.input.now, short c.args.input.now c.whole_words.ensures (ap not c.if-not-whole_words.false), c.requires.in_bounds)

pub slice_bounds-section_bounds-end-2 : goal.slice_bounds-section_bounds-end-2
slice_bounds-section_bounds-end-2 c =
    sym (length-take-le _ _ (omega (arith, c.read_words-n.ensures.value, words-length c.args.input.now, short c.args.input.now c.whole_words.ensures (ap not c.if-not-whole_words.false), c.requires.in_bounds)))

pub slice_bounds-words_fit-end : goal.slice_bounds-words_fit-end
slice_bounds-words_fit-end c =
    omega (arith, c.read_words-n.ensures.value, words-length c.args.input.now, short c.args.input.now c.whole_words.ensures (ap not c.if-not-whole_words.false), c.requires.in_bounds)

pub slice_bounds-words_fit-end-2 : goal.slice_bounds-words_fit-end-2
slice_bounds-words_fit-end-2 c =
    sym (length-take-le _ _ (omega (arith, c.read_words-n.ensures.value, words-length c.args.input.now, short c.args.input.now c.whole_words.ensures (ap not c.if-not-whole_words.false), c.requires.in_bounds)))

pub words_fit-requires-clause-bounded : goal.words_fit-requires-clause-bounded
words_fit-requires-clause-bounded c =
    bounded _ c.args.bounds.now _ c.requires.in_bounds_2 c.section_bounds-k.ensures.bounds_after

pub words_fit-requires-clause-n_value : goal.words_fit-requires-clause-n_value
words_fit-requires-clause-n_value c =
    c.section_bounds-k.ensures.value

pub returns-clause-value : goal.returns-clause-value
returns-clause-value c =
    let input : List ℕ = c.args.input.now in
    let w = sym c.whole_words.ensures ∙ not-false _ (ap not c.if-not-whole_words.false) in
    let p = front-lent (words_of input) c.args.words.now _ _ c.read_words-n.ensures.value c.read_words-n.ensures.words_after in
    laws.fit input _ w (c.words_fit.ensures ∙ ap words_fit p)

pub returns-clause-words_after : goal.returns-clause-words_after
returns-clause-words_after c =
    chosen _ (sym c.whole_words.ensures ∙ not-false _ (ap not c.if-not-whole_words.false)) c.read_words-n.ensures.words_after

pub returns-clause-bounds_after : goal.returns-clause-bounds_after
returns-clause-bounds_after c =
    let input : List ℕ = c.args.input.now in
    let w = sym c.whole_words.ensures ∙ not-false _ (ap not c.if-not-whole_words.false) in
    let p = front-lent (words_of input) c.args.words.now _ _ c.read_words-n.ensures.value c.read_words-n.ensures.words_after in
    chosen _ w (c.section_bounds-k.ensures.bounds_after ∙ ap (λ (v : List ℕ). put 0 (bounds_of v) c.args.bounds.now) p)
