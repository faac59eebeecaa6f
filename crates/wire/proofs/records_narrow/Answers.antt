use mathlib.Core.Path.{refl, sym, ap, ◌∙◌}
use mathlib.Core.Bool.{not}
use Rattle.definitions.specs.Lists.{all_below}
use Rattle.lists.proofs.Tests.{denied, granted}
use Rattle.wire.proofs.Sections as laws
use Rattle.wire.proofs.records_narrow.Goals as goal

pub returns-then-not-all_below : goal.returns-then-not-all_below
returns-then-not-all_below c =
    denied _ (c.all_below.ensures ∙ ap (all_below 4294967296) (laws.front-is c.args.words.now c.loop-i.i c.loop-i-test.true)) (ap not c.if-not-all_below.true) ∙ sym (laws.narrow_step c.args.words.now c.loop-i.i c.loop-i-test.true) ∙ c.loop-i.invariant

pub loop-i-preserved : goal.loop-i-preserved
loop-i-preserved c =
    granted (c.all_below.ensures ∙ ap (all_below 4294967296) (laws.front-is c.args.words.now c.loop-i.i c.loop-i-test.true)) (ap not c.if-not-all_below.false) refl ∙ sym (laws.narrow_step c.args.words.now c.loop-i.i c.loop-i-test.true) ∙ c.loop-i.invariant

pub returns : goal.returns
returns c =
    sym (laws.narrow-end c.args.words.now c.loop-i.i c.loop-i-test.false) ∙ c.loop-i.invariant
