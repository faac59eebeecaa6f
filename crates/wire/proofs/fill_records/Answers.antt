use Rattle.wire.proofs.Filled.{one_more, all_put}
use Rattle.runs.proofs.Laws.{putting-none}
use native.Mathlib.Omega.{arith}
use mathlib.Core.Path.{refl, sym, ap, ◌∙◌}
use Prim.Native.Nat.{ℕ, ◌*◌, ◌/◌}
use lib.ListN.{length, length-map, take}
use mathlib.Core.List.{List, []}
use Rattle.definitions.specs.Lists.{all_below}
use Rattle.definitions.specs.Segment.{record_width, narrow_numbers}
use Rattle.definitions.specs.Wire.{grouped}
use Rattle.definitions.proofs.Lists.{get_or_in}
use Rattle.segment.specs.Records.{row_of}
use Rattle.lists.proofs.Parts.{part-lent}
use Rattle.wire.proofs.Sections as laws
use Rattle.wire.proofs.fill_records.Goals as goal

pub loop-i-init : goal.loop-i-init
loop-i-init c =
    putting-none _ _ _

pub row_of-requires-clause-n_value : goal.row_of-requires-clause-n_value
row_of-requires-clause-n_value c =
    let w = c.args.words.now in
    let i = c.loop-i.i in
    ap (λ (l : List ℕ). all_below 4294967296 (take narrow_numbers l)) (part-lent (i * record_width) record_width record_width w refl)
    ∙ (rw (← laws.grouped-at record_width (length w / record_width) w i c.loop-i-test.true) (laws.narrow_one w i c.loop-i-test.true c.requires.words_value))

pub loop-i-preserved : goal.loop-i-preserved
loop-i-preserved c =
    let w = c.args.words.now in
    let i = c.loop-i.i in
    let n = length w / record_width in
    let k = laws.grouped-length record_width n w in
    one_more _ _ c.loop-i.invariant (length-map (grouped record_width n w) row_of ∙ k) [] _ c.requires.record_width_in_bounds c.loop-i-test.true
    (get_or_in row_of (grouped record_width n w) i [] [] (omega (arith, k, c.loop-i-test.true))
    ∙ ap row_of (laws.grouped-at record_width n w i c.loop-i-test.true ∙ sym (part-lent (i * record_width) record_width record_width w refl))
    ∙ sym c.row_of.ensures)

pub returns : goal.returns
returns c =
    let w = c.args.words.now in
    let n = length w / record_width in
    all_put _ _ c.loop-i.invariant (length-map (grouped record_width n w) row_of ∙ laws.grouped-length record_width n w) (omega arith) c.loop-i-test.false
