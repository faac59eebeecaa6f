use native.Mathlib.Nat.{lt_of_le_of_lt}
use Rattle.term_reader.proofs.Laws.{stands_start, told_is, next_in, stands_next, nearer, stands_end}
use Rattle.term_reader.proofs.terms_rise.Goals as goal

pub loop-reader-init : goal.loop-reader-init
loop-reader-init c = let a = c.args in stands_start a.lengths.now a.bytes _ c.start-reader.ensures c.requires

pub advance-reader-requires : goal.advance-reader-requires
advance-reader-requires c =
    let a = c.args in
    let i = c.loop-reader.invariant in
    let n = next_in a.lengths.now a.bytes.now c.loop-reader.reader i (told_is a.lengths.now a.bytes.now c.loop-reader.reader i c.goes_on.ensures c.loop-reader-test.true) in
    (n.0, lt_of_le_of_lt n.1 c.well_formed.1.0.0)

pub loop-reader-smaller : goal.loop-reader-smaller
loop-reader-smaller c =
    let a = c.args in
    let i = c.loop-reader.invariant in
    nearer a.lengths.now a.bytes.now c.loop-reader.reader _ i (told_is a.lengths.now a.bytes.now c.loop-reader.reader i c.goes_on.ensures c.loop-reader-test.true) c.advance-reader.ensures

pub loop-reader-preserved : goal.loop-reader-preserved
loop-reader-preserved c =
    let a = c.args in
    let i = c.loop-reader.invariant in
    stands_next a.lengths.now a.bytes.now c.loop-reader.reader _ i (told_is a.lengths.now a.bytes.now c.loop-reader.reader i c.goes_on.ensures c.loop-reader-test.true) c.advance-reader.ensures

pub returns : goal.returns
returns c =
    let a = c.args in
    let i = c.loop-reader.invariant in
    stands_end a.lengths.now a.bytes.now c.loop-reader.reader i (told_is a.lengths.now a.bytes.now c.loop-reader.reader i c.goes_on.ensures c.loop-reader-test.false) c.is_last.ensures
