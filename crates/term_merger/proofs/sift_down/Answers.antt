use mathlib.Core.Path.{◌≡◌, sym, ◌∙◌}
use mathlib.Core.List.{List}
use Prim.Native.Nat.{ℕ, ◌+◌, ◌*◌, ◌≤◌, ◌<◌}
use native.Mathlib.Omega.{arith}
use lib.ListN.{length, length-set, get_or}
use Rattle.term_merger.proofs.Laws.{AtMost, at-most_trans, before-at-most, count-swap, down_swap, down_end}
use Rattle.term_merger.proofs.sift_down.Goals as goal

pub returns-then-not-comes_before : goal.returns-then-not-comes_before
returns-then-not-comes_before c =
    let seg : List ℕ = c.loop-i.seg in
    let k : AtMost c.args.bytes.now c.args.cursors.now (get_or seg c.loop-i.i 0) (get_or seg c.first_child-c.result 0) = sym c.comes_before.ensures ∙ c.if-not-comes_before.true in
    record {
      long = c.loop-i.invariant.1;
      in_heap_order = down_end c.args.bytes.now c.args.cursors.now seg c.loop-i.i c.args.n c.loop-i.invariant.3
          (λ j p q e. at-most_trans c.args.bytes.now c.args.cursors.now _ _ _ k (c.first_child-c.ensures.least j (omega arith) (omega arith) q));
      holds = c.loop-i.invariant.2;
    }

pub loop-i-preserved : goal.loop-i-preserved
loop-i-preserved c =
    let seg : List ℕ = c.loop-i.seg in
    let cf : c.first_child-c.result < c.args.n = c.first_child-c.ensures.inside in
    let lo : 2 * c.loop-i.i + 1 ≤ c.first_child-c.result = c.first_child-c.ensures.low in
    let hi : c.first_child-c.result ≤ 2 * c.loop-i.i + 1 + 1 = c.first_child-c.ensures.high in
    let n256 : c.args.n ≤ 256 = c.requires.seg_len.1 in
    let len : length seg ≡ 256 = c.loop-i.invariant.1 in
    let k : AtMost c.args.bytes.now c.args.cursors.now (get_or seg c.first_child-c.result 0) (get_or seg c.loop-i.i 0) = before-at-most _ _ _ _ (sym c.comes_before.ensures ∙ c.if-not-comes_before.false) in (
      omega arith,
      simp length-set len,
      (λ x. count-swap seg c.args.n c.first_child-c.result c.loop-i.i (omega arith) cf (omega arith) (λ e. omega arith) x ∙ c.loop-i.invariant.2 x),
      down_swap c.args.bytes.now c.args.cursors.now seg c.loop-i.i c.first_child-c.result c.args.n (omega arith) (omega arith) cf (omega arith) k
          (λ j p q e. c.first_child-c.ensures.least j (omega arith) (omega arith) q) c.loop-i.invariant.3,
    )

pub returns : goal.returns
returns c =
    record {
      long = c.loop-i.invariant.1;
      in_heap_order = down_end c.args.bytes.now c.args.cursors.now c.loop-i.seg c.loop-i.i c.args.n c.loop-i.invariant.3 (λ j p q e. absurd (omega (arith, c.loop-i-test.false)));
      holds = c.loop-i.invariant.2;
    }
