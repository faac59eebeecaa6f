use borrow.Author.Rules.{rules}
use mathlib.Core.Path.{◌≡◌, refl, sym, ◌∙◌}
use mathlib.Core.List.{List}
use Prim.Native.Nat.{ℕ, ◌+◌, ◌-◌, ◌/◌, ◌<◌}
use native.Mathlib.Omega.{arith}
use lib.ListN.{length, length-set, get_or}
use Rattle.term_merger.proofs.Laws.{AtMost, before-at-most, count-swap, up_start, up_end, up_swap}
use Rattle.term_merger.proofs.sift_up.Goals as goal

pub loop-i-init : goal.loop-i-init
loop-i-init c =
    (search rules, c.requires.seg_len.0, (λ x. refl), up_start _ _ _ _ c.requires.seg_len.2)

pub returns-then-not-comes_before : goal.returns-then-not-comes_before
returns-then-not-comes_before c =
    record {
      long = c.loop-i.invariant.1;
      in_heap_order = up_end c.args.bytes.now c.args.cursors.now c.loop-i.seg c.loop-i.i (c.args.from + 1) c.loop-i.invariant.3 (λ p. sym c.comes_before.ensures ∙ c.if-not-comes_before.true);
      holds = c.loop-i.invariant.2;
    }

pub loop-i-preserved : goal.loop-i-preserved
loop-i-preserved c =
    let seg : List ℕ = c.loop-i.seg in
    let pos : 0 < c.loop-i.i = c.loop-i-test.true in
    let ins : c.loop-i.i < c.args.from + 1 = c.loop-i.invariant.0 in
    let f256 : c.args.from < 256 = c.requires.seg_len.1 in
    let len : length seg ≡ 256 = c.loop-i.invariant.1 in
    let k : AtMost c.args.bytes.now c.args.cursors.now (get_or seg c.loop-i.i 0) (get_or seg ((c.loop-i.i - 1) / 2) 0) = before-at-most _ _ _ _ (sym c.comes_before.ensures ∙ c.if-not-comes_before.false) in (
      omega arith,
      simp length-set len,
      (λ x. count-swap seg (c.args.from + 1) c.loop-i.i ((c.loop-i.i - 1) / 2) (omega arith) ins (omega arith) (λ e. omega arith) x ∙ c.loop-i.invariant.2 x),
      up_swap c.args.bytes.now c.args.cursors.now seg c.loop-i.i (c.args.from + 1) pos ins (omega arith) k c.loop-i.invariant.3,
    )

pub returns : goal.returns
returns c =
    record {
      long = c.loop-i.invariant.1;
      in_heap_order = up_end c.args.bytes.now c.args.cursors.now c.loop-i.seg c.loop-i.i (c.args.from + 1) c.loop-i.invariant.3 (λ p. absurd (omega (arith, c.loop-i-test.false)));
      holds = c.loop-i.invariant.2;
    }
