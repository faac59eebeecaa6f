use mathlib.Core.Path.{◌≡◌, refl, sym, ◌∙◌}
use Prim.Native.Nat.{◌<◌}
use native.Mathlib.Omega.{arith}
use borrow.Author.Tests.{leb-false}
use lib.ListN.{length, length-set}
use Rattle.term_merger.proofs.Laws.{ordered-set, pushed}
use borrow.Author.Rules.{rules}
use Rattle.term_merger.proofs.push.Goals as goal

pub sift_up-requires-clause-seg_len : goal.sift_up-requires-clause-seg_len
sift_up-requires-clause-seg_len c =
    let q : length c.args.heap.seg ≡ 256 = search rules in
    let room : c.args.heap.len < 256 = leb-false 256 c.args.heap.len (sym c.is_full.ensures ∙ c.if-is_full.false) in
    (simp length-set q, room, ordered-set _ _ _ _ _ c.requires.ordered)

pub returns : goal.returns
returns c =
    let q : length c.args.heap.seg ≡ 256 = search rules in
    let room : c.args.heap.len < 256 = leb-false 256 c.args.heap.len (sym c.is_full.ensures ∙ c.if-is_full.false) in
    record {
      room = λ _. pushed _ _ c.args.heap _ c.args.s q room refl c.sift_up.ensures;
      full = λ f. absurd (omega arith);
    }
