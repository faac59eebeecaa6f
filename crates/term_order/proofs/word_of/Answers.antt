use mathlib.Core.Path.{ap, ◌∙◌}
use native.Mathlib.Omega.{arith}
use Prim.Native.Nat.{◌≤◌}
use lib.ListN.{length, drop_of_length-le}
use lib.Seq.{take-length}
use Rattle.term_order.specs.Key.{word_of}
use Rattle.std.proofs.lemmas.Bool.Decides.{nat_tests}
use Rattle.term_order.proofs.Words.{word-bytes, word_none, word-short}
use Rattle.term_order.proofs.word_of.Goals as goal

pub returns-in-Some : goal.returns-in-Some
returns-in-Some c = c.from_be_bytes.ensures ∙ word-bytes c.args.term.now _ c.in-Some.ensures.cases

pub returns-in-None : goal.returns-in-None
returns-in-None c = word_none c.args.term.now (let h : length c.args.term.now ≤ 0 = grind (arith, nat_tests) in drop_of_length-le c.args.term.now h)

pub returns-in-None-2 : goal.returns-in-None-2
returns-in-None-2 c = word-short (length c.args.term.now) _ c.args.term.now c.in-None-2.ensures.cases c.number_of.ensures.value c.number_of.ensures.upper_bound ∙ ap word_of (take-length c.args.term.now)
