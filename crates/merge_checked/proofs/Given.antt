-- What an input that has passed the checks up to 9 gives the parts of the join. Assumes nothing.
use Prim.Native.Nat.{ℕ, ◌≤◌, ◌<◌}
use native.Mathlib.Omega.{arith}
use mathlib.Core.Path.{◌≡◌, sym, ap, ◌∙◌}
use mathlib.Core.List.{List}
use mathlib.Core.Bool.{Bool, false, cond, ◌&&◌}
use lib.ListN.{length, get_or}
use lib.Dec.{T, eqb}
use borrow.Author.Tests.{eq-eqb, ne_eqb, not-false}
use Rattle.definitions.specs.Lists.{any, is_empty}
use Rattle.definitions.specs.Segment.{Segment, Input, segments_of}
use Rattle.definitions.specs.Row.{has_alive_set}
use Rattle.definitions.specs.Join.{absent}
use Rattle.definitions.specs.Checks.{Passed}
use Rattle.definitions.specs.Answer.{alive_set_wrong, alive_wrong, lists_alive_rows, addresses_wrong, checks_to_seven, order_checks}
use Rattle.definitions.proofs.Accept.{plain-passed}
use Rattle.definitions.proofs.Checks.{passes, passed-append}
use Rattle.segment.specs.Records.{segments_in}
use Rattle.segment.specs.Lent.{lent_input, addresses_of}
use Rattle.sections_fit.proofs.Seven.{known, Ready, ready}
use Rattle.merge_mapping.proofs.Own.{input-room, room-both}
use Rattle.verdict.specs.Nine.{checks_to_nine}
use Rattle.verdict.proofs.Answer.{passed-nine}
use Rattle.segment.specs.Lent.{Checked}
use Rattle.merge_checked.specs.Call.{AfterNine}
use Rattle.definitions.proofs.Lists.{any_false, mem_at, or_right}
use Rattle.lists.proofs.Tests.{true-T}

module _ {mode required : ℕ} {records : List (List ℕ)} {ids offsets values lengths bytes words : List ℕ} {addresses : List (List ℕ)} {work : List ℕ}
    (p : AfterNine mode required records ids offsets values lengths bytes words addresses work) where
  abbrev i : Input
  i = lent_input mode required records ids offsets values lengths bytes words addresses (length work)

  abbrev ss : List Segment
  ss = segments_in records ids offsets values lengths bytes words

  nine : Passed (checks_to_nine i)
  nine = passed-nine i p.nine

  seven : Passed (checks_to_seven i)
  seven = (passed-append (checks_to_seven i) (order_checks i) nine).0

  pub rest : Ready i.records i.sections
  rest = ready i.records i.sections (plain-passed i seven)

  pub checked : Checked records ids offsets values lengths bytes words
  checked = record { passed = plain-passed i seven }

  -- a stacked join has no alive set
  pub alone : mode ≡ 0 → (k : ℕ) → k < length ss → has_alive_set (get_or ss k absent) ≡ false
  unfolding segments_of alive_wrong
  alone e k h =
      any_false has_alive_set ss
      (rw (eq-eqb mode 0 e) at (or_right (any alive_set_wrong ss) (eqb mode 0 && any has_alive_set ss) (passes nine 6)))
      (mem_at ss k absent h)

  -- an ordered one lists each alive row once
  pub order : (mode ≡ 0 → ⊥) → T (lists_alive_rows ss (addresses_of addresses))
  unfolding segments_of addresses_wrong
  order n =
      true-T (lists_alive_rows ss (addresses_of addresses))
      (ap (λ (b : Bool). cond b (is_empty (addresses_of addresses)) (lists_alive_rows ss (addresses_of addresses))) (sym (ne_eqb mode 0 n))
      ∙ not-false (cond (eqb mode 0) (is_empty (addresses_of addresses)) (lists_alive_rows ss (addresses_of addresses))) (passes nine 9))

  -- and has a working byte for each term
  pub marks-room : (mode ≡ 0 → ⊥) → length lengths ≤ length work
  marks-room n =
      let e : mode ≡ 1 = omega (arith, known i seven) in
      let r = room-both mode _ _ (length work) e (not-false _ (sym (input-room i rest.exact) ∙ passes nine 8)) in
      omega (arith, r, rest.exact.terms)
