-- The answer up to check 9: what gives it, and what it says of the whole answer. Assumes nothing.
use mathlib.Core.Path.{◌≡◌, refl, sym, ap, ◌∙◌}
use mathlib.Core.Bool.{Bool, true, false, not}
use mathlib.Core.List.{List, []}
use Prim.Native.Nat.{ℕ, ◌≤◌, ◌<◌}
use native.Mathlib.Omega.{arith}
use lib.ListN.{length}
use Rattle.definitions.specs.Segment.{SegmentRecord, Sections, Address, Space, Input, segments_of}
use Rattle.definitions.specs.Checks.{first_of, Passed}
use Rattle.definitions.specs.Answer.{total, codes_wrong, alive_wrong, working_too_small, addresses_wrong, checks_to_seven, order_checks, column_checks, join_checks, answer}
use Rattle.definitions.proofs.Accept.{plain-passed}
use Rattle.definitions.proofs.Checks.{first_stays, first-passed, all-passed}
use Rattle.segment.specs.Lent.{working_only}
use Rattle.sections_fit.proofs.Seven.{seven_same, ready}
use Rattle.merge_mapping.specs.Mapping.{rows_in, addresses_right, room_enough}
use Rattle.merge_mapping.proofs.Own.{input-room, input-addresses, room-both}
use Rattle.verdict.specs.Nine.{checks_to_nine, answer_to_nine}

-- ---- what gives it

module _ (i : Input) where
  -- the checks up to 7 look at no address and at no working byte
  pub nine-seven : {n : ℕ} → n ≡ first_of (checks_to_seven (record i { addresses = []; space = working_only 0 })) → n ≡ first_of (checks_to_seven i)
  nine-seven e = e ∙ ap first_of (seven_same i.mode i.required i.records i.sections [] i.addresses (working_only 0) i.space)

  pub nine-passed : {n : ℕ} → n ≡ first_of (checks_to_seven (record i { addresses = []; space = working_only 0 })) → n ≡ 0 → Passed (checks_to_seven i)
  nine-passed e z = (all-passed (checks_to_seven i) 0 tt (sym (nine-seven e) ∙ z)).0

  pub nine-first : {n : ℕ} → n ≡ first_of (checks_to_seven i) → (n ≡ 0 → ⊥) → n ≡ answer_to_nine i
  unfolding answer_to_nine
  nine-first e h = e ∙ first_stays (checks_to_seven i) (first_of (order_checks i)) (λ z. h (e ∙ z))

  module _ (p : Passed (checks_to_seven i)) where
    after : answer_to_nine i ≡ first_of (order_checks i)
    unfolding answer_to_nine
    after = first-passed (checks_to_seven i) (first_of (order_checks i)) p

    pub nine-room : {b : Bool} {rows terms working : ℕ} → rows ≡ total rows_in i.records → terms ≡ length i.sections.term_lengths → working ≡ i.space.working
        → b ≡ room_enough i.mode rows terms working → working_too_small i ≡ not b
    nine-room r t w e =
        let x = (ready i.records i.sections (plain-passed i p)).exact in
        input-room i x ∙ ap not (sym (e ∙ (λ j. room_enough i.mode (r j) ((t ∙ sym x.terms) j) (w j))))

    pub nine_eight : (b : Bool) → working_too_small i ≡ not b → not b ≡ true → 8 ≡ answer_to_nine i
    nine_eight b e h = rw (after, e ∙ h)

    module _ (b : Bool) {d : Bool} (e : working_too_small i ≡ not b) (h : not b ≡ false) (q : d ≡ addresses_right i.mode i.records i.sections.alive i.addresses) where
      pub nine-nine : not d ≡ true → 9 ≡ answer_to_nine i
      nine-nine t = rw (after, e ∙ h, input-addresses i ∙ ap not (sym q) ∙ t)

      pub nine-none : not d ≡ false → 0 ≡ answer_to_nine i
      nine-none t = rw (after, e ∙ h, input-addresses i ∙ ap not (sym q) ∙ t)

-- an ordered join that has room has a byte for each row
pub room-rows : (mode rows terms working : ℕ) {b : Bool} → b ≡ room_enough mode rows terms working → b ≡ true → mode < 2 → (mode ≡ 0 → ⊥) → rows ≤ working
room-rows mode rows terms working e t k n = let h = room-both mode rows terms working (let m : mode ≡ 1 = omega arith in m) (sym e ∙ t) in omega arith

-- ---- what it says

module _ (i : Input) where
  pub passed-nine : answer_to_nine i ≡ 0 → Passed (checks_to_nine i)
  unfolding answer_to_nine
  passed-nine e = (all-passed (checks_to_nine i) 0 tt e).0

  -- a refusal is the answer
  pub answer-nine : (answer_to_nine i ≡ 0 → ⊥) → answer_to_nine i ≡ answer i
  unfolding answer_to_nine join_checks answer
  answer-nine h = first_stays (checks_to_nine i) (first_of (column_checks i)) h

  -- a pass leaves the answer to the later checks
  pub answer-rest : answer_to_nine i ≡ 0 → answer i ≡ first_of (column_checks i)
  unfolding join_checks answer
  answer-rest e = first-passed (checks_to_nine i) (first_of (column_checks i)) (passed-nine e)

-- of the space lent, the checks up to 9 read the working bytes alone
pub nine-space : (mode required : ℕ) (rs : List SegmentRecord) (s : Sections) (bs : List Address) (space : Space)
    → answer_to_nine (record { mode = mode; required = required; records = rs; sections = s; addresses = bs; space = space })
    ≡ answer_to_nine (record { mode = mode; required = required; records = rs; sections = s; addresses = bs; space = working_only space.working })
unfolding answer_to_nine codes_wrong alive_wrong working_too_small addresses_wrong segments_of
nine-space mode required rs s bs space = refl
