-- The outcome of a call, from the checks and the written lists. Assumes nothing.
use Prim.Native.Nat.{ℕ, suc, ◌+◌, ◌≤◌, ◌<◌}
use native.Mathlib.Numerals.{add-one}
use native.Mathlib.Omega.{arith}
use mathlib.Core.Path.{◌≡◌, sym, ap, ap₂, ◌∙◌}
use mathlib.Core.List.{List, [], ◌∷◌}
use mathlib.Core.Bool.{Bool, true, false, cond, not, ◌||◌}
use lib.ListN.{length, take}
use lib.Seq.{length-take-le}
use lib.Dec.{T, ltb}
use borrow.Author.Tests.{eq-eqb, ne_eqb, le-ltb, not-false}
use Rattle.definitions.specs.Segment.{pair, Sections, first_segment, record_of}
use Rattle.definitions.specs.Checks.{check, first_of, Passed}
use Rattle.definitions.specs.Answer.{lists_fit}
use Rattle.definitions.specs.Outcome.{written}
use Rattle.definitions.specs.Convert.{ConvertInput, converted, old_segment, convert_too_short, convert_checks, convert_answer, converted_to, convert_outcome}
use Rattle.definitions.proofs.Checks.{first_stays, first-passed, all-passed, passes}
use Rattle.definitions.proofs.Lists.{or-both}
use Rattle.lists.proofs.Tests.{true-T}
use Rattle.definitions.proofs.Sections.{cut-length, values-many}
use Rattle.std.specs.Prelude.{Ok, Err}
use Rattle.refusal.specs.declared.Refusal.{Refusal}
use Rattle.refusal.specs.declared.Refusal.TheVariants.{OutputSpace}
use Rattle.refusal.specs.Number.{number_of}
use Rattle.refusal.proofs.Number.{number_not-zero}
use Rattle.segment.specs.Records.{record_in}
use Rattle.segment.specs.declared.Record.{Record}
use Rattle.runs.specs.Put.{put}
use Rattle.runs.proofs.Written.{put_written}
use Rattle.convert.specs.Risen.{risen_ids, risen_ends}
use Rattle.convert.specs.Fits.{old_checks}
use Rattle.convert.specs.Outcome.{outcome_of, renewed_record}
use Rattle.convert.proofs.Risen.{ends-ids}
use Rattle.convert.proofs.Own.{Exact, exact, lengths_are, kind-is, kind_three, whole}
use Rattle.convert.proofs.Cells.{new-ids, new-offsets}

-- a check that did not fail
passed_is : {a b : Bool} → a ≡ not b → a ≡ false → b ≡ true
passed_is {a} {b} e h = not-false b (sym e ∙ h)

module _ (r : Record) (s : Sections) (outIds outOffsets : List ℕ) where
  abbrev input : ConvertInput
  input = record { given = record_in r; sections = s; ids = length outIds; offsets = length outOffsets }

  -- ---- a refusal

  refused : (f : Refusal) → number_of f ≡ convert_answer input → outcome_of (Err f) outIds outOffsets ≡ convert_outcome input outIds outOffsets
  unfolding convert_outcome
  refused f e = rw (ne_eqb (convert_answer input) 0 (λ q. number_not-zero f (e ∙ q)), e)

  pub stopped : (f : Refusal) → number_of f ≡ first_of (old_checks (record_in r) s) → outcome_of (Err f) outIds outOffsets ≡ convert_outcome input outIds outOffsets
  unfolding old_checks convert_answer convert_checks
  stopped f e = refused f (e ∙ first_stays (old_checks (record_in r) s) (first_of (check 11 (convert_too_short input) ∷ [])) (λ z. number_not-zero f (e ∙ z)))

  -- ---- 2 to 6 have passed

  module _ (zero-answer : 0 ≡ first_of (old_checks (record_in r) s)) where
    passed : Passed (old_checks (record_in r) s)
    unfolding old_checks
    passed = (all-passed (old_checks (record_in r) s) 0 tt (sym zero-answer)).0

    last-is : convert_answer input ≡ cond (convert_too_short input) 11 0
    unfolding old_checks convert_answer convert_checks
    last-is = first-passed (old_checks (record_in r) s) (first_of (check 11 (convert_too_short input) ∷ [])) passed

    runs : Exact (record_in r) s
    unfolding old_checks
    runs = exact (record_in r) s (passed_is (lengths_are (record_in r) s) (passes passed 2))

    of_kind : r.kind ≡ 3
    unfolding old_checks
    of_kind = kind_three (record_in r) (passed_is (ap not (kind-is (record_in r) s)) (passes passed 3))

    fit : T (lists_fit (old_segment input))
    unfolding old_checks
    fit = true-T (lists_fit (old_segment input)) (not-false (lists_fit (old_segment input)) (passes passed 4))

    offsets-whole : (old_segment input).offsets ≡ s.offsets
    unfolding first_segment
    offsets-whole = whole (record_in r) s runs runs.offsets

    kind-is_three : (old_segment input).kind ≡ 3
    unfolding first_segment
    kind-is_three = of_kind

    ids_are : (converted (old_segment input)).ids ≡ risen_ids 0 s.offsets
    ids_are = new-ids (old_segment input) kind-is_three fit ∙ ap (risen_ids 0) offsets-whole

    offsets_are : (converted (old_segment input)).offsets ≡ 0 ∷ risen_ends s.offsets
    offsets_are = new-offsets (old_segment input) kind-is_three fit ∙ ap (λ (l : List ℕ). 0 ∷ risen_ends l) offsets-whole

    module _ {n : ℕ} (counted : n ≡ length (risen_ids 0 s.offsets)) where
      ids-long : length (converted (old_segment input)).ids ≡ n
      ids-long = ap length ids_are ∙ sym counted

      offsets-long : length (converted (old_segment input)).offsets ≡ n + 1
      offsets-long = ap length offsets_are ∙ ap suc (ends-ids 0 s.offsets ∙ sym counted) ∙ sym (add-one n)

      short-is : convert_too_short input ≡ ltb (length outIds) n || ltb (length outOffsets) (n + 1)
      unfolding convert_too_short
      short-is = ap₂ (λ (a b : ℕ). ltb (length outIds) a || ltb (length outOffsets) b) ids-long offsets-long

      pub short : ltb (length outIds) n || ltb (length outOffsets) (n + 1) ≡ true → outcome_of (Err OutputSpace) outIds outOffsets ≡ convert_outcome input outIds outOffsets
      short h = refused OutputSpace (sym (last-is ∙ ap (λ (b : Bool). cond b 11 0) (short-is ∙ h)))

      -- ---- acceptance

      module _ (h : n ≤ length outIds) (k : n < length outOffsets) where
        accepted : convert_answer input ≡ 0
        accepted =
            last-is
            ∙ ap (λ (b : Bool). cond b 11 0)
            (short-is ∙ or-both (ltb (length outIds) n) (le-ltb (length outIds) n h) (le-ltb (length outOffsets) (n + 1) (omega arith)))

        record_is : record_of (converted (old_segment input)) ≡ record_in (renewed_record r n)
        unfolding record_of converted first_segment
        record_is =
            λ i.
            record {
              type = r.typ;
              kind = 4;
              rows = r.rows;
              ids = ids-long i;
              offsets = offsets-long i;
              values = values-many (record_in r) s.values (let x = runs.words in omega arith) i;
              terms = (cut-length (take r.terms s.term_lengths) s.term_bytes ∙ length-take-le r.terms s.term_lengths (let x = runs.terms in omega arith)) i;
              flag = r.flag;
              alive_count = r.alive;
              pair = pair r.least r.greatest;
            }

        pub converts : {a : Record} {newIds newOffsets : List ℕ} → a ≡ renewed_record r n → newIds ≡ put 0 (risen_ids 0 s.offsets) outIds → newOffsets ≡ put 0 (0 ∷ risen_ends s.offsets) outOffsets
            → outcome_of (Ok a) newIds newOffsets ≡ convert_outcome input outIds outOffsets
        unfolding convert_outcome
        converts {a} {newIds} {newOffsets} q x y =
            let x' : newIds ≡ written (converted (old_segment input)).ids outIds = x ∙ put_written (risen_ids 0 s.offsets) outIds ∙ ap (λ (l : List ℕ). written l outIds) (sym ids_are) in
            let y' : newOffsets ≡ written (converted (old_segment input)).offsets outOffsets = y ∙ put_written (0 ∷ risen_ends s.offsets) outOffsets ∙ ap (λ (l : List ℕ). written l outOffsets) (sym offsets_are) in
            let r' : record_in a ≡ record_of (converted (old_segment input)) = ap record_in q ∙ sym record_is in
            rw (eq-eqb (convert_answer input) 0 accepted) (λ i. record { answer = converted_to (r' i); ids = x' i; offsets = y' i })
