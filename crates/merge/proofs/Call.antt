-- A call of `join`, from the verdict's number and the working bytes that it leaves. Assumes nothing.
use Prim.Native.Nat.{ℕ}
use mathlib.Core.Path.{◌≡◌, sym, ap, ◌∙◌}
use mathlib.Core.List.{List}
use lib.ListN.{length, replicate, length-replicate}
use Rattle.definitions.specs.Outcome.{Lent, refused, space_of, input_of, refused_buffers, accepted_buffers, join_outcome, lent_of}
use Rattle.segment.specs.Records.{records_of}
use Rattle.segment.specs.Lent.{lent_input}
use Rattle.verdict.specs.Nine.{answer_to_nine}
use Rattle.runs.proofs.Zeros.{zero_again}
use Rattle.std.specs.Prelude.{Result, Err}
use Rattle.refusal.specs.declared.Refusal.{Refusal}
use Rattle.refusal.specs.Number.{number_of}
use Rattle.refusal.proofs.Number.{number_not-zero}
use Rattle.merge_checked.specs.Call.{AfterNine, outcome_of, buffers_of}
use Rattle.merge_checked.proofs.Leaves.{left-refused, early}

module _ (mode required : ℕ) (records : List (List ℕ)) (ids offsets values lengths bytes words : List ℕ) (addresses : List (List ℕ)) (outIds outOffsets outValues lens outs ords work : List ℕ) where
  abbrev lent : List ℕ → Lent
  lent w = lent_of mode required (records_of records) ids offsets values lengths bytes words addresses (buffers_of outIds outOffsets outValues lens outs ords w)

  abbrev nine : ℕ → ℕ
  nine n = answer_to_nine (lent_input mode required records ids offsets values lengths bytes words addresses n)

  module _ {work' : List ℕ} (z : work' ≡ replicate (length work) 0) where
    pub first-end : (k : Refusal) → number_of k ≡ nine (length work) → outcome_of (Err k) (buffers_of outIds outOffsets outValues lens outs ords work') ≡ join_outcome (lent work)
    unfolding refused_buffers
    first-end k e =
        (λ j. record { answer = refused (number_of k); buffers = buffers_of outIds outOffsets outValues lens outs ords (z j) })
        ∙ left-refused (lent work) (number_of k) (early mode required records ids offsets values lengths bytes words addresses (buffers_of outIds outOffsets outValues lens outs ords work) (number_of k) e (number_not-zero k)) (number_not-zero k)

    long : length work' ≡ length work
    long = ap length z ∙ length-replicate (length work) 0

    pub passed : 0 ≡ nine (length work) → AfterNine mode required records ids offsets values lengths bytes words addresses work'
    passed e = record { nine = ap nine long ∙ sym e; clean = zero_again work' (length work) z }

    -- an outcome has of the working bytes their number alone
    pub same_outcome : join_outcome (lent work') ≡ join_outcome (lent work)
    unfolding join_outcome refused_buffers accepted_buffers input_of space_of
    same_outcome = rw long
