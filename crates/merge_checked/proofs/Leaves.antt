-- What a call leaves, by its answer: refused or accepted. Assumes nothing.
use Prim.Native.Nat.{ℕ}
use mathlib.Core.Path.{◌≡◌, sym, ◌∙◌}
use mathlib.Core.List.{List}
use mathlib.Core.Bool.{true, false, cond}
use lib.ListN.{length}
use lib.Dec.{eqb}
use borrow.Author.Tests.{eq-eqb, ne_eqb}
use Rattle.definitions.specs.Segment.{segments_of}
use Rattle.definitions.specs.Answer.{answer, join_of, types_wrong, output_too_short}
use Rattle.definitions.specs.Outcome.{Buffers, Lent, accepted, refused, space_of, input_of, numbers_of, refused_buffers, accepted_buffers, join_outcome, lent_of}
use Rattle.segment.specs.Lent.{lent_input}
use Rattle.segment.specs.Records.{segments_in, records_of}
use Rattle.verdict.specs.Nine.{answer_to_nine}
use Rattle.verdict.proofs.Answer.{answer-nine, answer-rest, nine-space}

-- ---- a refusal

-- the outputs as they were, and the working bytes zero
pub left-refused : (l : Lent) (k : ℕ) → answer (input_of l) ≡ k → (k ≡ 0 → ⊥) → record { answer = refused k; buffers = refused_buffers l.buffers } ≡ join_outcome l
unfolding join_outcome
left-refused l k e n =
    let z : eqb (answer (input_of l)) 0 ≡ false = ne_eqb (answer (input_of l)) 0 (λ q. n (sym e ∙ q)) in
    rw (z, e)

pub left-accepted : (l : Lent) → answer (input_of l) ≡ 0
    → record { answer = accepted (numbers_of (join_of (input_of l))); buffers = accepted_buffers (join_of (input_of l)) l.buffers } ≡ join_outcome l
unfolding join_outcome
left-accepted l e = let z : eqb (answer (input_of l)) 0 ≡ true = eq-eqb (answer (input_of l)) 0 e in rw z

module _ (mode required : ℕ) (records : List (List ℕ)) (ids offsets values lengths bytes words : List ℕ) (addresses : List (List ℕ)) (b : Buffers) where
  abbrev l : Lent
  l = lent_of mode required (records_of records) ids offsets values lengths bytes words addresses b

  -- of the space the checks up to 9 read the working bytes alone
  nine-is : answer_to_nine (input_of l) ≡ answer_to_nine (lent_input mode required records ids offsets values lengths bytes words addresses (length b.working))
  unfolding input_of space_of
  nine-is = nine-space mode required _ _ _ (space_of b)

  pub early : (k : ℕ) → k ≡ answer_to_nine (lent_input mode required records ids offsets values lengths bytes words addresses (length b.working)) → (k ≡ 0 → ⊥) → answer (input_of l) ≡ k
  early k e n = sym (e ∙ sym nine-is ∙ answer-nine (input_of l) (λ z. n (e ∙ sym nine-is ∙ z)))

  -- an input that has passed: 10 and 11 decide
  pub late : answer_to_nine (lent_input mode required records ids offsets values lengths bytes words addresses (length b.working)) ≡ 0
      → answer (input_of l) ≡ cond (types_wrong required (segments_in records ids offsets values lengths bytes words)) 10 (cond (output_too_short (input_of l)) 11 0)
  unfolding input_of segments_of
  late e = answer-rest (input_of l) (nine-is ∙ e)
