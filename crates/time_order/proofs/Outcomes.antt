-- The outcome of a call, from the parts' contracts. Assumes nothing.
use Prim.Native.Nat.{ℕ, zero, suc}
use mathlib.Core.Path.{◌≡◌, refl, sym, ap, ap₂, ◌∙◌}
use mathlib.Core.List.{List, [], ◌∷◌, ◌++◌, map, map-append}
use mathlib.Core.Bool.{true, false}
use lib.ListN.{length, drop, length-map}
use lib.Dec.{eqb}
use borrow.Author.Tests.{eq-eqb, ne_eqb}
use Rattle.std.specs.Prelude.{Ok, Err}
use Rattle.definitions.specs.Segment.{Segment, Address, segments_from, address_from}
use Rattle.definitions.specs.Outcome.{written}
use Rattle.definitions.specs.TimeOrder.{TimeInput, sorted, time_order, time_answer, time_outcome}
use Rattle.segment.specs.Lent.{addresses_of}
use Rattle.refusal.specs.declared.Refusal.{Refusal}
use Rattle.refusal.specs.Number.{number_of}
use Rattle.refusal.proofs.Number.{number_not-zero}
use Rattle.time_merge.specs.Order as merged
use Rattle.time_merge.specs.Order.{pair_of}
use Rattle.time_order.specs.Outcome.{outcome_of, output_of}

drop-map : {A B : Type 0} (f : A → B) (n : ℕ) (l : List A) → map f (drop n l) ≡ drop n (map f l)
drop-map f zero l = refl
drop-map f (suc n) [] = refl
drop-map f (suc n) (x ∷ xs) = drop-map f n xs

pairs_back : (l : List Address) → addresses_of (map pair_of l) ≡ l
pairs_back [] = refl
pairs_back (a ∷ bs) = ap (λ (z : List Address). a ∷ z) (pairs_back bs)

-- the pairs that are written are the addresses
written_back : (l : List Address) (out : List (List ℕ)) → addresses_of (written (map pair_of l) out) ≡ written l (addresses_of out)
written_back l out =
    map-append address_from (map pair_of l) (drop (length (map pair_of l)) out)
    ∙ ap₂ (λ (a b : List Address). a ++ b) (pairs_back l) (drop-map address_from (length (map pair_of l)) out ∙ ap (λ (n : ℕ). drop n (addresses_of out)) (length-map l pair_of))

module _ (i : TimeInput) (out : List (List ℕ)) where
  module _ (f : Refusal) (e : number_of f ≡ time_answer i) where
    no : eqb (time_answer i) 0 ≡ false
    no = ne_eqb (time_answer i) 0 (λ q. number_not-zero f (e ∙ q))

    pub refused-outcome : outcome_of (Err f) out ≡ time_outcome i (addresses_of out)
    unfolding time_outcome
    refused-outcome = rw (no, e)

    pub refused_output : out ≡ output_of i out
    unfolding output_of
    refused_output = rw no

  module _ (e : 0 ≡ time_answer i) (ss : List Segment) (same : time_order ss ≡ time_order (segments_from i.records i.sections)) where
    yes' : eqb (time_answer i) 0 ≡ true
    yes' = eq-eqb (time_answer i) 0 (sym e)

    pub ordered_output : {out' : List (List ℕ)} → out' ≡ merged.time_written ss out → out' ≡ output_of i out
    unfolding output_of merged.time_written
    ordered_output o = rw yes' (o ∙ ap (λ (l : List Address). written (map pair_of l) out) same)

    pub ordered-outcome : {n : ℕ} {out' : List (List ℕ)} → n ≡ length (time_order ss) → out' ≡ merged.time_written ss out → outcome_of (Ok n) out' ≡ time_outcome i (addresses_of out)
    unfolding time_outcome merged.time_written
    ordered-outcome {n} {out'} m o =
        let a : n ≡ length (time_order (segments_from i.records i.sections)) = m ∙ ap length same in
        let b : addresses_of out' ≡ written (time_order (segments_from i.records i.sections)) (addresses_of out) = ap addresses_of (o ∙ ap (λ (l : List Address). written (map pair_of l) out) same) ∙ written_back (time_order (segments_from i.records i.sections)) out in
        rw yes' (λ j. record { answer = sorted (a j); addresses = b j })
