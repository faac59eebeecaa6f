-- What a call gives and leaves, refused or not. Assumes nothing.
use Prim.Native.Nat.{ℕ}
use mathlib.Core.Path.{◌≡◌, sym, ap, ap₂, ◌∙◌}
use mathlib.Core.List.{List, []}
use mathlib.Core.Bool.{Bool, false}
use borrow.Author.Tests.{ne_eqb}
use Rattle.std.specs.Prelude.{Result, Ok, Err}
use Rattle.definitions.specs.Withdraw.{AliveSet, changed, row_absent, mark_number, marked_rows, changes_to, mark_outcome}
use Rattle.definitions.proofs.Withdraw.{granted}
use Rattle.refusal.specs.declared.Refusal.{Refusal}
use Rattle.refusal.specs.Number.{number_of}
use Rattle.refusal.proofs.Number.{number_not-zero}
use Rattle.segment.specs.Records.{record_row, struct_of, record_in}
use Rattle.segment.proofs.Rows.{row_back}
use Rattle.segment.specs.declared.Record.{Record}
use Rattle.withdraw.specs.Lent.{set_by, lent_set, marking_of, outcome_of, record_left, Markable}

-- what passed checks say of the set and the rows
module _ (m : AliveSet) (rows : List ℕ) (w : 0 ≡ mark_number m rows) where
  pub markable : Markable m
  markable = let g = granted m rows (sym w) in record { sound = g.sound; flagged = g.flagged }

  pub there : row_absent m rows ≡ false
  there = (granted m rows (sym w)).there

module _ (numbers words rows : List ℕ) (alive : Bool) {r : Record} (e : r ≡ struct_of numbers) where
  same_set : set_by r words ≡ lent_set numbers words
  same_set = ap (λ (x : Record). set_by x words) e

  -- what the outcome says, and the record's numbers in lent memory
  abbrev Told : Result ℕ Refusal → List ℕ → List ℕ → Type 0
  Told x after out =
      (outcome_of x after out ≡ mark_outcome (marking_of alive rows) (lent_set numbers words))
      × (after ≡ record_left (mark_outcome (marking_of alive rows) (lent_set numbers words)) numbers)

  module _ {k : ℕ} (w : k ≡ mark_number (set_by r words) rows) where
    number : k ≡ mark_number (lent_set numbers words) rows
    number = w ∙ ap (λ (m : AliveSet). mark_number m rows) same_set

  pub refuses : (f : Refusal) → number_of f ≡ mark_number (set_by r words) rows → Told (Err f) numbers words
  unfolding mark_outcome
  refuses f w =
      let n = ne_eqb (number_of f) 0 (number_not-zero f) in (rw (← number w, n), rw (← number w, n))

  module _ (w : 0 ≡ mark_number (set_by r words) rows) where
    pub changes_are : {q : Record} {out after : List ℕ} {n : ℕ} → set_by q out ≡ marked_rows alive (set_by r words) rows → after ≡ record_row (record_in q) → n ≡ changes_to alive (set_by r []) q.alive
        → Told (Ok n) after out
    unfolding mark_outcome
    changes_are {q} {out} s a c =
        let m = lent_set numbers words in
        let left : set_by q out ≡ marked_rows alive m rows = s ∙ ap (λ (m : AliveSet). marked_rows alive m rows) same_set in
        let told = c ∙ ap₂ (λ (x : Record) (n : ℕ). changes_to alive (set_by x []) n) e (ap (λ (x : AliveSet). x.given.alive_count) left) in (
          rw (← number w) (λ i. record { answer = changed (told i); left = (ap (λ (l : List ℕ). lent_set l out) a ∙ (λ j. record { given = row_back (record_in q) j; words = out }) ∙ left) i }),
          rw (← number w) (a ∙ ap (λ (x : AliveSet). record_row x.given) left),
        )
