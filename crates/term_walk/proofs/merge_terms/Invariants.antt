use mathlib.Core.List.{List}
use Prim.Native.Nat.{ℕ}
use Rattle.term_cursors.specs.Cursors.{terms_in, sum_over}
use Rattle.term_walk.proofs.Going.{Going}
use Rattle.term_walk.proofs.merge_terms.Given as goal

abbrev pub invariant-loop-h : goal.invariant-loop-h
invariant-loop-h l = (P : ℕ → ℕ) × (out : List (List ℕ)) × Going l.lengths l.bytes l.marks l.all l.initial.cursors l.initial.out_lengths l.initial.out_bytes l.initial.map l.cursors l.out_lengths l.out_bytes l.map l.h l.last P out

abbrev pub decreases-loop-h : goal.decreases-loop-h
decreases-loop-h l = sum_over terms_in l.cursors
