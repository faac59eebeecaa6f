-- A loop that fills lent memory from its start. Assumes nothing.
use mathlib.Core.Path.{◌≡◌, sym, ap, ◌∙◌}
use mathlib.Core.List.{List}
use Prim.Native.Nat.{ℕ, ◌+◌, ◌≤◌, ◌<◌}
use native.Mathlib.Omega.{arith}
use lib.ListN.{length, set, get_or}
use Rattle.runs.specs.Put.{put}
use Rattle.runs.proofs.Laws.{putting, putting-first, putting-all}

module _ {A : Type 0} (vs old : List A) {out : List A} {j n : ℕ} (e : out ≡ putting 0 vs old j) (l : length vs ≡ n) where
  -- a turn, in which x is stored
  pub one_more : (d x : A) → n ≤ length old → j < n → get_or vs j d ≡ x → set out j x ≡ putting 0 vs old (j + 1)
  one_more d x room h q =
      ap (λ (o : List A). set o j x) e
      ∙ ap (λ (y : A). set (putting 0 vs old j) j y) (sym q)
      ∙ putting-first vs old j d (omega arith) (omega arith)

  pub all_put : j ≤ n → n ≤ j → out ≡ put 0 vs old
  all_put h k = e ∙ putting-all 0 vs old j n l h k
