-- A list written from the start of an output goes on. Assumes nothing.
use mathlib.Core.Path.{◌≡◌, sym, ap, ◌∙◌}
use mathlib.Core.List.{List, [], ◌∷◌, ◌++◌, append_assoc}
use Prim.Native.Nat.{ℕ, ◌+◌, ◌≤◌, ◌<◌}
use native.Mathlib.Nat.{zero-add}
use native.Mathlib.Omega.{arith}
use lib.ListN.{length, take, drop, set, length-append, length-drop}
use lib.Seq.{take_at, drop-append-add, drop-drop}
use Rattle.definitions.specs.Outcome.{written}
use Rattle.runs.specs.Put.{put}
use Rattle.runs.proofs.Laws.{put_one}

module _ {A : Type 0} where
  pub put_written : (vs old : List A) → put 0 vs old ≡ written vs old
  unfolding put
  put_written vs old = rw (zero-add (length vs))

  pub written-length : (list old : List A) → length list ≤ length old → length (written list old) ≡ length old
  written-length list old h = simp (length-append, length-drop) (omega arith)

  pub written-more : (list vs old : List A) (at : ℕ) → at ≡ length list → put at vs (written list old) ≡ written (list ++ vs) old
  unfolding put
  written-more list vs old at e =
      let t : take at (list ++ drop (length list) old) ≡ list = take_at list (drop (length list) old) at (sym e) in
      let d : drop (at + length vs) (list ++ drop (length list) old) ≡ drop (length (list ++ vs)) old =
      ap (λ (n : ℕ). drop (n + length vs) (list ++ drop (length list) old)) e
      ∙ drop-append-add list (drop (length list) old) (length vs)
      ∙ drop-drop (length vs) (length list) old
      ∙ ap (λ (n : ℕ). drop n old) (sym (length-append list vs)) in
      rw (t, d) (sym (append_assoc list vs (drop (length (list ++ vs)) old)))

  pub written_one : (list old : List A) (v : A) (at : ℕ) → at ≡ length list → at < length old → set (written list old) at v ≡ written (list ++ (v ∷ [])) old
  written_one list old v at e h = put_one at v (written list old) (simp (length-append, length-drop) (omega arith)) ∙ written-more list (v ∷ []) old at e
