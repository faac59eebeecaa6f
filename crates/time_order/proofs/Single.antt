-- Where no row has several times, offset j is j: kind 4 is as kind 2, without offsets. Assumes nothing.
use Prim.Native.Nat.{ℕ, zero, suc, ◌-◌, ◌≤◌, ◌<◌}
use native.Mathlib.Nat.{le_refl}
use native.Mathlib.Omega.{arith}
use mathlib.Core.Path.{◌≡◌, refl, sym, ap, ◌∙◌}
use mathlib.Core.Bool.{Bool, true, false, cond}
use mathlib.Core.List.{List, []}
use lib.ListN.{length, get_or}
use lib.Dec.{T, eqb, ltb, ltb→lt}
use Rattle.definitions.specs.Lists.{all, elem}
use Rattle.definitions.specs.Row.{rank}
use Rattle.definitions.proofs.Fit.{rank_lt}
use Rattle.definitions.proofs.Ranks.{rank-all}
use Rattle.lists.proofs.Lists.{all-at}
use Rattle.segment.specs.Kind.{by_index}
use Rattle.segment.proofs.Kind.{index_multi}
use Rattle.column_index.specs.Lookup.{rank_in, is_in, start_of, end_of, Sound}
use Rattle.column_index.proofs.Sound.{earlier_of, earlier_end}
use Rattle.time_checks.proofs.Several.{asc_strict, rank-at, rank_past}
use Rattle.time_cursors.specs.Cursors.{time_kind}
use Rattle.time_cursors.proofs.Laws.{by_time_kind}

-- two words on kind 4 that say the same
by_multi : {A : Type 0} (kind : ℕ) (a b : A) {c d : A} → ((k : ℕ) → kind ≡ suc (suc (suc k)) → c ≡ d) → by_index kind a b c c ≡ by_index kind a b c d
by_multi zero a b f = refl
by_multi (suc zero) a b f = refl
by_multi (suc (suc zero)) a b f = refl
by_multi (suc (suc (suc k))) a b {c} {d} f = index_multi k a b c c ∙ f k refl ∙ sym (index_multi k a b c d)

module _ {kind rows n : ℕ} {ids offsets : List ℕ} (so : Sound kind rows n ids offsets) (single : (r : ℕ) → r < rows → earlier_of kind ids offsets (suc r) - earlier_of kind ids offsets r ≤ 1) where
  -- what stands before a row of kind 4
  multi_earlier : (k r : ℕ) → kind ≡ suc (suc (suc k)) → earlier_of kind ids offsets r ≡ get_or offsets (rank r ids) 0
  unfolding earlier_of
  multi_earlier k r e = ap (λ (m : ℕ). by_index m 0 r (rank r ids) (get_or offsets (rank r ids) 0)) e ∙ index_multi k 0 r (rank r ids) (get_or offsets (rank r ids) 0)

  offsets_are : (k : ℕ) → kind ≡ suc (suc (suc k)) → (j : ℕ) → j ≤ length ids → get_or offsets j 0 ≡ j
  offsets_are k e zero h = (so.multi (omega arith)).2
  offsets_are k e (suc j) h =
      let q = so.multi (omega arith) in
      let r = get_or ids j 0 in
      let inside : r < rows = ltb→lt r rows (all-at (λ m. ltb m rows) ids j 0 q.0 h) in
      let here : earlier_of kind ids offsets r ≡ get_or offsets j 0 = multi_earlier k r e ∙ ap (λ (m : ℕ). get_or offsets m 0) (rank-at ids so.ascends j h) in
      let past : earlier_of kind ids offsets (suc r) ≡ get_or offsets (suc j) 0 = multi_earlier k (suc r) e ∙ ap (λ (m : ℕ). get_or offsets m 0) (rank_past ids so.ascends j h) in
      let up : get_or offsets j 0 < get_or offsets (suc j) 0 = asc_strict offsets q.4 j (suc j) (le_refl (suc j)) (omega (arith, q.1)) in
      let ih = offsets_are k e j (omega arith) in
      omega (arith, single r inside)

  many : (k : ℕ) → kind ≡ suc (suc (suc k)) → n ≡ length ids
  many k e =
      let q = so.multi (omega arith) in
      sym (earlier_end so) ∙ multi_earlier k rows e ∙ ap (λ (m : ℕ). get_or offsets m 0) (rank-all rows ids q.0) ∙ offsets_are k e (length ids) (le_refl (length ids))

  -- the checks say the same of it as of kind 2
  pub time_sound : Sound (time_kind kind) rows n ids []
  time_sound = go kind refl
    where
      fields : {m : ℕ} → time_kind kind ≡ m → eqb m 3 ≡ false → (m ≡ 0 → n ≡ 0) → (m ≡ 1 → n ≡ rows) → (m ≡ 2 → T (all (λ r. ltb r rows) ids) × (n ≡ length ids)) → (3 ≤ m → ⊥) → Sound m rows n ids []
      fields e c a b d f = record { current = c; ascends = so.ascends; empty = a; full = b; optional = d; multi = λ h. absurd (f h) }

      go : (k : ℕ) → kind ≡ k → Sound (time_kind kind) rows n ids []
      go zero e = rw (ap time_kind e) (fields (ap time_kind e) refl (λ z. so.empty e) (λ z. absurd (omega arith)) (λ z. absurd (omega arith)) (λ h. omega arith))
      go (suc zero) e = rw (ap time_kind e) (fields (ap time_kind e) refl (λ z. absurd (omega arith)) (λ z. so.full e) (λ z. absurd (omega arith)) (λ h. omega arith))
      go (suc (suc zero)) e = rw (ap time_kind e) (fields (ap time_kind e) refl (λ z. absurd (omega arith)) (λ z. absurd (omega arith)) (λ z. so.optional e) (λ h. omega arith))
      go (suc (suc (suc k))) e =
          let two : time_kind kind ≡ 2 = ap time_kind e ∙ index_multi k 0 1 2 2 in
          rw two (fields two refl (λ z. absurd (omega arith)) (λ z. absurd (omega arith)) (λ z. ((so.multi (omega arith)).0, many k e)) (λ h. omega arith))

  -- and a row's times stand where they stood: what is said by rank is said by the offset of that rank
  same_place : (r full : ℕ) (f : ℕ → ℕ) → ((j : ℕ) → j < length ids → f j ≤ length ids)
      → by_index (time_kind kind) 0 full (cond (elem r ids) (f (rank r ids)) 0) (cond (elem r ids) (get_or [] (f (rank r ids)) 0) 0)
      ≡ by_index kind 0 full (cond (elem r ids) (f (rank r ids)) 0) (cond (elem r ids) (get_or offsets (f (rank r ids)) 0) 0)
  same_place r full f within =
      by_time_kind kind 0 full (cond (elem r ids) (f (rank r ids)) 0) (cond (elem r ids) (get_or [] (f (rank r ids)) 0) 0)
      ∙ by_multi kind 0 full (λ k e. listed k e (elem r ids) refl)
    where
      listed : (k : ℕ) → kind ≡ suc (suc (suc k)) → (b : Bool) → elem r ids ≡ b → cond b (f (rank r ids)) 0 ≡ cond b (get_or offsets (f (rank r ids)) 0) 0
      listed k e true h = sym (offsets_are k e (f (rank r ids)) (within (rank r ids) (rank_lt r ids h)))
      listed k e false h = refl

  pub start-same : (r : ℕ) → start_of (time_kind kind) ids [] r ≡ start_of kind ids offsets r
  unfolding start_of rank_in is_in
  start-same r = same_place r r (λ j. j) (λ j h. omega arith)

  pub end_same : (r : ℕ) → end_of (time_kind kind) ids [] r ≡ end_of kind ids offsets r
  unfolding end_of rank_in is_in
  end_same r = same_place r (suc r) suc (λ j h. h)
