-- The merge without the code: P x is the row at which segment x stands, alive or the number of its rows; done is what is written. Assumes nothing.
use Prim.Native.Nat.{ℕ, zero, suc, ◌+◌, ◌-◌, ◌≤◌, ◌<◌, zero-le}
use native.Mathlib.Nat.{le_refl}
use native.Mathlib.Numerals.{add-one}
use native.Mathlib.Omega.{arith}
use mathlib.Core.Path.{◌≡◌, refl, sym, ap, ◌∙◌, subst}
use mathlib.Core.Logic.{◌⊎◌, inl, inr}
use mathlib.Core.List.{List, [], ◌∷◌, ◌++◌, map, append_assoc, append-nil}
use mathlib.Core.Bool.{Bool, true, false, cond, ◌&&◌, ◌||◌, false≢true, true≢false}
use lib.ListN.{length, get_or, length-append, get_or-eq_default}
use lib.Dec.{eqb, ltb, leb}
use borrow.Author.Tests.{eq-eqb, ne_eqb, lt-ltb, le-ltb, le-leb, lt-leb, leb-true, leb-false}
use Rattle.definitions.specs.Lists.{up_from, filter}
use Rattle.definitions.specs.Segment.{Segment, Address, address as at}
use Rattle.definitions.specs.Row.{is_alive}
use Rattle.definitions.specs.Join.{absent, stacked_from}
use Rattle.definitions.specs.Answer.{same_address, is_alive_at, alive_addresses}
use Rattle.definitions.specs.TimeOrder.{key_of, is_before, sort_addresses, time_order}
use Rattle.definitions.proofs.TimeOrder.{Alive, alive_back, alive-at, alive_once, filter_same, filter-nothing, take-first}
use Rattle.time_cursors.specs.Cursors.{seek, next_row}
use Rattle.time_cursors.proofs.Laws.{seek_found, seek-first}
use Rattle.time_cursors.proofs.Parts.{next_low, next-high}
use Rattle.lists.proofs.Numbers.{same?, le-lt}
use Rattle.definitions.proofs.Lists.{and-fails}

-- ---- the order of two addresses

-- by key, segment, row
abbrev Lower : ℕ → ℕ → ℕ → ℕ → ℕ → ℕ → Type 0
Lower k s r l t q = (k < l) ⊎ ((k ≡ l) × ((s < t) ⊎ ((s ≡ t) × (r < q))))

abbrev lower : ℕ → ℕ → ℕ → ℕ → ℕ → ℕ → Bool
lower k s r l t q = ltb k l || (eqb k l && (ltb s t || (eqb s t && ltb r q)))

lower-is : (k s r l t q : ℕ) → Lower k s r l t q → (lower l t q k s r ≡ false) × (lower k s r l t q ≡ true)
lower-is k s r l t q (inl h) = (rw (le-ltb l k (omega arith), ne_eqb l k (λ e. omega arith)), rw (lt-ltb k l h))
lower-is k s r l t q (inr (e, inl h)) =
    (rw (le-ltb l k (omega arith), eq-eqb l k (sym e), le-ltb t s (omega arith), ne_eqb t s (λ e. omega arith)), rw (le-ltb k l (omega arith), eq-eqb k l e, lt-ltb s t h))
lower-is k s r l t q (inr (e, inr (f, h))) = (
  rw (le-ltb l k (omega arith), eq-eqb l k (sym e), le-ltb t s (omega arith), eq-eqb t s (sym f), le-ltb q r (omega arith)),
  rw (le-ltb k l (omega arith), eq-eqb k l e, le-ltb s t (omega arith), eq-eqb s t f, lt-ltb r q h),
)

-- ---- one segment goes on to its next alive row

unfoldable pub bump : (ℕ → ℕ) → ℕ → ℕ → ℕ → ℕ
bump P s n x = cond (eqb x s) n (P x)

pub bump-here : (P : ℕ → ℕ) (s n x : ℕ) → x ≡ s → bump P s n x ≡ n
unfolding bump
bump-here P s n x e = rw (eq-eqb x s e)

pub bump-there : (P : ℕ → ℕ) (s n x : ℕ) → (x ≡ s → ⊥) → bump P s n x ≡ P x
unfolding bump
bump-there P s n x d = rw (ne_eqb x s d)

leb-same : (a b r : ℕ) → (a ≤ r → b ≤ r) → (b ≤ r → a ≤ r) → leb a r ≡ leb b r
leb-same a b r f g = go (leb b r) refl
  where
    go : (t : Bool) → leb b r ≡ t → leb a r ≡ t
    go true e = le-leb a r (g (leb-true b r e))
    go false e = lt-leb a r (low (le-lt r a))
      where
        low : (r < a) ⊎ (a ≤ r) → r < a
        low (inl h) = h
        low (inr h) = absurd (let k = leb-false b r e in let m = f h in omega arith)

module _ (ss : List Segment) where
  -- the segment, and the first alive row of it from n on
  abbrev pub seg : ℕ → Segment
  seg x = get_or ss x absent

  abbrev pub next : ℕ → ℕ → ℕ
  next x n = next_row (seg x).flag (seg x).alive (seg x).rows n

  next-alive : (x n : ℕ) → n ≤ (seg x).rows → next x n < (seg x).rows → is_alive (seg x) (next x n) ≡ true
  unfolding next_row is_alive
  next-alive x n h l =
      let e : n + ((seg x).rows - n) ≡ (seg x).rows = omega arith in
      seek_found (is_alive (seg x)) n ((seg x).rows - n) (omega arith)

  next-first : (x n r : ℕ) → n ≤ r → r < (seg x).rows → is_alive (seg x) r ≡ true → next x n ≤ r
  unfolding next_row is_alive
  next-first x n r h l e = seek-first (is_alive (seg x)) n ((seg x).rows - n) r h (omega arith) e

  -- what is not written yet
  unfoldable pub left : (ℕ → ℕ) → Address → Bool
  left P b = is_alive_at ss b && leb (P b.segment) b.row

  pub record Standing (P : ℕ → ℕ) (done : List Address) : Type 0 where
    pub place : (x : ℕ) → P x ≤ (seg x).rows
    pub alive : (x : ℕ) → P x < (seg x).rows → is_alive (seg x) (P x) ≡ true
    pub rest : done ++ sort_addresses ss (filter (left P) (stacked_from 0 ss)) ≡ time_order ss

  pub standing_start : Standing (λ x. next x 0) []
  unfolding time_order alive_addresses left
  standing_start =
      record {
        place = λ x. next-high (seg x).flag (seg x).alive (seg x).rows 0 zero-le;
        alive = λ x h. next-alive x 0 zero-le h;
        rest = ap (sort_addresses ss) (filter_same (left (λ x. next x 0)) (is_alive_at ss) (stacked_from 0 ss) (λ b. go b (is_alive_at ss b) refl));
      }
    where
      go : (b : Address) (t : Bool) → is_alive_at ss b ≡ t → t && leb (next b.segment 0) b.row ≡ t
      go b false e = refl
      go b true e = let v = alive_back ss b e in le-leb (next b.segment 0) b.row (next-first b.segment 0 b.row zero-le v.row v.alive)

  pub standing-end : (P : ℕ → ℕ) (done : List Address) → Standing P done → ((x : ℕ) → (seg x).rows ≤ P x) → done ≡ time_order ss
  unfolding left
  standing-end P done g over =
      sym (append-nil done) ∙ ap (λ (l : List Address). done ++ sort_addresses ss l) (sym (filter-nothing (left P) (stacked_from 0 ss) (λ b. go b (is_alive_at ss b) refl))) ∙ g.rest
    where
      go : (b : Address) (t : Bool) → is_alive_at ss b ≡ t → t && leb (P b.segment) b.row ≡ false
      go b false e = refl
      go b true e = let v = alive_back ss b e in lt-leb (P b.segment) b.row (omega (arith, v.row, over b.segment))

  inside : (x : ℕ) → 0 < (seg x).rows → x < length ss
  inside x h = go (le-lt x (length ss))
    where
      go : (x < length ss) ⊎ (length ss ≤ x) → x < length ss
      go (inl k) = k
      go (inr k) = absurd (let e : (seg x).rows ≡ 0 = ap (λ (s : Segment). s.rows) (get_or-eq_default ss absent k) in omega arith)

  -- s is the segment at the top; keys don't fall with the rows
  module _ (P : ℕ → ℕ) (done : List Address) (s : ℕ) (g : Standing P done) (live : P s < (seg s).rows)
      (grows : (x n m : ℕ) → n ≤ m → m < (seg x).rows → key_of ss (at x n) ≤ key_of ss (at x m))
      (least : (y : ℕ) → P y < (seg y).rows → (key_of ss (at s (P s)) < key_of ss (at y (P y))) ⊎ ((key_of ss (at s (P s)) ≡ key_of ss (at y (P y))) × (s ≤ y))) where
    abbrev P' : ℕ → ℕ
    P' = bump P s (next s (P s + 1))

    after : P s + 1 ≤ next s (P s + 1)
    after = next_low (seg s).flag (seg s).alive (seg s).rows (P s + 1)

    alive-a : Alive ss (at s (P s))
    alive-a = record { segment = inside s (omega arith); row = live; alive = g.alive s live }

    left-a : left P (at s (P s)) ≡ true
    unfolding left
    left-a = rw (alive-at ss (at s (P s)) alive-a, le-leb (P s) (P s) (le_refl (P s)))

    gone_a : left P' (at s (P s)) ≡ false
    unfolding left
    gone_a = and-fails (is_alive_at ss (at s (P s))) (leb (P' s) (P s)) (lt-leb (P' s) (P s) (rw (bump-here P s (next s (P s + 1)) s refl) (omega (arith, after))))

    other_row : (b : Address) → same_address (at s (P s)) b ≡ false → b.segment ≡ s → b.row ≡ P s → ⊥
    other_row b d e f = true≢false (sym (rw (eq-eqb s b.segment (sym e), eq-eqb (P s) b.row (sym f)) refl) ∙ d)

    others : (b : Address) → same_address (at s (P s)) b ≡ false → left P b ≡ left P' b
    unfolding left
    others b d = go (is_alive_at ss b) refl
      where
        same : Alive ss b → b.segment ≡ s → leb (P b.segment) b.row ≡ leb (P' b.segment) b.row
        same v e =
            let p : P b.segment ≡ P s = ap P e in
            let q : P' b.segment ≡ next s (P s + 1) = bump-here P s (next s (P s + 1)) b.segment e in
            let r : b.row < (seg s).rows = subst (λ (x : ℕ). b.row < (seg x).rows) e v.row in
            let l : is_alive (seg s) b.row ≡ true = subst (λ (x : ℕ). is_alive (seg x) b.row ≡ true) e v.alive in
            rw (p, q) (leb-same (P s) (next s (P s + 1)) b.row (λ h. next-first s (P s + 1) b.row (above h (le-lt (P s) b.row)) r l) (λ h. omega (arith, after)))
          where
            above : P s ≤ b.row → (P s < b.row) ⊎ (b.row ≤ P s) → P s + 1 ≤ b.row
            above h (inl k) = omega arith
            above h (inr k) = absurd (other_row b d e (let z : b.row ≡ P s = omega arith in z))

        by : Alive ss b → (b.segment ≡ s) ⊎ (b.segment ≡ s → ⊥) → leb (P b.segment) b.row ≡ leb (P' b.segment) b.row
        by v (inl e) = same v e
        by v (inr n) = ap (λ (x : ℕ). leb x b.row) (sym (bump-there P s (next s (P s + 1)) b.segment n))

        go : (t : Bool) → is_alive_at ss b ≡ t → t && leb (P b.segment) b.row ≡ t && leb (P' b.segment) b.row
        go false e = refl
        go true e = by (alive_back ss b e) (same? b.segment s)

    first : (b : Address) → same_address (at s (P s)) b ≡ false → left P b ≡ true → (is_before ss b (at s (P s)) ≡ false) × (is_before ss (at s (P s)) b ≡ true)
    unfolding left is_before
    first b d e = lower-is (key_of ss (at s (P s))) s (P s) (key_of ss b) b.segment b.row (go (is_alive_at ss b) refl e)
      where
        row-after : s ≡ b.segment → P b.segment ≤ b.row → P s < b.row
        row-after e h = pick (le-lt (P s) b.row)
          where
            p : P b.segment ≡ P s
            p = ap P (sym e)

            pick : (P s < b.row) ⊎ (b.row ≤ P s) → P s < b.row
            pick (inl k) = k
            pick (inr k) = absurd (other_row b d (sym e) (let z : b.row ≡ P s = omega (arith, p) in z))

        tie : key_of ss (at s (P s)) ≡ key_of ss b → s ≤ b.segment → P b.segment ≤ b.row → (s < b.segment) ⊎ (b.segment ≤ s) → Lower (key_of ss (at s (P s))) s (P s) (key_of ss b) b.segment b.row
        tie f l h (inl k) = inr (f, inl k)
        tie f l h (inr k) = let z : s ≡ b.segment = omega arith in inr (f, inr (z, row-after z h))

        place : (key_of ss (at s (P s)) < key_of ss (at b.segment (P b.segment))) ⊎ ((key_of ss (at s (P s)) ≡ key_of ss (at b.segment (P b.segment))) × (s ≤ b.segment))
            → key_of ss (at b.segment (P b.segment)) ≤ key_of ss b → P b.segment ≤ b.row → Lower (key_of ss (at s (P s))) s (P s) (key_of ss b) b.segment b.row
        place (inl k) m h = inl (omega arith)
        place (inr (f, l)) m h = pick (le-lt (key_of ss (at s (P s))) (key_of ss b))
          where
            pick : (key_of ss (at s (P s)) < key_of ss b) ⊎ (key_of ss b ≤ key_of ss (at s (P s))) → Lower (key_of ss (at s (P s))) s (P s) (key_of ss b) b.segment b.row
            pick (inl k) = inl k
            pick (inr k) = tie (let z : key_of ss (at s (P s)) ≡ key_of ss b = omega arith in z) l h (le-lt s b.segment)

        go : (t : Bool) → is_alive_at ss b ≡ t → t && leb (P b.segment) b.row ≡ true → Lower (key_of ss (at s (P s))) s (P s) (key_of ss b) b.segment b.row
        go false f e = absurd (false≢true e)
        go true f e =
            let v = alive_back ss b f in
            let h = leb-true (P b.segment) b.row e in
            place (least b.segment (omega (arith, v.row))) (grows b.segment (P b.segment) b.row h v.row) h

    taken : sort_addresses ss (filter (left P) (stacked_from 0 ss)) ≡ at s (P s) ∷ sort_addresses ss (filter (left P') (stacked_from 0 ss))
    taken = take-first ss (at s (P s)) (left P) (left P') left-a gone_a others first (stacked_from 0 ss) (alive_once ss (at s (P s)) alive-a)

    standing-next : Standing (bump P s (next s (P s + 1))) (done ++ (at s (P s) ∷ []))
    standing-next =
        record {
          place = λ x. place x (same? x s);
          alive = λ x h. alive x (same? x s) h;
          rest = append_assoc done (at s (P s) ∷ []) (sort_addresses ss (filter (left P') (stacked_from 0 ss))) ∙ ap (λ (l : List Address). done ++ l) (sym taken) ∙ g.rest;
        }
      where
        place : (x : ℕ) → (x ≡ s) ⊎ (x ≡ s → ⊥) → P' x ≤ (seg x).rows
        place x (inl e) = rw (bump-here P s (next s (P s + 1)) x e, e) (next-high (seg s).flag (seg s).alive (seg s).rows (P s + 1) (omega arith))
        place x (inr d) = rw (bump-there P s (next s (P s + 1)) x d) (g.place x)

        alive : (x : ℕ) → (x ≡ s) ⊎ (x ≡ s → ⊥) → P' x < (seg x).rows → is_alive (seg x) (P' x) ≡ true
        alive x (inl e) h =
            let q : P' x ≡ next s (P s + 1) = bump-here P s (next s (P s + 1)) x e in
            let l : next s (P s + 1) < (seg s).rows = subst (λ (z : ℕ). next s (P s + 1) < (seg z).rows) e (subst (λ (z : ℕ). z < (seg x).rows) q h) in
            subst (λ (z : ℕ). is_alive (seg z) (P' x) ≡ true) (sym e) (subst (λ (z : ℕ). is_alive (seg s) z ≡ true) (sym q) (next-alive s (P s + 1) (omega arith) l))
        alive x (inr d) h =
            let q : P' x ≡ P x = bump-there P s (next s (P s + 1)) x d in
            subst (λ (z : ℕ). is_alive (seg x) z ≡ true) (sym q) (g.alive x (omega arith))

  -- what is written has place in the order
  pub standing-room : (P : ℕ → ℕ) (done : List Address) → Standing P done → length done ≤ length (time_order ss)
  standing-room P done g = omega (arith, ap length g.rest, length-append done (sort_addresses ss (filter (left P) (stacked_from 0 ss))))

  -- ---- a run: segment s goes on to row e, and each row before e comes before the next row of every other segment

  next_step : (x n : ℕ) → n < (seg x).rows → next x n ≡ cond (is_alive (seg x) n) n (next x (n + 1))
  unfolding next_row is_alive
  next_step x n h =
      let e : (seg x).rows - n ≡ suc ((seg x).rows - (n + 1)) = omega arith in
      ap (seek (is_alive (seg x)) n) e ∙ ap (λ (k : ℕ). cond (is_alive (seg x) n) n (seek (is_alive (seg x)) k ((seg x).rows - (n + 1)))) (sym (add-one n))

  bump-bump : (P : ℕ → ℕ) (s a b : ℕ) → bump (bump P s a) s b ≡ bump P s b
  bump-bump P s a b = λ i x. at x (same? x s) i
    where
      at : (x : ℕ) → (x ≡ s) ⊎ (x ≡ s → ⊥) → bump (bump P s a) s b x ≡ bump P s b x
      at x (inl e) = bump-here (bump P s a) s b x e ∙ sym (bump-here P s b x e)
      at x (inr d) = bump-there (bump P s a) s b x d ∙ bump-there P s a x d ∙ sym (bump-there P s b x d)

  -- the rows of the run that are alive, n rows looked at from r on
  abbrev pub alive_rows : ℕ → ℕ → ℕ → List ℕ
  alive_rows s r n = filter (is_alive (seg s)) (up_from r n)

  module _ (P : ℕ → ℕ) (s e : ℕ) (inside : e ≤ (seg s).rows)
      (grows : (x n m : ℕ) → n ≤ m → m < (seg x).rows → key_of ss (at x n) ≤ key_of ss (at x m))
      (before : (r : ℕ) → r < e → (y : ℕ) → (y ≡ s → ⊥) → P y < (seg y).rows → (key_of ss (at s r) < key_of ss (at y (P y))) ⊎ ((key_of ss (at s r) ≡ key_of ss (at y (P y))) × (s ≤ y))) where
    -- segment s stands at its first alive row from r on
    abbrev Q : ℕ → ℕ → ℕ
    Q r = bump P s (next s r)

    one : (r : ℕ) (done : List Address) → r < e → is_alive (seg s) r ≡ true → Standing (Q r) done → Standing (Q (r + 1)) (done ++ (at s r ∷ []))
    one r done h live g =
        subst (λ (R : ℕ → ℕ). Standing R (done ++ (at s r ∷ []))) (bump-bump P s (next s r) (next s (r + 1)))
        (subst (λ (k : ℕ). Standing (bump (Q r) s (next s (k + 1))) (done ++ (at s k ∷ []))) here
        (standing-next (Q r) done s g (rw here (omega arith)) grows least))
      where
        here : Q r s ≡ r
        here = bump-here P s (next s r) s refl ∙ next_step s r (omega arith) ∙ rw live

        least : (y : ℕ) → Q r y < (seg y).rows → (key_of ss (at s (Q r s)) < key_of ss (at y (Q r y))) ⊎ ((key_of ss (at s (Q r s)) ≡ key_of ss (at y (Q r y))) × (s ≤ y))
        least y l = go (same? y s)
          where
            go : (y ≡ s) ⊎ (y ≡ s → ⊥) → (key_of ss (at s (Q r s)) < key_of ss (at y (Q r y))) ⊎ ((key_of ss (at s (Q r s)) ≡ key_of ss (at y (Q r y))) × (s ≤ y))
            go (inl q) = inr (ap (λ (x : ℕ). key_of ss (at x (Q r x))) (sym q), (let z : s ≤ y = omega arith in z))
            go (inr d) =
                let there = bump-there P s (next s r) y d in
                rw (here, there) (before r h y d (subst (λ (k : ℕ). k < (seg y).rows) there l))

    pass : (r : ℕ) (done : List Address) → r < e → is_alive (seg s) r ≡ false → Standing (Q r) done → Standing (Q (r + 1)) done
    pass r done h dead g = subst (λ (k : ℕ). Standing (bump P s k) done) (next_step s r (omega arith) ∙ rw dead) g

    run : (n r : ℕ) (done : List Address) → r + n ≡ e → Standing (Q r) done → Standing (Q e) (done ++ map (at s) (alive_rows s r n))
    run zero r done h g =
        let z : r ≡ e = omega arith in
        subst (λ (k : ℕ). Standing (Q k) (done ++ [])) z (rw (append-nil done) g)
    run (suc n) r done h g =
        go (is_alive (seg s) r) refl (λ more k. subst (λ (m : ℕ). Standing (Q e) (more ++ map (at s) (alive_rows s m n))) (add-one r) (run n (r + 1) more (omega arith) k))
      where
        go : (b : Bool) → is_alive (seg s) r ≡ b → ((more : List Address) → Standing (Q (r + 1)) more → Standing (Q e) (more ++ map (at s) (alive_rows s (suc r) n)))
            → Standing (Q e) (done ++ map (at s) (cond b (r ∷ alive_rows s (suc r) n) (alive_rows s (suc r) n)))
        go true live on =
            subst (λ (l : List Address). Standing (Q e) l) (append_assoc done (at s r ∷ []) (map (at s) (alive_rows s (suc r) n)))
            (on (done ++ (at s r ∷ [])) (one r done (omega arith) live g))
        go false dead on = on done (pass r done (omega arith) dead g)

    pub standing-run : (done : List Address) → Standing P done → P s ≤ e → P s < (seg s).rows → Standing (bump P s (next s e)) (done ++ map (at s) (alive_rows s (P s) (e - P s)))
    standing-run done g h live = run (e - P s) (P s) done (omega arith) (subst (λ (R : ℕ → ℕ). Standing R done) (λ i x. same x (same? x s) i) g)
      where
        stays : next s (P s) ≡ P s
        stays = next_step s (P s) live ∙ rw (g.alive s live)

        same : (x : ℕ) → (x ≡ s) ⊎ (x ≡ s → ⊥) → P x ≡ bump P s (next s (P s)) x
        same x (inl q) = ap P q ∙ sym (bump-here P s (next s (P s)) x q ∙ stays)
        same x (inr d) = sym (bump-there P s (next s (P s)) x d)
