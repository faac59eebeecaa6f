-- The walk's end: what is written are the marked terms and the map of the definitions. Assumes nothing.
use mathlib.Core.Path.{◌≡◌, refl, sym, ap, ap₂, ◌∙◌, subst}
use mathlib.Core.Logic.{◌⊎◌, inl, inr}
use mathlib.Core.Bool.{Bool, true, false, cond, ◌||◌, false≢true}
use mathlib.Core.List.{List, [], ◌∷◌, ◌++◌, map}
use Prim.Native.Nat.{ℕ, zero, suc, ◌+◌, ◌-◌, ◌≤◌, ◌<◌, zero-le, suc-le-suc}
use native.Mathlib.Nat.{add-zero, le_of_suc-le-suc, zero-add}
use native.Mathlib.Omega.{arith}
use lib.Dec.{eqb}
use lib.ListN.{length, get_or, take, drop, length-drop, length-append, length-map, take-append-drop}
use lib.Seq.{get_or-drop, get_or-take, length-take-le, take-length, take-add, ext_get_or}
use borrow.Author.Tests.{eq-eqb, eqb-true}
use Rattle.definitions.specs.Lists.{compare_bytes, is_same, has_term, sort_terms, up_to}
use Rattle.definitions.specs.Join.{ordinal_of}
use Rattle.definitions.specs.Outcome.{written}
use Rattle.definitions.proofs.Terms.{same_members, sort_ascending, sort_member, self_present}
use Rattle.term_merger.specs.declared.Heap.{Heap}
use Rattle.term_merger.specs.declared.Cursor.{Cursor}
use Rattle.term_merger.specs.Order.{cursor_in, no_cursor}
use Rattle.term_cursors.specs.Cursors.{unmarked_at, cursor_of, dict_of, terms_in, sum_over}
use Rattle.term_cursors.specs.Runs.{join_to}
use Rattle.term_cursors.proofs.Cursors.{dict-length}
use Rattle.term_walk.specs.declared.Last.{Last}
use Rattle.term_walk.specs.Walk.{Ready, marked_from, map_to, walked_terms, walked_map, walked_cursors, Merged}
use Rattle.term_walk.proofs.Merge.{same-eq, has_tail, has_left, has_right, has-cases}
use Rattle.term_walk.proofs.Places.{some-cursor, place-below}
use Rattle.term_walk.proofs.Going.{Going}
use Rattle.lists.proofs.Numbers.{same?}
use Rattle.term_merger.proofs.Walk.{all-over}
use Rattle.term_merger.specs.Live.{left_of}
use Rattle.lists.proofs.Sums.{sum-suc}
use Rattle.definitions.proofs.Lists.{get_or_in, up_at, up_length, length-concat}

-- ---- members

both_ways : (a b : Bool) → (a ≡ true → b ≡ true) → (b ≡ true → a ≡ true) → a ≡ b
both_ways true b f g = sym (f refl)
both_ways false true f g = g refl
both_ways false false f g = refl

join_has : (f : ℕ → List (List ℕ)) (k s : ℕ) (u : List ℕ) → s < k → has_term u (f s) ≡ true → has_term u (join_to f k) ≡ true
join_has f zero s u l h = absurd (omega arith)
join_has f (suc k) s u l h = go (same? s k) (λ (m : s < k). join_has f k s u m h)
  where
    go : (s ≡ k) ⊎ (s ≡ k → ⊥) → (s < k → has_term u (join_to f k) ≡ true) → has_term u (join_to f k ++ f k) ≡ true
    go (inl e) g = has_right u (join_to f k) (f k) (subst (λ (z : ℕ). has_term u (f z) ≡ true) e h)
    go (inr d) g = has_left u (join_to f k) (f k) (g (let m : s < k = omega arith in m))

join_from : (f : ℕ → List (List ℕ)) (k : ℕ) (u : List ℕ) → has_term u (join_to f k) ≡ true → (s : ℕ) × (s < k) × (has_term u (f s) ≡ true)
join_from f zero u h = absurd (false≢true h)
join_from f (suc k) u h = go (has-cases u (join_to f k) (f k) h) (λ (m : has_term u (join_to f k) ≡ true). join_from f k u m)
  where
    go : (has_term u (join_to f k) ≡ true) ⊎ (has_term u (f k) ≡ true) → (has_term u (join_to f k) ≡ true → (s : ℕ) × (s < k) × (has_term u (f s) ≡ true)) → (s : ℕ) × (s < suc k) × (has_term u (f s) ≡ true)
    go (inl m) g = let r = g m in (r.0, omega (arith, r.1), r.2)
    go (inr m) g = (k, omega arith, m)

module _ (marks : List ℕ) (all : Bool) where
  marked-has : (l : List (List ℕ)) (pos i : ℕ) → i < length l → unmarked_at marks all (pos + i) ≡ 0 → has_term (get_or l i []) (marked_from marks all pos l) ≡ true
  marked-has [] pos i h k = absurd (omega arith)
  marked-has (t ∷ ts) pos zero h k =
      let e : unmarked_at marks all pos ≡ 0 = ap (unmarked_at marks all) (sym (add-zero pos)) ∙ k in
      let b : eqb (unmarked_at marks all pos) 0 ≡ true = eq-eqb (unmarked_at marks all pos) 0 e in
      subst (λ (z : Bool). has_term t (cond z (t ∷ marked_from marks all (suc pos) ts) (marked_from marks all (suc pos) ts)) ≡ true) (sym b) (self_present t (marked_from marks all (suc pos) ts))
  marked-has (t ∷ ts) pos (suc i) h k =
      let e : unmarked_at marks all (suc pos + i) ≡ 0 = ap (unmarked_at marks all) (let w : suc pos + i ≡ pos + suc i = omega arith in w) ∙ k in
      go (eqb (unmarked_at marks all pos) 0) (marked-has ts (suc pos) i (le_of_suc-le-suc h) e)
    where
      go : (b : Bool) → has_term (get_or ts i []) (marked_from marks all (suc pos) ts) ≡ true → has_term (get_or ts i []) (cond b (t ∷ marked_from marks all (suc pos) ts) (marked_from marks all (suc pos) ts)) ≡ true
      go true m = has_tail (get_or ts i []) t (marked_from marks all (suc pos) ts) m
      go false m = m

  marked_from_lem : (l : List (List ℕ)) (pos : ℕ) (u : List ℕ) → has_term u (marked_from marks all pos l) ≡ true → (i : ℕ) × (i < length l) × (get_or l i [] ≡ u) × (unmarked_at marks all (pos + i) ≡ 0)
  marked_from_lem [] pos u h = absurd (false≢true h)
  marked_from_lem (t ∷ ts) pos u h = go (eqb (unmarked_at marks all pos) 0) refl h (λ (k : has_term u (marked_from marks all (suc pos) ts) ≡ true). marked_from_lem ts (suc pos) u k)
    where
      later : (i : ℕ) × (i < length ts) × (get_or ts i [] ≡ u) × (unmarked_at marks all (suc pos + i) ≡ 0) → (i : ℕ) × (i < suc (length ts)) × (get_or {A = List ℕ} (t ∷ ts) i [] ≡ u) × (unmarked_at marks all (pos + i) ≡ 0)
      later r = (suc r.0, suc-le-suc r.1, r.2, ap (unmarked_at marks all) (let w : pos + suc r.0 ≡ suc pos + r.0 = omega arith in w) ∙ r.3)

      here : (b : Bool) → is_same (compare_bytes u t) ≡ b → b || has_term u (marked_from marks all (suc pos) ts) ≡ true → unmarked_at marks all pos ≡ 0
          → (has_term u (marked_from marks all (suc pos) ts) ≡ true → (i : ℕ) × (i < length ts) × (get_or ts i [] ≡ u) × (unmarked_at marks all (suc pos + i) ≡ 0))
          → (i : ℕ) × (i < suc (length ts)) × (get_or {A = List ℕ} (t ∷ ts) i [] ≡ u) × (unmarked_at marks all (pos + i) ≡ 0)
      here true e h z f = (0, suc-le-suc zero-le, sym (same-eq u t e), ap (unmarked_at marks all) (add-zero pos) ∙ z)
      here false e h z f = later (f h)

      go : (b : Bool) → eqb (unmarked_at marks all pos) 0 ≡ b → has_term u (cond b (t ∷ marked_from marks all (suc pos) ts) (marked_from marks all (suc pos) ts)) ≡ true
          → (has_term u (marked_from marks all (suc pos) ts) ≡ true → (i : ℕ) × (i < length ts) × (get_or ts i [] ≡ u) × (unmarked_at marks all (suc pos + i) ≡ 0))
          → (i : ℕ) × (i < suc (length ts)) × (get_or {A = List ℕ} (t ∷ ts) i [] ≡ u) × (unmarked_at marks all (pos + i) ≡ 0)
      go true e h f = here (is_same (compare_bytes u t)) refl h (eqb-true (unmarked_at marks all pos) 0 e) f
      go false e h f = later (f h)

-- ---- lists one after another in an output

join_taken : (f : ℕ → List ℕ) (k : ℕ) (l : List ℕ) → length (join_to f k) ≤ length l → ((s i : ℕ) → s < k → i < length (f s) → get_or l (length (join_to f s) + i) 0 ≡ get_or (f s) i 0)
    → take (length (join_to f k)) l ≡ join_to f k
join_taken f zero l h g = refl
join_taken f (suc k) l h g =
    let a : ℕ = length (join_to f k) in
    let e : length (join_to f k ++ f k) ≡ a + length (f k) = length-append (join_to f k) (f k) in
    let d : length (drop a l) ≡ length l - a = length-drop a l in
    let t : length (take (length (f k)) (drop a l)) ≡ length (f k) = length-take-le (length (f k)) (drop a l) (omega arith) in
    let x : take (length (f k)) (drop a l) ≡ f k =
    ext_get_or 0 (take (length (f k)) (drop a l)) (f k) t
    (λ i m. let n : i < length (f k) = omega arith in get_or-take (length (f k)) (drop a l) i 0 n ∙ get_or-drop a l i 0 ∙ g k i (omega arith) n) in
    ap (λ (z : ℕ). take z l) e ∙ take-add a (length (f k)) l
    ∙ ap₂ (λ (p q : List ℕ). p ++ q) (join_taken f k l (omega arith) (λ s i m n. g s i (omega arith) n)) x

join_written : (f : ℕ → List ℕ) (k : ℕ) (l old : List ℕ) → length (join_to f k) ≤ length l → length l ≡ length old → ((s i : ℕ) → s < k → i < length (f s) → get_or l (length (join_to f s) + i) 0 ≡ get_or (f s) i 0)
    → ((j : ℕ) → length (join_to f k) ≤ j → get_or l j 0 ≡ get_or old j 0) → l ≡ written (join_to f k) old
join_written f k l old h e g o =
    let n : ℕ = length (join_to f k) in
    let d : length (drop n l) ≡ length (drop n old) = length-drop n l ∙ ap (λ (z : ℕ). z - n) e ∙ sym (length-drop n old) in
    let x : drop n l ≡ drop n old = ext_get_or 0 (drop n l) (drop n old) d (λ i m. get_or-drop n l i 0 ∙ o (n + i) (omega arith) ∙ sym (get_or-drop n old i 0)) in
    sym (take-append-drop n l) ∙ ap₂ (λ (p q : List ℕ). p ++ q) (join_taken f k l h g) x

cursors_up : (f : ℕ → Cursor) (l : List Cursor) → ((s : ℕ) → s < length l → cursor_in l s ≡ f s) → l ≡ map f (up_to (length l))
cursors_up f l h =
    ext_get_or no_cursor l (map f (up_to (length l))) (sym (up_length f (length l)))
    (λ s k. h s k ∙ ap f (sym (zero-add s)) ∙ sym (up_at f no_cursor 0 (length l) s k))

-- equal dictionaries and maps are written alike
pub merged-same : {d e : List (List ℕ)} {p q lens outs ords : List ℕ} {n m k : ℕ} {lens' outs' ords' : List ℕ} → d ≡ e → p ≡ q → Merged d p lens outs ords n m k lens' outs' ords' → Merged e q lens outs ords n m k lens' outs' ords'
merged-same {d} {e} {p} {q} {lens} {outs} {ords} {n} {m} {k} {lens'} {outs'} {ords'} f g w =
    subst (λ (z : List ℕ). Merged e z lens outs ords n m k lens' outs' ords') g (subst (λ (z : List (List ℕ)). Merged z p lens outs ords n m k lens' outs' ords') f w)

-- ---- the heap is empty

module _ {lengths bytes marks : List ℕ} {all : Bool} {cursors₀ : List Cursor} {lens₀ outs₀ ords₀ : List ℕ} (y : Ready lengths bytes marks all cursors₀ lens₀ outs₀ ords₀)
    {cursors : List Cursor} {lens outs ords : List ℕ} {h : Heap} {l : Last} {P : ℕ → ℕ} {out : List (List ℕ)}
    (g : Going lengths bytes marks all cursors₀ lens₀ outs₀ ords₀ cursors lens outs ords h l P out) (z : h.len ≤ 0) where
  over : (s : ℕ) → left_of cursors₀ s ≤ P s
  over s = all-over g.heap z s

  abbrev dict : ℕ → List (List ℕ)
  dict = dict_of lengths bytes cursors₀

  dict-size : (s : ℕ) → length (dict s) ≡ left_of cursors₀ s
  dict-size s = dict-length lengths bytes marks all cursors₀ s (y.low s) (y.inside s) (y.fits s)

  -- ---- the terms

  abbrev kept : ℕ → List (List ℕ)
  kept s = marked_from marks all (cursor_in cursors₀ s).pos (dict s)

  out_in : (v : List ℕ) → has_term v out ≡ true → has_term v (join_to kept (length cursors₀)) ≡ true
  out_in v e =
      let q = g.merging.sound v e in
      let n : q.1 < length (dict q.0) = omega (arith, q.2, dict-size q.0) in
      join_has kept (length cursors₀) q.0 v (some-cursor cursors₀ q.0 q.1 q.2)
      (subst (λ (w : List ℕ). has_term w (kept q.0) ≡ true) q.3 (marked-has marks all (dict q.0) (cursor_in cursors₀ q.0).pos q.1 n q.4))

  in_out : (v : List ℕ) → has_term v (join_to kept (length cursors₀)) ≡ true → has_term v out ≡ true
  in_out v e =
      let q = join_from kept (length cursors₀) v e in
      let p = marked_from_lem marks all (dict q.0) (cursor_in cursors₀ q.0).pos v q.2 in
      subst (λ (w : List ℕ). has_term w out ≡ true) p.2 (g.merging.complete q.0 p.0 (omega (arith, p.1, dict-size q.0, over q.0)) p.3)

  terms_are : out ≡ walked_terms lengths bytes marks all cursors₀
  unfolding walked_terms
  terms_are =
      same_members out (sort_terms (join_to kept (length cursors₀))) g.merging.asc (sort_ascending (join_to kept (length cursors₀)))
      (λ v. both_ways (has_term v out) (has_term v (join_to kept (length cursors₀))) (out_in v) (in_out v) ∙ sym (sort_member v (join_to kept (length cursors₀))))

  -- ---- the map

  abbrev new : ℕ → List ℕ
  new s = map (ordinal_of out) (dict s)

  new-size : (s : ℕ) → length (new s) ≡ left_of cursors₀ s
  new-size s = length-map (dict s) (ordinal_of out) ∙ dict-size s

  join_size : (s : ℕ) → s ≤ length cursors₀ → length (join_to new s) ≡ sum_over terms_in (take s cursors₀)
  join_size zero k = refl
  join_size (suc s) k = omega (arith, length-append (join_to new s) (new s), join_size s (let w : s ≤ length cursors₀ = omega arith in w), new-size s, sum-suc terms_in cursors₀ s no_cursor k)

  new-at : (s i : ℕ) → s < length cursors₀ → i < length (new s) → get_or ords (length (join_to new s) + i) 0 ≡ get_or (new s) i 0
  new-at s i k n =
      let w : s ≤ length cursors₀ = omega arith in
      let u : 0 < left_of cursors₀ s = omega (arith, new-size s) in
      ap (λ (j : ℕ). get_or ords (j + i) 0) (join_size s w ∙ sym (y.starts s u))
      ∙ g.mapped s i (omega (arith, new-size s, over s))
      ∙ sym (get_or_in (ordinal_of out) (dict s) i 0 [] (omega (arith, new-size s, dict-size s)))

  others-at : (j : ℕ) → length (join_to new (length cursors₀)) ≤ j → get_or ords j 0 ≡ get_or ords₀ j 0
  others-at j k = g.others j (λ s i n e. omega (arith, place-below y s (length cursors₀) i (some-cursor cursors₀ s i n) n, join_size (length cursors₀) (let w : length cursors₀ ≤ length cursors₀ = omega arith in w)))

  map_is : ords ≡ written (map_to out dict (length cursors₀)) ords₀
  map_is =
      let t : sum_over terms_in (take (length cursors₀) cursors₀) ≡ sum_over terms_in cursors₀ = ap (sum_over terms_in) (take-length cursors₀) in
      let w : length cursors₀ ≤ length cursors₀ = omega arith in
      join_written new (length cursors₀) ords ords₀ (omega (arith, join_size (length cursors₀) w, y.places, g.size-map)) g.size-map new-at others-at

  -- ---- the whole

  pub walked : (n m k : ℕ) → n ≡ l.kept.terms → m ≡ l.kept.bytes → k ≡ l.kept.copied → Merged (walked_terms lengths bytes marks all cursors₀) (walked_map lengths bytes marks all cursors₀) lens₀ outs₀ ords₀ n m k lens outs ords
  unfolding walked_map
  walked n m k e f c =
      merged-same terms_are (ap (λ (o : List (List ℕ)). map_to o dict (length cursors₀)) terms_are)
      (record { terms = e ∙ g.last.size; used = f ∙ g.used; copied = c ∙ g.counted ∙ length-concat out; lengths_out = g.lens_is; texts_out = g.outs_is; map_out = map_is })

  pub cursors_passed : cursors ≡ walked_cursors lengths bytes marks all cursors₀
  unfolding walked_cursors
  cursors_passed =
      cursors_up past cursors (λ s k. g.cursor s (omega (arith, g.size)) ∙ ap (cursor_of lengths bytes marks all cursors₀ s) (let q : P s ≡ left_of cursors₀ s = omega (arith, over s, g.most s) in q))
      ∙ ap (λ (n : ℕ). map past (up_to n)) (g.size ∙ sym y.size)
    where
      past : ℕ → Cursor
      past s = cursor_of lengths bytes marks all cursors₀ s (left_of cursors₀ s)
