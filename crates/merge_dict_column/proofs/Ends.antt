-- From the filled cursors to the walk: it is ready, and its terms and map are those of the table. Assumes nothing.
use mathlib.Core.Path.{◌≡◌, refl, sym, ap, ap₂, ◌∙◌, subst}
use mathlib.Core.Logic.{◌⊎◌, inl, inr}
use mathlib.Core.Bool.{Bool, false}
use mathlib.Core.List.{List, [], ◌++◌, map, append-nil}
use Prim.Native.Nat.{ℕ, zero, suc, ◌+◌, ◌-◌, ◌≤◌, ◌<◌, zero-le}
use native.Mathlib.Omega.{arith}
use lib.Dec.{T}
use lib.ListN.{length, take, drop}
use Rattle.definitions.specs.Lists.{sum, terms_ascending, sort_terms}
use Rattle.definitions.specs.Segment.{cut}
use Rattle.definitions.specs.Join.{ordinal_of}
use Rattle.term_merger.specs.declared.Cursor.{Cursor}
use Rattle.term_merger.specs.Order.{cursor_in, no_cursor, TermsInside}
use Rattle.term_order.specs.Key.{Inside}
use Rattle.term_cursors.specs.Cursors.{cursor_at, cursor_of, lens_of, dict_of, terms_in, sum_over}
use Rattle.stands.specs.Stand.{part, many, stand_at}
use Rattle.term_cursors.specs.Runs.{join_to, terms_before, Runs, first_cursor, Filled}
use Rattle.term_walk.specs.Walk.{Ready, marked_from, map_to, walked_terms, walked_map}
use Rattle.merge_dict_column.specs.Dict.{dict_at, merged_terms, merged_map, Texts}
use Rattle.term_cursors.proofs.Cursors.{cursor-is, cursor-inside}
use Rattle.term_order.proofs.Words.{key-none}
use Rattle.term_cursors.proofs.Begin.{first-pos, first-end}
use Rattle.lists.proofs.Numbers.{le-lt}
use Rattle.term_merger.specs.Live.{left_of}
use Rattle.lists.proofs.Sums.{sum-suc}

-- ---- one list after another

join_same : {A : Type 0} (f g : ℕ → List A) (n : ℕ) → ((s : ℕ) → s < n → f s ≡ g s) → join_to f n ≡ join_to g n
join_same f g zero e = refl
join_same f g (suc n) e = ap₂ (λ a b. a ++ b) (join_same f g n (λ s l. e s (omega arith))) (e n (omega arith))

-- from k on there is nothing
join-none : {A : Type 0} (f : ℕ → List A) (k n : ℕ) → k ≤ n → ((s : ℕ) → k ≤ s → f s ≡ []) → join_to f n ≡ join_to f k
join-none f k zero h e = ap (join_to f) (let w : 0 ≡ k = omega arith in w)
join-none f k (suc n) h e = go (le-lt n k) (λ (l : k ≤ n). join-none f k n l e)
  where
    go : (n < k) ⊎ (k ≤ n) → (k ≤ n → join_to f n ≡ join_to f k) → join_to f n ++ f n ≡ join_to f k
    go (inl l) r = ap (join_to f) (let w : suc n ≡ k = omega arith in w)
    go (inr l) r = ap₂ (λ a b. a ++ b) (r l) (e n l) ∙ append-nil (join_to f k)

-- ---- the cursors as the walk wants them

cursor-at-zero : (lengths bytes marks : List ℕ) (all : Bool) → no_cursor ≡ cursor_at lengths bytes marks all 0 0 0 0
cursor-at-zero lengths bytes marks all = cursor-is lengths bytes marks all 0 0 0 0 {n = 0} {u = 0} refl refl (key-none bytes)

cursor_of_zero : (lengths bytes marks : List ℕ) (all : Bool) (cursors : List Cursor) (s f q e t : ℕ) → cursor_in cursors s ≡ cursor_at lengths bytes marks all f q e t → (cursor_in cursors s).key.from ≡ f → (cursor_in cursors s).pos ≡ q → (cursor_in cursors s).end ≡ e → (cursor_in cursors s).to ≡ t
    → cursor_in cursors s ≡ cursor_of lengths bytes marks all cursors s 0
unfolding cursor_of
cursor_of_zero lengths bytes marks all cursors s f q e t h a b c d =
    let a' : f ≡ (cursor_in cursors s).key.from + sum (take 0 (lens_of lengths cursors s)) = omega arith in
    let b' : q ≡ (cursor_in cursors s).pos + 0 = omega arith in
    let d' : t ≡ (cursor_in cursors s).to + 0 = omega arith in
    h ∙ (λ i. cursor_at lengths bytes marks all (a' i) (b' i) (sym c i) (d' i))

module _ {stands : List (List ℕ)} {lengths bytes marks : List ℕ} {all : Bool} {cursors : List Cursor} {lens outs ords : List ℕ}
    (u : Runs stands lengths bytes marks all) (x : Texts stands lengths bytes lens outs ords) (f : Filled stands lengths bytes marks all (length stands) cursors) where
  abbrev k : ℕ
  k = length stands

  is-from : (s : ℕ) → s < k → (cursor_in cursors s).key.from ≡ (stand_at stands s).text.from
  unfolding first_cursor cursor_at
  is-from s l = ap (λ (z : Cursor). z.key.from) (f.cursor s l)

  is-pos : (s : ℕ) → s < k → (cursor_in cursors s).pos ≡ (stand_at stands s).terms.from
  is-pos s l = ap (λ (z : Cursor). z.pos) (f.cursor s l) ∙ first-pos lengths bytes marks all (stand_at stands s)

  is-end : (s : ℕ) → s < k → (cursor_in cursors s).end ≡ (stand_at stands s).terms.to
  is-end s l = ap (λ (z : Cursor). z.end) (f.cursor s l) ∙ first-end lengths bytes marks all (stand_at stands s)

  is-to : (s : ℕ) → s < k → (cursor_in cursors s).to ≡ (stand_at stands s).map.from
  unfolding first_cursor cursor_at
  is-to s l = ap (λ (z : Cursor). z.to) (f.cursor s l)

  size_in : (s : ℕ) → s < k → left_of cursors s ≡ many (stand_at stands s).terms
  size_in s l = ap₂ (λ (a b : ℕ). a - b) (is-end s l) (is-pos s l)

  size_out : (s : ℕ) → k ≤ s → left_of cursors s ≡ 0
  size_out s l = omega (arith, ap (λ (z : Cursor). z.pos) (f.rest s l), ap (λ (z : Cursor). z.end) (f.rest s l))

  some_in : (s i : ℕ) → i < left_of cursors s → s < k
  some_in s i l = go (le-lt s k)
    where
      go : (s < k) ⊎ (k ≤ s) → s < k
      go (inl a) = a
      go (inr a) = absurd (omega (arith, size_out s a))

  lens_in : (s : ℕ) → s < k → lens_of lengths cursors s ≡ part (stand_at stands s).terms lengths
  lens_in s l = ap₂ (λ (a b : ℕ). take a (drop b lengths)) (size_in s l) (is-pos s l)

  dict_in : (s : ℕ) → s < k → dict_of lengths bytes cursors s ≡ dict_at stands lengths bytes s
  unfolding dict_of dict_at
  dict_in s l = λ i. cut (lens_in s l i) (drop (is-from s l i) bytes)

  lens_out : (s : ℕ) → k ≤ s → lens_of lengths cursors s ≡ []
  lens_out s l = ap (λ (z : ℕ). take z (drop (cursor_in cursors s).pos lengths)) (size_out s l)

  dict_out : (s : ℕ) → k ≤ s → dict_of lengths bytes cursors s ≡ []
  unfolding dict_of
  dict_out s l = ap (λ (z : List ℕ). cut z (drop (cursor_in cursors s).key.from bytes)) (lens_out s l)

  ready-cursor : (s : ℕ) → s < 256 → (s < k) ⊎ (k ≤ s) → cursor_in cursors s ≡ cursor_of lengths bytes marks all cursors s 0
  unfolding first_cursor
  ready-cursor s m (inl l) = cursor_of_zero lengths bytes marks all cursors s _ _ _ _ (f.cursor s l) (is-from s l) (is-pos s l) (is-end s l) (is-to s l)
  ready-cursor s m (inr l) =
      cursor_of_zero lengths bytes marks all cursors s 0 0 0 0 (f.rest s l ∙ cursor-at-zero lengths bytes marks all) (ap (λ (z : Cursor). z.key.from) (f.rest s l)) (ap (λ (z : Cursor). z.pos) (f.rest s l)) (ap (λ (z : Cursor). z.end) (f.rest s l)) (ap (λ (z : Cursor). z.to) (f.rest s l))

  ready-low : (s : ℕ) → (s < k) ⊎ (k ≤ s) → (cursor_in cursors s).pos ≤ (cursor_in cursors s).end
  ready-low s (inl l) = omega (arith, is-pos s l, is-end s l, (u.lie s l).rises)
  ready-low s (inr l) = omega (arith, ap (λ (z : Cursor). z.pos) (f.rest s l))

  ready-inside : (s : ℕ) → (s < k) ⊎ (k ≤ s) → (cursor_in cursors s).end ≤ length lengths
  ready-inside s (inl l) = omega (arith, is-end s l, (u.lie s l).ends)
  ready-inside s (inr l) = omega (arith, ap (λ (z : Cursor). z.end) (f.rest s l))

  ready_marked : (s : ℕ) → (s < k) ⊎ (k ≤ s) → all ≡ false → (cursor_in cursors s).end ≤ length marks
  ready_marked s (inl l) e = omega (arith, is-end s l, u.marked e s l)
  ready_marked s (inr l) e = omega (arith, ap (λ (z : Cursor). z.end) (f.rest s l))

  ready-fits : (s : ℕ) → (s < k) ⊎ (k ≤ s) → (cursor_in cursors s).key.from + sum (lens_of lengths cursors s) ≤ length bytes
  ready-fits s (inl l) = omega (arith, is-from s l, ap sum (lens_in s l), u.texts s l)
  ready-fits s (inr l) = omega (arith, ap (λ (z : Cursor). z.key.from) (f.rest s l), ap sum (lens_out s l))

  ready-asc : (s : ℕ) → (s < k) ⊎ (k ≤ s) → T (terms_ascending (dict_of lengths bytes cursors s))
  ready-asc s (inl l) = subst (λ (z : List (List ℕ)). T (terms_ascending z)) (sym (dict_in s l)) (x.ascending s l)
  ready-asc s (inr l) = subst (λ (z : List (List ℕ)). T (terms_ascending z)) (sym (dict_out s l)) tt

  before-is : (s : ℕ) → s ≤ k → sum_over terms_in (take s cursors) ≡ terms_before stands s
  before-is zero l = refl
  before-is (suc s) l = omega (arith, sum-suc terms_in cursors s no_cursor (let w : s < length cursors = omega (arith, f.size, u.few) in w), before-is s (let w : s ≤ k = omega arith in w), size_in s l)

  ready-starts : (s : ℕ) → 0 < left_of cursors s → (cursor_in cursors s).to ≡ sum_over terms_in (take s cursors)
  ready-starts s l =
      let a : s < k = some_in s 0 l in
      is-to s a ∙ x.starts s a ∙ sym (before-is s (let w : s ≤ k = omega arith in w))

  pub ready : Ready lengths bytes marks all cursors lens outs ords
  ready =
      record {
        size = f.size;
        cursor = λ s m. ready-cursor s m (le-lt s k);
        low = λ s. ready-low s (le-lt s k);
        inside = λ s. ready-inside s (le-lt s k);
        marked = λ s e. ready_marked s (le-lt s k) e;
        fits = λ s. ready-fits s (le-lt s k);
        asc = λ s. ready-asc s (le-lt s k);
        starts = ready-starts;
        places = omega (arith, f.terms, x.places);
        terms = omega (arith, f.terms, x.terms);
        texts = omega (arith, f.texts, x.texts);
        small = omega (arith, f.texts, x.narrow);
      }

  pub readable : TermsInside bytes cursors
  unfolding TermsInside
  readable s l =
      subst (λ (z : Cursor). Inside bytes z.key) (sym (ready.cursor s l))
      (cursor-inside lengths bytes marks all cursors s (ready.low s) (ready.inside s) (ready.fits s) 0 zero-le)

  -- ---- the terms and the map

  kept_in : (s : ℕ) → s < k → marked_from marks all (cursor_in cursors s).pos (dict_of lengths bytes cursors s) ≡ marked_from marks all (stand_at stands s).terms.from (dict_at stands lengths bytes s)
  kept_in s l = ap₂ (λ (p : ℕ) (d : List (List ℕ)). marked_from marks all p d) (is-pos s l) (dict_in s l)

  join_cursors : {A : Type 0} (a b : ℕ → List A) → ((s : ℕ) → s < k → a s ≡ b s) → ((s : ℕ) → k ≤ s → a s ≡ []) → join_to a (length cursors) ≡ join_to b k
  join_cursors a b e z = join-none a k (length cursors) (omega (arith, f.size, u.few)) z ∙ join_same a b k e

  pub terms-same : walked_terms lengths bytes marks all cursors ≡ merged_terms stands lengths bytes marks all
  unfolding walked_terms merged_terms
  terms-same =
      ap sort_terms
      (join_cursors (λ s. marked_from marks all (cursor_in cursors s).pos (dict_of lengths bytes cursors s)) (λ s. marked_from marks all (stand_at stands s).terms.from (dict_at stands lengths bytes s)) kept_in
      (λ s l. ap (marked_from marks all (cursor_in cursors s).pos) (dict_out s l)))

  pub map_same : walked_map lengths bytes marks all cursors ≡ merged_map stands lengths bytes marks all
  unfolding walked_map merged_map
  map_same = ap (λ (o : List (List ℕ)). map_to o (dict_of lengths bytes cursors) (length cursors)) terms-same ∙ go (merged_terms stands lengths bytes marks all)
    where
      go : (o : List (List ℕ)) → map_to o (dict_of lengths bytes cursors) (length cursors) ≡ map_to o (dict_at stands lengths bytes) k
      go o =
          join_cursors (λ s. map (ordinal_of o) (dict_of lengths bytes cursors s)) (λ s. map (ordinal_of o) (dict_at stands lengths bytes s)) (λ s l. ap (map (ordinal_of o)) (dict_in s l))
          (λ s l. ap (map (ordinal_of o)) (dict_out s l))
