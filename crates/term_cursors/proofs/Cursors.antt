-- The laws of cursors: the current term of a segment is its dictionary's. Assumes nothing.
use mathlib.Core.Path.{◌≡◌, refl, sym, ap, ◌∙◌}
use mathlib.Core.Bool.{Bool, cond}
use mathlib.Core.List.{List, [], ◌∷◌}
use lib.Dec.{ltb}
use Prim.Native.Nat.{ℕ, zero, suc, ◌+◌, ◌-◌, ◌≤◌, ◌<◌}
use native.Mathlib.Nat.{le_of_suc-le-suc}
use native.Mathlib.Omega.{arith}
use lib.ListN.{length, take, drop, get_or, set}
use mathlib.Core.Logic.{◌⊎◌, inl, inr}
use lib.Seq.{drop-cons, drop-drop}
use borrow.Author.Tests.{lt-ltb, le-ltb}
use Rattle.definitions.specs.Lists.{sum}
use Rattle.definitions.specs.Segment.{cut}
use Rattle.term_order.specs.declared.Key.{Key}
use Rattle.term_order.specs.Key.{key_at, Inside}
use Rattle.term_merger.specs.declared.Cursor.{Cursor}
use Rattle.term_merger.specs.Order.{cursor_in}
use Rattle.term_cursors.specs.Cursors.{unmarked_at, cursor_at, length_at, lens_of, dict_of, cursor_of, term_at, mark_at, terms_in, bytes_in, sum_over}
use Rattle.lists.proofs.Numbers.{le-lt}
use Rattle.term_merger.specs.Live.{left_of}
use Rattle.lists.proofs.Parts.{run_length, part_at}
use Rattle.definitions.proofs.Sections.{cut-length}
use Rattle.lists.proofs.Sums.{sum_split, sum_step, sum-take-le}

pub cut_at : (ls bs : List ℕ) (p : ℕ) → p < length ls → get_or (cut ls bs) p [] ≡ take (get_or ls p 0) (drop (sum (take p ls)) bs)
cut_at [] bs p h = absurd (omega arith)
cut_at (n ∷ ns) bs zero h = refl
cut_at (n ∷ ns) bs (suc p) h = cut_at ns (drop n bs) p (le_of_suc-le-suc h) ∙ ap (take (get_or ns p 0)) (drop-drop (sum (take p ns)) n bs)

sum-take-more : (ls : List ℕ) (p : ℕ) → p < length ls → sum (take (p + 1) ls) ≡ sum (take p ls) + get_or ls p 0
sum-take-more ls p h = omega (arith, sum_split p ls, sum_split (p + 1) ls, sum_step ls p h)

-- ---- the code's cursors

pub there : (pos end x : ℕ) → pos < end → cond (ltb pos end) x 0 ≡ x
there pos end x h = rw (lt-ltb pos end h)

pub not-there : (pos end x : ℕ) → end ≤ pos → cond (ltb pos end) x 0 ≡ 0
not-there pos end x h = rw (le-ltb pos end h)

pub length_some : (lengths : List ℕ) (pos end : ℕ) → pos < end → length_at lengths pos end ≡ get_or lengths pos 0
length_some lengths pos end h = rw (lt-ltb pos end h)

-- the length n and the mark u of the term at pos
pub cursor-is : (lengths bytes marks : List ℕ) (all : Bool) (from pos end to : ℕ) {n u : ℕ} {key : Key} → n ≡ length_at lengths pos end → u ≡ cond (ltb pos end) (unmarked_at marks all pos) 0
    → key ≡ key_at bytes from (from + n) → ◌≡◌ {A = Cursor} (record { key = key; unmarked = u; pos = pos; end = end; to = to }) (cursor_at lengths bytes marks all from pos end to)
unfolding cursor_at
cursor-is lengths bytes marks all from pos end to e f g =
    let k = g ∙ ap (λ (x : ℕ). key_at bytes from (from + x)) e in
    λ i. record { key = k i; unmarked = f i; pos = pos; end = end; to = to }

-- ---- a segment's cursor after p terms

pub over-set : (f : Cursor → ℕ) (cursors : List Cursor) (s : ℕ) (r : Cursor) → s < length cursors → sum_over f (set cursors s r) + f (cursor_in cursors s) ≡ sum_over f cursors + f r
over-set f [] s r h = absurd (omega arith)
over-set f (x ∷ xs) zero r h = omega arith
over-set f (x ∷ xs) (suc s) r h = let e = over-set f xs s r (le_of_suc-le-suc h) in omega arith

module _ (lengths bytes marks : List ℕ) (all : Bool) (cursors : List Cursor) (s : ℕ)
    (low : (cursor_in cursors s).pos ≤ (cursor_in cursors s).end) (inside : (cursor_in cursors s).end ≤ length lengths) (fits : (cursor_in cursors s).key.from + sum (lens_of lengths cursors s) ≤ length bytes) where
  abbrev F : ℕ
  F = (cursor_in cursors s).key.from

  abbrev Q : ℕ
  Q = (cursor_in cursors s).pos

  abbrev E : ℕ
  E = (cursor_in cursors s).end

  abbrev N : ℕ
  N = left_of cursors s

  abbrev ls : List ℕ
  ls = lens_of lengths cursors s

  abbrev cursor : ℕ → Cursor
  cursor p = cursor_of lengths bytes marks all cursors s p

  pub lens_length : length ls ≡ N
  lens_length = run_length Q E lengths inside

  pub dict-length : length (dict_of lengths bytes cursors s) ≡ N
  unfolding dict_of
  dict-length = cut-length ls (drop F bytes) ∙ lens_length

  pub at-from : (p : ℕ) → (cursor p).key.from ≡ F + sum (take p ls)
  unfolding cursor_of cursor_at
  at-from p = refl

  pub at-till : (p : ℕ) → (cursor p).key.till ≡ F + sum (take p ls) + length_at lengths (Q + p) E
  unfolding cursor_of cursor_at
  at-till p = refl

  pub at-pos : (p : ℕ) → (cursor p).pos ≡ Q + p
  unfolding cursor_of cursor_at
  at-pos p = refl

  pub at-end : (p : ℕ) → (cursor p).end ≡ E
  unfolding cursor_of cursor_at
  at-end p = refl

  pub at-to : (p : ℕ) → (cursor p).to ≡ (cursor_in cursors s).to + p
  unfolding cursor_of cursor_at
  at-to p = refl

  pub at-unmarked : (p : ℕ) → p < N → (cursor p).unmarked ≡ mark_at marks all cursors s p
  unfolding cursor_of cursor_at
  at-unmarked p h = rw (lt-ltb (Q + p) E (omega arith))

  some-length : (p : ℕ) → p < N → length_at lengths (Q + p) E ≡ get_or ls p 0
  some-length p h = length_some lengths (Q + p) E (omega arith) ∙ sym (part_at N Q lengths p h)

  none-length : (p : ℕ) → N ≤ p → length_at lengths (Q + p) E ≡ 0
  none-length p h = rw (le-ltb (Q + p) E (omega arith))

  pub cursor-next : (p : ℕ) → p < N → (cursor p).key.till ≡ F + sum (take (p + 1) ls)
  cursor-next p h = omega (arith, at-till p, some-length p h, sum-take-more ls p (rw lens_length h))

  -- its key is its term's
  pub cursor-key : (p : ℕ) → (cursor p).key ≡ key_at bytes (cursor p).key.from (cursor p).key.till
  unfolding cursor_of cursor_at
  cursor-key p = refl

  pub cursor-inside : (p : ℕ) → p ≤ N → Inside bytes (cursor p).key
  cursor-inside p h = record { low = omega (arith, at-from p, at-till p); high = go (le-lt p N) }
    where
      go : (p < N) ⊎ (N ≤ p) → (cursor p).key.till ≤ length bytes
      go (inl l) = omega (arith, cursor-next p l, sum-take-le ls (p + 1))
      go (inr l) = omega (arith, at-till p, none-length p l, sum-take-le ls p)

  pub cursor_term : (p : ℕ) → p < N → take ((cursor p).key.till - (cursor p).key.from) (drop (cursor p).key.from bytes) ≡ term_at lengths bytes cursors s p
  unfolding dict_of
  cursor_term p h =
      let n : (cursor p).key.till - (cursor p).key.from ≡ get_or ls p 0 = omega (arith, at-from p, at-till p, some-length p h) in
      let d : drop (cursor p).key.from bytes ≡ drop (sum (take p ls)) (drop F bytes) = ap (λ (z : ℕ). drop z bytes) (at-from p) ∙ sym (drop-drop (sum (take p ls)) F bytes) in
      ap (λ (z : ℕ). take z (drop (cursor p).key.from bytes)) n
      ∙ ap (λ (z : List ℕ). take (get_or ls p 0) z) d
      ∙ sym (cut_at ls (drop F bytes) p (rw lens_length h))

  pub cursor-length : (p : ℕ) → p < N → get_or lengths (cursor p).pos 0 ≡ length (term_at lengths bytes cursors s p)
  cursor-length p h =
      let t = run_length (cursor p).key.from (cursor p).key.till bytes (cursor-inside p (omega arith)).high in
      let u : length (take ((cursor p).key.till - (cursor p).key.from) (drop (cursor p).key.from bytes)) ≡ length (term_at lengths bytes cursors s p) = ap length (cursor_term p h) in
      let v : get_or lengths (cursor p).pos 0 ≡ get_or lengths (Q + p) 0 = ap (λ (z : ℕ). get_or lengths z 0) (at-pos p) in
      omega (arith, at-from p, at-till p, some-length p h, part_at N Q lengths p h)

  pub cursor-more : (p : ℕ) → p < N → cursor_at lengths bytes marks all (cursor p).key.till ((cursor p).pos + 1) (cursor p).end ((cursor p).to + 1) ≡ cursor (p + 1)
  unfolding cursor_of
  cursor-more p h =
      let a : (cursor p).key.till ≡ F + sum (take (p + 1) ls) = cursor-next p h in
      let b : (cursor p).pos + 1 ≡ Q + (p + 1) = omega (arith, at-pos p) in
      let e : (cursor p).end ≡ E = at-end p in
      let d : (cursor p).to + 1 ≡ (cursor_in cursors s).to + (p + 1) = omega (arith, at-to p) in
      λ i. cursor_at lengths bytes marks all (a i) (b i) (e i) (d i)

  pub cursor-fits : (p : ℕ) → p < N → (cursor p).key.till + length_at lengths ((cursor p).pos + 1) (cursor p).end ≤ length bytes
  cursor-fits p h =
      let b : (cursor p).pos + 1 ≡ Q + (p + 1) = omega (arith, at-pos p) in
      let q : length_at lengths ((cursor p).pos + 1) (cursor p).end ≡ length_at lengths (Q + (p + 1)) E = λ i. length_at lengths (b i) (at-end p i) in
      omega (arith, q, cursor-next p h, at-till (p + 1), (cursor-inside (p + 1) (omega arith)).high)

  -- the bytes that are left in a cursor
  pub left-bytes : (p : ℕ) → p < N → bytes_in lengths (cursor p) ≡ length (term_at lengths bytes cursors s p) + bytes_in lengths (cursor (p + 1))
  left-bytes p h =
      let n : terms_in (cursor p) ≡ suc (terms_in (cursor (p + 1))) = omega (arith, at-pos p, at-end p, at-pos (p + 1), at-end (p + 1)) in
      let i : (cursor p).pos < length lengths = omega (arith, at-pos p) in
      let d : drop (cursor p).pos lengths ≡ get_or lengths (cursor p).pos 0 ∷ drop (suc (cursor p).pos) lengths = drop-cons lengths (cursor p).pos 0 i in
      let q : suc (cursor p).pos ≡ (cursor (p + 1)).pos = omega (arith, at-pos p, at-pos (p + 1)) in
      ap (λ (z : ℕ). sum (take z (drop (cursor p).pos lengths))) n
      ∙ ap (λ (z : List ℕ). sum (take (suc (terms_in (cursor (p + 1)))) z)) d
      ∙ ap (λ (z : ℕ). get_or lengths (cursor p).pos 0 + sum (take (terms_in (cursor (p + 1))) (drop z lengths))) q
      ∙ ap (λ (z : ℕ). z + bytes_in lengths (cursor (p + 1))) (cursor-length p h)
