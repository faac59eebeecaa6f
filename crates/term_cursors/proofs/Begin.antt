-- How the cursors begin. Assumes nothing.
use mathlib.Core.Path.{◌≡◌, refl, sym, ap, ◌∙◌, subst}
use mathlib.Core.Logic.{◌⊎◌, inl, inr}
use mathlib.Core.Bool.{Bool, cond}
use mathlib.Core.List.{List}
use Prim.Native.Nat.{ℕ, zero, suc, ◌+◌, ◌≤◌, ◌<◌, zero-le}
use native.Mathlib.Omega.{arith}
use native.Mathlib.Numerals.{add-one}
use lib.ListN.{length, get_or, set, take, drop, replicate, length-set, length-replicate, get_or-replicate, get_or-eq_default}
use lib.Seq.{drop-cons, get_or-set_same, get_or-set_other}
use borrow.Author.Tests.{lt-ltb, le-ltb}
use Rattle.definitions.specs.Lists.{sum}
use Rattle.stands.specs.declared.Stand.{Stand}
use Rattle.stands.specs.Stand.{part, many, stand_at}
use Rattle.term_merger.specs.declared.Cursor.{Cursor}
use Rattle.term_merger.specs.Order.{cursor_in, no_cursor}
use Rattle.term_cursors.specs.Cursors.{cursor_at, length_at, Standing, terms_in, bytes_in, sum_over}
use Rattle.term_cursors.specs.Runs.{Runs, first_cursor, Filled}
use Rattle.term_cursors.proofs.Cursors.{over-set}
use Rattle.lists.proofs.Numbers.{le-lt, same?}

over-blank : (f : Cursor → ℕ) (z : Cursor) → f z ≡ 0 → (n : ℕ) → sum_over f (replicate n z) ≡ 0
over-blank f z e zero = refl
over-blank f z e (suc n) = let k = over-blank f z e n in omega arith

head_le : (ls : List ℕ) (p n : ℕ) → p < length ls → 0 < n → get_or ls p 0 ≤ sum (take n (drop p ls))
head_le ls p zero h k = absurd (omega arith)
head_le ls p (suc n) h k = rw (drop-cons ls p 0 h) (omega arith)

module _ (lengths bytes marks : List ℕ) (all : Bool) (p : Stand) where
  pub first-pos : (first_cursor p lengths bytes marks all).pos ≡ p.terms.from
  unfolding first_cursor cursor_at
  first-pos = refl

  pub first-end : (first_cursor p lengths bytes marks all).end ≡ p.terms.to
  unfolding first_cursor cursor_at
  first-end = refl

module _ (stands : List (List ℕ)) (lengths bytes marks : List ℕ) (all : Bool) where
  first-terms : (p : Stand) → terms_in (first_cursor p lengths bytes marks all) ≡ many p.terms
  unfolding first_cursor cursor_at
  first-terms p = refl

  first-bytes : (p : Stand) → bytes_in lengths (first_cursor p lengths bytes marks all) ≡ sum (part p.terms lengths)
  unfolding first_cursor cursor_at
  first-bytes p = refl

  pub filled_start : (cursors : List Cursor) → cursors ≡ replicate 256 no_cursor → Filled stands lengths bytes marks all 0 cursors
  filled_start cursors e =
      subst (λ (z : List Cursor). Filled stands lengths bytes marks all 0 z) (sym e)
      (record {
        size = length-replicate 256 no_cursor;
        cursor = λ s l. absurd (omega arith);
        rest = λ s l. rest s (le-lt s 256);
        terms = over-blank terms_in no_cursor refl 256;
        texts = over-blank (bytes_in lengths) no_cursor refl 256;
      })
    where
      rest : (s : ℕ) → (s < 256) ⊎ (256 ≤ s) → cursor_in (replicate 256 no_cursor) s ≡ no_cursor
      rest s (inl l) = get_or-replicate 256 s no_cursor no_cursor l
      rest s (inr l) = get_or-eq_default (replicate 256 no_cursor) no_cursor (let m : length (replicate 256 no_cursor) ≤ s = omega (arith, length-replicate 256 no_cursor) in m)

  filled_more : (cursors : List Cursor) (n : ℕ) (r : Cursor) → n < 256 → r ≡ first_cursor (stand_at stands n) lengths bytes marks all → Filled stands lengths bytes marks all n cursors → Filled stands lengths bytes marks all (suc n) (set cursors n r)
  filled_more cursors n r less e g =
      let i : n < length cursors = omega (arith, g.size) in
      let b : cursor_in cursors n ≡ no_cursor = g.rest n (omega arith) in
      let t₀ : terms_in (cursor_in cursors n) ≡ 0 = ap terms_in b in
      let b₀ : bytes_in lengths (cursor_in cursors n) ≡ 0 = ap (bytes_in lengths) b in
      let t₁ : terms_in r ≡ many (stand_at stands n).terms = ap terms_in e ∙ first-terms (stand_at stands n) in
      let b₁ : bytes_in lengths r ≡ sum (part (stand_at stands n).terms lengths) = ap (bytes_in lengths) e ∙ first-bytes (stand_at stands n) in
      record {
        size = length-set cursors n r ∙ g.size;
        cursor = λ s l. cursor s l (same? s n);
        rest = λ s l. get_or-set_other cursors n s r no_cursor (λ q. omega arith) ∙ g.rest s (omega arith);
        terms = omega (arith, over-set terms_in cursors n r i, g.terms);
        texts = omega (arith, over-set (bytes_in lengths) cursors n r i, g.texts);
      }
    where
      cursor : (s : ℕ) → s < suc n → (s ≡ n) ⊎ (s ≡ n → ⊥) → cursor_in (set cursors n r) s ≡ first_cursor (stand_at stands s) lengths bytes marks all
      cursor s l (inl q) =
          ap (λ (z : ℕ). cursor_in (set cursors n r) z) q ∙ get_or-set_same cursors n r no_cursor (let k : n < length cursors = omega (arith, g.size) in k) ∙ e
          ∙ ap (λ (z : ℕ). first_cursor (stand_at stands z) lengths bytes marks all) (sym q)
      cursor s l (inr d) = get_or-set_other cursors n s r no_cursor d ∙ g.cursor s (let k : s < n = omega arith in k)

  -- what a turn knows
  pub record Filling (cursors : List Cursor) (s : ℕ) : Type 0 where
    pub most : s ≤ length stands
    pub filled : Filled stands lengths bytes marks all s cursors

  pub filling_start : (cursors : List Cursor) → cursors ≡ replicate 256 no_cursor → Filling cursors 0
  filling_start cursors e = record { most = zero-le; filled = filled_start cursors e }

  pub filling_end : (cursors : List Cursor) (s : ℕ) → Filling cursors s → length stands ≤ s → Filled stands lengths bytes marks all (length stands) cursors
  filling_end cursors s g h = subst (λ (z : ℕ). Filled stands lengths bytes marks all z cursors) (let e : s ≡ length stands = omega (arith, g.most) in e) g.filled

  module _ (u : Runs stands lengths bytes marks all) {s : ℕ} (less : s < length stands) {p : Stand} (pe : p ≡ stand_at stands s) where
    pub standing : Standing lengths bytes marks all (record { from = p.text.from; pos = p.terms.from; end = p.terms.to; to = p.map.from })
    standing =
        subst (λ (q : Stand). Standing lengths bytes marks all (record { from = q.text.from; pos = q.terms.from; end = q.terms.to; to = q.map.from })) (sym pe)
        (record { inside = (u.lie s less).ends; marked = λ e. u.marked e s less; text = text (le-lt q.terms.from q.terms.to) })
      where
        q : Stand
        q = stand_at stands s

        text : ((stand_at stands s).terms.from < (stand_at stands s).terms.to) ⊎ ((stand_at stands s).terms.to ≤ (stand_at stands s).terms.from)
            → (stand_at stands s).text.from + length_at lengths (stand_at stands s).terms.from (stand_at stands s).terms.to ≤ length bytes
        text (inl a) =
            let c : length_at lengths (stand_at stands s).terms.from (stand_at stands s).terms.to ≡ get_or lengths (stand_at stands s).terms.from 0
            = ap (λ (b : Bool). cond b (get_or lengths (stand_at stands s).terms.from 0) 0) (lt-ltb (stand_at stands s).terms.from (stand_at stands s).terms.to a) in
            let d = head_le lengths (stand_at stands s).terms.from (many (stand_at stands s).terms) (omega (arith, (u.lie s less).ends)) (omega arith) in
            omega (arith, c, d, u.texts s less)
        text (inr a) =
            let c : length_at lengths (stand_at stands s).terms.from (stand_at stands s).terms.to ≡ 0
            = ap (λ (b : Bool). cond b (get_or lengths (stand_at stands s).terms.from 0) 0) (le-ltb (stand_at stands s).terms.from (stand_at stands s).terms.to a) in
            omega (arith, c, u.texts s less)

    pub s-few : s < 256
    s-few = omega (arith, u.few)

    pub filling_more : {cursors cursors' : List Cursor} → Filling cursors s → cursors' ≡ set cursors s (cursor_at lengths bytes marks all p.text.from p.terms.from p.terms.to p.map.from) → Filling cursors' (s + 1)
    unfolding first_cursor
    filling_more {cursors} {cursors'} g e =
        record {
          most = omega arith;
          filled =
              subst (λ (z : ℕ). Filled stands lengths bytes marks all z cursors') (sym (add-one s))
              (subst (λ (z : List Cursor). Filled stands lengths bytes marks all (suc s) z) (sym e)
              (filled_more cursors s (cursor_at lengths bytes marks all p.text.from p.terms.from p.terms.to p.map.from) s-few (ap (λ (q : Stand). first_cursor q lengths bytes marks all) pe) g.filled));
        }
