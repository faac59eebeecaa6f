-- The terms of a dictionary one after another: what is said of them at a term, at the next one and at the last. Assumes nothing.
use mathlib.Core.Path.{◌≡◌, refl, sym, ap, ◌∙◌, subst}
use mathlib.Core.Bool.{Bool, true, false, ◌&&◌}
use mathlib.Core.List.{List, [], ◌∷◌}
use Prim.Native.Nat.{ℕ, ◌+◌, ◌-◌, ◌≤◌, ◌<◌, zero-le}
use native.Mathlib.Numerals.{add-one}
use native.Mathlib.Omega.{arith}
use lib.Dec.{ltb, leb}
use lib.ListN.{length, drop, get_or, drop_of_length-le}
use lib.Seq.{drop-cons, drop-drop}
use borrow.Author.Tests.{lt-ltb, le-ltb, ltb-true, ltb-false, le-leb, lt-leb, leb-true, leb-false}
use Rattle.definitions.specs.Lists.{sum, is_below, compare_bytes}
use Rattle.lists.proofs.Tests.{both_true}
use Rattle.lists.proofs.Sums.{sum_step}
use Rattle.std.specs.Borrow.{Bor}
use Rattle.term_reader.specs.declared.Place.{Place}
use Rattle.term_reader.specs.declared.Reader.{Reader}
use Rattle.term_reader.specs.Read.{term_at, next_place, goes_on, started, moved, terms_rise, terms_rise_from}

-- the terms after the one at a place
abbrev pub rises_at : List ℕ → List ℕ → ℕ → ℕ → Bool
rises_at lengths bytes at p = terms_rise_from (term_at bytes lengths at p) (drop (p + 1) lengths) (drop (at + get_or lengths p 0) bytes)

pub rises_start : (lengths bytes : List ℕ) → rises_at lengths bytes 0 0 ≡ terms_rise lengths bytes
unfolding terms_rise terms_rise_from
rises_start [] bytes = refl
rises_start (n ∷ ns) bytes = rw (let z : 0 + n ≡ n = omega arith in z)

rises_step : (lengths bytes : List ℕ) (at p : ℕ) → p + 1 < length lengths
    → rises_at lengths bytes at p ≡ is_below (compare_bytes (term_at bytes lengths at p) (term_at bytes lengths (at + get_or lengths p 0) (p + 1))) && rises_at lengths bytes (at + get_or lengths p 0) (p + 1)
unfolding terms_rise_from
rises_step lengths bytes at p h = rw (drop-cons lengths (p + 1) 0 h, ← drop-drop (get_or lengths (p + 1) 0) (at + get_or lengths p 0) bytes, add-one (p + 1))

goes_on-is : (lengths bytes : List ℕ) (at p : ℕ) → goes_on bytes lengths at p ≡ true
    → (p + 1 < length lengths) × (is_below (compare_bytes (term_at bytes lengths at p) (term_at bytes lengths (at + get_or lengths p 0) (p + 1))) ≡ true)
unfolding goes_on
goes_on-is lengths bytes at p e = let b = both_true _ _ e in (ltb-true _ _ b.0, b.1)

-- a reader that goes on has a next term
pub goes_on-next : (lengths bytes : List ℕ) (at p : ℕ) → goes_on bytes lengths at p ≡ true → p + 1 < length lengths
goes_on-next lengths bytes at p e = (goes_on-is lengths bytes at p e).0

-- and what is said of all terms is said of those from it on
pub rises_next : (lengths bytes : List ℕ) (at p : ℕ) → goes_on bytes lengths at p ≡ true → rises_at lengths bytes (at + get_or lengths p 0) (p + 1) ≡ rises_at lengths bytes at p
rises_next lengths bytes at p e = let b = goes_on-is lengths bytes at p e in rw (rises_step lengths bytes at p b.0, b.1)

goes_on-low : (lengths bytes : List ℕ) (at p : ℕ) → p + 1 < length lengths
    → goes_on bytes lengths at p ≡ is_below (compare_bytes (term_at bytes lengths at p) (term_at bytes lengths (at + get_or lengths p 0) (p + 1)))
unfolding goes_on
goes_on-low lengths bytes at p h = rw (lt-ltb (p + 1) (length lengths) h)

goes_on_out : (lengths bytes : List ℕ) (at p : ℕ) → length lengths ≤ p + 1 → goes_on bytes lengths at p ≡ false
unfolding goes_on
goes_on_out lengths bytes at p h = rw (le-ltb (p + 1) (length lengths) h)

rises_out : (lengths bytes : List ℕ) (at p : ℕ) → length lengths ≤ p + 1 → rises_at lengths bytes at p ≡ true
unfolding terms_rise_from
rises_out lengths bytes at p h = rw (drop_of_length-le lengths h)

-- where it stops, the terms ascend if it is at the last one
pub rises-end : (lengths bytes : List ℕ) (at p : ℕ) → goes_on bytes lengths at p ≡ false → leb (length lengths) (p + 1) ≡ rises_at lengths bytes at p
rises-end lengths bytes at p e = go (ltb (p + 1) (length lengths)) refl
  where
    go : (t : Bool) → ltb (p + 1) (length lengths) ≡ t → leb (length lengths) (p + 1) ≡ rises_at lengths bytes at p
    go true t =
        let h : p + 1 < length lengths = ltb-true (p + 1) (length lengths) t in
        rw (lt-leb (length lengths) (p + 1) h, rises_step lengths bytes at p h, ← goes_on-low lengths bytes at p h, e)
    go false t =
        let h : length lengths ≤ p + 1 = ltb-false (p + 1) (length lengths) t in
        rw (le-leb (length lengths) (p + 1) h, rises_out lengths bytes at p h)

-- ---- one step of it

pub is_out : (lengths bytes : List ℕ) (at p : ℕ) {b : Bool} → b ≡ leb (length lengths) (p + 1) → b ≡ true → false ≡ goes_on bytes lengths at p
is_out lengths bytes at p e t = sym (goes_on_out lengths bytes at p (leb-true (length lengths) (p + 1) (sym e ∙ t)))

pub is-in : (lengths : List ℕ) (p : ℕ) {b : Bool} → b ≡ leb (length lengths) (p + 1) → b ≡ false → p + 1 < length lengths
is-in lengths p e t = leb-false (length lengths) (p + 1) (sym e ∙ t)

pub first_in : (lengths : List ℕ) (at p n : ℕ) → p < length lengths → at + sum (drop p lengths) ≤ n → at + get_or lengths p 0 ≤ n
first_in lengths at p n h k = let e : sum (drop p lengths) ≡ get_or lengths p 0 + sum (drop (p + 1) lengths) = sum_step lengths p h in omega (arith, e, k)

pub rest_in : (lengths : List ℕ) (at p n : ℕ) → p < length lengths → at + sum (drop p lengths) ≤ n → (at + get_or lengths p 0) + sum (drop (p + 1) lengths) ≤ n
rest_in lengths at p n h k = let e : sum (drop p lengths) ≡ get_or lengths p 0 + sum (drop (p + 1) lengths) = sum_step lengths p h in omega (arith, e, k)

pub compared : (lengths bytes : List ℕ) (at p : ℕ) (q : Place) (s t : List ℕ) {r : Bool} → p + 1 < length lengths → q ≡ next_place lengths at p
    → s ≡ term_at bytes lengths at p → t ≡ term_at bytes lengths q.at q.ordinal → r ≡ is_below (compare_bytes s t) → r ≡ goes_on bytes lengths at p
compared lengths bytes at p q s t h e f g k =
    k ∙ ap (λ (x : List ℕ). is_below (compare_bytes x t)) f ∙ ap (λ (x : List ℕ). is_below (compare_bytes (term_at bytes lengths at p) x)) (g ∙ ap (λ (x : Place). term_at bytes lengths x.at x.ordinal) e)
    ∙ sym (goes_on-low lengths bytes at p h)

-- ---- a reader that goes from term to term

-- it is at a term or past the last, the bytes from it on are enough for the terms from it on, and what is left to say of them is what is said of all
abbrev pub Stands : List ℕ → List ℕ → Reader → Type 0
Stands lengths bytes r =
    (r.bytes.now ≡ bytes) × (r.place.ordinal ≤ length lengths) × (r.place.at + sum (drop r.place.ordinal lengths) ≤ length bytes)
    × (rises_at lengths bytes r.place.at r.place.ordinal ≡ terms_rise lengths bytes)

pub stands_start : (lengths : List ℕ) (b : Bor (List ℕ)) (r : Reader) → r ≡ started b → sum lengths ≤ length b.now → Stands lengths b.now r
stands_start lengths b r e h = subst (Stands lengths b.now) (sym e) (refl, zero-le, omega (arith, h), rises_start lengths b.now)

-- what it says of the next term
pub told_is : (lengths bytes : List ℕ) (r : Reader) {b t : Bool} → Stands lengths bytes r → b ≡ goes_on r.bytes.now lengths r.place.at r.place.ordinal → b ≡ t
    → goes_on bytes lengths r.place.at r.place.ordinal ≡ t
told_is lengths bytes r s e f = ap (λ (x : List ℕ). goes_on x lengths r.place.at r.place.ordinal) (sym s.0) ∙ sym e ∙ f

-- where it goes on
pub next_in : (lengths bytes : List ℕ) (r : Reader) → Stands lengths bytes r → goes_on bytes lengths r.place.at r.place.ordinal ≡ true
    → (r.place.ordinal < length lengths) × (r.place.at + get_or lengths r.place.ordinal 0 ≤ length bytes)
next_in lengths bytes r s e =
    let h : r.place.ordinal + 1 < length lengths = goes_on-next lengths bytes r.place.at r.place.ordinal e in
    let l : r.place.ordinal < length lengths = omega (arith, h) in
    (l, first_in lengths r.place.at r.place.ordinal (length bytes) l s.2)

pub stands_next : (lengths bytes : List ℕ) (r q : Reader) → Stands lengths bytes r → goes_on bytes lengths r.place.at r.place.ordinal ≡ true
    → q ≡ moved r (next_place lengths r.place.at r.place.ordinal) → Stands lengths bytes q
stands_next lengths bytes r q s e f =
    let h : r.place.ordinal + 1 < length lengths = goes_on-next lengths bytes r.place.at r.place.ordinal e in
    let l : r.place.ordinal < length lengths = omega (arith, h) in
    subst (Stands lengths bytes) (sym f)
    (s.0, omega (arith, h), rest_in lengths r.place.at r.place.ordinal (length bytes) l s.2, rises_next lengths bytes r.place.at r.place.ordinal e ∙ s.3)

pub nearer : (lengths bytes : List ℕ) (r q : Reader) → Stands lengths bytes r → goes_on bytes lengths r.place.at r.place.ordinal ≡ true
    → q ≡ moved r (next_place lengths r.place.at r.place.ordinal) → length lengths - q.place.ordinal < length lengths - r.place.ordinal
nearer lengths bytes r q s e f =
    let l : r.place.ordinal < length lengths = (next_in lengths bytes r s e).0 in
    let o : q.place.ordinal ≡ r.place.ordinal + 1 = ap (λ (x : Reader). x.place.ordinal) f in
    omega (arith, l, o)

-- where it stops
pub stands_end : (lengths bytes : List ℕ) (r : Reader) {b : Bool} → Stands lengths bytes r → goes_on bytes lengths r.place.at r.place.ordinal ≡ false
    → b ≡ leb (length lengths) (r.place.ordinal + 1) → b ≡ terms_rise lengths bytes
stands_end lengths bytes r s e f = f ∙ rises-end lengths bytes r.place.at r.place.ordinal e ∙ s.3
