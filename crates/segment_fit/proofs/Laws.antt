-- The laws of the scans: what each says at the next element, and at the end. Assumes nothing.
use mathlib.Core.Path.{◌≡◌, refl, sym, ap, ◌∙◌}
use mathlib.Core.Bool.{Bool, true, false, ◌&&◌, ◌||◌, and-true, and-false}
use mathlib.Core.List.{List, [], ◌∷◌}
use Prim.Native.Nat.{ℕ, zero, suc, ◌+◌, ◌-◌, ◌*◌, ◌≤◌, ◌<◌}
use native.Mathlib.Numerals.{add-one}
use native.Mathlib.Omega.{arith}
use lib.Dec.{eqb, ltb, leb}
use lib.ListN.{length, get_or}
use borrow.Author.Tests.{lt-ltb, ltb-true, ltb-false, le-leb, lt-leb}
use Rattle.definitions.specs.Lists.{all, any, ascending, ascending_from, last, up_from, all_below}
use Rattle.definitions.specs.Row.{bit_at}
use Rattle.lists.proofs.Tests.{both_true, past, true-T}
use Rattle.std.specs.Prelude.{Option, Some, None}
use Rattle.std.specs.List.{IsAllAdjacentAnswer, slice_get, list_any, range_with_len}
use Rattle.std.specs.Option.{MatchOption, option_copied, option_eq}
use Rattle.std.proofs.lemmas.Option.{slice_get-get_or, get_or_from_slice_get}
use denote.Ref.{Bor}
use Rattle.definitions.proofs.Ranks.{asc_step}
use Rattle.definitions.proofs.Slices.{last-at}
use Rattle.lists.proofs.Lists.{up_step, up_end}
use Rattle.segment_fit.specs.Fits.{rises, last_of, past_rows, fits_offsets}

-- ---- rises

risen : (m : ℕ) (ns : List ℕ) → ((k : ℕ) → suc k < length (m ∷ ns) → get_or (m ∷ ns) k 0 < get_or (m ∷ ns) (suc k) 0) → ascending_from m ns ≡ true
risen m [] f = refl
risen m (n ∷ ns) f = rw (lt-ltb m n (f 0 (omega arith))) (risen n ns (λ k l. f (suc k) (omega arith)))

-- what the comparison of neighbours answers
pub neighbours : (xs : List ℕ) (r : Bool) → IsAllAdjacentAnswer (λ x y b. b ≡ ltb x y) xs r → r ≡ rises xs
unfolding rises
neighbours [] true h = refl
neighbours (x ∷ xs) true h = sym (risen x xs (λ k l. ltb-true (get_or (x ∷ xs) k 0) (get_or (x ∷ xs) (suc k) 0) (rw add-one at (sym (h k 0 (omega arith))))))
neighbours xs false h = go (ascending xs) refl
  where
    go : (b : Bool) → ascending xs ≡ b → false ≡ b
    go false e = refl
    go true e = let s = asc_step xs h.0 (true-T (ascending xs) e) (omega (arith, h.1)) in absurd (let q = ltb-false (get_or xs h.0 0) (get_or xs (suc h.0) 0) (rw add-one at (sym (h.2 0))) in omega arith)

-- ---- the last

-- of numbers that rise, the last is the greatest
rising-below : (rows m : ℕ) (ns : List ℕ) → ascending_from m ns ≡ true → ltb (last (m ∷ ns)) rows ≡ ltb m rows && all (λ n. ltb n rows) ns
rising-below rows m [] h = sym (and-true (ltb m rows))
rising-below rows m (n ∷ ns) h =
    let p = both_true (ltb m n) (ascending_from n ns) h in
    rising-below rows n ns p.1 ∙ go (ltb-true m n p.0) (ltb n rows) refl
  where
    go : m < n → (t : Bool) → ltb n rows ≡ t → t && all (λ k. ltb k rows) ns ≡ ltb m rows && (t && all (λ k. ltb k rows) ns)
    go l true e = rw (lt-ltb m rows (let k : m < rows = omega (arith, ltb-true n rows e) in k))
    go l false e = sym (and-false (ltb m rows))

pub ids-below : (rows : ℕ) (xs : List ℕ) → rises xs ≡ true → (length xs ≡ 0 → ⊥) → ltb (last_of xs) rows ≡ all_below rows xs
unfolding rises last_of all_below
ids-below rows [] h n = absurd (n refl)
ids-below rows (x ∷ xs) h n = rising-below rows x xs h

-- what `last` and `is_none_or` answer
pub last-below : (rows : ℕ) (xs : List ℕ) (o : Option (Bor ℕ)) (r : Bool) → option_copied o ≡ slice_get xs (length xs - 1) → MatchOption o (r ≡ true) (λ x. r ≡ ltb x.now rows) → rises xs ≡ true → r ≡ all_below rows xs
unfolding all_below last_of
last-below rows [] None r e h t = h
last-below rows [] (Some b) r e h t = cc
last-below rows (x ∷ xs) None r e h t = let s = slice_get-get_or (x ∷ xs) (length (x ∷ xs) - 1) 0 (omega arith) in cc
last-below rows (x ∷ xs) (Some b) r e h t =
    let g = get_or_from_slice_get (x ∷ xs) (length (x ∷ xs) - 1) b.now 0 (sym e) in
    h ∙ ap (λ (n : ℕ). ltb n rows) (sym g ∙ last-at (x ∷ xs) (length (x ∷ xs) - 1) (omega arith)) ∙ ids-below rows (x ∷ xs) t (λ z. omega arith)

-- ---- offsets

-- a test on what a list lends is one on what it holds
pub told : (o : Option (Bor ℕ)) (b : Bor ℕ) → option_eq (λ x y. eqb x.now y.now) o (Some b) ≡ option_eq eqb (option_copied o) (Some b.now)
told None b = refl
told (Some a) b = refl

pub offsets-ends : (values : ℕ) (xs : List ℕ) (a b : Bool) → a ≡ option_eq eqb (slice_get xs 0) (Some 0) → b ≡ option_eq eqb (slice_get xs (length xs - 1)) (Some values) → a ≡ true → b ≡ fits_offsets values xs
unfolding fits_offsets last_of
offsets-ends values [] a b p q t = cc
offsets-ends values (x ∷ xs) a b p q t =
    let s = slice_get-get_or (x ∷ xs) (length (x ∷ xs) - 1) 0 (omega arith) in
    past (sym p ∙ t) (q ∙ ap (λ (o : Option ℕ). option_eq eqb o (Some values)) s ∙ ap (λ (n : ℕ). eqb n values) (last-at (x ∷ xs) (length (x ∷ xs) - 1) (omega arith)))

-- ---- bits past the rows

-- from a row on
unfoldable pub past_from : ℕ → List ℕ → ℕ → Bool
past_from rows alive row = any (λ r. leb rows r && bit_at alive r) (up_from row (64 * length alive - row))

past_step : (rows : ℕ) (alive : List ℕ) (row : ℕ) → row < 64 * length alive → past_from rows alive row ≡ (leb rows row && bit_at alive row) || past_from rows alive (row + 1)
unfolding past_from
past_step rows alive row h = rw (up_step row (64 * length alive) h)

past_over : (rows : ℕ) (alive : List ℕ) (row : ℕ) → 64 * length alive ≤ row → past_from rows alive row ≡ false
unfolding past_from
past_over rows alive row h = rw (up_end row (64 * length alive) h)

past_skip : (rows : ℕ) (alive : List ℕ) (k : ℕ) → k ≤ rows → past_from rows alive k ≡ past_from rows alive 0
past_skip rows alive zero h = refl
past_skip rows alive (suc k) h = rw (← add-one k) (go (past_skip rows alive k (omega arith)) (ltb k (64 * length alive)) refl)
  where
    go : past_from rows alive k ≡ past_from rows alive 0 → (t : Bool) → ltb k (64 * length alive) ≡ t → past_from rows alive (k + 1) ≡ past_from rows alive 0
    go q true e =
        let l : k < rows = omega arith in
        let s : past_from rows alive k ≡ past_from rows alive (k + 1) = rw (past_step rows alive k (ltb-true k (64 * length alive) e), lt-leb rows k l) in
        sym s ∙ q
    go q false e =
        let l = ltb-false k (64 * length alive) e in
        past_over rows alive (k + 1) (omega arith) ∙ sym (past_over rows alive k l) ∙ q

pub past_start : (rows : ℕ) (alive : List ℕ) (row : ℕ) → row ≡ rows → past_from rows alive row ≡ past_rows rows alive
unfolding past_rows past_from
past_start rows alive row e = rw e (past_skip rows alive rows (omega arith) ∙ rw (let z : 64 * length alive - 0 ≡ 64 * length alive = omega arith in z))

past_any : (rows : ℕ) (alive : List ℕ) (a n : ℕ) → rows ≤ a → list_any (bit_at alive) (range_with_len a n) ≡ any (λ r. leb rows r && bit_at alive r) (up_from a n)
past_any rows alive a zero l = refl
past_any rows alive a (suc n) l = rw (le-leb rows a l, add-one a) (ap (λ (b : Bool). bit_at alive a || b) (past_any rows alive (suc a) n (omega arith)))

-- any bit from the rows on
pub past-bits : (rows : ℕ) (alive : List ℕ) (n : ℕ) → length alive * 64 - rows ≡ n → list_any (bit_at alive) (range_with_len rows n) ≡ past_rows rows alive
unfolding past_from
past-bits rows alive n e =
    past_any rows alive rows n (omega arith) ∙ ap (λ (k : ℕ). any (λ r. leb rows r && bit_at alive r) (up_from rows k)) (let z : n ≡ 64 * length alive - rows = omega arith in z) ∙ past_start rows alive rows refl
