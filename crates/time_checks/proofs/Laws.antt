-- The laws of the scans and walks: what each says at the next element or record, and at the end. Assumes nothing.
use Rattle.std.specs.declared.cmp.Ordering.TheVariants.{Less, Equal, Greater}
use Rattle.std.proofs.lemmas.List.{get_or-map}
use Rattle.std.proofs.lemmas.Map.Keys.{le_from_is_le}
use lib.ListN.{length-map}
use mathlib.Core.Bool.{false≢true}
use borrow.Author.Tests.{ltb-false, eqb-false}
use Rattle.std.proofs.Common.{ltb, cond, arith, sym, ◌≡◌, ℕ, ◌+◌, ◌-◌, ◌<◌, ◌≤◌, Bool, true, false, ◌&&◌, eqb, leb, List, [], ◌∷◌, map, length, get_or, take, drop, refl, add-one, drop_of_length-le, drop-cons, le-leb}
use borrow.Author.Tests.{lt-leb}
use Rattle.std.specs.Prelude.{Some}
use Rattle.std.specs.List.{IsAllAdjacentAnswer}
use Rattle.std.specs.Ordering.{is_some_and, is_le, nat_cmp}
use Rattle.lists.proofs.Tests.{true-T}
use Rattle.definitions.proofs.Slices.{fall_step}
use Prim.Native.Nat.{suc}
use Rattle.definitions.specs.Lists.{not_falling, not_falling_from}
use Rattle.definitions.specs.Segment.{record_words}
use Rattle.definitions.specs.TimeOrder.{time_of}
use Rattle.segment.specs.declared.Record.{Record}
use Rattle.segment.specs.Records.{struct_of, record_in, records_of}
use Rattle.segment.proofs.Walk.{records-end, records-step}
use Rattle.time_checks.specs.Times.{singles_from, singles, times_rise, fits_times, times_from}
use Rattle.lists.proofs.Parts.{part-is, rest-is}

-- ---- times

risen : (m : ℕ) (ns : List ℕ) → ((k : ℕ) → suc k < length (m ∷ ns) → time_of (get_or (m ∷ ns) k 0) ≤ time_of (get_or (m ∷ ns) (suc k) 0)) → not_falling_from (time_of m) (map time_of ns) ≡ true
risen m [] f = refl
risen m (n ∷ ns) f = rw (le-leb (time_of m) (time_of n) (f 0 (omega arith))) (risen n ns (λ k l. f (suc k) (omega arith)))

above : (a b : ℕ) → is_le (nat_cmp a b) ≡ false → b < a
above a b = go (ltb a b) (eqb a b) refl refl
  where
    go : (t u : Bool) → ltb a b ≡ t → eqb a b ≡ u → is_le (cond t Less (cond u Equal Greater)) ≡ false → b < a
    go true u p q e = absurd (false≢true (sym e))
    go false true p q e = absurd (false≢true (sym e))
    go false false p q e = let l = ltb-false a b p in let n = eqb-false a b q in omega arith

-- what the comparison of neighbours answers
pub neighbours : (values : List ℕ) (r : Bool) → IsAllAdjacentAnswer (λ x y b. b ≡ is_some_and is_le (Some (nat_cmp (time_of x) (time_of y)))) values r → r ≡ times_rise values
unfolding times_rise
neighbours [] true h = refl
neighbours (v ∷ vs) true h = sym (risen v vs (λ k l. le_from_is_le (time_of (get_or (v ∷ vs) k 0)) (time_of (get_or (v ∷ vs) (suc k) 0)) (rw add-one at (sym (h k 0 (omega arith))))))
neighbours values false h = go (not_falling (map time_of values)) refl
  where
    go : (b : Bool) → not_falling (map time_of values) ≡ b → false ≡ b
    go false e = refl
    go true e =
        let i : suc h.0 < length values = omega (arith, h.1) in
        let s = fall_step (map time_of values) h.0 (true-T (not_falling (map time_of values)) e) (omega (arith, length-map values time_of)) in
        let p = get_or-map time_of values h.0 0 0 (omega arith) in
        let q = get_or-map time_of values (suc h.0) 0 0 i in
        absurd (let f = above (time_of (get_or values h.0 0)) (time_of (get_or values (suc h.0) 0)) (rw add-one at (sym (h.2 0))) in omega arith)

-- ---- offsets

pub singles_start : (offsets : List ℕ) → singles_from 0 offsets ≡ singles offsets
unfolding singles
singles_start offsets = refl

module _ (m n : ℕ) (offsets : List ℕ) (i : ℕ) (h : i < length offsets) (e : n ≡ get_or offsets i 0) where
  singles_step : singles_from m (drop i offsets) ≡ leb n (m + 1) && singles_from n (drop (i + 1) offsets)
  unfolding singles_from
  singles_step = rw (e, add-one i, drop-cons offsets i 0 h)

  pub singles-high : m + 1 < n → false ≡ singles_from m (drop i offsets)
  singles-high k = rw (singles_step, lt-leb n (m + 1) k)

  pub singles-next : n ≤ m + 1 → singles_from n (drop (i + 1) offsets) ≡ singles_from m (drop i offsets)
  singles-next k = rw (singles_step, le-leb n (m + 1) k)

pub singles-end : (m : ℕ) (offsets : List ℕ) (i : ℕ) → length offsets ≤ i → true ≡ singles_from m (drop i offsets)
unfolding singles_from
singles-end m offsets i h = rw (drop_of_length-le offsets h)

-- ---- the walks

module _ (records : List (List ℕ)) (s : ℕ) (h : length records ≤ s) where
  pub times-end : (offsets values : List ℕ) → true ≡ times_from (records_of (drop s records)) offsets values
  unfolding times_from
  times-end offsets values = rw (records-end records s h)

module _ (records : List (List ℕ)) (s : ℕ) (h : s < length records) {r : Record} (e : r ≡ struct_of (get_or records s [])) where
  pub times_step : (offsets values : List ℕ) (o o' v v' : ℕ) → o' ≡ o + r.offsets → v' ≡ v + record_words (record_in r)
      → times_from (records_of (drop s records)) (drop o offsets) (drop v values)
      ≡ fits_times (record_in r) (take (o' - o) (drop o offsets)) (take (v' - v) (drop v values)) && times_from (records_of (drop (s + 1) records)) (drop o' offsets) (drop v' values)
  unfolding times_from
  times_step offsets values o o' v v' p q =
      rw (part-is r.offsets o o' offsets p, part-is (record_words (record_in r)) v v' values q, rest-is r.offsets o o' offsets p, rest-is (record_words (record_in r)) v v' values q, records-step records s h e)
