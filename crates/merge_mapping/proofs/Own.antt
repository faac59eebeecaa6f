-- The checks 8 and 9 as the code makes them are the definitions' own. Assumes nothing.
use Prim.Native.Nat.{ℕ, zero, suc, ◌+◌, ◌≤◌}
use native.Mathlib.Omega.{arith}
use mathlib.Core.Path.{◌≡◌, refl, ap, ap₂, ◌∙◌}
use mathlib.Core.Bool.{Bool, true, false, not, ◌&&◌, ◌||◌, cond}
use mathlib.Core.List.{List, [], ◌∷◌, ◌++◌}
use lib.Dec.{eqb, ltb}
use lib.ListN.{length, get_or, take, drop, length-map}
use borrow.Author.Tests.{eq-eqb, ne_eqb, ltb-false, not-true}
use Rattle.definitions.specs.Lists.{all, any, filter}
use Rattle.definitions.specs.Segment.{SegmentRecord, Sections, Address, Input, alive_words, first_segment, after_first, segments_from, segments_of, address_from}
use Rattle.definitions.specs.Row.{bit_at, is_alive, has_alive_set, alive_number}
use Rattle.definitions.specs.Withdraw.{segment_of}
use Rattle.definitions.specs.Join.{absent, rows_of, stacked_from}
use Rattle.definitions.specs.Answer.{total, bit_past_rows, alive_set_wrong, alive_wrong, is_listed, is_repeated, is_alive_at, alive_addresses, lists_alive_rows, addresses_wrong, working_too_small}
use Rattle.definitions.proofs.Lists.{or_left}
use Rattle.lists.proofs.Lists.{empty-length}
use Rattle.segment.specs.Records.{sections_in}
use Rattle.segment.specs.Lent.{addresses_of}
use Rattle.segment.proofs.At.{segments-length}
use Rattle.sections_fit.specs.Walks.{Exact}
use Rattle.sections_fit.proofs.Own.{rows_all, terms-sum}
use Rattle.merge_mapping.specs.Mapping.{segments_by, addresses_right, room_enough}

-- ---- of the sections, 6 and 9 read the alive words alone

rows_same : (rs : List SegmentRecord) (s t : Sections) (k : ℕ) → (get_or (segments_from rs s) k absent).rows ≡ (get_or (segments_from rs t) k absent).rows
unfolding first_segment
rows_same [] s t k = refl
rows_same (r ∷ rs) s t zero = refl
rows_same (r ∷ rs) s t (suc k) = rows_same rs (after_first r s) (after_first r t) k

alive-same : (rs : List SegmentRecord) (s t : Sections) → s.alive ≡ t.alive → (k x : ℕ) → is_alive (get_or (segments_from rs s) k absent) x ≡ is_alive (get_or (segments_from rs t) k absent) x
unfolding first_segment after_first is_alive
alive-same [] s t e k x = refl
alive-same (r ∷ rs) s t e zero x = ap (λ (l : List ℕ). cond (eqb r.flag 1) (bit_at (take (alive_words r) l) x) true) e
alive-same (r ∷ rs) s t e (suc k) x = alive-same rs (after_first r s) (after_first r t) (ap (drop (alive_words r)) e) k x

stacked-same : (n : ℕ) (rs : List SegmentRecord) (s t : Sections) → stacked_from n (segments_from rs s) ≡ stacked_from n (segments_from rs t)
unfolding first_segment
stacked-same n [] s t = refl
stacked-same n (r ∷ rs) s t = ap (λ (l : List Address). rows_of n (first_segment r s) ++ l) (stacked-same (suc n) rs (after_first r s) (after_first r t))

six-same : (rs : List SegmentRecord) (s t : Sections) → s.alive ≡ t.alive → any alive_set_wrong (segments_from rs s) ≡ any alive_set_wrong (segments_from rs t)
unfolding first_segment after_first alive_set_wrong bit_past_rows alive_number
six-same [] s t e = refl
six-same (r ∷ rs) s t e =
    ap₂ (λ (l : List ℕ) (b : Bool). alive_set_wrong (segment_of (record { given = r; words = take (alive_words r) l })) || b) e
    (six-same rs (after_first r s) (after_first r t) (ap (drop (alive_words r)) e))

module _ (rs : List SegmentRecord) (s t : Sections) (e : s.alive ≡ t.alive) where
  at_same : (a : Address) → is_alive_at (segments_from rs s) a ≡ is_alive_at (segments_from rs t) a
  unfolding is_alive_at
  at_same a = rw (segments-length rs s, segments-length rs t, rows_same rs s t a.segment, alive-same rs s t e a.segment a.row)

  lists_same : (bs : List Address) → lists_alive_rows (segments_from rs s) bs ≡ lists_alive_rows (segments_from rs t) bs
  unfolding lists_alive_rows alive_addresses
  lists_same bs = λ i. all (λ a. at_same a i) bs && not (is_repeated bs) && all (λ a. is_listed a bs) (filter (λ a. at_same a i) (stacked-same 0 rs s t i))

-- ---- 6, as 9 asks it

pub input-within : (i : Input) → alive_wrong i ≡ false → any alive_set_wrong (segments_by i.records i.sections.alive) ≡ false
unfolding alive_wrong segments_of
input-within i h = six-same i.records (sections_in [] [] [] [] [] i.sections.alive) i.sections refl ∙ or_left _ (eqb i.mode 0 && any has_alive_set (segments_of i)) h

-- ---- 9

pub input-addresses : (i : Input) → addresses_wrong i ≡ not (addresses_right i.mode i.records i.sections.alive i.addresses)
unfolding addresses_wrong addresses_right segments_of
input-addresses i =
    ap₂ (λ (a b : Bool). not (cond (eqb i.mode 0) a b)) (empty-length i.addresses) (lists_same i.records i.sections (sections_in [] [] [] [] [] i.sections.alive) refl i.addresses)

pub right_stacked : (mode : ℕ) (rs : List SegmentRecord) (alive : List ℕ) (addresses : List (List ℕ)) → mode ≡ 0 → eqb (length addresses) 0 ≡ addresses_right mode rs alive (addresses_of addresses)
unfolding addresses_right
right_stacked mode rs alive addresses e = rw (eq-eqb mode 0 e, length-map addresses address_from)

pub right_ordered : (mode : ℕ) (rs : List SegmentRecord) (alive : List ℕ) (bs : List Address) {b : Bool} → (mode ≡ 0 → ⊥) → b ≡ lists_alive_rows (segments_by rs alive) bs → b ≡ addresses_right mode rs alive bs
unfolding addresses_right
right_ordered mode rs alive bs n e = rw (ne_eqb mode 0 n) e

-- ---- 8

both-not : (a b : Bool) → a && b ≡ not (not a || not b)
both-not true true = refl
both-not true false = refl
both-not false b = refl

pub input-room : (i : Input) → Exact i.records i.sections
    → working_too_small i ≡ not (room_enough i.mode (total (λ (r : SegmentRecord). r.rows) i.records) (total (λ (r : SegmentRecord). r.terms) i.records) i.space.working)
unfolding working_too_small room_enough segments_of
input-room i x =
    rw (rows_all i.records i.sections, terms-sum i.records i.sections (omega (arith, x.terms)))
    (both-not (eqb i.mode 1) (ltb i.space.working (total (λ (r : SegmentRecord). r.rows) i.records + total (λ (r : SegmentRecord). r.terms) i.records)))

-- an ordered join that has room has a byte for each row and each term
pub room-both : (mode rows terms working : ℕ) → mode ≡ 1 → room_enough mode rows terms working ≡ true → rows + terms ≤ working
unfolding room_enough
room-both mode rows terms working e h = ltb-false working (rows + terms) (not-true (ltb working (rows + terms)) (rw (eq-eqb mode 1 e) at h))
