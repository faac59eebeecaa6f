-- The bits that are left show the rows of a test: with each address that takes its bit, that row fails the test from then on. Assumes nothing.
use Prim.Native.Nat.{ℕ, ◌+◌, ◌-◌, ◌/◌, ◌%◌, ◌^◌, ◌≤◌, ◌<◌}
use native.Mathlib.Nat.{zero-div}
use native.Mathlib.Omega.{arith}
use mathlib.Core.Path.{◌≡◌, refl, sym, ap, ap₂, ◌∙◌}
use mathlib.Core.Bool.{Bool, true, false, not, ◌&&◌, ◌||◌, cond, and-true, and-false, false≢true}
use mathlib.Core.List.{List, [], ◌∷◌}
use lib.Dec.{eqb, ltb}
use lib.ListN.{length, get_or, replicate, length-set}
use borrow.Author.Tests.{eq-eqb, eqb-true, lt-ltb, ltb-true, ltb-false}
use Rattle.definitions.specs.Lists.{bit_in, all, all_below}
use Rattle.definitions.specs.Segment.{Address}
use Rattle.definitions.specs.Answer.{same_address, is_listed, is_repeated}
use Rattle.definitions.proofs.Bits.{bit_cleared, bit_cleared_others}
use Rattle.definitions.proofs.Accept.{same_address_lem}
use Rattle.lists.proofs.Tests.{both_true}
use Rattle.lists.proofs.Lists.{zeros-at}
use Rattle.runs.proofs.Scans.{eqb_same}
use Rattle.stands.specs.Stand.{stand_at}
use Rattle.merge_mapping.specs.Mapping.{Room, byte_of, is_left, without, takes, left_by}
use Rattle.merge_mapping.proofs.Bytes.{no_bits, zero-all}

-- ---- a place for each row

-- the segments' bytes don't overlap
abbrev pub Apart : List (List ℕ) → Type 0
Apart stands = (k l : ℕ) → k < l → l < length stands → (stand_at stands k).work + (stand_at stands k).rows ≤ (stand_at stands l).work

-- bit c of byte i is a row's
pub record RowAt (stands : List (List ℕ)) (i c : ℕ) : Type 0 where
  pub row : Address
  pub segment : row.segment < length stands
  pub inside : row.row < (stand_at stands row.segment).rows
  pub byte : i ≡ byte_of stands row
  pub bit : c ≡ row.row % 8

-- the bits set are those of the rows that pass the test
pub record Shown (stands : List (List ℕ)) (test : Address → Bool) (bits : List ℕ) : Type 0 where
  pub each : (a : Address) → is_left stands bits a ≡ test a
  pub only : (i c : ℕ) → bit_in bits i c ≡ 1 → RowAt stands i c

pub shown_as : {stands : List (List ℕ)} {test : Address → Bool} {bits : List ℕ} (test' : Address → Bool) → Shown stands test bits → ((a : Address) → test a ≡ test' a) → Shown stands test' bits
shown_as test' s e = record { each = λ a. s.each a ∙ e a; only = s.only }

module _ (stands : List (List ℕ)) (bits : List ℕ) (a : Address) where
  pub left_here : a.segment < length stands → a.row < (stand_at stands a.segment).rows → bit_in bits (byte_of stands a) (a.row % 8) ≡ 1 → is_left stands bits a ≡ true
  unfolding is_left
  left_here h l e = rw (lt-ltb a.segment (length stands) h, lt-ltb a.row (stand_at stands a.segment).rows l, eq-eqb (bit_in bits (byte_of stands a) (a.row % 8)) 1 e)

  left_back : is_left stands bits a ≡ true → (a.segment < length stands) × (a.row < (stand_at stands a.segment).rows) × (bit_in bits (byte_of stands a) (a.row % 8) ≡ 1)
  unfolding is_left
  left_back e =
      let p = both_true (ltb a.segment (length stands)) _ e in
      let q = both_true (ltb a.row (stand_at stands a.segment).rows) _ p.1 in
      (ltb-true a.segment (length stands) p.0, ltb-true a.row (stand_at stands a.segment).rows q.0, eqb-true (bit_in bits (byte_of stands a) (a.row % 8)) 1 q.1)

place_unique : (stands : List (List ℕ)) → Apart stands → (a b : Address) → a.segment < length stands → b.segment < length stands → a.row < (stand_at stands a.segment).rows → b.row < (stand_at stands b.segment).rows
    → byte_of stands a ≡ byte_of stands b → a.row % 8 ≡ b.row % 8 → (a.segment ≡ b.segment) × (a.row ≡ b.row)
place_unique stands apart a b h h' l l' e f = go (ltb a.segment b.segment) refl (ltb b.segment a.segment) refl
  where
    go : (t : Bool) → ltb a.segment b.segment ≡ t → (u : Bool) → ltb b.segment a.segment ≡ u → (a.segment ≡ b.segment) × (a.row ≡ b.row)
    go true p u q = absurd (omega (arith, apart a.segment b.segment (ltb-true a.segment b.segment p) h'))
    go false p true q = absurd (omega (arith, apart b.segment a.segment (ltb-true b.segment a.segment q) h))
    go false p false q =
        let s : a.segment ≡ b.segment = omega (arith, ltb-false a.segment b.segment p, ltb-false b.segment a.segment q) in
        (s, omega (arith, ap (λ (n : ℕ). (stand_at stands n).work) s))

-- ---- a bit taken

-- a row is neither the one nor among the others
but_both : (t s l : Bool) → (t && not s) && not l ≡ t && not (s || l)
but_both false s l = refl
but_both true true l = refl
but_both true false l = refl

module _ (stands : List (List ℕ)) (apart : Apart stands) where
  module _ (bits : List ℕ) (room : Room stands bits) (a : Address) (t : is_left stands bits a ≡ true) where
    there : (a.segment < length stands) × (a.row < (stand_at stands a.segment).rows) × (bit_in bits (byte_of stands a) (a.row % 8) ≡ 1)
    there = left_back stands bits a t

    inside : byte_of stands a < length bits
    inside = let r = room a.segment there.0 in omega (arith, there.1)

    gone : bit_in (without stands bits a) (byte_of stands a) (a.row % 8) ≡ 0
    unfolding without
    gone = bit_cleared bits (byte_of stands a) (a.row % 8) inside there.2

    stays : (i c : ℕ) → (i ≡ byte_of stands a → c ≡ a.row % 8 → ⊥) → bit_in (without stands bits a) i c ≡ bit_in bits i c
    unfolding without
    stays i c n = bit_cleared_others bits (byte_of stands a) (a.row % 8) inside there.2 i c n

    left_then : (b : Address) → is_left stands (without stands bits a) b ≡ is_left stands bits b && not (same_address b a)
    unfolding is_left
    left_then b = go (ltb b.segment (length stands)) refl (ltb b.row (stand_at stands b.segment).rows) refl
      where
        then : Bool
        then = eqb (bit_in (without stands bits a) (byte_of stands b) (b.row % 8)) 1

        before : Bool
        before = eqb (bit_in bits (byte_of stands b) (b.row % 8)) 1

        both : b.segment < length stands → b.row < (stand_at stands b.segment).rows → (u : Bool) → same_address b a ≡ u → then ≡ before && not u
        both h l true e =
            ap (λ (x : Address). eqb (bit_in (without stands bits a) (byte_of stands x) (x.row % 8)) 1) (same_address_lem b a e)
            ∙ ap (λ (n : ℕ). eqb n 1) gone
            ∙ sym (and-false before)
        both h l false e =
            ap (λ (n : ℕ). eqb n 1)
            (stays (byte_of stands b) (b.row % 8)
            (λ p q.
            let s = place_unique stands apart b a h there.0 l there.1 p q in
            false≢true (sym e ∙ ap₂ (λ (x y : Bool). x && y) (eq-eqb b.segment a.segment s.0) (eq-eqb b.row a.row s.1))))
            ∙ sym (and-true before)

        go : (x : Bool) → ltb b.segment (length stands) ≡ x → (y : Bool) → ltb b.row (stand_at stands b.segment).rows ≡ y → x && (y && then) ≡ (x && (y && before)) && not (same_address b a)
        go true p true q = both (ltb-true b.segment (length stands) p) (ltb-true b.row (stand_at stands b.segment).rows q) (same_address b a) refl
        go true p false q = refl
        go false p y q = refl

    only_then : ((i c : ℕ) → bit_in bits i c ≡ 1 → RowAt stands i c) → (i c : ℕ) → bit_in (without stands bits a) i c ≡ 1 → RowAt stands i c
    only_then only i c e =
        only i c (sym (stays i c (λ p q. let z : bit_in (without stands bits a) i c ≡ 0 = ap₂ (λ (n m : ℕ). bit_in (without stands bits a) n m) p q ∙ gone in omega arith)) ∙ e)

    room_then : Room stands (without stands bits a)
    unfolding without
    room_then k h = rw (length-set bits (byte_of stands a) (get_or bits (byte_of stands a) 0 - 2 ^ (a.row % 8))) (room k h)

  shown_then : (test : Address → Bool) (bits : List ℕ) → Room stands bits → Shown stands test bits → (a : Address) → is_left stands bits a ≡ true
      → Shown stands (λ b. test b && not (same_address b a)) (without stands bits a)
  shown_then test bits room s a t =
      record {
        each = λ b. left_then bits room a t b ∙ ap (λ (x : Bool). x && not (same_address b a)) (s.each b);
        only = only_then bits room a t s.only;
      }

  -- ---- all addresses

  eqb_comm : (m n : ℕ) → eqb m n ≡ eqb n m
  eqb_comm m n = eqb_same m n n m (λ p. sym p) (λ p. sym p)

  same_comm : (a b : Address) → same_address a b ≡ same_address b a
  same_comm a b = ap₂ (λ (x y : Bool). x && y) (eqb_comm a.segment b.segment) (eqb_comm a.row b.row)

  all_but : (test : Address → Bool) (a : Address) (bs : List Address) → all (λ b. test b && not (same_address b a)) bs ≡ all test bs && not (is_listed a bs)
  all_but test a [] = refl
  all_but test a (b ∷ bs) = ap₂ (λ (x y : Bool). (test b && not x) && y) (same_comm b a) (all_but test a bs) ∙ sort (test b) (same_address a b) (all test bs) (is_listed a bs)
    where
      sort : (t s u l : Bool) → (t && not s) && (u && not l) ≡ (t && u) && not (s || l)
      sort false s u l = refl
      sort true true u l = sym (and-false u)
      sort true false u l = refl

  pub takes-is : (bs : List Address) (test : Address → Bool) (bits : List ℕ) → Room stands bits → Shown stands test bits → takes stands bits bs ≡ all test bs && not (is_repeated bs)
  unfolding takes
  takes-is [] test bits room s = refl
  takes-is (a ∷ bs) test bits room s =
      go (λ r t. takes-is bs (λ b. test b && not (same_address b a)) (without stands bits a) r t) (is_left stands bits a) refl
      ∙ ap (λ (x : Bool). (x && all test bs) && not (is_listed a bs || is_repeated bs)) (s.each a)
    where
      go : (Room stands (without stands bits a) → Shown stands (λ b. test b && not (same_address b a)) (without stands bits a) → takes stands (without stands bits a) bs ≡ all (λ b. test b && not (same_address b a)) bs && not (is_repeated bs))
          → (t : Bool) → is_left stands bits a ≡ t → t && takes stands (without stands bits a) bs ≡ (t && all test bs) && not (is_listed a bs || is_repeated bs)
      go ih false e = refl
      go ih true e =
          ih (room_then bits room a e) (shown_then test bits room s a e)
          ∙ ap (λ (x : Bool). x && not (is_repeated bs)) (all_but test a bs)
          ∙ but_both (all test bs) (is_listed a bs) (is_repeated bs)

  -- the rows that none of them is of
  pub left_is : (bs : List Address) (test : Address → Bool) (bits : List ℕ) → Room stands bits → Shown stands test bits → takes stands bits bs ≡ true
      → Shown stands (λ b. test b && not (is_listed b bs)) (left_by stands bits bs)
  unfolding takes left_by
  left_is [] test bits room s e = shown_as (λ b. test b && true) s (λ b. sym (and-true (test b)))
  left_is (a ∷ bs) test bits room s e =
      let t = both_true (is_left stands bits a) (takes stands (without stands bits a) bs) e in
      rw t.0
      (shown_as (λ b. test b && not (is_listed b (a ∷ bs))) (left_is bs (λ b. test b && not (same_address b a)) (without stands bits a) (room_then bits room a t.0) (shown_then test bits room s a t.0) t.1)
      (λ b. but_both (test b) (same_address b a) (is_listed b bs)))

pub left-long : (stands : List (List ℕ)) (bs : List Address) (bits : List ℕ) → length (left_by stands bits bs) ≡ length bits
unfolding left_by without
left-long stands [] bits = refl
left-long stands (a ∷ bs) bits = go (is_left stands bits a) (left-long stands bs (without stands bits a))
  where
    go : (t : Bool) → length (left_by stands (without stands bits a) bs) ≡ length (without stands bits a) → length (cond t (left_by stands (without stands bits a) bs) bits) ≡ length bits
    go true e = e ∙ length-set bits (byte_of stands a) _
    go false e = refl

-- ---- none left

-- bytes that are 0 have no bit
pub zero_bit : (bits : List ℕ) → bits ≡ replicate (length bits) 0 → (i c : ℕ) → bit_in bits i c ≡ 1 → ⊥
zero_bit bits z i c e =
    let q : get_or bits i 0 / 2 ^ c ≡ 0 = ap (λ (l : List ℕ). get_or l i 0 / 2 ^ c) z ∙ ap (λ (n : ℕ). n / 2 ^ c) (zeros-at (length bits) i) ∙ zero-div (2 ^ c) in
    omega arith

module _ (stands : List (List ℕ)) where
  pub none_shown : (bits : List ℕ) → bits ≡ replicate (length bits) 0 → (a : Address) → is_left stands bits a ≡ false
  none_shown bits z a = go (is_left stands bits a) refl
    where
      go : (b : Bool) → is_left stands bits a ≡ b → b ≡ false
      go false e = refl
      go true e = absurd (zero_bit bits z (byte_of stands a) (a.row % 8) (left_back stands bits a e).2)

  pub shown_none : (test : Address → Bool) (bits : List ℕ) → Shown stands test bits → ((a : Address) → test a ≡ false) → all_below 1 bits ≡ true
  shown_none test bits s n =
      zero-all bits
      (λ i. no_bits (get_or bits i 0) (λ c e. let r = s.only i c e in false≢true (sym (n r.row) ∙ sym (s.each r.row) ∙ left_here stands bits r.row r.segment r.inside (ap₂ (λ (x y : ℕ). bit_in bits x y) (sym r.byte) (sym r.bit) ∙ e))))
