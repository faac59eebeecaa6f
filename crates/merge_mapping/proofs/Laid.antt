-- The bits laid out, segment after segment, show the alive rows. Assumes nothing.
use Prim.Native.Nat.{ℕ, zero, suc, ◌+◌, ◌-◌, ◌*◌, ◌/◌, ◌%◌, ◌^◌, ◌≤◌, ◌<◌}
use native.Mathlib.Decide.{ℕ_discrete}
use native.Mathlib.Nat.{le_refl}
use native.Mathlib.Omega.{arith}
use mathlib.Core.Path.{◌≡◌, refl, sym, ap, ◌∙◌, subst}
use mathlib.Core.Bool.{Bool, true, false, ◌&&◌, and-false}
use mathlib.Core.List.{List, ◌++◌}
use mathlib.Core.Logic.{◌⊎◌, inl, inr}
use lib.Dec.{eqb, ltb}
use lib.ListN.{length, get_or, take, drop, replicate, get_or-append}
use lib.Seq.{get_or-append-add, get_or-take, get_or-drop, length-take-le}
use borrow.Author.Tests.{eq-eqb, lt-ltb, le-ltb, ltb-true, ltb-false}
use Rattle.definitions.specs.Row.{bit_at}
use Rattle.definitions.specs.Segment.{Address, address}
use Rattle.definitions.specs.Lists.{bit_in}
use Rattle.lists.proofs.Numbers.{le-lt}
use Rattle.lists.proofs.Tests.{both_true}
use Rattle.runs.specs.Put.{put}
use Rattle.stands.specs.declared.Stand.{Stand}
use Rattle.stands.specs.Stand.{stand_at}
use Rattle.stands.specs.Look.{alive_set_at}
use Rattle.merge_mapping.specs.Mapping.{bytes_for, alive_byte, alive_bytes, laid_out, Room, byte_of, is_left}
use Rattle.merge_mapping.proofs.Bytes.{alive_bit, byte_bits, byte-bit}
use Rattle.merge_mapping.proofs.Turns.{bytes-length, bytes-at, put-long}
use Rattle.merge_mapping.proofs.Left.{zero_bit, Apart, RowAt, Shown, shown_as, none_shown}

-- ---- the elements of a list that is put into another

module _ (at : ℕ) (vs old : List ℕ) (room : at + length vs ≤ length old) where
  front : length (take at old) ≡ at
  front = length-take-le at old (omega arith)

  put_in : (k : ℕ) → k < length vs → get_or (put at vs old) (at + k) 0 ≡ get_or vs k 0
  unfolding put
  put_in k h =
      ap (λ (n : ℕ). get_or (take at old ++ (vs ++ drop (at + length vs) old)) (n + k) 0) (sym front)
      ∙ get_or-append-add (take at old) (vs ++ drop (at + length vs) old) k 0
      ∙ get_or-append vs (drop (at + length vs) old) 0 k h

  put_out : (i : ℕ) → (i < at) ⊎ (at + length vs ≤ i) → get_or (put at vs old) i 0 ≡ get_or old i 0
  unfolding put
  put_out i (inl h) = get_or-append (take at old) (vs ++ drop (at + length vs) old) 0 i (omega (arith, front)) ∙ get_or-take at old i 0 h
  put_out i (inr h) =
      let k = i - (at + length vs) in
      let e : i ≡ length (take at old) + (length vs + k) = omega (arith, front) in
      let f : at + length vs + k ≡ i = omega arith in
      ap (λ (n : ℕ). get_or (take at old ++ (vs ++ drop (at + length vs) old)) n 0) e
      ∙ get_or-append-add (take at old) (vs ++ drop (at + length vs) old) (length vs + k) 0
      ∙ get_or-append-add vs (drop (at + length vs) old) k 0
      ∙ get_or-drop (at + length vs) old k 0
      ∙ ap (λ (n : ℕ). get_or old n 0) f

below_suc : (m n : ℕ) → (m ≡ n → ⊥) → ltb m n ≡ ltb m (suc n)
below_suc m n h = go (le-lt m n)
  where
    go : (m < n) ⊎ (n ≤ m) → ltb m n ≡ ltb m (suc n)
    go (inl l) = lt-ltb m n l ∙ sym (lt-ltb m (suc n) (omega arith))
    go (inr l) = le-ltb m n l ∙ sym (le-ltb m (suc n) (let k : suc n ≤ m = omega (arith, h) in k))

-- ---- alive rows

-- the address is of an alive row
unfoldable pub alive_at : List (List ℕ) → List ℕ → Address → Bool
alive_at stands alive a =
    ltb a.segment (length stands)
    && (ltb a.row (stand_at stands a.segment).rows
    && alive_bit (stand_at stands a.segment).flag (alive_set_at (stand_at stands a.segment) alive) a.row)

-- no bit is set past the rows
abbrev pub NonePast : Stand → List ℕ → Type 0
NonePast p alive = (r : ℕ) → p.flag ≡ 1 → p.rows ≤ r → r < 8 * bytes_for p.rows → bit_at (alive_set_at p alive) r ≡ false

module _ (stands : List (List ℕ)) (alive : List ℕ) (apart : Apart stands) (past : (k : ℕ) → k < length stands → NonePast (stand_at stands k) alive) where
  abbrev bytes_at : ℕ → List ℕ
  bytes_at s = alive_bytes (stand_at stands s).flag (alive_set_at (stand_at stands s) alive) (stand_at stands s).rows

  -- the first s segments' alive rows
  abbrev up_to : ℕ → Address → Bool
  up_to s a = ltb a.segment s && alive_at stands alive a

  module _ (s : ℕ) (h : s < length stands) (w : List ℕ) (room : Room stands w) (i : Shown stands (up_to s) w) where
    abbrev p : Stand
    p = stand_at stands s

    long : length (bytes_at s) ≡ bytes_for p.rows
    long = bytes-length p.flag (alive_set_at p alive) p.rows

    fits : p.work + length (bytes_at s) ≤ length w
    fits = omega (arith, long, room s h)

    abbrev w' : List ℕ
    w' = put p.work (bytes_at s) w

    -- a bit of the segment's own bytes
    own : (k c : ℕ) → k < bytes_for p.rows → bit_in w' (p.work + k) c ≡ alive_byte p.flag (alive_set_at p alive) p.rows k / 2 ^ c % 2
    own k c l =
        ap (λ (n : ℕ). n / 2 ^ c % 2) (put_in p.work (bytes_at s) w fits k (omega (arith, long)) ∙ sym (bytes-at p.flag (alive_set_at p alive) p.rows k l))

    own-bit : (k c : ℕ) → k < bytes_for p.rows → c < 8 → eqb (bit_in w' (p.work + k) c) 1 ≡ ltb (8 * k + c) p.rows && alive_bit p.flag (alive_set_at p alive) (8 * k + c)
    own-bit k c l m =
        ap (λ (n : ℕ). eqb n 1) (own k c l)
        ∙ byte-bit p.flag (alive_set_at p alive) p.rows k c m (λ f q. past s h (8 * k + c) f q (omega arith))

    -- any other
    others : (j c : ℕ) → (j < p.work) ⊎ (p.work + bytes_for p.rows ≤ j) → bit_in w' j c ≡ bit_in w j c
    others j c (inl l) = ap (λ (n : ℕ). n / 2 ^ c % 2) (put_out p.work (bytes_at s) w fits j (inl l))
    others j c (inr l) = ap (λ (n : ℕ). n / 2 ^ c % 2) (put_out p.work (bytes_at s) w fits j (inr (omega (arith, long))))

    own_row : (r : ℕ) → r < p.rows → eqb (bit_in w' (p.work + r / 8) (r % 8)) 1 ≡ alive_bit p.flag (alive_set_at p alive) r
    own_row r l =
        let e : 8 * (r / 8) + r % 8 ≡ r = omega arith in
        own-bit (r / 8) (r % 8) (omega arith) (omega arith)
        ∙ ap (λ (n : ℕ). ltb n p.rows && alive_bit p.flag (alive_set_at p alive) n) e
        ∙ ap (λ (b : Bool). b && alive_bit p.flag (alive_set_at p alive) r) (lt-ltb r p.rows l)

    each_then : (a : Address) → is_left stands w' a ≡ up_to (suc s) a
    unfolding is_left alive_at
    each_then a = go (ltb a.segment (length stands)) refl (ltb a.row (stand_at stands a.segment).rows) refl
      where
        live : Bool
        live = alive_bit (stand_at stands a.segment).flag (alive_set_at (stand_at stands a.segment) alive) a.row

        here : a.segment ≡ s → a.row < (stand_at stands a.segment).rows → eqb (bit_in w' (byte_of stands a) (a.row % 8)) 1 ≡ live
        here q l =
            subst (λ (k : ℕ). eqb (bit_in w' ((stand_at stands k).work + a.row / 8) (a.row % 8)) 1 ≡ alive_bit (stand_at stands k).flag (alive_set_at (stand_at stands k) alive) a.row) (sym q)
            (own_row a.row (subst (λ (k : ℕ). a.row < (stand_at stands k).rows) q l))

        there : (a.segment ≡ s → ⊥) → a.segment < length stands → a.row < (stand_at stands a.segment).rows → bit_in w' (byte_of stands a) (a.row % 8) ≡ bit_in w (byte_of stands a) (a.row % 8)
        there n k l = others (byte_of stands a) (a.row % 8) (aside (ltb a.segment s) refl)
          where
            aside : (b : Bool) → ltb a.segment s ≡ b → (byte_of stands a < p.work) ⊎ (p.work + bytes_for p.rows ≤ byte_of stands a)
            aside true e = inl (omega (arith, apart a.segment s (ltb-true a.segment s e) h))
            aside false e = inr (omega (arith, apart s a.segment (let m : s < a.segment = omega (arith, ltb-false a.segment s e) in m) k))

        go : (x : Bool) → ltb a.segment (length stands) ≡ x → (y : Bool) → ltb a.row (stand_at stands a.segment).rows ≡ y
            → x && (y && eqb (bit_in w' (byte_of stands a) (a.row % 8)) 1) ≡ ltb a.segment (suc s) && (x && (y && live))
        go true e true f = pick (ℕ_discrete a.segment s) (rw (e, f) at (i.each a))
          where
            l : a.row < (stand_at stands a.segment).rows
            l = ltb-true a.row (stand_at stands a.segment).rows f

            pick : Dec (a.segment ≡ s) → eqb (bit_in w (byte_of stands a) (a.row % 8)) 1 ≡ ltb a.segment s && live → eqb (bit_in w' (byte_of stands a) (a.row % 8)) 1 ≡ ltb a.segment (suc s) && live
            pick (yes q) old = here q l ∙ ap (λ (b : Bool). b && live) (sym (lt-ltb a.segment (suc s) (omega arith)))
            pick (no n) old =
                ap (λ (m : ℕ). eqb m 1) (there n (ltb-true a.segment (length stands) e) l)
                ∙ old
                ∙ ap (λ (b : Bool). b && live) (below_suc a.segment s n)
        go true e false f = sym (and-false (ltb a.segment (suc s)))
        go false e y f = sym (and-false (ltb a.segment (suc s)))

    only_then : (j c : ℕ) → bit_in w' j c ≡ 1 → RowAt stands j c
    only_then j c e = go (le-lt j p.work) (le-lt j (p.work + bytes_for p.rows))
      where
        go : (j < p.work) ⊎ (p.work ≤ j) → (j < p.work + bytes_for p.rows) ⊎ (p.work + bytes_for p.rows ≤ j) → RowAt stands j c
        go (inl l) m = i.only j c (sym (others j c (inl l)) ∙ e)
        go (inr l) (inr m) = i.only j c (sym (others j c (inr m)) ∙ e)
        go (inr l) (inl m) =
            let k : j ≡ p.work + (j - p.work) = omega arith in
            let b : j - p.work < bytes_for p.rows = omega arith in
            let t : bit_in w' (p.work + (j - p.work)) c ≡ 1 = ap (λ (n : ℕ). bit_in w' n c) (sym k) ∙ e in
            let low : c < 8 = byte_bits p.flag (alive_set_at p alive) p.rows (j - p.work) c (sym (own (j - p.work) c b) ∙ t) in
            let q = both_true (ltb (8 * (j - p.work) + c) p.rows) _ (sym (own-bit (j - p.work) c b low) ∙ eq-eqb _ 1 t) in
            record {
              row = address s (8 * (j - p.work) + c);
              segment = h;
              inside = ltb-true (8 * (j - p.work) + c) p.rows q.0;
              byte = let d : (8 * (j - p.work) + c) / 8 ≡ j - p.work = omega arith in k ∙ ap (λ (n : ℕ). p.work + n) (sym d);
              bit = omega arith;
            }

    laid_more : Shown stands (up_to (suc s)) w'
    laid_more = record { each = each_then; only = only_then }

  laid_shown : (bits : List ℕ) → bits ≡ replicate (length bits) 0 → Room stands bits → (s : ℕ) → s ≤ length stands
      → Shown stands (up_to s) (laid_out stands alive bits s) × (length (laid_out stands alive bits s) ≡ length bits)
  unfolding laid_out
  laid_shown bits z room zero h = (
    record {
      each = λ a. none_shown stands bits z a ∙ sym (ap (λ (b : Bool). b && alive_at stands alive a) (le-ltb a.segment 0 (omega arith)));
      only = λ i c e. absurd (zero_bit bits z i c e);
    },
    refl,
  )
  laid_shown bits z room (suc s) h =
      let l : s < length stands = omega arith in
      let ih = laid_shown bits z room s (omega arith) in
      let r : Room stands (laid_out stands alive bits s) = rw ih.1 room in
      (laid_more s l (laid_out stands alive bits s) r ih.0, put-long (stand_at stands s).work _ _ _ (laid_out stands alive bits s) (r s l) ∙ ih.1)

  module _ (bits : List ℕ) (z : bits ≡ replicate (length bits) 0) (room : Room stands bits) where
    pub laid-long : length (laid_out stands alive bits (length stands)) ≡ length bits
    laid-long = (laid_shown bits z room (length stands) (le_refl (length stands))).1

    pub laid-all : Shown stands (alive_at stands alive) (laid_out stands alive bits (length stands))
    unfolding alive_at
    laid-all = shown_as (alive_at stands alive) (laid_shown bits z room (length stands) (le_refl (length stands))).0 (λ a. once a)
      where
        twice : (x y : Bool) → x && (x && y) ≡ x && y
        twice true y = refl
        twice false y = refl

        once : (a : Address) → ltb a.segment (length stands) && alive_at stands alive a ≡ alive_at stands alive a
        once a = twice (ltb a.segment (length stands)) _
