-- What each function's turn or return says. Assumes nothing.
use Prim.Native.Nat.{ℕ, zero, suc, ◌+◌, ◌-◌, ◌*◌, ◌/◌, ◌%◌, ◌^◌, ◌≤◌, ◌<◌}
use native.Mathlib.Numerals.{add-one}
use native.Mathlib.Omega.{arith}
use mathlib.Core.Path.{◌≡◌, refl, sym, ap, ap₂, ◌∙◌}
use mathlib.Core.Bool.{Bool, true, false, ◌&&◌, cond}
use mathlib.Core.List.{List, [], ◌∷◌, ◌++◌}
use lib.Dec.{eqb, ltb}
use lib.ListN.{length, take, drop, get_or, set, replicate, take-append-drop, drop_of_length-le, length-map, get_or-map}
use lib.Seq.{drop-cons}
use lib.Pow.{shl_exact}
use native.Mathlib.Nat.{one-mul}
use borrow.Author.Tests.{eq-eqb, ne_eqb, lt-ltb, le-ltb}
use Rattle.definitions.specs.Lists.{all_below}
use Rattle.definitions.specs.Segment.{Address, address_from, address}
use Rattle.segment.specs.Lent.{addresses_of}
use Rattle.stands.specs.declared.Stand.{Stand}
use Rattle.stands.specs.Stand.{stand_at}
use Rattle.stands.specs.Look.{alive_set_at}
use Rattle.stands.proofs.Fill.{table-length, table_at}
use Rattle.runs.specs.Put.{put}
use Rattle.runs.proofs.Laws.{length-put}
use Rattle.runs.proofs.Zeros.{part-zero}
use Rattle.lists.proofs.Parts.{run_length}
use Rattle.merge_mapping.specs.Mapping.{bytes_for, alive_byte, alive_bytes, laid_out, Worded, is_left, without, takes, left_by}

-- ---- a segment's bits laid out

module _ (flag : ℕ) (words : List ℕ) (rows : ℕ) where
  pub bytes-length : length (alive_bytes flag words rows) ≡ bytes_for rows
  unfolding alive_bytes
  bytes-length = table-length (alive_byte flag words rows) (bytes_for rows)

  pub bytes-at : (i : ℕ) → i < bytes_for rows → alive_byte flag words rows i ≡ get_or (alive_bytes flag words rows) i 0
  unfolding alive_bytes
  bytes-at i h = sym (table_at (alive_byte flag words rows) 0 (bytes_for rows) i h)

-- where the code finds a segment's words
pub words_reach : {p : Stand} {alive : List ℕ} → Worded p alive → p.flag ≡ 1 → p.rows ≤ 64 * length (alive_set_at p alive)
words_reach {p} {alive} w e = rw (run_length p.alive.from p.alive.to alive w.lie.ends) (w.enough e)

pub laid_start : (stands : List (List ℕ)) (alive bits : List ℕ) → bits ≡ laid_out stands alive bits 0
unfolding laid_out
laid_start stands alive bits = refl

pub laid_next : (stands : List (List ℕ)) (alive bits : List ℕ) (s : ℕ) {p : Stand} {w w' : List ℕ} → p ≡ stand_at stands s → w ≡ laid_out stands alive bits s
    → w' ≡ put p.work (alive_bytes p.flag (alive_set_at p alive) p.rows) w → w' ≡ laid_out stands alive bits (s + 1)
unfolding laid_out
laid_next stands alive bits s e q o =
    rw (add-one s) (o ∙ ap₂ (λ (q : Stand) (l : List ℕ). put q.work (alive_bytes q.flag (alive_set_at q alive) q.rows) l) e q)

pub put-long : (at : ℕ) (flag : ℕ) (words : List ℕ) (rows : ℕ) (w : List ℕ) → at + rows ≤ length w → length (put at (alive_bytes flag words rows) w) ≡ length w
put-long at flag words rows w h = length-put at (alive_bytes flag words rows) w (omega (arith, bytes-length flag words rows))

-- ---- one address

-- what a bit adds to a byte
weight : (b : ℕ) → b < 8 → 1 * 2 ^ b % 256 ≡ 2 ^ b
weight b h = shl_exact 1 b 8 (omega arith) (omega arith) ∙ one-mul (2 ^ b)

module _ (stands : List (List ℕ)) (bits : List ℕ) (seg row : ℕ) where
  pub left-absent : length stands ≤ seg → false ≡ is_left stands bits (address seg row)
  unfolding is_left
  left-absent h = rw (le-ltb seg (length stands) h)

  module _ (h : seg < length stands) {p : Stand} (e : p ≡ stand_at stands seg) where
    left_here : ltb row p.rows && eqb (get_or bits (p.work + row / 8) 0 / 2 ^ (row % 8) % 2) 1 ≡ is_left stands bits (address seg row)
    unfolding is_left
    left_here = ap (λ (q : Stand). ltb row q.rows && eqb (get_or bits (q.work + row / 8) 0 / 2 ^ (row % 8) % 2) 1) e ∙ rw (lt-ltb seg (length stands) h)

    pub left_past : p.rows ≤ row → false ≡ is_left stands bits (address seg row)
    left_past l = ap (λ (b : Bool). b && eqb (get_or bits (p.work + row / 8) 0 / 2 ^ (row % 8) % 2) 1) (sym (le-ltb row p.rows l)) ∙ left_here

    module _ (l : row < p.rows) where
      left-found : eqb (get_or bits (p.work + row / 8) 0 / 2 ^ (row % 8) % 2) 1 ≡ is_left stands bits (address seg row)
      left-found = ap (λ (b : Bool). b && eqb (get_or bits (p.work + row / 8) 0 / 2 ^ (row % 8) % 2) 1) (sym (lt-ltb row p.rows l)) ∙ left_here

      pub left_no : (get_or bits (p.work + row / 8) 0 / 2 ^ (row % 8) % 2 ≡ 1 → ⊥) → false ≡ is_left stands bits (address seg row)
      left_no n = sym (ne_eqb _ 1 n) ∙ left-found

      pub left_yes : get_or bits (p.work + row / 8) 0 / 2 ^ (row % 8) % 2 ≡ 1 → true ≡ is_left stands bits (address seg row)
      left_yes n = sym (eq-eqb _ 1 n) ∙ left-found

    pub left_out : set bits (p.work + row / 8) (get_or bits (p.work + row / 8) 0 - 1 * 2 ^ (row % 8) % 256) ≡ without stands bits (address seg row)
    unfolding without
    left_out = rw (weight (row % 8) (omega arith), e)

-- ---- a turn of the loop over the addresses

module _ (stands : List (List ℕ)) (addresses : List (List ℕ)) (bits : List ℕ) (j : ℕ) (h : j < length addresses) where
  abbrev now : Address
  now = address_from (get_or addresses j [])

  next-is : drop j (addresses_of addresses) ≡ now ∷ drop (j + 1) (addresses_of addresses)
  next-is =
      rw (add-one j)
      (drop-cons (addresses_of addresses) j (address_from []) (rw (length-map addresses address_from) h)
      ∙ ap (λ (a : Address). a ∷ drop (suc j) (addresses_of addresses)) (get_or-map address_from addresses j []))

  module _ {b : Bool} {w : List ℕ} (e : b ≡ is_left stands bits now) (o : w ≡ cond b (without stands bits now) bits) where
    pub turn-none : b ≡ false → (false ≡ takes stands bits (drop j (addresses_of addresses))) × (w ≡ left_by stands bits (drop j (addresses_of addresses)))
    unfolding takes left_by
    turn-none f = rw (o, next-is, ← e, f) (refl, refl)

    pub turn-some : b ≡ true → (takes stands w (drop (j + 1) (addresses_of addresses)) ≡ takes stands bits (drop j (addresses_of addresses)))
        × (left_by stands w (drop (j + 1) (addresses_of addresses)) ≡ left_by stands bits (drop j (addresses_of addresses)))
    unfolding takes left_by
    turn-some t = rw (o, next-is, ← e, t) (refl, refl)

pub turn_end : (stands : List (List ℕ)) (bits : List ℕ) (addresses : List (List ℕ)) (j : ℕ) → length addresses ≤ j
    → (true ≡ takes stands bits (drop j (addresses_of addresses))) × (bits ≡ left_by stands bits (drop j (addresses_of addresses)))
unfolding takes left_by
turn_end stands bits addresses j h = rw (drop_of_length-le (addresses_of addresses) (let l : length (addresses_of addresses) ≤ j = rw (length-map addresses address_from) h in l)) (refl, refl)

-- ---- a turn of the last scan

pub none-next : (bits : List ℕ) (i : ℕ) (none : Bool) → i < length bits → all_below 1 (drop (i + 1) bits) && (none && eqb (get_or bits i 0) 0) ≡ all_below 1 (drop i bits) && none
unfolding all_below
none-next bits i none h = rw (add-one i, drop-cons bits i 0 h, below-one (get_or bits i 0)) (swap (all_below 1 (drop (suc i) bits)) (eqb (get_or bits i 0) 0) none)
  where
    below-one : (n : ℕ) → ltb n 1 ≡ eqb n 0
    below-one zero = refl
    below-one (suc n) = le-ltb (suc n) 1 (omega arith) ∙ sym (ne_eqb (suc n) 0 (λ e. omega arith))

    swap : (a b c : Bool) → a && (c && b) ≡ (b && a) && c
    swap true true true = refl
    swap true true false = refl
    swap true false true = refl
    swap true false false = refl
    swap false true c = refl
    swap false false c = refl

pub none_end : (bits : List ℕ) (i : ℕ) (none : Bool) → length bits ≤ i → all_below 1 (drop i bits) && none ≡ none
unfolding all_below
none_end bits i none h = rw (drop_of_length-le bits h)

-- ---- the front of the working bytes, zero again

pub front_again : (work : List ℕ) (rows : ℕ) → rows ≤ length work → work ≡ replicate (length work) 0 → (m : List ℕ) → m ≡ replicate (length (take rows work)) 0 → m ++ drop rows work ≡ replicate (length work) 0
front_again work rows h z m e = ap (λ (l : List ℕ). l ++ drop rows work) (e ∙ sym (part-zero work rows h z)) ∙ take-append-drop rows work ∙ z
