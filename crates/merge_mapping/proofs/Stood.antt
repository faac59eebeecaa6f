-- Check 9, made on the table that the pass over the records fills, is the definitions' own. Assumes nothing.
use Prim.Native.Nat.{ℕ, suc, ◌+◌, ◌*◌, ◌≤◌, ◌<◌}
use native.Mathlib.Nat.{add-sub_cancel_left}
use native.Mathlib.Omega.{arith}
use mathlib.Core.Path.{◌≡◌, refl, sym, ap, ◌∙◌, subst}
use mathlib.Core.Bool.{Bool, true, false, not, ◌&&◌}
use mathlib.Core.List.{List, []}
use lib.Dec.{ltb, leb}
use lib.Ieee.Bits.{is_true}
use lib.ListN.{length, get_or, take, drop, replicate}
use borrow.Author.Tests.{ltb-true, le-leb, not-false}
use Rattle.definitions.specs.Lists.{all, all_below}
use Rattle.definitions.specs.Segment.{Segment, Address, alive_words, first_segment}
use Rattle.definitions.specs.Row.{bit_at, is_alive}
use Rattle.definitions.specs.Join.{absent, stacked_from}
use Rattle.definitions.specs.Answer.{total, bit_past_rows, alive_set_wrong, is_listed, is_repeated, is_alive_at, alive_addresses, lists_alive_rows}
use Rattle.definitions.proofs.AliveNumber.{none_past as six-past}
use Rattle.definitions.proofs.Lists.{any_false, all_mem, all_of, mem_at, mem_up_to, mem-filter, filter_back}
use Rattle.definitions.proofs.Accept.{mem_stacked}
use Rattle.definitions.proofs.TimeOrder.{alive_back}
use Rattle.lists.proofs.Parts.{part-is}
use Rattle.lists.proofs.Tests.{true-T}
use Rattle.segment.specs.Records.{records_of, sections_in, record_at, start_at}
use Rattle.segment.proofs.At.{sections_at, segment-is, segments-many, start_total, start_mono, start_fits}
use Rattle.segment.proofs.Walk.{words-enough}
use Rattle.stands.specs.declared.Stand.{Stand}
use Rattle.stands.specs.Stand.{stand_of, numbers_of, stand_at, stand_in, stands_in}
use Rattle.stands.specs.Look.{alive_set_at}
use Rattle.stands.proofs.Fill.{table_at, many-stands}
use Rattle.merge_mapping.specs.Mapping.{rows_in, laid_out, Worded, AllWorded, Room, takes, left_by, segments_by, Blank}
use Rattle.merge_mapping.proofs.Bytes.{alive_bit, all-zero}
use Rattle.merge_mapping.proofs.Turns.{words_reach}
use Rattle.merge_mapping.proofs.Left.{Apart, Shown, shown_as, takes-is, left_is, left-long, none_shown, shown_none}
use Rattle.merge_mapping.proofs.Laid.{NonePast, alive_at, laid-long, laid-all}

-- ---- one segment

-- what 9 reads of a segment
record Says (p : Stand) (alive : List ℕ) (s : Segment) : Type 0 where
  rows : p.rows ≡ s.rows
  flag : p.flag ≡ s.flag
  words : alive_set_at p alive ≡ s.alive

module _ (records : List (List ℕ)) (k : ℕ) (h : k < length records) where
  there : stand_at (stands_in records) k ≡ stand_in records k
  there = ap stand_of (table_at (λ j. numbers_of (stand_in records j)) [] (length records) k h)

  module _ (alive : List ℕ) where
    says_first : Says (stand_in records k) alive (first_segment (record_at records k) (sections_at k (records_of records) (sections_in [] [] [] [] [] alive)))
    unfolding stand_in first_segment sections_at
    says_first =
        let s = start_at alive_words records k in
        let n = alive_words (record_at records k) in
        record {
          rows = refl;
          flag = refl;
          words = part-is n s (s + n) alive refl ∙ ap (λ (m : ℕ). take n (drop m alive)) (start_total alive_words records k (omega arith));
        }

    says : Says (stand_at (stands_in records) k) alive (get_or (segments_by (records_of records) alive) k absent)
    says =
        subst (λ (p : Stand). Says p alive (get_or (segments_by (records_of records) alive) k absent)) (sym there)
        (subst (λ (s : Segment). Says (stand_in records k) alive s) (sym (segment-is records (sections_in [] [] [] [] [] alive) k h)) says_first)

    worded : total alive_words (records_of records) ≤ length alive → Worded (stand_at (stands_in records) k) alive
    unfolding stand_in
    worded u =
        subst (λ (p : Stand). Worded p alive) (sym there)
        (record {
          lie = record { rises = omega arith; ends = start_fits alive_words records (length alive) k u h };
          enough = λ e. rw (add-sub_cancel_left (start_at alive_words records k) (alive_words (record_at records k))) (words-enough (record_at records k) e);
        })

  -- its bytes end where those of the next segment begin
  bytes-end : (stand_at (stands_in records) k).work + (stand_at (stands_in records) k).rows ≡ start_at rows_in records (suc k)
  unfolding stand_in
  bytes-end = ap (λ (p : Stand). p.work + p.rows) there

  bytes_begin : (stand_at (stands_in records) k).work ≡ start_at rows_in records k
  unfolding stand_in
  bytes_begin = ap (λ (p : Stand). p.work) there

none_past : {p : Stand} {alive : List ℕ} {s : Segment} → Says p alive s → Worded p alive → bit_past_rows s ≡ false → NonePast p alive
unfolding bit_past_rows
none_past {p} {alive} {s} t w e r f h l =
    let n : r < 64 * length (alive_set_at p alive) = omega (arith, words_reach w f) in
    let q = any_false (λ r. leb s.rows r && bit_at s.alive r) _ e (mem_up_to (64 * length s.alive) r (subst (λ (l : List ℕ). r < 64 * length l) t.words n)) in
    ap (λ (l : List ℕ). bit_at l r) t.words ∙ sym (ap (λ (b : Bool). b && bit_at s.alive r) (le-leb s.rows r (omega (arith, t.rows)))) ∙ q

-- ---- all of them

-- no bit is left exactly if every alive row is listed
none_missing : (stands : List (List ℕ)) (ss : List Segment) (bs : List Address) (bits : List ℕ) → Shown stands (λ a. is_alive_at ss a && not (is_listed a bs)) bits
    → all_below 1 bits ≡ all (λ a. is_listed a bs) (alive_addresses ss)
unfolding alive_addresses
none_missing stands ss bs bits s = go (all_below 1 bits) refl (all (λ a. is_listed a bs) (alive_addresses ss)) refl
  where
    listed : all_below 1 bits ≡ true → (a : Address) → is_alive_at ss a ≡ true → is_listed a bs ≡ true
    listed z a e = not-false (is_listed a bs) (sym (ap (λ (b : Bool). b && not (is_listed a bs)) e) ∙ sym (s.each a) ∙ none_shown stands bits (all-zero bits z) a)

    found : all (λ a. is_listed a bs) (alive_addresses ss) ≡ true → (a : Address) → (b : Bool) → is_alive_at ss a ≡ b → b && not (is_listed a bs) ≡ false
    found f a false e = refl
    found f a true e =
        let v = alive_back ss a e in
        ap not
        (is_true (is_listed a bs)
        (all_mem (λ a. is_listed a bs) (alive_addresses ss) (true-T _ f) (mem-filter (is_alive_at ss) {x = a} (stacked_from 0 ss) e (mem_stacked ss a.segment a.row v.segment v.row))))

    go : (x : Bool) → all_below 1 bits ≡ x → (y : Bool) → all (λ a. is_listed a bs) (alive_addresses ss) ≡ y → x ≡ y
    go true p y q =
        sym (is_true _ (all_of (λ a. is_listed a bs) (alive_addresses ss) (λ a m. true-T (is_listed a bs) (listed p a (filter_back (is_alive_at ss) (stacked_from 0 ss) m).1)))) ∙ q
    go false p true q = sym p ∙ shown_none stands (λ a. is_alive_at ss a && not (is_listed a bs)) bits s (λ a. found q a (is_alive_at ss a) refl)
    go false p false q = refl

module _ (records : List (List ℕ)) (alive bits : List ℕ) (u : Blank (records_of records) alive bits) where
  abbrev ss : List Segment
  ss = segments_by (records_of records) alive

  within : {k : ℕ} → k < length (stands_in records) → k < length records
  within h = omega (arith, many-stands records)

  apart : Apart (stands_in records)
  apart k l h q =
      omega (arith, bytes-end records k (omega (arith, within q)), bytes_begin records l (within q), start_mono rows_in records (suc k) l h)

  room : Room (stands_in records) bits
  room k h = omega (arith, start_fits rows_in records (length bits) k (omega (arith, u.long)) (within h), bytes-end records k (within h))

  words : AllWorded (stands_in records) alive
  words k h = worded records k (within h) alive u.held

  past : (k : ℕ) → k < length (stands_in records) → NonePast (stand_at (stands_in records) k) alive
  past k h =
      none_past (says records k (within h) alive) (words k h)
      (six-past (get_or ss k absent) (any_false alive_set_wrong ss u.within (mem_at ss k absent (omega (arith, segments-many records (sections_in [] [] [] [] [] alive), within h)))))

  alive-is : (a : Address) → alive_at (stands_in records) alive a ≡ is_alive_at ss a
  unfolding alive_at is_alive_at is_alive
  alive-is a = rw (many-stands records, segments-many records (sections_in [] [] [] [] [] alive)) (go (ltb a.segment (length records)) refl)
    where
      go : (b : Bool) → ltb a.segment (length records) ≡ b
          → b && (ltb a.row (stand_at (stands_in records) a.segment).rows && alive_bit (stand_at (stands_in records) a.segment).flag (alive_set_at (stand_at (stands_in records) a.segment) alive) a.row)
          ≡ b && ltb a.row (get_or ss a.segment absent).rows && alive_bit (get_or ss a.segment absent).flag (get_or ss a.segment absent).alive a.row
      go false e = refl
      go true e =
          let s = says records a.segment (ltb-true a.segment (length records) e) alive in
          λ i. ltb a.row (s.rows i) && alive_bit (s.flag i) (s.words i) a.row

  abbrev laid : List ℕ
  laid = laid_out (stands_in records) alive bits (length (stands_in records))

  long : length laid ≡ length bits
  long = laid-long (stands_in records) alive apart past bits u.clean room

  shown : Shown (stands_in records) (is_alive_at ss) laid
  shown = shown_as (is_alive_at ss) (laid-all (stands_in records) alive apart past bits u.clean room) alive-is

  roomy : Room (stands_in records) laid
  roomy = rw long room

  -- the table as it is lent
  module _ {t : List (List ℕ)} (is : t ≡ stands_in records) where
    pub words-lent : AllWorded t alive
    words-lent = rw is words

    pub room-lent : Room t bits
    room-lent = rw is room

    module _ {w : List ℕ} (e : w ≡ laid_out t alive bits (length t)) where
      then : w ≡ laid
      then = e ∙ ap (λ (l : List (List ℕ)). laid_out l alive bits (length l)) is

      pub room_then : Room t w
      room_then = rw (is, then) roomy

      module _ (bs : List Address) {b : Bool} (q : b ≡ takes t w bs) where
        taken : b ≡ all (is_alive_at ss) bs && not (is_repeated bs)
        taken = q ∙ (λ i. takes (is i) (then i) bs) ∙ takes-is (stands_in records) apart bs (is_alive_at ss) laid roomy shown

        pub once_bad : b ≡ false → false ≡ lists_alive_rows ss bs
        unfolding lists_alive_rows
        once_bad f = rw (← taken, f)

        module _ (g : b ≡ true) {v : List ℕ} (o : v ≡ left_by t w bs) where
          rest : v ≡ left_by (stands_in records) laid bs
          rest = o ∙ (λ i. left_by (is i) (then i) bs)

          -- alive rows that are not listed
          missing : Shown (stands_in records) (λ a. is_alive_at ss a && not (is_listed a bs)) v
          missing = rw rest (left_is (stands_in records) apart bs (is_alive_at ss) laid roomy shown (sym (q ∙ (λ i. takes (is i) (then i) bs)) ∙ g))

          pub once_good : {d : Bool} → d ≡ all_below 1 v → d ≡ lists_alive_rows ss bs
          unfolding lists_alive_rows
          once_good r = rw (← taken, g) (r ∙ none_missing (stands_in records) ss bs v missing)

          pub once_clean : {d : Bool} → d ≡ all_below 1 v → d ≡ true → v ≡ replicate (length bits) 0
          once_clean r h = all-zero v (sym r ∙ h) ∙ ap (λ (n : ℕ). replicate n 0) (ap length rest ∙ left-long (stands_in records) bs laid ∙ long)
