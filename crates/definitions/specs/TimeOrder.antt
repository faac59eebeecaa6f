-- The time order of the alive rows, and its answers (document 01, "Time order", and 02, (e)). Assumes nothing.
use Rattle.std.specs.Prelude.{ℕ, zero, suc, ◌+◌, ◌%◌, ◌^◌, List, [], ◌∷◌, ◌++◌, map, ◌≡◌, Bool, true, ◌&&◌, ◌||◌, cond, not, length, get_or, eqb, ltb}
use Rattle.definitions.specs.Lists.{up_to, any, not_falling}
use Rattle.definitions.specs.Segment.{Segment, SegmentRecord, Sections, Address, segments_from}
use Rattle.definitions.specs.Row.{row_values, is_present}
use Rattle.definitions.specs.Types.{DateTime}
use Rattle.definitions.specs.Join.{absent}
use Rattle.definitions.specs.Checks.{Check, check, first_of}
use Rattle.definitions.specs.Answer.{alive_addresses, lists_alive_rows, plain_checks}
use Rattle.definitions.specs.Outcome.{written}

-- no mode, required type or addresses; the space is the number of addresses that the output has place for
pub record TimeInput : Type 0 where
  pub records : List SegmentRecord
  pub sections : Sections
  pub space : ℕ

-- ---- keys

-- a time as a number that keeps the order of two's complement
abbrev pub time_of : ℕ → ℕ
time_of w = (w + 2 ^ 63) % 2 ^ 64

-- the key of a row's values: its time plus one, so that 0 stays for "before all times"; else the key given
abbrev pub key_or : List ℕ → ℕ → ℕ
key_or [] k = k
key_or (w ∷ ws) k = suc (time_of w)

-- the key of the first of these rows that has a time; 0, before all times, if none has
abbrev pub first_key : Segment → List ℕ → ℕ
first_key s [] = 0
first_key s (r ∷ rs) = key_or (row_values s r) (first_key s rs)

-- the key of the last of the first n rows that has a time, else of the first row of the segment that has one
abbrev pub key_after : Segment → ℕ → ℕ
key_after s zero = first_key s (up_to s.rows)
key_after s (suc n) = key_or (row_values s n) (key_after s n)

-- a row's time, else the last time before it in its segment, else the first one after it, else before all times; withdrawn rows give their time
unfoldable pub key_of : List Segment → Address → ℕ
key_of ss a = key_after (get_or ss a.segment absent) (suc a.row)

-- ---- the order: by key, segment, row

unfoldable pub is_before : List Segment → Address → Address → Bool
is_before ss a b =
    ltb (key_of ss a) (key_of ss b)
    || (eqb (key_of ss a) (key_of ss b)
    && (ltb a.segment b.segment
    || (eqb a.segment b.segment && ltb a.row b.row)))

abbrev pub insert_address : List Segment → Address → List Address → List Address
insert_address ss a [] = a ∷ []
insert_address ss a (b ∷ bs) = cond (is_before ss a b) (a ∷ b ∷ bs) (b ∷ insert_address ss a bs)

abbrev pub sort_addresses : List Segment → List Address → List Address
sort_addresses ss [] = []
sort_addresses ss (a ∷ bs) = insert_address ss a (sort_addresses ss bs)

unfoldable pub time_order : List Segment → List Address
time_order ss = sort_addresses ss (alive_addresses ss)

-- ---- that it is sorted

-- a comes before the first of them, and each before the next
abbrev pub in_order_from : List Segment → Address → List Address → Bool
in_order_from ss a [] = true
in_order_from ss a (b ∷ bs) = is_before ss a b && in_order_from ss b bs

-- each comes before the next
abbrev pub in_time_order : List Segment → List Address → Bool
in_time_order ss [] = true
in_time_order ss (a ∷ bs) = in_order_from ss a bs

-- alive rows sorted: each is listed once, nothing else is, and they are in order. The time order is this for any segments (proofs/TimeOrder)
pub record IsTimeOrder (ss : List Segment) (addresses : List Address) : Type 0 where
  pub alive : lists_alive_rows ss addresses ≡ true
  pub rising : in_time_order ss addresses ≡ true

-- ---- answers

-- 12: another type, a row of several times, or times falling within a segment
unfoldable pub times_wrong : List Segment → Bool
times_wrong ss =
    any
    (λ s.
    (is_present s && not (eqb s.type DateTime))
    || any (λ r. ltb 1 (length (row_values s r))) (up_to s.rows)
    || not (not_falling (map time_of s.values)))
    ss

-- 11 and 12, after the segments' own
abbrev pub time_own_checks : TimeInput → List Check
time_own_checks i =
    check 11 (ltb i.space (length (alive_addresses (segments_from i.records i.sections))))
    ∷ check 12 (times_wrong (segments_from i.records i.sections))
    ∷ []

-- the time order's checks in their order
unfoldable pub time_checks : TimeInput → List Check
time_checks i = plain_checks i.records i.sections ++ time_own_checks i

unfoldable pub time_answer : TimeInput → ℕ
time_answer i = first_of (time_checks i)

-- the answer: how many addresses were written, or the number of the first check that fails
pub data TimeAnswer : Type 0 where
  sorted : ℕ → TimeAnswer
  unsorted : ℕ → TimeAnswer

abbrev pub time_number_of : TimeAnswer → ℕ
time_number_of (sorted n) = 0
time_number_of (unsorted k) = k

-- what a call gives, and the lent output as it leaves it
pub record TimeOutcome : Type 0 where
  pub answer : TimeAnswer
  pub addresses : List Address

-- the whole outcome of a call that is lent the output; the input's space is its length. A refusal changes nothing, and what stands beyond the addresses stays
unfoldable pub time_outcome : TimeInput → List Address → TimeOutcome
time_outcome i output =
    record {
      answer = cond (eqb (time_answer i) 0) (sorted (length (time_order (segments_from i.records i.sections)))) (unsorted (time_answer i));
      addresses = cond (eqb (time_answer i) 0) (written (time_order (segments_from i.records i.sections)) output) output;
    }
