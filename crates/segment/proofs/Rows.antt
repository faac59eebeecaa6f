-- A record as a row of numbers of 32 bits, and back. Assumes nothing.
use Prim.Native.Nat.{ℕ, ◌+◌, ◌*◌, ◌/◌, ◌%◌, ◌<◌}
use native.Mathlib.Nat.{div-add-mod'}
use native.Mathlib.Omega.{arith}
use mathlib.Core.Path.{◌≡◌, sym, subst}
use mathlib.Core.Bool.{true}
use mathlib.Core.List.{List}
use lib.ListN.{length, get_or, take}
use lib.Seq.{get_or-take, length-take-le}
use lib.Dec.{T, ltb, ltb→lt}
use Rattle.definitions.specs.Lists.{all_below}
use Rattle.definitions.specs.Segment.{SegmentRecord, pair, record_from, record_width, narrow_numbers}
use Rattle.segment.specs.Records.{whole, low_half, high_half, row_of, record_row, row_record}
use Rattle.lists.proofs.Lists.{all-at}

-- a number of 64 bits is that of its halves
pub whole-halves : (w : ℕ) → whole (low_half w) (high_half w) ≡ w
whole-halves w = let e : w / 4294967296 * 4294967296 + w % 4294967296 ≡ w = div-add-mod' w 4294967296 in omega arith

pub row_back : (r : SegmentRecord) → row_record (record_row r) ≡ r
row_back r =
    λ i.
    record {
      type = r.type;
      kind = r.kind;
      rows = r.rows;
      ids = r.ids;
      offsets = r.offsets;
      values = r.values;
      terms = r.terms;
      flag = r.flag;
      alive_count = r.alive_count;
      pair = pair (whole-halves r.pair.least i) (whole-halves r.pair.greatest i);
    }

-- a record's numbers, in a row and back
pub numbers_back : (n : List ℕ) → row_record (row_of n) ≡ record_from n
numbers_back n =
    λ i.
    record {
      type = get_or n 0 0;
      kind = get_or n 1 0;
      rows = get_or n 2 0;
      ids = get_or n 3 0;
      offsets = get_or n 4 0;
      values = get_or n 5 0;
      terms = get_or n 6 0;
      flag = get_or n 7 0;
      alive_count = get_or n 8 0;
      pair = pair (whole-halves (get_or n 9 0) i) (whole-halves (get_or n 10 0) i);
    }

-- a narrow number
pub narrow_at : (n : List ℕ) (k : ℕ) → k < narrow_numbers → length n ≡ record_width → all_below 4294967296 (take narrow_numbers n) ≡ true → get_or n k 0 < 4294967296
unfolding all_below
narrow_at n k h l e =
    let m : length (take narrow_numbers n) ≡ narrow_numbers = length-take-le narrow_numbers n (omega arith) in
    let p = ltb→lt (get_or (take narrow_numbers n) k 0) 4294967296 (all-at (λ (x : ℕ). ltb x 4294967296) (take narrow_numbers n) k 0 (subst T (sym e) tt) (omega arith)) in
    subst (λ (x : ℕ). x < 4294967296) (get_or-take narrow_numbers n k 0 h) p
