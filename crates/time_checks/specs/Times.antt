-- Check 12, over just the numbers and lists that it reads, and the number of alive rows. proofs/Own.antt says that they are the definitions' own. Assumes nothing.
use Rattle.std.specs.Prelude.{ℕ, ◌+◌, ◌≤◌, Bool, true, ◌&&◌, ◌||◌, List, [], ◌∷◌, map, length, take, drop, ◌==◌, nat_le}
use Rattle.definitions.specs.Lists.{not_falling}
use Rattle.definitions.specs.Segment.{SegmentRecord, record_words}
use Rattle.definitions.specs.Row.{no_type}
use Rattle.definitions.specs.Types.{DateTime}
use Rattle.definitions.specs.TimeOrder.{time_of}
use Rattle.definitions.specs.Answer.{total}

-- ---- 12

-- no number is more than 1 above the one before it
unfoldable pub singles_from : ℕ → List ℕ → Bool
singles_from m [] = true
singles_from m (n ∷ ns) = nat_le n (m + 1) && singles_from n ns

-- no two offsets, which begin with 0, hold several values between them
unfoldable pub singles : List ℕ → Bool
singles offsets = singles_from 0 offsets

-- in the order of two's complement
unfoldable pub times_rise : List ℕ → Bool
times_rise values = not_falling (map time_of values)

unfoldable pub fits_times : SegmentRecord → List ℕ → List ℕ → Bool
unfolding singles times_rise
fits_times r offsets values = (r.type == no_type || r.type == DateTime) && (singles offsets && times_rise values)

unfoldable pub times_from : List SegmentRecord → List ℕ → List ℕ → Bool
unfolding fits_times
times_from [] offsets values = true
times_from (r ∷ rs) offsets values = fits_times r (take r.offsets offsets) (take (record_words r) values) && times_from rs (drop r.offsets offsets) (drop (record_words r) values)

-- the sections hold the runs that the records announce
pub record HoldsTimes (rs : List SegmentRecord) (os vs : List ℕ) : Type 0 where
  pub offsets : total (λ (r : SegmentRecord). r.offsets) rs ≤ length os
  pub words : total record_words rs ≤ length vs

-- ---- 11

-- the number of alive rows that a record holds
abbrev pub alive_of : SegmentRecord → ℕ
alive_of r = r.alive_count
