-- What the checks up to 7 say of the lent segments. Assumes nothing.
use Prim.Native.Nat.{ℕ, ◌≤◌}
use native.Mathlib.Omega.{arith}
use mathlib.Core.Path.{◌≡◌}
use mathlib.Core.Bool.{false}
use mathlib.Core.List.{List}
use lib.Dec.{T}
use lib.ListN.{length}
use borrow.Author.Tests.{ltb-false}
use Rattle.definitions.specs.Lists.{all, any}
use Rattle.definitions.specs.Segment.{Segment}
use Rattle.definitions.specs.Answer.{greatest_sum, sum_over, bytes_in, too_many_segments, segment_codes_wrong, index_fits, values_fit, alive_set_wrong}
use Rattle.definitions.proofs.Accept as Accept
use Rattle.definitions.proofs.Checks.{passes}
use Rattle.segment.specs.Records.{records_of, sections_in, segments_in}
use Rattle.segment.specs.Lent.{Checked}
use Rattle.segment.proofs.Walk.{records-long}

module _ {records : List (List ℕ)} {ids offsets values lengths bytes alive : List ℕ} (c : Checked records ids offsets values lengths bytes alive) where
  abbrev ss : List Segment
  ss = segments_in records ids offsets values lengths bytes alive

  pub few-records : length records ≤ 256
  unfolding too_many_segments
  few-records = omega (arith, ltb-false 256 (length (records_of records)) (passes c.passed 1), records-long records)

  pub codes_right : segment_codes_wrong ss ≡ false
  codes_right = passes c.passed 3

  pub index-fits : T (all index_fits ss)
  index-fits = Accept.index-fits (records_of records) (sections_in ids offsets values lengths bytes alive) c.passed

  pub values-fit : T (all values_fit ss)
  values-fit = Accept.values-fit (records_of records) (sections_in ids offsets values lengths bytes alive) c.passed

  pub alive_right : any alive_set_wrong ss ≡ false
  alive_right = passes c.passed 6

  pub sums_low : (sum_over (λ (s : Segment). s.rows) ss ≤ greatest_sum) × (sum_over (λ (s : Segment). length s.values) ss ≤ greatest_sum) × (sum_over bytes_in ss ≤ greatest_sum)
  sums_low = Accept.sums_low ss (passes c.passed 7)
