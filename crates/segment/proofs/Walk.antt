-- The laws of a walk over the records. Assumes nothing.
use mathlib.Core.Path.{◌≡◌, sym, ap, ◌∙◌}
use mathlib.Core.List.{List, [], ◌∷◌}
use Prim.Native.Nat.{ℕ, ◌+◌, ◌/◌, ◌≤◌, ◌<◌, ◌*◌}
use native.Mathlib.Numerals.{add-one}
use lib.ListN.{length, drop, get_or, drop_of_length-le, length-map, get_or-map}
use lib.Seq.{drop-cons}
use borrow.Author.Tests.{eq-eqb}
use Rattle.definitions.specs.Segment.{SegmentRecord, alive_words}
use Rattle.definitions.specs.Answer.{total}
use Rattle.segment.specs.declared.Record.{Record}
use Rattle.segment.specs.Records.{row_record, struct_of, record_in, records_of}
use native.Mathlib.Omega.{arith}

-- ---- records

pub records-long : (records : List (List ℕ)) → length (records_of records) ≡ length records
records-long records = length-map records row_record

pub record_is : (records : List (List ℕ)) (k : ℕ) {r : Record} → r ≡ struct_of (get_or records k []) → get_or (records_of records) k (row_record []) ≡ record_in r
record_is records k e = get_or-map row_record records k [] ∙ ap record_in (sym e)

pub records-end : (records : List (List ℕ)) (s : ℕ) → length records ≤ s → records_of (drop s records) ≡ []
records-end records s h = rw (drop_of_length-le records h)

module _ (records : List (List ℕ)) (s : ℕ) (h : s < length records) {r : Record} (e : r ≡ struct_of (get_or records s [])) where
  pub records-step : records_of (drop s records) ≡ record_in r ∷ records_of (drop (s + 1) records)
  records-step = rw (e, add-one s, drop-cons records s [] h)

  pub total_step : (f : SegmentRecord → ℕ) → total f (records_of (drop s records)) ≡ f (record_in r) + total f (records_of (drop (s + 1) records))
  total_step f = ap (total f) records-step

-- ---- alive words

words-some : (r : SegmentRecord) → r.flag ≡ 1 → alive_words r ≡ (r.rows + 63) / 64
unfolding alive_words
words-some r e = rw (eq-eqb r.flag 1 e)

pub words-enough : (r : SegmentRecord) → r.flag ≡ 1 → r.rows ≤ 64 * alive_words r
words-enough r e = let k = words-some r e in omega arith
