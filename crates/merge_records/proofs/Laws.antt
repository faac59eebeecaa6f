-- The join of the table's rows is the join of the records: of more than 256 either is answered by 1. Assumes nothing.
use mathlib.Core.Path.{◌≡◌, refl, sym, ◌∙◌, ap}
use mathlib.Core.Bool.{Bool, true, false}
use mathlib.Core.List.{List, [], ◌∷◌}
use Prim.Native.Nat.{ℕ, ◌≤◌, ◌<◌}
use native.Mathlib.Omega.{arith}
use lib.Dec.{ltb}
use lib.ListN.{length, take, length-map}
use borrow.Author.Tests.{lt-ltb, ltb-true, ltb-false}
use Rattle.definitions.specs.Answer.{join_checks, answer, too_many_segments}
use Rattle.definitions.specs.Outcome.{Buffers, Lent, Outcome, refused, input_of, refused_buffers, join_outcome, lent_of}
use Rattle.definitions.specs.Segment.{SegmentRecord}
use Rattle.segment.specs.Records.{row_record, record_in, records_of}
use Rattle.segment.proofs.Rows.{row_back}
use Rattle.segment.specs.declared.Record.{Record}
use Rattle.records.specs.Rows.{rows_of, records_in, count_of, laid_to}
use Rattle.records.proofs.Laws.{laid-all, laid-many}

-- more than 256 records
abbrev too_many : Buffers → Outcome
too_many b = record { answer = refused 1; buffers = refused_buffers b }

many : (l : Lent) → 256 < length l.records → join_outcome l ≡ too_many l.buffers
unfolding join_outcome join_checks answer too_many_segments input_of
many l h = rw (lt-ltb 256 (length l.records) h)

-- a row says its record
records_are : (rs : List Record) → records_of (rows_of rs) ≡ records_in rs
records_are [] = refl
records_are (r ∷ rs) = λ i. row_back (record_in r) i ∷ records_are rs i

pub rows_join : (rs : List Record) (mode required : ℕ) (ids offsets values lengths bytes alive : List ℕ) (addresses : List (List ℕ)) (b : Buffers)
    → join_outcome (lent_of mode required (records_of (take (count_of (length rs)) (laid_to rs (count_of (length rs))))) ids offsets values lengths bytes alive addresses b)
    ≡ join_outcome (lent_of mode required (records_in rs) ids offsets values lengths bytes alive addresses b)
rows_join rs mode required ids offsets values lengths bytes alive addresses b = go (ltb (length rs) 257) refl
  where
    laid : List (List ℕ)
    laid = take (count_of (length rs)) (laid_to rs (count_of (length rs)))

    outcome : List SegmentRecord → Outcome
    outcome l = join_outcome (lent_of mode required l ids offsets values lengths bytes alive addresses b)

    go : (t : Bool) → ltb (length rs) 257 ≡ t → outcome (records_of laid) ≡ outcome (records_in rs)
    go true e = ap outcome (ap records_of (laid-all rs (ltb-true (length rs) 257 e)) ∙ records_are rs)
    go false e =
        let h : 257 ≤ length rs = ltb-false (length rs) 257 e in
        let m : length (records_of laid) ≡ 257 = length-map laid row_record ∙ laid-many rs h in
        let k : length (records_in rs) ≡ length rs = length-map rs record_in in
        many (lent_of mode required (records_of laid) ids offsets values lengths bytes alive addresses b) (omega (arith, m))
        ∙ sym (many (lent_of mode required (records_in rs) ids offsets values lengths bytes alive addresses b) (omega (arith, k, h)))
