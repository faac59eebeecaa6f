-- The stands that the pass over the records fills are where the segments stand. Assumes nothing.
use Prim.Native.Nat.{ℕ, ◌+◌, ◌*◌, ◌≤◌, ◌<◌}
use native.Mathlib.Nat.{add-sub_cancel_left}
use native.Mathlib.Omega.{arith}
use mathlib.Core.Path.{◌≡◌, refl, sym, ap, ◌∙◌, subst}
use mathlib.Core.List.{List}
use lib.ListN.{length, get_or, take, drop, length-drop}
use Rattle.definitions.specs.Words.{words_per_value, values_in}
use Rattle.definitions.specs.Segment.{Segment, SegmentRecord, alive_words, record_words, first_segment, segments_from}
use Rattle.definitions.specs.Join.{absent}
use Rattle.definitions.specs.Answer.{total}
use Rattle.definitions.proofs.Sections.{values-many}
use Rattle.segment.specs.Records.{records_of, sections_in, record_at, start_at}
use Rattle.segment.proofs.At.{sections_at, segment-is, start_total, start_fits}
use Rattle.segment.proofs.Walk.{words-enough}
use Rattle.stands.specs.Stand.{run, Lies, stand_in}
use Rattle.stands.proofs.Bridge.{Stands}

run_of : (a n : ℕ) (whole left : List ℕ) → left ≡ drop a whole → run a (a + n) whole ≡ take n left
run_of a n whole left e = rw (add-sub_cancel_left a n, e)

-- the sections hold the runs that the records announce
pub record Held (records : List (List ℕ)) (is os vs ws : List ℕ) : Type 0 where
  pub ids : total (λ (r : SegmentRecord). r.ids) (records_of records) ≤ length is
  pub offsets : total (λ (r : SegmentRecord). r.offsets) (records_of records) ≤ length os
  pub values : total record_words (records_of records) ≤ length vs
  pub alive : total alive_words (records_of records) ≤ length ws

-- a record's words are as many for each of its values
record-words : (r : SegmentRecord) → record_words r ≡ r.values * words_per_value r.type
unfolding record_words
record-words r = refl

-- the run of each count, behind those of the segments before
module _ (f : SegmentRecord → ℕ) (records : List (List ℕ)) (section : List ℕ) (u : total f (records_of records) ≤ length section) (k : ℕ) (h : k < length records) where
  run-there : run (start_at f records k) (start_at f records k + f (record_at records k)) section ≡ take (f (record_at records k)) (drop (total f (take k (records_of records))) section)
  run-there = run_of (start_at f records k) (f (record_at records k)) section _ (ap (λ (m : ℕ). drop m section) (sym (start_total f records k (omega arith))))

  lies_there : Lies (record { from = start_at f records k; to = start_at f records k + f (record_at records k) }) section
  lies_there = record { rises = omega arith; ends = start_fits f records (length section) k u h }

module _ (records : List (List ℕ)) (ids offsets values lengths bytes words : List ℕ) (u : Held records ids offsets values words) (k : ℕ) (h : k < length records) where
  fits : record_words (record_at records k) ≤ length (drop (total record_words (take k (records_of records))) values)
  fits =
      let e = start_total record_words records k (omega arith) in
      let f = start_fits record_words records (length values) k u.values h in
      rw (length-drop (total record_words (take k (records_of records))) values) (omega arith)

  at-stands : Stands (stand_in records k) ids offsets values words (first_segment (record_at records k) (sections_at k (records_of records) (sections_in ids offsets values lengths bytes words)))
  unfolding stand_in first_segment sections_at
  at-stands =
      record {
        kind = refl;
        rows = refl;
        flag = refl;
        live = refl;
        pair = refl;
        ids_are = run-there (λ r. r.ids) records ids u.ids k h;
        offsets_are = run-there (λ r. r.offsets) records offsets u.offsets k h;
        values_are = ap (values_in (record_at records k).type) (run-there record_words records values u.values k h);
        count = sym (values-many (record_at records k) (drop (total record_words (take k (records_of records))) values) fits);
        unit = refl;
        long = add-sub_cancel_left (start_at record_words records k) (record_words (record_at records k)) ∙ record-words (record_at records k);
        alive_are = run-there alive_words records words u.alive k h;
        ids-lie = lies_there (λ r. r.ids) records ids u.ids k h;
        offsets-lie = lies_there (λ r. r.offsets) records offsets u.offsets k h;
        values-lie = lies_there record_words records values u.values k h;
        alive-lie = lies_there alive_words records words u.alive k h;
        enough = λ e. rw (add-sub_cancel_left (start_at alive_words records k) (alive_words (record_at records k))) (words-enough (record_at records k) e);
      }

  pub stands-there : Stands (stand_in records k) ids offsets values words (get_or (segments_from (records_of records) (sections_in ids offsets values lengths bytes words)) k absent)
  stands-there =
      subst (λ (s : Segment). Stands (stand_in records k) ids offsets values words s) (sym (segment-is records (sections_in ids offsets values lengths bytes words) k h)) at-stands
