-- The table that the passes over the records leave says where the input's segments stand. Assumes nothing.
use Prim.Native.Nat.{ℕ, zero, suc, ◌+◌, ◌-◌, ◌≤◌, ◌<◌, zero-le, suc-le-suc}
use native.Mathlib.Nat.{le_of_eq, add-sub_cancel_left}
use native.Mathlib.Omega.{arith}
use mathlib.Core.Path.{◌≡◌, refl, sym, ap, ap₂, ◌∙◌, subst}
use mathlib.Core.List.{List, [], ◌∷◌}
use mathlib.Core.Bool.{◌&&◌}
use lib.ListN.{length, get_or, take, drop, length-append, length-drop}
use lib.Dec.{T, ltb, ltb→lt}
use lib.Ieee.Fits.{and_l, and_r}
use lib.Seq.{take-add}
use lib.Ieee.Bits.{is_true}
use Rattle.definitions.specs.Lists.{sum, count, up_to, all, elem, concat, is_below, compare_bytes, terms_ascending, terms_ascending_from}
use Rattle.definitions.specs.Segment.{Segment, SegmentRecord, Sections, cut, first_segment}
use Rattle.definitions.specs.Row.{bit_at}
use Rattle.definitions.specs.Types.{is_known_type}
use Rattle.definitions.specs.Join.{absent}
use Rattle.definitions.specs.Answer.{index_fits, values_fit, alive_set_wrong, bytes_in, codes_known, no_column_is_bare, segment_codes_wrong}
use Rattle.definitions.proofs.Accept.{not-false}
use Rattle.definitions.proofs.Lists.{and3, any_false, mem_at, elem_mem, all_mem}
use Rattle.definitions.proofs.AliveNumber.{alive_bits}
use Rattle.lists.proofs.Lists.{all-at}
use Rattle.lists.proofs.Cuts.{cut-bytes}
use Rattle.lists.proofs.Parts.{run_length}
use Rattle.definitions.proofs.Sections.{cut-length}
use Rattle.lists.proofs.Sums.{sum-at, sum-append, sum-take-le}
use Rattle.segment.specs.Records.{records_of, sections_in, segments_in, record_at, start_at}
use Rattle.segment.specs.Lent.{Checked}
use Rattle.segment.proofs.At.{sections_at, segments-many, segment-is, start_total, start_mono, start_fits}
use Rattle.segment.proofs.Lent.{few-records, index-fits, values-fit, codes_right, alive_right, sums_low}
use Rattle.sections_fit.specs.Walks.{Exact}
use Rattle.sections_fit.proofs.Seven.{ready}
use Rattle.stands.specs.declared.Span.{Span}
use Rattle.stands.specs.declared.Stand.{Stand}
use Rattle.stands.specs.Stand.{part, many, span, Lies, stand_of, numbers_of, stand_at, stand_in, stands_in}
use Rattle.stands.specs.Look.{alive_set_at, Stands}
use Rattle.stands.proofs.Bridge.{sound-stands}
use Rattle.stands.proofs.Fill.{table-length, table_at}
use Rattle.stands.proofs.There.{Held, stands-there}
use Rattle.census.specs.Settled.{AllReady}
use Rattle.census.specs.Table.{Table}
use Rattle.census.proofs.Table.{ascends, Raw, table_is, text_before}
use Rattle.merge_column.specs.Plan.{settled_of}

below_all : (t n : ℕ) (cs : List ℕ) → T (all (λ c. ltb c n) cs) → T (elem t cs) → t < n
below_all t n cs h k = let m = elem_mem t cs (is_true (elem t cs) k) in ltb→lt t n (all_mem (λ c. ltb c n) cs h m)

known_small : (t : ℕ) → T (is_known_type t) → t < 4294967296
unfolding is_known_type
known_small t h = below_all t 4294967296 (0 ∷ 1 ∷ 2 ∷ 3 ∷ 4 ∷ 5 ∷ 6 ∷ 7 ∷ 255 ∷ []) tt h

-- only the first of ascending terms may be empty
not-empty : (t u : List ℕ) → T (is_below (compare_bytes t u)) → 1 ≤ length u
not-empty [] [] h = absurd h
not-empty (x ∷ t) [] h = absurd h
not-empty t (y ∷ u) h = suc-le-suc zero-le

more_bytes : (t : List ℕ) (us : List (List ℕ)) → T (terms_ascending_from t us) → length us ≤ length (concat us)
more_bytes t [] h = zero-le
more_bytes t (u ∷ us) h =
    let a = not-empty t u (and_l (is_below (compare_bytes t u)) (terms_ascending_from u us) h) in
    let b = more_bytes u us (and_r (is_below (compare_bytes t u)) (terms_ascending_from u us) h) in
    let e = length-append u (concat us) in
    omega arith

few-terms : (ts : List (List ℕ)) → T (terms_ascending ts) → length ts ≤ suc (length (concat ts))
few-terms [] h = zero-le
few-terms (t ∷ ts) h = let a = more_bytes t ts h in let e = length-append t (concat ts) in omega arith

module _ {records : List (List ℕ)} {ids offsets values lengths bytes words : List ℕ} (c : Checked records ids offsets values lengths bytes words) where
  abbrev ss : List Segment
  ss = segments_in records ids offsets values lengths bytes words

  abbrev sections : Sections
  sections = sections_in ids offsets values lengths bytes words

  abbrev terms : SegmentRecord → ℕ
  terms r = r.terms

  many-segments : length ss ≡ length records
  many-segments = segments-many records sections

  -- check 2: the sections hold what the records announce
  exact : Exact (records_of records) sections
  exact = (ready (records_of records) sections c.passed).exact

  runs-held : Held records ids offsets values words
  runs-held = record { ids = le_of_eq exact.ids; offsets = le_of_eq exact.offsets; values = le_of_eq exact.words; alive = le_of_eq exact.alive }

  module _ (k : ℕ) (h : k < length ss) where
    inside : k < length records
    inside = subst (λ (n : ℕ). k < n) many-segments h

    there : stand_at (stands_in records) k ≡ stand_in records k
    there = ap stand_of (table_at (λ j. numbers_of (stand_in records j)) [] (length records) k inside)

    segment : get_or ss k absent ≡ first_segment (record_at records k) (sections_at k (records_of records) sections)
    segment = segment-is records sections k inside

    fits : T (index_fits (get_or ss k absent))
    fits = all-at index_fits ss k absent (index-fits c) h

    known : T (is_known_type (get_or ss k absent).type)
    unfolding segment_codes_wrong codes_known
    known =
        let s = get_or ss k absent in
        let a = all-at (λ s. codes_known s && no_column_is_bare s) ss k absent (not-false (all (λ s. codes_known s && no_column_is_bare s) ss) (codes_right c)) h in
        (and3 (is_known_type s.type) (ltb s.kind 5) (ltb s.flag 2) (and_l (codes_known s) (no_column_is_bare s) a)).0

    rows-low : (get_or ss k absent).rows ≤ 4294967294
    rows-low = let b = (sums_low c).0 in let d = sum-at (λ (s : Segment). s.rows) ss k absent h in omega arith

    values_low : length (get_or ss k absent).values ≤ 4294967294
    values_low = let b = (sums_low c).1 in let d = sum-at (λ (s : Segment). length s.values) ss k absent h in omega arith

    raw_type : (stand_in records k).typ ≡ (get_or ss k absent).type
    unfolding stand_in first_segment
    raw_type = ap (λ (s : Segment). s.type) (sym segment)

    raw_terms : (stand_at (stands_in records) k).terms ≡ span (start_at terms records k) (record_at records k).terms
    unfolding stand_in
    raw_terms = ap (λ (p : Stand). p.terms) there

    part-is : part (stand_at (stands_in records) k).terms lengths ≡ take (record_at records k).terms (drop (start_at terms records k) lengths)
    part-is =
        ap (λ (w : Span). part w lengths) raw_terms
        ∙ ap (λ (n : ℕ). take n (drop (start_at terms records k) lengths)) (add-sub_cancel_left (start_at terms records k) (record_at records k).terms)

  abbrev text : ℕ → ℕ
  text k = text_before (stands_in records) lengths k

  -- the term bytes of the segments before
  text-is : (k : ℕ) → k ≤ length ss → text k ≡ sum (take (start_at terms records k) lengths)
  text-is zero h = refl
  text-is (suc k) h =
      ap₂ (λ (a b : ℕ). a + b) (text-is k (omega arith)) (ap sum (part-is k h))
      ∙ sym (ap sum (take-add (start_at terms records k) (record_at records k).terms lengths) ∙ sum-append (take (start_at terms records k) lengths) (take (record_at records k).terms (drop (start_at terms records k) lengths)))

  module _ (k : ℕ) (h : k < length ss) where
    text_in : text k + sum (part (stand_at (stands_in records) k).terms lengths) ≤ length bytes
    text_in = omega (arith, text-is (suc k) h, sum-take-le lengths (start_at terms records (suc k)), exact.bytes)

    dict : cut (part (stand_at (stands_in records) k).terms lengths) (drop (text k) bytes) ≡ (get_or ss k absent).terms
    unfolding first_segment sections_at
    dict =
        ap₂ (λ (l : List ℕ) (n : ℕ). cut l (drop n bytes)) (part-is k h) (text-is k (omega arith))
        ∙ ap (λ (n : ℕ). cut (take (record_at records k).terms (drop n lengths)) (drop (sum (take n lengths)) bytes)) (start_total terms records k (let l = inside k h in omega arith))
        ∙ ap (λ (s : Segment). s.terms) (sym (segment k h))

    terms-lie : Lies (stand_at (stands_in records) k).terms lengths
    terms-lie =
        subst (λ (w : Span). Lies w lengths) (sym (raw_terms k h))
        (record { rises = omega arith; ends = start_fits terms records (length lengths) k (le_of_eq exact.terms) (inside k h) })

    stands_at : Stands (stand_at (stands_in records) k) ids offsets values words (get_or ss k absent)
    stands_at = subst (λ (p : Stand). Stands p ids offsets values words (get_or ss k absent)) (sym (there k h)) (stands-there records ids offsets values lengths bytes words runs-held k (inside k h))

    typed : (stand_at (stands_in records) k).typ ≡ (get_or ss k absent).type
    typed = ap (λ (p : Stand). p.typ) (there k h) ∙ raw_type k h

    long : many (stand_at (stands_in records) k).terms ≡ length (get_or ss k absent).terms
    long =
        sym (sym (ap length (dict)) ∙ cut-length (part (stand_at (stands_in records) k).terms lengths) (drop (text k) bytes)
        ∙ run_length (stand_at (stands_in records) k).terms.from (stand_at (stands_in records) k).terms.to lengths terms-lie.ends)

    text-low : sum (part (stand_at (stands_in records) k).terms lengths) ≤ 4294967294
    text-low =
        let d : length (drop (text k) bytes) ≡ length bytes - text k = length-drop (text k) bytes in
        let e = cut-bytes (part (stand_at (stands_in records) k).terms lengths) (drop (text k) bytes) (omega (arith, text_in)) in
        let f = ap (λ (z : List (List ℕ)). length (concat z)) dict in
        let a = (sums_low c).2 in
        let b = sum-at bytes_in ss k absent h in
        omega arith

    terms-low : many (stand_at (stands_in records) k).terms ≤ 4294967296
    terms-low =
        let a = (sums_low c).2 in
        let b = sum-at bytes_in ss k absent h in
        let d = few-terms (get_or ss k absent).terms (ascends (get_or ss k absent) (all-at values_fit ss k absent (values-fit c) h)) in
        omega (arith, long)

  -- check 6: how many rows are alive, of a segment with an alive set
  live_bits : (k : ℕ) → k < length ss → {p : Stand} → Stands p ids offsets values words (get_or ss k absent) → (get_or ss k absent).flag ≡ 1 → p.live ≡ count (bit_at (alive_set_at p words)) (up_to p.rows)
  live_bits k h {p} st f =
      let s = get_or ss k absent in
      let n = run_length p.alive.from p.alive.to words st.alive-lie.ends in
      let l = ap length st.alive_are in
      let b = alive_bits s (λ e. omega (arith, st.enough e, n, l)) (any_false alive_set_wrong ss (alive_right c) (mem_at ss k absent h)) f in
      st.live ∙ b ∙ ap₂ (λ (words : List ℕ) (n : ℕ). count (bit_at words) (up_to n)) (sym st.alive_are) (sym st.rows)

  raw : Raw (stands_in records) ids offsets values lengths bytes words ss
  raw =
      record {
        size = table-length (λ j. numbers_of (stand_in records j)) (length records) ∙ sym many-segments;
        few = omega (arith, many-segments, few-records c);
        fits = fits;
        worded = λ k h. all-at values_fit ss k absent (values-fit c) h;
        rows = (sums_low c).0;
        values_low = (sums_low c).1;
        each = stands_at;
        type = typed;
        small = λ k h. subst (λ (n : ℕ). n < 4294967296) (sym (typed k h)) (known_small (get_or ss k absent).type (known k h));
        terms-lie = terms-lie;
        text_in = text_in;
        dict = dict;
        apart = λ j k l h.
            let a = ap (λ (w : Span). w.to) (raw_terms j (omega arith)) in
            let b = ap (λ (w : Span). w.from) (raw_terms k h) in
            let d = start_mono terms records (suc j) k l in
            omega arith;
      }

  -- what `prepare` asks, and what it leaves
  pub all-ready : AllReady (stands_in records) ids offsets lengths words
  all-ready =
      record {
        few = omega (arith, table-length (λ j. numbers_of (stand_in records j)) (length records), few-records c);
        each = λ k q.
            let h : k < length ss = omega (arith, table-length (λ j. numbers_of (stand_in records j)) (length records), many-segments) in
            let st = stands_at k h in
            record {
              countable =
                  record {
                    sound = sound-stands st (fits k h);
                    rows = omega (arith, st.rows, rows-low k h);
                    few = omega (arith, st.count, values_low k h);
                    alive-lie = st.alive-lie;
                    enough = λ e. let a = st.enough (sym st.flag ∙ e) in omega (arith, st.rows);
                    number = λ e. live_bits k h st (sym st.flag ∙ e);
                  };
              terms-lie = terms-lie k h;
              terms-few = terms-low k h;
              text-few = omega (arith, text-low k h);
            };
      }

  pub table_of : Table (settled_of records ids offsets lengths words) ids offsets values lengths bytes words ss
  table_of = table_is raw
