-- What acceptance gives to the merge, and what the merge gives to the outcome. Assumes nothing.
use Prim.Native.Nat.{ℕ, suc, ◌≤◌, ◌<◌, suc-le-suc}
use native.Mathlib.Omega.{arith}
use mathlib.Core.Path.{◌≡◌, refl, sym, ap, ◌∙◌, subst}
use mathlib.Core.List.{List, [], map}
use mathlib.Core.Bool.{false, not, ◌&&◌, ◌||◌}
use lib.ListN.{length, get_or, length-map}
use lib.Seq.{ext_get_or}
use lib.Dec.{T, eqb, ltb}
use borrow.Author.Tests.{ltb-false, not-false}
use Rattle.definitions.specs.Lists.{all, any, up_to, not_falling}
use Rattle.definitions.specs.Words.{IpAddr}
use Rattle.definitions.specs.Segment.{Segment, no_pair, segments_from, address as at}
use Rattle.definitions.specs.Row.{row_values, is_present, no_type}
use Rattle.definitions.specs.Types.{DateTime}
use Rattle.definitions.specs.Join.{absent}
use Rattle.definitions.specs.Checks.{Passed}
use Rattle.definitions.specs.Answer.{index_fits, alive_addresses, plain_checks}
use Rattle.definitions.specs.TimeOrder.{TimeInput, time_of, key_of, time_order, times_wrong, time_own_checks, time_checks, time_answer}
use Rattle.definitions.proofs.Words.{values-plain, not-address}
use Rattle.definitions.proofs.Accept.{index-fits}
use Rattle.definitions.proofs.Checks.{all-passed, passed-append, passes}
use Rattle.definitions.proofs.TimeOrder.{order-length}
use Rattle.segment.specs.Records.{row_record, records_of, sections_in}
use Rattle.sections_fit.proofs.Own.{rows_all}
use Rattle.sections_fit.proofs.Seven.{Ready, ready}
use Rattle.column_index.specs.Lookup.{Sound}
use Rattle.stands.specs.declared.Stand.{Stand}
use Rattle.stands.specs.Stand.{table, stand_of, numbers_of, stand_at, stand_in, stands_in}
use Rattle.stands.specs.Look.{ids_at, values_at}
use Rattle.stands.proofs.Bridge.{Stands}
use Rattle.stands.proofs.Fill.{table-length, table_at, many-stands}
use Rattle.stands.proofs.There.{Held, stands-there}
use Rattle.time_checks.specs.Lent.{lent_times}
use Rattle.time_cursors.specs.Cursors.{time_kind, segment_in, Timed}
use Rattle.time_merge.specs.Order as merged
use Rattle.time_merge.specs.Order.{placed, placed_segments, Rising}
use Rattle.time_order.proofs.Bare.{bare, Single, bare-sound, keys_rise, order_same}
use Rattle.definitions.proofs.Lists.{mem_at, mem_up_to, any_false, or_left, or_right, get_or_in}
use Rattle.segment.proofs.At.{segments-many}
use Rattle.lists.proofs.Tests.{neither, true-T}
use Rattle.lists.proofs.Sums.{sum-at}
use Rattle.lists.proofs.Lists.{all-at}

-- a column that 12 lets pass is of times, or none
no_address : (t : ℕ) → not (eqb t no_type) && not (eqb t DateTime) ≡ false → eqb t IpAddr ≡ false
no_address t h = not-address (λ n. not (not (eqb n no_type) && not (eqb n DateTime))) refl t (ap not h)

module _ (records : List (List ℕ)) (ids offsets values lengths bytes alive : List ℕ) (space : ℕ) where
  abbrev input : TimeInput
  input = lent_times records ids offsets values lengths bytes alive space

  -- the segments, by the definitions and by their stands
  abbrev ss : List Segment
  ss = segments_from (records_of records) (sections_in ids offsets values lengths bytes alive)

  abbrev here : ℕ → Segment
  here k = placed (stands_in records) ids values alive k

  module _ (zero-answer : 0 ≡ time_answer (lent_times records ids offsets values lengths bytes alive space)) where
    passed : Passed (time_checks input)
    unfolding time_answer time_checks
    passed = (all-passed (time_checks input) 0 tt (sym zero-answer)).0

    plain : Passed (plain_checks (records_of records) (sections_in ids offsets values lengths bytes alive))
    unfolding time_checks
    plain = (passed-append (plain_checks input.records input.sections) (time_own_checks input) passed).0

    first : Ready (records_of records) (sections_in ids offsets values lengths bytes alive)
    first = ready (records_of records) (sections_in ids offsets values lengths bytes alive) plain

    later : (ltb space (length (alive_addresses ss)) ≡ false) × (times_wrong ss ≡ false)
    unfolding time_checks
    later = (passes passed 11, passes passed 12)

    lists : T (all index_fits ss)
    lists = index-fits (records_of records) (sections_in ids offsets values lengths bytes alive) plain

    held : Held records ids offsets values alive
    held = record { ids = omega (arith, first.exact.ids); offsets = omega (arith, first.exact.offsets); values = omega (arith, first.exact.words); alive = omega (arith, first.exact.alive) }

    few : length records ≤ 256
    few = omega (arith, first.few, length-map records row_record)

    -- segment k
    module _ (k : ℕ) (h : k < length records) where
      k-there : k < length ss
      k-there = omega (arith, segments-many records (sections_in ids offsets values lengths bytes alive))

      -- where it stands
      abbrev p : Stand
      p = stand_at (stands_in records) k

      stands : Stands p ids offsets values alive (get_or ss k absent)
      stands =
          subst (λ (q : Stand). Stands q ids offsets values alive (get_or ss k absent)) (sym (ap stand_of (table_at (λ n. numbers_of (stand_in records n)) [] (length records) k h)))
          (stands-there records ids offsets values lengths bytes alive held k h)

      fits : T (index_fits (get_or ss k absent))
      fits = all-at index_fits ss k absent lists k-there

      rows-small : (get_or ss k absent).rows < 4294967296
      rows-small = omega (arith, sum-at (λ (s : Segment). s.rows) ss k absent k-there, rows_all (records_of records) (sections_in ids offsets values lengths bytes alive), first.rows)

      -- what check 12 says
      times : (eqb (get_or ss k absent).type IpAddr ≡ false) × (any (λ r. ltb 1 (length (row_values (get_or ss k absent) r))) (up_to (get_or ss k absent).rows) ≡ false) × (not (not_falling (map time_of (get_or ss k absent).values)) ≡ false)
      unfolding times_wrong
      times =
          let s = get_or ss k absent in
          let w = any_false (λ s. (is_present s && not (eqb s.type DateTime)) || any (λ r. ltb 1 (length (row_values s r))) (up_to s.rows) || not (not_falling (map time_of s.values))) ss later.1 (mem_at ss k absent k-there) in
          let a = is_present s && not (eqb s.type DateTime) in
          let b = any (λ r. ltb 1 (length (row_values s r))) (up_to s.rows) in
          let p = neither (a || b) (not (not_falling (map time_of s.values))) w in
          (no_address s.type (or_left a b p.0), or_right a b p.0, p.1)

      bare-here : here k ≡ bare (get_or ss k absent)
      unfolding segment_in
      bare-here =
          let st = stands in
          λ i.
          record {
            type = 0;
            kind = time_kind (st.kind i);
            rows = st.rows i;
            ids = st.ids_are i;
            offsets = [];
            values = (sym (values-plain (get_or ss k absent).type times.0 (values_at p values)) ∙ st.values_are) i;
            terms = [];
            flag = st.flag i;
            alive_count = st.live i;
            pair = no_pair;
            alive = st.alive_are i;
          }

      pub single : Single (get_or ss k absent)
      single =
          let s = get_or ss k absent in
          record {
            fits = fits;
            one = λ r m. ltb-false 1 (length (row_values s r)) (any_false (λ r. ltb 1 (length (row_values s r))) (up_to s.rows) times.1 (mem_up_to s.rows r m));
          }

      sound : Sound (time_kind p.kind) p.rows (length (values_at p values)) (ids_at p ids) []
      unfolding segment_in
      sound = subst (λ (x : Segment). Sound x.kind x.rows (length x.values) x.ids []) (sym bare-here) (bare-sound single)

      pub timed : Timed p ids values alive
      timed =
          record {
            times = record { ids-lie = stands.ids-lie; values-lie = stands.values-lie; sound = sound; small = omega (arith, rows-small, stands.rows) };
            alive-lie = stands.alive-lie;
            enough = λ e. omega (arith, stands.enough (sym stands.flag ∙ e), stands.rows);
          }

      times-rise : T (not_falling (map time_of (get_or ss k absent).values))
      times-rise = let vs = (get_or ss k absent).values in true-T (not_falling (map time_of vs)) (not-false (not_falling (map time_of vs)) times.2)

      rising : T (not_falling (map time_of (here k).values))
      rising = subst (λ (x : Segment). T (not_falling (map time_of x.values))) (sym bare-here) times-rise

      -- keys don't fall within a segment of an accepted call
      pub keys_dont_fall : (n m : ℕ) → n ≤ m → m < (get_or ss k absent).rows → key_of ss (at k n) ≤ key_of ss (at k m)
      unfolding key_of
      keys_dont_fall n m h l = keys_rise single times-rise (suc n) (suc m) (suc-le-suc h) l

    bare-all : placed_segments (stands_in records) ids values alive ≡ map bare ss
    unfolding placed_segments
    bare-all =
        ext_get_or absent (table here (length (stands_in records))) (map bare ss)
        (table-length here (length (stands_in records)) ∙ many-stands records ∙ sym (length-map ss bare ∙ segments-many records (sections_in ids offsets values lengths bytes alive)))
        (λ k l.
        let q : k < length (stands_in records) = omega (arith, table-length here (length (stands_in records))) in
        let r : k < length records = omega (arith, many-stands records) in
        table_at here absent (length (stands_in records)) k q ∙ bare-here k r ∙ sym (get_or_in bare ss k absent absent (k-there k r)))

    pub order_is : time_order (placed_segments (stands_in records) ids values alive) ≡ time_order ss
    order_is = ap time_order bare-all ∙ order_same ss (λ n h. single n (omega (arith, segments-many records (sections_in ids offsets values lengths bytes alive))))

    pub merge_ready : merged.Ready (stands_in records) ids values alive
    merge_ready = record { few = omega (arith, many-stands records, few); timed = λ k h. timed k (omega (arith, many-stands records)) }

    pub merge_rising : (out : List (List ℕ)) → space ≡ length out → Rising (stands_in records) ids values alive out
    merge_rising out e =
        record {
          rising = λ k h. rising k (omega (arith, many-stands records));
          room = omega (arith, ap length order_is, order-length ss, ltb-false space (length (alive_addresses ss)) later.0);
        }
