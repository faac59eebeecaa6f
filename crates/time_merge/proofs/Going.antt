-- The merge's state, and a turn of it. Assumes nothing.
use Prim.Native.Nat.{ℕ, suc, ◌+◌, ◌-◌, ◌*◌, ◌≤◌, ◌<◌}
use native.Mathlib.Nat.{le_trans}
use native.Mathlib.Numerals.{add-one}
use native.Mathlib.Omega.{arith}
use mathlib.Core.Path.{◌≡◌, refl, sym, ap, ap₂, ◌∙◌, subst}
use mathlib.Core.Logic.{◌⊎◌, inl, inr}
use mathlib.Core.Bool.{true}
use mathlib.Core.List.{List, [], ◌∷◌, ◌++◌, map, map-append}
use lib.ListN.{length, get_or, set, length-set, length-append, length-map, get_or-eq_default}
use lib.Seq.{get_or-set_same, get_or-set_other}
use lib.Dec.{ltb}
use borrow.Author.Tests.{lt-ltb, le-ltb}
use Rattle.definitions.specs.Segment.{Segment, Address, address as at}
use Rattle.definitions.specs.Lists.{up_from, filter}
use Rattle.definitions.specs.Row.{is_alive}
use Rattle.definitions.specs.Join.{absent}
use Rattle.definitions.specs.TimeOrder.{key_of, time_order}
use Rattle.definitions.specs.Outcome.{written}
use Rattle.stands.specs.declared.Stand.{Stand}
use Rattle.stands.specs.Stand.{stand_at}
use Rattle.stands.specs.Look.{ids_at, values_at, alive_set_at}
use Rattle.term_merger.specs.declared.Heap.{Heap}
use Rattle.term_order.specs.Key.{Inside}
use Rattle.term_merger.specs.Order as heap
use Rattle.term_merger.specs.declared.Cursor.{Cursor}
use Rattle.term_merger.specs.Order.{cursor_in, no_cursor, tie_of, TermsInside}
use Rattle.term_merger.specs.Heap.{one}
use Rattle.term_merger.specs.Live.{left_of, Settled, Started}
use Rattle.time_cursors.specs.Cursors.{alive_bit, times_before, last_key, key_cursor, cursor_at, first_from, segment_in, Timed, Left}
use Rattle.time_merge.specs.Order.{pair_of, placed_segments, time_written, Ready, Rising, Begins, Ends}
use Rattle.time_merge.specs.declared.Bound.{Bound}
use Rattle.time_merge.specs.declared.Run.{Run}
use Rattle.time_merge.specs.Runs.{alive_up_to, addresses, within, Bounds, RunTo}
use Rattle.time_merge.proofs.Standing.{bump, bump-here, bump-there, next, alive_rows, Standing, standing_start, standing-end, standing-room, standing-run}
use Rattle.time_merge.proofs.Keyed.{times_to, key_at, cursor-left, at-pos, at-end, at-to, cursor-inside, cursors_order, within-key, segment-there, segment-none, timed-at, there, key-is, keys_grow}
use Rattle.time_merge.proofs.Rows.{rest_some}
use Rattle.time_merge.proofs.Reaching.{run_fits}
use Rattle.time_cursors.proofs.Laws.{times-kind}
use Rattle.time_cursors.proofs.Parts.{words-there}
use Rattle.time_cursors.proofs.Keys.{last-is}
use Rattle.runs.specs.Put.{put}
use Rattle.runs.proofs.Laws.{length-put}
use Rattle.runs.proofs.Written.{written-more}
use Rattle.lists.proofs.Numbers.{same?, le-lt}
use Rattle.term_merger.proofs.Laws.{Le}
use Rattle.term_merger.proofs.Walk.{Holding, all-over, left_at, alone, top_left, top_least, next-least, holding_new}

left-live : (p n : ℕ) → p ≤ n → ltb 0 (n - p) ≡ ltb p n
left-live p n h = go (le-lt p n)
  where
    go : (p < n) ⊎ (n ≤ p) → ltb 0 (n - p) ≡ ltb p n
    go (inl k) = lt-ltb 0 (n - p) (omega arith) ∙ sym (lt-ltb p n k)
    go (inr k) = le-ltb 0 (n - p) (omega arith) ∙ sym (le-ltb p n k)

-- ---- the state: P x is the row at which segment x stands

pub record Going (ss : List Segment) (bytes : List ℕ) (out₀ : List (List ℕ)) (cursors : List Cursor) (out : List (List ℕ)) (h : Heap) (k : ℕ) (P : ℕ → ℕ) (done : List Address) : Type 0 where
  pub size : length cursors ≡ 256
  pub cursor : (x : ℕ) → x < 256 → cursor_in cursors x ≡ cursor_at (get_or ss x absent) (P x)
  pub heap : Holding bytes cursors P (λ x. (get_or ss x absent).rows) h
  pub standing : Standing ss P done
  pub number : k ≡ length done
  pub out_is : out ≡ written (map pair_of done) out₀
  pub out_size : length out ≡ length out₀

module _ {stands : List (List ℕ)} {ids values alive : List ℕ} (y : Ready stands ids values alive) where
  abbrev ss : List Segment
  ss = placed_segments stands ids values alive

  far : (x : ℕ) → 256 ≤ x → (get_or ss x absent).rows ≡ 0
  far x h = ap (λ (s : Segment). s.rows) (segment-none y x (omega (arith, y.few)))

  near : (x : ℕ) → 0 < (get_or ss x absent).rows → x < 256
  near x h = omega (arith, there y x h, y.few)

  pub going_start : {bytes : List ℕ} {cursors : List Cursor} {h : Heap} (out₀ : List (List ℕ)) → Begins ss cursors → Started bytes cursors h → length h.seg ≡ 256 → Going ss bytes out₀ cursors out₀ h 0 (λ x. next ss x 0) []
  unfolding first_from
  going_start {cursors = cursors} out₀ b st full =
      record {
        size = b.size;
        cursor = b.cursor;
        heap = record { len = st.len; full = full; in_heap_order = st.in_heap_order; holds = λ x. st.holds x ∙ ap one (live x (le-lt x 256)) };
        standing = standing_start ss;
        number = refl;
        out_is = refl;
        out_size = refl;
      }
    where
      live : (x : ℕ) → (x < 256) ⊎ (256 ≤ x) → ltb 0 (left_of cursors x) ≡ ltb (next ss x 0) (get_or ss x absent).rows
      live x (inl l) =
          let s = get_or ss x absent in
          let p = (standing_start ss).place x in
          ap (λ (r : Cursor). ltb 0 (r.end - r.pos)) (b.cursor x l)
          ∙ ap₂ (λ (m n : ℕ). ltb 0 (m - n)) (at-end s (next ss x 0)) (at-pos s (next ss x 0) p)
          ∙ left-live (next ss x 0) s.rows p
      live x (inr l) =
          let e : cursor_in cursors x ≡ no_cursor = get_or-eq_default cursors no_cursor (omega (arith, b.size)) in
          ap (λ (r : Cursor). ltb 0 (r.end - r.pos)) e ∙ sym (le-ltb (next ss x 0) (get_or ss x absent).rows (omega (arith, far x l)))

  module _ {out₀ : List (List ℕ)} (z : Rising stands ids values alive out₀) {bytes : List ℕ} {cursors : List Cursor} {out : List (List ℕ)} {h : Heap} {k : ℕ} {P : ℕ → ℕ} {done : List Address} (g : Going ss bytes out₀ cursors out h k P done) where
    pub going_readable : TermsInside bytes cursors
    unfolding TermsInside
    going_readable x l = subst (λ (r : Cursor). Inside bytes r.key) (sym (g.cursor x l)) (cursor-inside (get_or ss x absent) (P x) bytes)

    pub going_end : h.len ≤ 0 → (k ≡ length (time_order ss)) × ((out ≡ time_written ss out₀) × Ends ss cursors)
    unfolding time_written
    going_end e =
        let d = standing-end ss P done g.standing over in (
          g.number ∙ ap length d,
          (
            g.out_is ∙ ap (λ (l : List Address). written (map pair_of l) out₀) d,
            record { size = g.size; cursor = λ x l. g.cursor x l ∙ ap (cursor_at (get_or ss x absent)) (at-end (P x) (get_or ss x absent).rows (g.standing.place x) (over x)) },
          ),
        )
      where
        at-end : (m n : ℕ) → m ≤ n → n ≤ m → m ≡ n
        at-end m n a b = omega arith

        over : (x : ℕ) → (get_or ss x absent).rows ≤ P x
        over x = all-over g.heap e x

    -- the segment at the top
    pub s-there : 0 < h.len → {s : ℕ} → s ≡ get_or h.seg 0 0 → s < length stands
    s-there some {s} top = there y s (omega (arith, top_left g.heap some top))

    -- and where it stands
    module _ (some : 0 < h.len) {s : ℕ} (top : s ≡ get_or h.seg 0 0) {p : Stand} (is-p : p ≡ stand_at stands s) where
      pub live : P s < (get_or ss s absent).rows
      live = top_left g.heap some top

      pub s_near : s < 256
      s_near = omega (arith, s-there some top, y.few)

      cursor-s : cursor_in cursors s ≡ cursor_at (get_or ss s absent) (P s)
      cursor-s = g.cursor s s_near

      pub here-pos : (cursor_in cursors s).pos ≡ P s
      here-pos = ap (λ (l : Cursor). l.pos) cursor-s ∙ at-pos (get_or ss s absent) (P s) (g.standing.place s)

      -- its rows
      abbrev vs : List ℕ
      vs = values_at p values

      segment-s : get_or ss s absent ≡ segment_in p ids values alive
      segment-s = segment-there y s (s-there some top) ∙ ap (λ (q : Stand). segment_in q ids values alive) (sym is-p)

      rows-s : (get_or ss s absent).rows ≡ p.rows
      unfolding segment_in
      rows-s = ap (λ (x : Segment). x.rows) segment-s

      pub timed-s : Timed p ids values alive
      timed-s = timed-at y is-p (s-there some top)

      times-s : (n : ℕ) → times_before (get_or ss s absent).kind (get_or ss s absent).ids n ≡ times_before p.kind (ids_at p ids) n
      unfolding segment_in
      times-s n = ap (λ (x : Segment). times_before x.kind x.ids n) segment-s ∙ times-kind p.kind (ids_at p ids) n

      values-s : (get_or ss s absent).values ≡ vs
      unfolding segment_in
      values-s = ap (λ (x : Segment). x.values) segment-s

      -- the key of its row q
      row-key : (q : ℕ) → q < (get_or ss s absent).rows → key_of ss (at s q) ≡ last_key vs (times_before p.kind (ids_at p ids) (suc q))
      row-key q l = sym (key-is y z s q l) ∙ ap₂ last_key values-s (times-s (suc q))

      pub rest-left : Left p ids ((cursor_in cursors s).pos + 1) (cursor_in cursors s).to
      rest-left =
          record {
            row = omega (arith, here-pos, live, rows-s);
            times =
                ap (λ (l : Cursor). l.to) cursor-s
                ∙ at-to (get_or ss s absent) (P s) live
                ∙ times-s (suc (P s))
                ∙ ap (times_before p.kind (ids_at p ids)) (sym (ap (λ (n : ℕ). n + 1) here-pos ∙ add-one (P s)));
          }

      -- a key that comes before the row of segment x
      abbrev Ahead : ℕ → ℕ → Type 0
      Ahead n x = (n < key_of ss (at x (P x))) ⊎ ((n ≡ key_of ss (at x (P x))) × (s ≤ x))

      cursor-of : (x : ℕ) → P x < (get_or ss x absent).rows → cursor_in cursors x ≡ key_cursor (key_at (get_or ss x absent) (P x)) (P x) (get_or ss x absent).rows (times_to (get_or ss x absent) (P x))
      cursor-of x l = g.cursor x (near x (omega arith)) ∙ cursor-left (get_or ss x absent) (P x) l

      -- the heap's order of two segments is that of their keys, then of their numbers
      ordered : (x c : ℕ) → P x < (get_or ss x absent).rows → P c < (get_or ss c absent).rows → Le (heap.key_of bytes cursors c) (tie_of cursors c) (heap.key_of bytes cursors x) (tie_of cursors x)
          → (key_at (get_or ss c absent) (P c) < key_of ss (at x (P x))) ⊎ ((key_at (get_or ss c absent) (P c) ≡ key_of ss (at x (P x))) × (c ≤ x))
      ordered x c l m o =
          let a = get_or ss c absent in
          let b = get_or ss x absent in
          subst (λ (n : ℕ). (key_at a (P c) < n) ⊎ ((key_at a (P c) ≡ n) × (c ≤ x))) (key-is y z x (P x) l)
          (cursors_order bytes cursors c x (key_at a (P c)) (key_at b (P x)) (P c) (P x) a.rows b.rows (times_to a (P c)) (times_to b (P x)) (cursor-of c m) (cursor-of x l) o)

      least : (x : ℕ) → P x < (get_or ss x absent).rows → Ahead (key_of ss (at s (P s))) x
      least x l = subst (λ (n : ℕ). Ahead n x) (key-is y z s (P s) live) (ordered x s l live (top_least g.heap some top x l))

      -- ---- its run

      module _ {r : Run} (t : RunTo bytes cursors h.seg h.len s p ids values r) where
        abbrev end : ℕ
        end = r.end

        pub run-left : Left p ids r.end r.times
        run-left = record { row = t.high; times = t.times }

        end_after : P s < end
        end_after = omega (arith, t.low, here-pos)

        -- the key of the run's last row
        last-key : key_of ss (at s (end - 1)) ≡ last_key vs r.times
        last-key =
            let e : suc (end - 1) ≡ end = omega (arith, end_after) in
            row-key (end - 1) (omega (arith, end_after, t.high, rows-s)) ∙ ap (last_key vs) (ap (times_before p.kind (ids_at p ids)) e ∙ sym t.times)

        chain : {a b c : ℕ} (s c' x : ℕ) → (a < b) ⊎ ((a ≡ b) × (s < c')) → (b < c) ⊎ ((b ≡ c) × (c' ≤ x)) → (a < c) ⊎ ((a ≡ c) × (s ≤ x))
        chain s c' x (inl p) (inl q) = inl (omega arith)
        chain s c' x (inl p) (inr (q, k)) = inl (omega arith)
        chain s c' x (inr (p, j)) (inl q) = inl (omega arith)
        chain s c' x (inr (p, j)) (inr (q, k)) = inr (p ∙ q, (omega arith))

        last_ahead : (x : ℕ) → (x ≡ s → ⊥) → P x < (get_or ss x absent).rows → Ahead (last_key vs r.times) x
        last_ahead x d l = go t.before
          where
            go : (r.times ≡ (cursor_in cursors s).to) ⊎ ((0 < r.times) × (b : Bound) × Bounds bytes cursors h.seg h.len s b × (within b (get_or vs (r.times - 1) 0) ≡ true)) → Ahead (last_key vs r.times) x
            go (inl e) =
                subst (λ (n : ℕ). Ahead n x)
                (row-key (P s) live ∙ ap (last_key vs) (ap (times_before p.kind (ids_at p ids)) (sym (ap (λ (n : ℕ). n + 1) here-pos ∙ add-one (P s))) ∙ sym rest-left.times ∙ sym e)) (least x l)
            go (inr (pos, b, inl few, w)) = absurd (alone g.heap some top few x l d)
            go (inr (pos, b, inr (c, child, is), w)) =
                let c' = get_or h.seg c 0 in
                let m = left_at g.heap c child.inside in
                let fits : r.times ≤ length vs = run_fits run-left timed-s.times in
                subst (λ (n : ℕ). Ahead n x) (sym (last-is vs r.times pos fits))
                (chain s c' x
                (within-key cursors s c' (key_at (get_or ss c' absent) (P c')) (P c') (get_or ss c' absent).rows (times_to (get_or ss c' absent) (P c')) (get_or vs (r.times - 1) 0) (cursor-of c' m)
                (subst (λ (z : Bound). within z (get_or vs (r.times - 1) 0) ≡ true) is w))
                (ordered x c' l m (next-least g.heap some top child x l d)))

        rows_ahead : (q : ℕ) → q < end → (x : ℕ) → (x ≡ s → ⊥) → P x < (get_or ss x absent).rows → Ahead (key_of ss (at s q)) x
        rows_ahead q l x d m = go (subst (λ (n : ℕ). Ahead n x) (sym last-key) (last_ahead x d m))
          where
            below : key_of ss (at s q) ≤ key_of ss (at s (end - 1))
            below = keys_grow y z s q (end - 1) (omega arith) (omega (arith, end_after, t.high, rows-s))

            tie : key_of ss (at s (end - 1)) ≡ key_of ss (at x (P x)) → s ≤ x → (key_of ss (at s q) < key_of ss (at x (P x))) ⊎ (key_of ss (at x (P x)) ≤ key_of ss (at s q)) → Ahead (key_of ss (at s q)) x
            tie e k (inl j) = inl j
            tie e k (inr j) = inr ((let u : key_of ss (at s q) ≡ key_of ss (at x (P x)) = omega (arith, below) in u), k)

            go : Ahead (key_of ss (at s (end - 1))) x → Ahead (key_of ss (at s q)) x
            go (inl j) = inl (omega (arith, below))
            go (inr (e, k)) = tie e k (le-lt (key_of ss (at s q)) (key_of ss (at x (P x))))

        abbrev P' : ℕ → ℕ
        P' = bump P s (next ss s end)

        abbrev rows : List ℕ
        rows = alive_rows ss s (P s) (end - P s)

        abbrev done' : List Address
        done' = done ++ map (at s) rows

        standing-new : Standing ss P' done'
        standing-new = standing-run ss P s end (omega (arith, t.high, rows-s)) (keys_grow y z) rows_ahead done g.standing (omega (arith, end_after)) live

        -- what is written
        abbrev written-rows : List ℕ
        written-rows = alive_up_to p.flag (alive_set_at p alive) (cursor_in cursors s).pos end

        rows_are : written-rows ≡ rows
        unfolding alive_up_to is_alive segment_in
        rows_are =
            ap (λ (n : ℕ). filter (alive_bit p.flag (alive_set_at p alive)) (up_from n (end - n))) here-pos
            ∙ ap (λ (x : Segment). filter (is_alive x) (up_from (P s) (end - P s))) (sym segment-s)

        pairs : (l : List ℕ) → addresses s l ≡ map pair_of (map (at s) l)
        unfolding addresses
        pairs [] = refl
        pairs (q ∷ l) = ap (λ (m : List (List ℕ)). (s ∷ q ∷ []) ∷ m) (pairs l)

        number-new : length done' ≡ k + length written-rows
        number-new = length-append done (map (at s) rows) ∙ (let u : length (map (at s) rows) ≡ length written-rows = length-map rows (at s) ∙ ap length (sym rows_are) in omega (arith, g.number))

        pub room : k + length written-rows ≤ length out
        room = omega (arith, number-new, standing-room ss P' done' standing-new, z.room, g.out_size)

        first-alive : alive_bit p.flag (alive_set_at p alive) (cursor_in cursors s).pos ≡ true
        unfolding is_alive segment_in
        first-alive = ap (alive_bit p.flag (alive_set_at p alive)) here-pos ∙ ap (λ (x : Segment). is_alive x (P s)) (sym segment-s) ∙ g.standing.alive s live

        pub one_written : 0 < length written-rows
        one_written = rest_some s p.flag (alive_set_at p alive) end (cursor_in cursors s).pos t.low first-alive

        pub rows-given : ((s < 256) × ((cursor_in cursors s).pos ≤ r.end) × (r.end < 4294967296)) × ((p.flag ≡ 1 → r.end ≤ 64 * length (alive_set_at p alive)) × (k + length written-rows ≤ length out))
        rows-given = (
          (s_near, omega (arith, t.low), omega (arith, t.high, timed-s.times.small)),
          (λ e. le_trans t.high (words-there timed-s run-left e), room),
        )

        -- ---- the turn

        module _ {new : Cursor} (e : new ≡ first_from (segment_in p ids values alive) r.end) where
          cursor-new : new ≡ cursor_at (get_or ss s absent) (next ss s end)
          unfolding first_from
          cursor-new = e ∙ ap (λ (x : Segment). first_from x end) (sym segment-s)

          cursors_new : (x : ℕ) → x < 256 → cursor_in (set cursors s new) x ≡ cursor_at (get_or ss x absent) (P' x)
          cursors_new x l = go (same? x s)
            where
              go : (x ≡ s) ⊎ (x ≡ s → ⊥) → cursor_in (set cursors s new) x ≡ cursor_at (get_or ss x absent) (P' x)
              go (inl q) =
                  ap (λ (n : ℕ). cursor_in (set cursors s new) n) q
                  ∙ get_or-set_same cursors s new no_cursor (omega (arith, s_near, g.size))
                  ∙ cursor-new
                  ∙ ap₂ (λ (n m : ℕ). cursor_at (get_or ss n absent) m) (sym q) (sym (bump-here P s (next ss s end) x q))
              go (inr d) = get_or-set_other cursors s x new no_cursor d ∙ g.cursor x l ∙ ap (cursor_at (get_or ss x absent)) (sym (bump-there P s (next ss s end) x d))

          pub readable-new : TermsInside bytes (set cursors s new)
          unfolding TermsInside
          readable-new x l = subst (λ (r : Cursor). Inside bytes r.key) (sym (cursors_new x l)) (cursor-inside (get_or ss x absent) (P' x) bytes)

          new-pos : (cursor_in (set cursors s new) s).pos ≡ next ss s end
          new-pos =
              ap (λ (l : Cursor). l.pos) (cursors_new s s_near)
              ∙ at-pos (get_or ss s absent) (P' s) (standing-new.place s)
              ∙ bump-here P s (next ss s end) s refl

          new-end : (cursor_in (set cursors s new) s).end ≡ (get_or ss s absent).rows
          new-end = ap (λ (l : Cursor). l.end) (cursors_new s s_near) ∙ at-end (get_or ss s absent) (P' s)

          pub going_more : {seg : List ℕ} {n k' : ℕ} {out' : List (List ℕ)} → k' ≡ k + length written-rows → out' ≡ put k (addresses s written-rows) out
              → Settled bytes (set cursors s new) h.seg h.len seg n
              → Going ss bytes out₀ (set cursors s new) out' (record { seg = seg; len = n }) k' P' done'
          going_more {k' = k'} {out' = out'} ke oe st =
              let here = bump-here P s (next ss s end) s refl in
              let fits : k + length (addresses s written-rows) ≤ length out = omega (arith, room, ap length (pairs written-rows), length-map (map (at s) written-rows) pair_of, length-map written-rows (at s)) in
              record {
                size = length-set cursors s new ∙ g.size;
                cursor = cursors_new;
                heap = holding_new g.heap some top new P' (bump-there P s (next ss s end)) (λ l. omega (arith, new-pos, new-end, here)) (λ l. omega (arith, new-pos, new-end, here)) st;
                standing = standing-new;
                number = ke ∙ sym number-new;
                out_is =
                    oe
                    ∙ ap₂ (λ (l m : List (List ℕ)). put k l m) (pairs written-rows ∙ ap (λ (l : List ℕ). map pair_of (map (at s) l)) rows_are) g.out_is
                    ∙ written-more (map pair_of done) (map pair_of (map (at s) rows)) out₀ k (g.number ∙ sym (length-map done pair_of))
                    ∙ ap (λ (l : List (List ℕ)). written l out₀) (sym (map-append pair_of done (map (at s) rows)));
                out_size = ap length oe ∙ length-put k (addresses s written-rows) out fits ∙ g.out_size;
              }
