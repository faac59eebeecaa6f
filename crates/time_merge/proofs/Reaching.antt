-- How far the times of a segment come within a bound: a step, the steps together, and the row that they lead to. Assumes nothing.
use Prim.Native.Nat.{ℕ, zero, suc, ◌+◌, ◌-◌, ◌*◌, ◌/◌, ◌≤◌, ◌<◌}
use native.Mathlib.Nat.{le_refl}
use native.Mathlib.Omega.{arith}
use mathlib.Core.Path.{◌≡◌, refl, sym, ap, ◌∙◌, subst}
use mathlib.Core.Logic.{◌⊎◌, inl, inr}
use mathlib.Core.Bool.{true, false, false≢true}
use mathlib.Core.List.{List, [], ◌∷◌}
use lib.ListN.{length, get_or, get_or-eq_default}
use lib.Dec.{ltb, ltb→lt}
use borrow.Author.Tests.{eq-eqb, ne_eqb, lt-ltb, le-ltb}
use Rattle.definitions.specs.TimeOrder.{time_of}
use Rattle.definitions.specs.Row.{rank}
use Rattle.definitions.proofs.Ranks.{rank-all}
use Rattle.lists.proofs.Numbers.{le-lt}
use Rattle.lists.proofs.Lists.{all-at}
use Rattle.segment.specs.Kind.{by_index}
use Rattle.segment.proofs.Kind.{index_multi}
use Rattle.column_index.specs.Lookup.{rank_in, Sound}
use Rattle.time_checks.proofs.Several.{rank-at, rank_past}
use Rattle.time_cursors.specs.Cursors.{times_before, time_kind, TimesAt, Left}
use Rattle.time_cursors.proofs.Laws.{rank_grows, by-ids, times-listed}
use Rattle.time_cursors.proofs.Parts.{times_fit}
use Rattle.stands.specs.declared.Stand.{Stand}
use Rattle.stands.specs.Look.{ids_at, values_at}
use Rattle.term_merger.specs.declared.Cursor.{Cursor}
use Rattle.term_merger.specs.Order.{cursor_in}
use Rattle.time_merge.specs.declared.Bound.{Bound}
use Rattle.time_merge.specs.Runs.{within, steps_within, Bounds, Reach, row_of_time, RunTo}

-- ---- a time and the bound

module _ (b : Bound) (w : ℕ) where
  pub within_none : b.first ≡ 0 → false ≡ within b w
  unfolding within
  within_none e = rw (eq-eqb b.first 0 e)

  module _ (d : b.first ≡ 0 → ⊥) {t : ℕ} (is : t ≡ time_of w) where
    pub within_tie : t ≡ b.second → b.ties ≡ within b w
    unfolding within
    within_tie e = rw (ne_eqb b.first 0 d, eq-eqb (time_of w) b.second (sym is ∙ e))

    pub within-lower : (t ≡ b.second → ⊥) → ltb t b.second ≡ within b w
    unfolding within
    within-lower n = rw (ne_eqb b.first 0 d, ne_eqb (time_of w) b.second (λ e. n (is ∙ e)), ← is)

-- ---- a step

module _ (values : List ℕ) (b : Bound) (m step : ℕ) where
  pub step_past : length values - m < step → false ≡ steps_within values b m step
  unfolding steps_within
  step_past h = rw (lt-ltb (length values - m) step h)

  pub step_is : step ≤ length values - m → within b (get_or values (m + step - 1) 0) ≡ steps_within values b m step
  unfolding steps_within
  step_is h = rw (le-ltb (length values - m) step h)

  pub step_true : steps_within values b m step ≡ true → (step ≤ length values - m) × (within b (get_or values (m + step - 1) 0) ≡ true)
  step_true e = go (le-lt (length values - m) step)
    where
      go : (length values - m < step) ⊎ (step ≤ length values - m) → (step ≤ length values - m) × (within b (get_or values (m + step - 1) 0) ≡ true)
      go (inl h) = absurd (false≢true (step_past h ∙ e))
      go (inr h) = (h, step_is h ∙ e)

  -- where a step of one fails, the next time is beyond the bound
  step_false : steps_within values b m step ≡ false → step ≡ 1 → m < length values → within b (get_or values m 0) ≡ false
  step_false e s h =
      let i : m + step - 1 ≡ m = omega arith in
      ap (λ (k : ℕ). within b (get_or values k 0)) (sym i) ∙ step_is (omega arith) ∙ e

-- ---- the steps together

-- m times are reached, and the next step is given
pub record Stepping (values : List ℕ) (b : Bound) (n m step : ℕ) : Type 0 where
  pub low : n ≤ m
  pub high : m ≤ length values
  pub last : n < m → within b (get_or values (m - 1) 0) ≡ true
  pub next : step ≡ 0 → m < length values → within b (get_or values m 0) ≡ false
  pub small : step ≤ 2 * length values + 1

module _ (values : List ℕ) (b : Bound) (n : ℕ) where
  pub stepping_start : n ≤ length values → Stepping values b n n 1
  stepping_start h = record { low = le_refl n; high = h; last = λ k. absurd (omega arith); next = λ e k. absurd (omega arith); small = omega arith }

  module _ {m step : ℕ} (g : Stepping values b n m step) where
    pub stepping_on : 0 < step → steps_within values b m step ≡ true → Stepping values b n (m + step) (2 * step)
    stepping_on h e =
        let t = step_true values b m step e in
        record {
          low = omega (arith, g.low);
          high = omega (arith, g.high, t.0);
          last = λ k. t.1;
          next = λ k l. absurd (omega arith);
          small = omega (arith, t.0);
        }

    pub stepping_back : 0 < step → steps_within values b m step ≡ false → Stepping values b n m (step / 2)
    stepping_back h e =
        record {
          low = g.low;
          high = g.high;
          last = g.last;
          next = λ k l. step_false values b m step e (omega arith) l;
          small = omega (arith, g.small);
        }

    pub stepping_end : step ≤ 0 → Reach values b n m
    stepping_end e = record { low = g.low; high = g.high; last = g.last; next = λ k. g.next (omega arith) k }

-- ---- the row that a number of times leads to

-- what is there is so whatever stands for what is not
there : (l : List ℕ) (n d e : ℕ) → n < length l → get_or l n d ≡ get_or l n e
there [] n d e h = absurd (omega arith)
there (x ∷ l) zero d e h = refl
there (x ∷ l) (suc n) d e h = there l n d e (omega arith)

in_rank : (ids : List ℕ) (r n : ℕ) → rank r ids ≡ n → rank_in r ids ≡ n
unfolding rank_in
in_rank ids r n e = e

no_times : (kind : ℕ) (ids : List ℕ) (n : ℕ) → kind ≡ 0 → times_before kind ids n ≡ 0
unfolding times_before
no_times kind ids n e = rw e

every_time : (kind : ℕ) (ids : List ℕ) (n : ℕ) → kind ≡ 1 → times_before kind ids n ≡ n
unfolding times_before
every_time kind ids n e = rw e

module _ (kind : ℕ) (ids : List ℕ) (rows m : ℕ) where
  pub row-none : kind ≡ 0 → rows ≡ row_of_time kind ids rows m
  unfolding row_of_time
  row-none e = rw e

  pub row-full : kind ≡ 1 → m ≡ row_of_time kind ids rows m
  unfolding row_of_time
  row-full e = rw e

  row_is : (kind ≡ 0 → ⊥) → (kind ≡ 1 → ⊥) → get_or ids m rows ≡ row_of_time kind ids rows m
  unfolding row_of_time
  row_is = by-ids kind rows m (get_or ids m rows)

  pub row-end : (kind ≡ 0 → ⊥) → (kind ≡ 1 → ⊥) → length ids ≤ m → rows ≡ row_of_time kind ids rows m
  row-end a b h = sym (get_or-eq_default ids rows h) ∙ row_is a b

  pub row_listed : (kind ≡ 0 → ⊥) → (kind ≡ 1 → ⊥) → m < length ids → get_or ids m 0 ≡ row_of_time kind ids rows m
  row_listed a b h = there ids m 0 rows h ∙ row_is a b

module _ (kind rows : ℕ) (ids values : List ℕ) (so : Sound (time_kind kind) rows (length values) ids []) (p m : ℕ) (inside : p + 1 ≤ rows)
    (low : times_before kind ids (p + 1) ≤ m) (high : m ≤ length values) where
  -- the row comes after p, and the times before it are those m
  abbrev Leads : ℕ → Type 0
  Leads e = (p < e) × (e ≤ rows) × (m ≡ times_before kind ids e)

  listed : (kind ≡ 0 → ⊥) → (kind ≡ 1 → ⊥) → time_kind kind ≡ 2 → Leads (get_or ids m rows)
  listed d0 d1 k = go (le-lt m (length ids))
    where
      rank-low : rank_in (p + 1) ids ≤ m
      rank-low = subst (λ (n : ℕ). n ≤ m) (sym (times-listed kind ids (p + 1) d0 d1)) low

      go : (m < length ids) ⊎ (length ids ≤ m) → Leads (get_or ids m rows)
      go (inl h) =
          subst Leads (sym (there ids m rows 0 h)) (
            after (le-lt p (get_or ids m 0)),
            (let q = ltb→lt (get_or ids m 0) rows (all-at (λ n. ltb n rows) ids m 0 (so.optional k).0 h) in omega arith),
            sym (in_rank ids (get_or ids m 0) m (rank-at ids so.ascends m h)) ∙ times-listed kind ids (get_or ids m 0) d0 d1,
          )
        where
          after : (p < get_or ids m 0) ⊎ (get_or ids m 0 ≤ p) → p < get_or ids m 0
          after (inl q) = q
          after (inr q) =
              let g = rank_grows (suc (get_or ids m 0)) (p + 1) ids (omega arith) in
              let r = in_rank ids (suc (get_or ids m 0)) (suc m) (rank_past ids so.ascends m h) in
              absurd (omega (arith, rank-low))
      go (inr h) =
          subst Leads (sym (get_or-eq_default ids rows h)) (
            (let q = inside in omega arith),
            le_refl rows,
            (let e : m ≡ length ids = omega (arith, (so.optional k).1) in e) ∙ sym (in_rank ids rows (length ids) (rank-all rows ids (so.optional k).0)) ∙ times-listed kind ids rows d0 d1,
          )

  pub leads : (p < row_of_time kind ids rows m) × (row_of_time kind ids rows m ≤ rows) × (m ≡ times_before kind ids (row_of_time kind ids rows m))
  unfolding row_of_time
  leads = go kind refl
    where
      go : (k : ℕ) → kind ≡ k → Leads (by_index k rows m (get_or ids m rows) (get_or ids m rows))
      go zero e = (omega (arith, inside), le_refl rows, (let z : m ≡ 0 = omega (arith, so.empty (ap time_kind e), high) in z) ∙ sym (no_times kind ids rows e))
      go (suc zero) e = (omega (arith, every_time kind ids (p + 1) e, low), omega (arith, so.full (ap time_kind e), high), sym (every_time kind ids m e))
      go (suc (suc zero)) e = listed (λ z. omega arith) (λ z. omega arith) (ap time_kind e)
      go (suc (suc (suc k))) e =
          subst Leads (sym (index_multi k rows m (get_or ids m rows) (get_or ids m rows)))
          (listed (λ z. omega arith) (λ z. omega arith) (ap time_kind e ∙ index_multi k 0 1 2 2))

-- ---- the run

pub run_fits : {p : Stand} {ids values : List ℕ} {from k : ℕ} → Left p ids from k → TimesAt p ids values → k ≤ length (values_at p values)
run_fits {from = from} l t = rw l.times (times_fit t from l.row)

module _ {bytes : List ℕ} {cursors : List Cursor} {seg : List ℕ} {len s : ℕ} {p : Stand} {ids values : List ℕ} (l : Left p ids ((cursor_in cursors s).pos + 1) (cursor_in cursors s).to) where
  pub run_more : TimesAt p ids values → (b : Bound) → Bounds bytes cursors seg len s b → (m : ℕ) → Reach (values_at p values) b (cursor_in cursors s).to m
      → (e : ℕ) → e ≡ row_of_time p.kind (ids_at p ids) p.rows m → RunTo bytes cursors seg len s p ids values (record { end = e; times = m })
  run_more t b bs m r e is =
      let q = leads p.kind p.rows (ids_at p ids) (values_at p values) t.sound (cursor_in cursors s).pos m l.row (rw (← l.times) r.low) r.high in
      record { low = rw is q.0; high = rw is q.1; times = rw is q.2; before = go (le-lt (cursor_in cursors s).to m) }
    where
      go : ((cursor_in cursors s).to < m) ⊎ (m ≤ (cursor_in cursors s).to)
          → (m ≡ (cursor_in cursors s).to) ⊎ ((0 < m) × (b : Bound) × Bounds bytes cursors seg len s b × (within b (get_or (values_at p values) (m - 1) 0) ≡ true))
      go (inl h) = inr ((omega arith), b, bs, r.last h)
      go (inr h) = inl (omega (arith, r.low))
