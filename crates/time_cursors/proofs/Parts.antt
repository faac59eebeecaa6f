-- What a segment's runs give to each part of a row, and the row that the parts make. Assumes nothing.
use Prim.Native.Nat.{ℕ, suc, ◌-◌, ◌*◌, ◌≤◌, ◌<◌}
use native.Mathlib.Omega.{arith}
use mathlib.Core.Path.{◌≡◌, sym, ◌∙◌}
use mathlib.Core.List.{List}
use lib.ListN.{length}
use borrow.Author.Tests.{lt-ltb, le-ltb}
use Rattle.column_index.specs.Lookup.{rank_in}
use Rattle.column_index.proofs.Sound.{earlier_le}
use Rattle.stands.specs.declared.Stand.{Stand}
use Rattle.stands.specs.Look.{ids_at, values_at, alive_set_at}
use Rattle.term_merger.specs.Order.{no_cursor}
use Rattle.time_cursors.specs.Cursors.{alive_bit, next_row, times_before, last_key, key_cursor, cursor_at, first_from, segment_in, TimesAt, Timed, Left}
use Rattle.time_cursors.proofs.Laws.{seek-low, seek-high, rank_grows, times-listed, times_earlier, times-kind}
use Rattle.lists.proofs.Parts.{run_length}

pub next_low : (flag : ℕ) (alive : List ℕ) (rows from : ℕ) → from ≤ next_row flag alive rows from
unfolding next_row
next_low flag alive rows from = seek-low (alive_bit flag alive) from (rows - from)

pub next-high : (flag : ℕ) (alive : List ℕ) (rows from : ℕ) → from ≤ rows → next_row flag alive rows from ≤ rows
unfolding next_row
next-high flag alive rows from h = let k = seek-high (alive_bit flag alive) from (rows - from) in omega arith

-- the times before a row are there
pub times_fit : {p : Stand} {ids values : List ℕ} → TimesAt p ids values → (n : ℕ) → n ≤ p.rows → times_before p.kind (ids_at p ids) n ≤ length (values_at p values)
times_fit {p} {ids} t n h = rw (sym (times_earlier p.kind (ids_at p ids) n)) (earlier_le t.sound n h)

module _ {p : Stand} {ids values alive : List ℕ} (t : Timed p ids values alive) {from k : ℕ} (l : Left p ids from k) where
  pub words-there : p.flag ≡ 1 → p.rows ≤ 64 * length (alive_set_at p alive)
  words-there e = rw (run_length p.alive.from p.alive.to alive t.alive-lie.ends) (t.enough e)

  module _ {n : ℕ} (e : n ≡ next_row p.flag (alive_set_at p alive) p.rows from) where
    from-before : from ≤ n
    from-before = rw e (next_low p.flag (alive_set_at p alive) p.rows from)

    pub cursor-none : p.rows ≤ n → record no_cursor { pos = p.rows; end = p.rows } ≡ first_from (segment_in p ids values alive) from
    unfolding first_from cursor_at key_cursor segment_in
    cursor-none h = rw (sym e, le-ltb n p.rows h)

    module _ (h : n < p.rows) where
      pub row_small : n < 4294967296
      row_small = omega (arith, t.times.small)

      pub ids-ready : (p.kind ≡ 0 → ⊥) → (p.kind ≡ 1 → ⊥) → k ≤ rank_in (suc n) (ids_at p ids)
      ids-ready a b = rw (l.times ∙ sym (times-listed p.kind (ids_at p ids) from a b)) (rank_grows from (suc n) (ids_at p ids) (omega (arith, from-before)))

      module _ {m : ℕ} (f : m ≡ times_before p.kind (ids_at p ids) (suc n)) where
        pub values-ready : m ≤ length (values_at p values)
        values-ready = rw f (times_fit t.times (suc n) h)

        pub cursor-some : key_cursor (last_key (values_at p values) m) n p.rows m ≡ first_from (segment_in p ids values alive) from
        unfolding first_from cursor_at segment_in
        cursor-some = rw (sym e, lt-ltb n p.rows h, f, sym (times-kind p.kind (ids_at p ids) (suc n)))
