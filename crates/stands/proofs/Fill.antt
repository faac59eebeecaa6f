-- A turn of the loops that fill stands, alive sets and sources. Assumes nothing.
use Prim.Native.Nat.{ℕ, suc, ◌+◌, ◌*◌, ◌≤◌, ◌<◌}
use native.Mathlib.Nat.{zero-add, le_refl}
use native.Mathlib.Numerals.{add-one}
use native.Mathlib.Omega.{arith}
use mathlib.Core.Path.{◌≡◌, refl, sym, ap, ap₂, ◌∙◌, subst}
use mathlib.Core.List.{List}
use lib.ListN.{length, get_or, set, take}
use Rattle.definitions.specs.Words.{words_per_value}
use Rattle.definitions.specs.Segment.{alive_words, record_words}
use Rattle.runs.specs.Put.{put}
use Rattle.runs.proofs.Laws.{putting, putting-more, putting-all, front-lent}
use Rattle.stands.specs.declared.Stand.{Stand}
use Rattle.stands.specs.Stand.{table, nowhere, next_stand, Low, Grown, numbers_of, stand_in, stands_in}
use Rattle.definitions.proofs.Lists.{up_at, up_length}
use Rattle.segment.specs.Records.{record_at, start_at}

-- ---- tables

module _ {A : Type 0} (f : ℕ → A) where
  pub table-length : (n : ℕ) → length (table f n) ≡ n
  unfolding table
  table-length n = up_length f n

  pub table_at : (d : A) (n k : ℕ) → k < n → get_or (table f n) k d ≡ f k
  unfolding table
  table_at d n k h = up_at f d 0 n k h ∙ ap f (zero-add k)

  -- element s is written, x is what the code has for it
  pub table_more : (n : ℕ) (old : List A) (s : ℕ) (x : A) → n ≤ length old → s < n → x ≡ f s → set (putting 0 (table f n) old s) s x ≡ putting 0 (table f n) old (s + 1)
  table_more n old s x room h e =
      let l : length (table f n) ≡ n = table-length n in
      ap₂ (λ (k : ℕ) (y : A). set (putting 0 (table f n) old s) k y) (sym (zero-add s)) (e ∙ sym (table_at x n s h))
      ∙ putting-more 0 (table f n) old s x (omega arith) (omega arith)

  pub table-all : (n : ℕ) (old : List A) (s : ℕ) → s ≤ n → n ≤ s → putting 0 (table f n) old s ≡ put 0 (table f n) old
  table-all n old s h k = putting-all 0 (table f n) old s n (table-length n) h k

-- ---- running sums

-- the runs of the segments before s end where those at p do
pub record Ends (records : List (List ℕ)) (s : ℕ) (p : Stand) : Type 0 where
  pub work : p.work + p.rows ≡ start_at (λ r. r.rows) records s
  pub ids : p.ids.to ≡ start_at (λ r. r.ids) records s
  pub offsets : p.offsets.to ≡ start_at (λ r. r.offsets) records s
  pub values : p.values.to ≡ start_at record_words records s
  pub terms : p.terms.to ≡ start_at (λ r. r.terms) records s
  pub alive : p.alive.to ≡ start_at alive_words records s

pub ends-none : (records : List (List ℕ)) → Ends records 0 nowhere
ends-none records = record { work = refl; ids = refl; offsets = refl; values = refl; terms = refl; alive = refl }

pub next-is : {records : List (List ℕ)} {s : ℕ} {p : Stand} → Ends records s p → next_stand p (record_at records s) ≡ stand_in records s
unfolding next_stand stand_in
next-is {records} {s} e =
    λ i.
    record {
      typ = (record_at records s).type;
      kind = (record_at records s).kind;
      flag = (record_at records s).flag;
      held = 0;
      rows = (record_at records s).rows;
      work = e.work i;
      count = (record_at records s).values;
      unit = words_per_value (record_at records s).type;
      ids = record { from = e.ids i; to = e.ids i + (record_at records s).ids };
      offsets = record { from = e.offsets i; to = e.offsets i + (record_at records s).offsets };
      values = record { from = e.values i; to = e.values i + record_words (record_at records s) };
      terms = record { from = e.terms i; to = e.terms i + (record_at records s).terms };
      text = record { from = 0; to = 0 };
      alive = record { from = e.alive i; to = e.alive i + alive_words (record_at records s) };
      map = record { from = 0; to = 0 };
      live = (record_at records s).alive_count;
      least = (record_at records s).pair.least;
      greatest = (record_at records s).pair.greatest;
    }

ends-suc : (records : List (List ℕ)) (s : ℕ) → Ends records (suc s) (stand_in records s)
unfolding stand_in
ends-suc records s = record { work = refl; ids = refl; offsets = refl; values = refl; terms = refl; alive = refl }

pub ends_next : {records : List (List ℕ)} (s : ℕ) {x : Stand} → x ≡ stand_in records s → Ends records (s + 1) x
ends_next {records} s e = rw (add-one s) (subst (Ends records (suc s)) (sym e) (ends-suc records s))

pub low-none : Low nowhere 0
low-none = record { work = le_refl 0; ids = le_refl 0; offsets = le_refl 0; values = le_refl 0; terms = le_refl 0; alive = le_refl 0 }

pub low-next : {p x : Stand} (s : ℕ) → Low p (s * 8589934592) → Grown p x → Low x ((s + 1) * 8589934592)
low-next s l g =
    record {
      work = omega (arith, l.work, g.work);
      ids = omega (arith, l.ids, g.ids);
      offsets = omega (arith, l.offsets, g.offsets);
      values = omega (arith, l.values, g.values);
      terms = omega (arith, l.terms, g.terms);
      alive = omega (arith, l.alive, g.alive);
    }

-- at most 256 segments
pub low-enough : {p : Stand} (s : ℕ) → Low p (s * 8589934592) → s < 256 → Low p 2199023255552
low-enough s l h =
    record {
      work = omega (arith, l.work);
      ids = omega (arith, l.ids);
      offsets = omega (arith, l.offsets);
      values = omega (arith, l.values);
      terms = omega (arith, l.terms);
      alive = omega (arith, l.alive);
    }

-- ---- the table of a call

pub many-stands : (records : List (List ℕ)) → length (stands_in records) ≡ length records
many-stands records = table-length (λ k. numbers_of (stand_in records k)) (length records)

-- the part of it that is lent
pub lent-stands : (records old : List (List ℕ)) {l : List (List ℕ)} → l ≡ put 0 (stands_in records) old → take (length records) l ≡ stands_in records
lent-stands records old {l} e = front-lent (stands_in records) old l (length records) (sym (many-stands records)) e
