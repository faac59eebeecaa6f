-- Where a segment stands: its stand, the table of stands, and what the records say of it, by running sums. Assumes nothing.
use Rattle.std.specs.Prelude.{ℕ, ◌+◌, ◌-◌, ◌≤◌, List, [], ◌∷◌, map, length, get_or, take, drop}
use Rattle.definitions.specs.Lists.{up_to}
use Rattle.definitions.specs.Words.{words_per_value}
use Rattle.definitions.specs.Segment.{SegmentRecord, alive_words, record_words}
use Rattle.segment.specs.Records.{record_at, start_at}
use Rattle.stands.specs.declared.Span.{Span}
use Rattle.stands.specs.declared.Stand.{Stand}

-- ---- a run

abbrev pub run : ℕ → ℕ → List ℕ → List ℕ
run a b l = take (b - a) (drop a l)

-- what stands there
abbrev pub part : Span → List ℕ → List ℕ
part w l = run w.from w.to l

-- how many elements that are
abbrev pub many : Span → ℕ
many w = w.to - w.from

-- the n elements from a on
abbrev pub span : ℕ → ℕ → Span
span a n = record { from = a; to = a + n }

-- none of them
abbrev pub none_of : Span → Span
none_of w = record { from = w.from; to = w.from }

-- the run lies in the section
pub record Lies (w : Span) (l : List ℕ) : Type 0 where
  pub rises : w.from ≤ w.to
  pub ends : w.to ≤ length l

-- ---- a table has the numbers of stands

abbrev pub stand_of : List ℕ → Stand
stand_of r =
    record {
      typ = get_or r 0 0;
      kind = get_or r 1 0;
      flag = get_or r 2 0;
      held = get_or r 3 0;
      rows = get_or r 4 0;
      work = get_or r 5 0;
      count = get_or r 6 0;
      unit = get_or r 7 0;
      ids = record { from = get_or r 8 0; to = get_or r 9 0 };
      offsets = record { from = get_or r 10 0; to = get_or r 11 0 };
      values = record { from = get_or r 12 0; to = get_or r 13 0 };
      terms = record { from = get_or r 14 0; to = get_or r 15 0 };
      text = record { from = get_or r 16 0; to = get_or r 17 0 };
      alive = record { from = get_or r 18 0; to = get_or r 19 0 };
      map = record { from = get_or r 20 0; to = get_or r 21 0 };
      live = get_or r 22 0;
      least = get_or r 23 0;
      greatest = get_or r 24 0;
    }

abbrev pub numbers_of : Stand → List ℕ
numbers_of p =
    p.typ
    ∷ p.kind
    ∷ p.flag
    ∷ p.held
    ∷ p.rows
    ∷ p.work
    ∷ p.count
    ∷ p.unit
    ∷ p.ids.from
    ∷ p.ids.to
    ∷ p.offsets.from
    ∷ p.offsets.to
    ∷ p.values.from
    ∷ p.values.to
    ∷ p.terms.from
    ∷ p.terms.to
    ∷ p.text.from
    ∷ p.text.to
    ∷ p.alive.from
    ∷ p.alive.to
    ∷ p.map.from
    ∷ p.map.to
    ∷ p.live
    ∷ p.least
    ∷ p.greatest
    ∷ []

abbrev pub stand_at : List (List ℕ) → ℕ → Stand
stand_at stands k = stand_of (get_or stands k [])

-- f 0, f 1, .., n elements in all
unfoldable pub table : {A : Type 0} → (ℕ → A) → ℕ → List A
table f n = map f (up_to n)

-- ---- from the records

-- where segment k stands, one segment after another and none of them marked as held
unfoldable pub stand_in : List (List ℕ) → ℕ → Stand
stand_in records k =
    record {
      typ = (record_at records k).type;
      kind = (record_at records k).kind;
      flag = (record_at records k).flag;
      held = 0;
      rows = (record_at records k).rows;
      work = start_at (λ r. r.rows) records k;
      count = (record_at records k).values;
      unit = words_per_value (record_at records k).type;
      ids = span (start_at (λ r. r.ids) records k) (record_at records k).ids;
      offsets = span (start_at (λ r. r.offsets) records k) (record_at records k).offsets;
      values = span (start_at record_words records k) (record_words (record_at records k));
      terms = span (start_at (λ r. r.terms) records k) (record_at records k).terms;
      text = span 0 0;
      alive = span (start_at alive_words records k) (alive_words (record_at records k));
      map = span 0 0;
      live = (record_at records k).alive_count;
      least = (record_at records k).pair.least;
      greatest = (record_at records k).pair.greatest;
    }

abbrev pub stands_in : List (List ℕ) → List (List ℕ)
stands_in records = table (λ k. numbers_of (stand_in records k)) (length records)

-- before the first segment
abbrev pub nowhere : Stand
nowhere = stand_of []

-- the segment of a record, behind the one that stands at p
unfoldable pub next_stand : Stand → SegmentRecord → Stand
next_stand p r =
    record {
      typ = r.type;
      kind = r.kind;
      flag = r.flag;
      held = 0;
      rows = r.rows;
      work = p.work + p.rows;
      count = r.values;
      unit = words_per_value r.type;
      ids = span p.ids.to r.ids;
      offsets = span p.offsets.to r.offsets;
      values = span p.values.to (record_words r);
      terms = span p.terms.to r.terms;
      text = span 0 0;
      alive = span p.alive.to (alive_words r);
      map = span 0 0;
      live = r.alive_count;
      least = r.pair.least;
      greatest = r.pair.greatest;
    }

-- no run ends after n
pub record Low (p : Stand) (n : ℕ) : Type 0 where
  pub work : p.work + p.rows ≤ n
  pub ids : p.ids.to ≤ n
  pub offsets : p.offsets.to ≤ n
  pub values : p.values.to ≤ n
  pub terms : p.terms.to ≤ n
  pub alive : p.alive.to ≤ n

-- each run of x ends at most 2^33 after that of p
pub record Grown (p x : Stand) : Type 0 where
  pub work : x.work + x.rows ≤ p.work + p.rows + 8589934592
  pub ids : x.ids.to ≤ p.ids.to + 8589934592
  pub offsets : x.offsets.to ≤ p.offsets.to + 8589934592
  pub values : x.values.to ≤ p.values.to + 8589934592
  pub terms : x.terms.to ≤ p.terms.to + 8589934592
  pub alive : x.alive.to ≤ p.alive.to + 8589934592
