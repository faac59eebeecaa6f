-- Where the segments stand as they count in the join, each after its count, and the sums over them. Assumes nothing.
use Rattle.std.specs.Prelude.{ℕ, ◌+◌, ◌≤◌, ◌<◌, max, List, [], ◌∷◌, Bool, ◌&&◌, cond, not, length, eqb}
use Rattle.definitions.specs.Lists.{sum}
use Rattle.definitions.specs.Row.{no_type}
use Rattle.stands.specs.declared.Span.{Span}
use Rattle.stands.specs.declared.Stand.{Stand}
use Rattle.stands.specs.Stand.{part, many, span, none_of, Lies, stand_of, numbers_of, stand_at}
use Rattle.census.specs.declared.Census.{Census}
use Rattle.census.specs.declared.Tally.{Tally}
use Rattle.census.specs.Census.{census_in, Countable}
use Rattle.census.specs.Class.{class_by}

-- present, and an alive row has a value
unfoldable pub held_by : ℕ → ℕ → Bool
held_by type values = not (eqb type no_type) && not (eqb values 0)

-- a held segment, its part of the map from m on and its term bytes at w
abbrev pub kept : Stand → ℕ → Span → Stand
kept p m w =
    record {
      typ = p.typ;
      kind = p.kind;
      flag = p.flag;
      held = 1;
      rows = p.rows;
      work = p.work;
      count = p.count;
      unit = p.unit;
      ids = p.ids;
      offsets = p.offsets;
      values = p.values;
      terms = p.terms;
      text = w;
      alive = p.alive;
      map = span m (many p.terms);
      live = p.live;
      least = p.least;
      greatest = p.greatest;
    }

-- one that is not held is Empty and has no runs
abbrev pub dropped : Stand → ℕ → Span → Stand
dropped p m w =
    record {
      typ = p.typ;
      kind = 0;
      flag = p.flag;
      held = 0;
      rows = p.rows;
      work = p.work;
      count = 0;
      unit = 1;
      ids = none_of p.ids;
      offsets = none_of p.offsets;
      values = none_of p.values;
      terms = none_of p.terms;
      text = record { from = w.to; to = w.to };
      alive = p.alive;
      map = record { from = m; to = m };
      live = p.live;
      least = 0;
      greatest = 0;
    }

unfoldable pub settled : Stand → Census → ℕ → Span → Stand
settled p c m w = cond (held_by p.typ c.values) (kept p m w) (dropped p m w)

-- the census of a settled segment
unfoldable pub census_as : Stand → Census → Census
census_as q c = cond (eqb q.held 1) c (record { alive = c.alive; listed = 0; values = 0 })

-- where a segment's term bytes are that begin at b
abbrev pub text_from : Stand → List ℕ → ℕ → Span
text_from p lengths b = span b (sum (part p.terms lengths))

-- all segments, the first one's part of the map from m on and its term bytes from b on
unfoldable pub settled_from : ℕ → ℕ → List (List ℕ) → List ℕ → List ℕ → List ℕ → List ℕ → List (List ℕ)
settled_from m b [] ids offsets lengths words = []
settled_from m b (r ∷ rs) ids offsets lengths words =
    numbers_of (settled (stand_of r) (census_in (stand_of r) ids offsets words) m (text_from (stand_of r) lengths b))
    ∷ settled_from
    (settled (stand_of r) (census_in (stand_of r) ids offsets words) m (text_from (stand_of r) lengths b)).map.to
    (settled (stand_of r) (census_in (stand_of r) ids offsets words) m (text_from (stand_of r) lengths b)).text.to
    rs ids offsets lengths words

-- ---- the sums

unfoldable pub plus_tally : Tally → Stand → Census → Tally
plus_tally t p c =
    record {
      class = max t.class (class_by p c);
      rows = t.rows + p.rows;
      listed = t.listed + c.listed;
      values = t.values + c.values;
      terms = p.map.to;
      bytes = t.bytes + many p.text;
      text = p.text.to;
    }

abbrev pub no_tally : Tally
no_tally = record { class = 0; rows = 0; listed = 0; values = 0; terms = 0; bytes = 0; text = 0 }

unfoldable pub tally_from : Tally → List (List ℕ) → List ℕ → List ℕ → List ℕ → Tally
tally_from t [] ids offsets words = t
tally_from t (r ∷ rs) ids offsets words = tally_from (plus_tally t (stand_of r) (census_in (stand_of r) ids offsets words)) rs ids offsets words

pub record LowTally (t : Tally) (n : ℕ) : Type 0 where
  pub rows : t.rows ≤ n
  pub listed : t.listed ≤ n
  pub values : t.values ≤ n
  pub terms : t.terms ≤ n
  pub bytes : t.bytes ≤ n
  pub text : t.text ≤ n

-- what the checks up to 7 say of a segment
pub record Ready (p : Stand) (ids offsets lengths words : List ℕ) : Type 0 where
  pub countable : Countable p ids offsets words
  pub terms-lie : Lies p.terms lengths
  pub terms-few : many p.terms ≤ 4294967296
  pub text-few : sum (part p.terms lengths) ≤ 4294967296

pub record AllReady (stands : List (List ℕ)) (ids offsets lengths words : List ℕ) : Type 0 where
  pub few : length stands ≤ 256
  pub each : (k : ℕ) → k < length stands → Ready (stand_at stands k) ids offsets lengths words
