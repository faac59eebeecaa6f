-- The marks of the terms that the segments keep: one byte for each term, where the segment's terms stand. Assumes nothing.
use Rattle.std.specs.Prelude.{ℕ, zero, suc, ◌*◌, ◌≤◌, ◌<◌, Bool, true, cond, List, [], ◌∷◌, ◌++◌, ◌≡◌, eqb, length, replicate, set}
use Rattle.std.proofs.Math.Seq.{slice}
use Rattle.definitions.specs.Segment.{Segment}
use Rattle.definitions.specs.Row.{has_alive_set, bit_at}
use Rattle.definitions.specs.Join.{is_used}
use Rattle.runs.specs.Put.{put, Below}
use Rattle.column_index.specs.Lookup.{start_of, end_of, Sound}
use Rattle.stands.specs.declared.Stand.{Stand}
use Rattle.stands.specs.Stand.{part, many, Lies, stand_of, stand_at}
use Rattle.stands.specs.Look.{ids_at, offsets_at, values_at, pair_at, alive_set_at}

-- ---- a segment's term

-- the segment that stands there; the terms themselves don't matter here
abbrev pub column_at : Stand → List ℕ → List ℕ → List ℕ → List ℕ → Segment
column_at p ids offsets values alive =
    record {
      type = p.typ;
      kind = p.kind;
      rows = p.rows;
      ids = ids_at p ids;
      offsets = offsets_at p offsets;
      values = values_at p values;
      terms = [];
      flag = p.flag;
      alive_count = p.live;
      pair = pair_at p;
      alive = alive_set_at p alive;
    }

-- a segment keeps its term k: it has no alive set, or an alive row uses the term
unfoldable pub is_kept : Segment → ℕ → Bool
is_kept s k = cond (has_alive_set s) (is_used s k) true

abbrev pub bit : Bool → ℕ
bit b = cond b 1 0

-- ---- what the code sets

-- 1 at each place that is listed
unfoldable pub set_all : List ℕ → List ℕ → List ℕ
set_all [] marks = marks
set_all (v ∷ vs) marks = set_all vs (set marks v 1)

-- the values of a row, if it is alive
unfoldable pub used_by : ℕ → List ℕ → List ℕ → List ℕ → List ℕ → ℕ → List ℕ
used_by kind ids offsets values alive row = cond (bit_at alive row) (slice (start_of kind ids offsets row) (end_of kind ids offsets row) values) []

-- those of n rows from the given one on
unfoldable pub used_from : ℕ → List ℕ → List ℕ → List ℕ → List ℕ → ℕ → ℕ → List ℕ
used_from kind ids offsets values alive row zero = []
used_from kind ids offsets values alive row (suc n) = used_by kind ids offsets values alive row ++ used_from kind ids offsets values alive (suc row) n

-- those of all rows of the segment
abbrev pub used_in : Stand → List ℕ → List ℕ → List ℕ → List ℕ → List ℕ
used_in p ids offsets values alive = used_from p.kind (ids_at p ids) (offsets_at p offsets) (values_at p values) (alive_set_at p alive) 0 p.rows

-- a segment's part of the marks: what its alive rows use, or all without an alive set
unfoldable pub marks_over : Stand → List ℕ → List ℕ → List ℕ → List ℕ → List ℕ → List ℕ
marks_over p ids offsets values alive old = cond (eqb p.flag 1) (set_all (used_in p ids offsets values alive) old) (replicate (length old) 1)

-- all marks after the segment's
unfoldable pub marked_in : Stand → List ℕ → List ℕ → List ℕ → List ℕ → List ℕ → List ℕ
marked_in p ids offsets values alive marks = put p.terms.from (marks_over p ids offsets values alive (part p.terms marks)) marks

unfoldable pub marked_all : List (List ℕ) → List ℕ → List ℕ → List ℕ → List ℕ → List ℕ → List ℕ
marked_all [] ids offsets values alive marks = marks
marked_all (r ∷ rs) ids offsets values alive marks = marked_all rs ids offsets values alive (marked_in (stand_of r) ids offsets values alive marks)

-- ---- what the checks say

-- the runs lie within the sections
pub record Lying (p : Stand) (ids offsets values alive : List ℕ) : Type 0 where
  pub ids-lie : Lies p.ids ids
  pub offsets-lie : Lies p.offsets offsets
  pub values-lie : Lies p.values values
  pub alive-lie : Lies p.alive alive

-- 2, 4, 5 and 7 of a segment with n terms
pub record Marking (kind rows : ℕ) (ids offsets values alive : List ℕ) (n : ℕ) : Type 0 where
  pub sound : Sound kind rows (length values) ids offsets
  pub words : rows ≤ 64 * length alive
  pub ordinals : Below n values
  pub few : rows < 4294967296

abbrev pub MarkingAt : Stand → List ℕ → List ℕ → List ℕ → List ℕ → ℕ → Type 0
MarkingAt p ids offsets values alive n = Marking p.kind p.rows (ids_at p ids) (offsets_at p offsets) (values_at p values) (alive_set_at p alive) n

-- they are asked of a segment that has terms and an alive set
pub record Usable (p : Stand) (ids offsets values alive : List ℕ) (n : ℕ) : Type 0 where
  pub lying : Lying p ids offsets values alive
  pub marking : p.flag ≡ 1 → 0 < n → MarkingAt p ids offsets values alive n

-- and of all segments
pub record Columns (stands : List (List ℕ)) (ids offsets values alive marks : List ℕ) : Type 0 where
  pub usable : (k : ℕ) → k < length stands → Usable (stand_at stands k) ids offsets values alive (many (stand_at stands k).terms)
  pub terms-lie : (k : ℕ) → k < length stands → Lies (stand_at stands k).terms marks

-- the segments' terms stand one behind another
pub record Apart (stands : List (List ℕ)) : Type 0 where
  pub apart : (j k : ℕ) → j < k → k < length stands → (stand_at stands j).terms.to ≤ (stand_at stands k).terms.from
