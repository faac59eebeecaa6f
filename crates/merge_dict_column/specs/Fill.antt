-- What the dictionary's part of a join takes as given, and what it leaves. Assumes nothing.
use Rattle.std.specs.Prelude.{ℕ, ◌≤◌, ◌<◌, ◌≡◌, List, false, cond, eqb, length, get_or, replicate}
use Rattle.definitions.specs.Segment.{Segment}
use Rattle.definitions.specs.Row.{has_alive_set, held_of}
use Rattle.definitions.specs.Join.{absent}
use Rattle.definitions.specs.Answer.{sum_over, terms_in, bytes_in}
use Rattle.census.specs.Table.{Table}
use Rattle.term_marks.specs.Marks.{marked_all, Columns}
use Rattle.merge_dict_column.specs.Dict.{Dictionary}

-- the marks of an ordered join; a stacked one leaves them
unfoldable pub marks_for : ℕ → List (List ℕ) → List ℕ → List ℕ → List ℕ → List ℕ → List ℕ → List ℕ
marks_for mode stands ids offsets values alive marks = cond (eqb mode 0) marks (marked_all stands ids offsets values alive marks)

-- one for each term, zero at first; a stacked join has none
unfoldable pub marks_of : ℕ → List (List ℕ) → List ℕ → List ℕ → List ℕ → List ℕ → List ℕ → List ℕ
unfolding marks_for
marks_of mode stands ids offsets values alive lengths = marks_for mode stands ids offsets values alive (replicate (cond (eqb mode 0) 0 (length lengths)) 0)

pub record MarksFor (mode : ℕ) (stands : List (List ℕ)) (ids offsets values alive marks : List ℕ) : Type 0 where
  pub columns : (mode ≡ 0 → ⊥) → Columns stands ids offsets values alive marks

-- the table of the join's segments; a stacked join has no alive set
pub record DictionaryGiven (mode : ℕ) (stands : List (List ℕ)) (ids offsets values lengths bytes alive work lens outs ords : List ℕ) : Type 0 where
  pub ss : List Segment
  pub table : Table stands ids offsets values lengths bytes alive ss
  pub alone : mode ≡ 0 → (k : ℕ) → k < length ss → has_alive_set (get_or ss k absent) ≡ false
  pub clean : work ≡ replicate (length work) 0
  pub room : (mode ≡ 0 → ⊥) → length lengths ≤ length work
  pub terms : sum_over terms_in (held_of ss) ≤ length lens
  pub texts : sum_over bytes_in (held_of ss) ≤ length outs
  pub map : sum_over terms_in (held_of ss) ≤ length ords
  pub narrow : sum_over bytes_in (held_of ss) ≤ 4294967294

pub record DictionaryLeft (mode : ℕ) (stands : List (List ℕ)) (ids offsets values lengths bytes alive work lens outs ords : List ℕ) (n m k : ℕ) (work' lens' outs' ords' : List ℕ) : Type 0 where
  pub merged : Dictionary stands lengths bytes (marks_of mode stands ids offsets values alive lengths) (eqb mode 0) lens outs ords n m k lens' outs' ords'
  pub clean : work' ≡ work
