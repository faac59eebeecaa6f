-- What the parts of the walk leave. Assumes nothing.
use Rattle.std.specs.Prelude.{ℕ, suc, ◌+◌, ◌-◌, ◌≤◌, ◌<◌, Bool, false, cond, List, [], ◌∷◌, map, ◌⊎◌, ◌≡◌, eqb, T, length, take, get_or, set}
use Rattle.term_walk.specs.declared.Last.{Last}
use Rattle.term_walk.specs.declared.Taken.{Taken}
use Rattle.term_order.specs.Key.{term_in, keyed}
use Rattle.term_merger.specs.declared.Cursor.{Cursor}
use Rattle.term_merger.specs.Order.{cursor_in}
use Rattle.runs.specs.Put.{put}
use Rattle.term_cursors.specs.Cursors.{unmarked_at, lens_of, dict_of, cursor_of, terms_in, bytes_in, sum_over}
use Rattle.term_cursors.specs.Runs.{join_to}
use Rattle.definitions.specs.Lists.{sum, up_to, sort_terms, terms_ascending, concat}
use Rattle.definitions.specs.Join.{ordinal_of}
use Rattle.definitions.specs.Outcome.{written}
use Rattle.term_merger.specs.Live.{left_of}

-- the term at a cursor, and the last one written
abbrev pub term_of : List ℕ → Cursor → List ℕ
term_of bytes cursor = term_in bytes cursor.key.from cursor.key.till

abbrev pub last_of : List ℕ → Last → List ℕ
last_of bytes l = term_in bytes l.key.from l.key.till

-- the term is the last one written
pub record Again (bytes : List ℕ) (cursor : Cursor) (l : Last) (lens outs : List ℕ) (t : Taken) (lens' outs' : List ℕ) : Type 0 where
  pub some : 0 < l.kept.terms
  pub same : keyed bytes cursor.key ≡ keyed bytes l.key
  pub ordinal : t.ordinal + 1 ≡ l.kept.terms
  pub last : t.last ≡ l
  pub lengths : lens' ≡ lens
  pub texts : outs' ≡ outs

-- it is another, and not marked
pub record Skipped (bytes : List ℕ) (cursor : Cursor) (l : Last) (lens outs : List ℕ) (t : Taken) (lens' outs' : List ℕ) : Type 0 where
  pub other : 0 < l.kept.terms → keyed bytes cursor.key ≡ keyed bytes l.key → ⊥
  pub unmarked : cursor.unmarked ≡ 0 → ⊥
  pub ordinal : t.ordinal ≡ 0
  pub last : t.last ≡ l
  pub lengths : lens' ≡ lens
  pub texts : outs' ≡ outs

-- it is another, and marked: it is written
pub record Added (bytes : List ℕ) (cursor : Cursor) (given : List ℕ) (l : Last) (lens outs : List ℕ) (t : Taken) (lens' outs' : List ℕ) : Type 0 where
  pub other : 0 < l.kept.terms → keyed bytes cursor.key ≡ keyed bytes l.key → ⊥
  pub marked : cursor.unmarked ≡ 0
  pub ordinal : t.ordinal ≡ l.kept.terms
  pub terms : t.last.kept.terms ≡ l.kept.terms + 1
  pub used : t.last.kept.bytes ≡ l.kept.bytes + (cursor.key.till - cursor.key.from)
  pub copied : t.last.kept.copied ≡ l.kept.copied + length (term_of bytes cursor)
  pub key : t.last.key ≡ cursor.key
  pub lengths : lens' ≡ set lens l.kept.terms (get_or given cursor.pos 0)
  pub texts : outs' ≡ put l.kept.bytes (term_of bytes cursor) outs

abbrev pub Took : List ℕ → Cursor → List ℕ → Last → List ℕ → List ℕ → Taken → List ℕ → List ℕ → Type 0
Took bytes cursor given l lens outs t lens' outs' =
    Again bytes cursor l lens outs t lens' outs' ⊎ (Skipped bytes cursor l lens outs t lens' outs' ⊎ Added bytes cursor given l lens outs t lens' outs')

-- ---- what the walk needs

-- the first cursors of up to 256 segments: their terms lie in the runs, ascend, follow one another in the map, and have room in the outputs
pub record Ready (lengths bytes marks : List ℕ) (all : Bool) (cursors : List Cursor) (lens outs ords : List ℕ) : Type 0 where
  pub size : length cursors ≡ 256
  pub cursor : (s : ℕ) → s < 256 → cursor_in cursors s ≡ cursor_of lengths bytes marks all cursors s 0
  pub low : (s : ℕ) → (cursor_in cursors s).pos ≤ (cursor_in cursors s).end
  pub inside : (s : ℕ) → (cursor_in cursors s).end ≤ length lengths
  pub marked : (s : ℕ) → all ≡ false → (cursor_in cursors s).end ≤ length marks
  pub fits : (s : ℕ) → (cursor_in cursors s).key.from + sum (lens_of lengths cursors s) ≤ length bytes
  pub asc : (s : ℕ) → T (terms_ascending (dict_of lengths bytes cursors s))
  pub starts : (s : ℕ) → 0 < left_of cursors s → (cursor_in cursors s).to ≡ sum_over terms_in (take s cursors)
  pub places : sum_over terms_in cursors ≤ length ords
  pub terms : sum_over terms_in cursors ≤ length lens
  pub texts : sum_over (bytes_in lengths) cursors ≤ length outs
  pub small : sum_over (bytes_in lengths) cursors < 4294967296

-- ---- what it leaves

-- the terms that are marked; the first one's mark stands at pos
abbrev pub marked_from : List ℕ → Bool → ℕ → List (List ℕ) → List (List ℕ)
marked_from marks all pos [] = []
marked_from marks all pos (t ∷ ts) = cond (eqb (unmarked_at marks all pos) 0) (t ∷ marked_from marks all (suc pos) ts) (marked_from marks all (suc pos) ts)

-- the marked terms of n dictionaries, ascending, each once; the marks of dictionary s begin at pos s
abbrev pub terms_to : List ℕ → Bool → (ℕ → ℕ) → (ℕ → List (List ℕ)) → ℕ → List (List ℕ)
terms_to marks all pos dict n = sort_terms (join_to (λ s. marked_from marks all (pos s) (dict s)) n)

-- the map of n dictionaries: each old ordinal's new one, by its term's place among terms
abbrev pub map_to : List (List ℕ) → (ℕ → List (List ℕ)) → ℕ → List ℕ
map_to terms dict n = join_to (λ s. map (ordinal_of terms) (dict s)) n

-- the marked terms of all segments
unfoldable pub walked_terms : List ℕ → List ℕ → List ℕ → Bool → List Cursor → List (List ℕ)
walked_terms lengths bytes marks all cursors = terms_to marks all (λ s. (cursor_in cursors s).pos) (dict_of lengths bytes cursors) (length cursors)

-- and their map
unfoldable pub walked_map : List ℕ → List ℕ → List ℕ → Bool → List Cursor → List ℕ
walked_map lengths bytes marks all cursors = map_to (walked_terms lengths bytes marks all cursors) (dict_of lengths bytes cursors) (length cursors)

-- each cursor past its segment's last term
unfoldable pub walked_cursors : List ℕ → List ℕ → List ℕ → Bool → List Cursor → List Cursor
walked_cursors lengths bytes marks all cursors = map (λ s. cursor_of lengths bytes marks all cursors s (left_of cursors s)) (up_to (length cursors))

-- the dictionary dict and the map new are written; n and m count the terms and their bytes, k the bytes copied: each term's once
pub record Merged (dict : List (List ℕ)) (new lens outs ords : List ℕ) (n m k : ℕ) (lens' outs' ords' : List ℕ) : Type 0 where
  pub terms : n ≡ length dict
  pub used : m ≡ length (concat dict)
  pub copied : k ≡ sum (map length dict)
  pub lengths_out : lens' ≡ written (map length dict) lens
  pub texts_out : outs' ≡ written (concat dict) outs
  pub map_out : ords' ≡ written new ords
