-- A segment's stored words as the joined column has them. Assumes nothing.
use Rattle.std.specs.Prelude.{ℕ, ◌<◌, ◌≡◌, List, map, true, cond, length}
use Rattle.definitions.specs.Types.{has_terms, integer_of, double_of, coerced}
use Rattle.runs.specs.Put.{looked, Below}
use Rattle.stands.specs.declared.Span.{Span}
use Rattle.stands.specs.declared.Stand.{Stand}
use Rattle.stands.specs.Stand.{part, Lies}

-- integers of type t as doubles
unfoldable pub doubles : ℕ → List ℕ → List ℕ
doubles t vs = map (λ w. double_of (integer_of t w)) vs

-- words of type t as words of type u
unfoldable pub coerced_all : ℕ → ℕ → List ℕ → List ℕ
coerced_all t u vs = map (coerced t u) vs

-- an ordinal is looked up in the segment's part of the map, any other word coerced to the joined type
unfoldable pub words_by : ℕ → ℕ → Span → List ℕ → List ℕ → List ℕ
words_by to type w table vs = cond (has_terms type) (looked (part w table) vs) (coerced_all type to vs)

-- the ordinals lie within the segment's part of the map
pub record Words (type : ℕ) (w : Span) (table vs : List ℕ) : Type 0 where
  pub code : type < 4294967296
  pub map_lies : Lies w table
  pub ordinals : has_terms type ≡ true → Below (length (part w table)) vs

-- ---- of the segment at p

abbrev pub map_at : Stand → List ℕ → List ℕ
map_at p table = part p.map table

abbrev pub new_words : ℕ → Stand → List ℕ → List ℕ → List ℕ
new_words to p table vs = words_by to p.typ p.map table vs

abbrev pub Worded : Stand → List ℕ → List ℕ → Type 0
Worded p table vs = Words p.typ p.map table vs
