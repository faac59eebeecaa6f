-- The class of a segment, by its kind or by its census. Assumes nothing.
use Rattle.std.specs.Prelude.{ℕ, max, List, [], ◌∷◌, cond, eqb, ltb}
use Rattle.segment.specs.Kind.{by_index}
use Rattle.stands.specs.declared.Stand.{Stand}
use Rattle.stands.specs.Stand.{stand_of}
use Rattle.census.specs.declared.Census.{Census}
use Rattle.census.specs.Census.{census_in}

-- without an alive set
unfoldable pub kind_class_of : ℕ → ℕ → ℕ
kind_class_of kind rows = by_index kind (cond (eqb rows 0) 0 1) 0 1 2

-- with one: 2 if fewer rows are listed than there are values, 1 if fewer than are alive, else 0
unfoldable pub count_class : Census → ℕ
count_class c = cond (ltb c.listed c.values) 2 (cond (ltb c.listed c.alive) 1 0)

unfoldable pub class_by : Stand → Census → ℕ
class_by p c = cond (eqb p.flag 1) (count_class c) (kind_class_of p.kind p.rows)

-- the greatest of all, 0 for none
unfoldable pub greatest_in : List (List ℕ) → List ℕ → List ℕ → List ℕ → ℕ
greatest_in [] ids offsets words = 0
greatest_in (r ∷ rs) ids offsets words = max (class_by (stand_of r) (census_in (stand_of r) ids offsets words)) (greatest_in rs ids offsets words)
