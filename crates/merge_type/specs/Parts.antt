-- What check 10, the joined type and the joined pair read of the columns where they stand: each one's type, its least and greatest value, and whether it is held. Assumes nothing.
use Rattle.std.specs.Prelude.{ℕ, ◌<◌, List, [], ◌∷◌, map, Bool, true, ◌&&◌, ◌||◌, cond, not, eqb, length, Option, None, Some}
use Rattle.definitions.specs.Lists.{all, any, filter}
use Rattle.definitions.specs.Segment.{Segment, Pair}
use Rattle.definitions.specs.Row.{no_type}
use Rattle.definitions.specs.Types.{is_coercible, type_of}
use Rattle.definitions.specs.Answer.{one_category}
use Rattle.column_type.specs.Codes.{category}
use Rattle.min_max.specs.Pairs.{pairs_together}
use Rattle.numerical.specs.Seen.{first_of}
use Rattle.stands.specs.declared.Stand.{Stand}
use Rattle.stands.specs.Stand.{stand_of, stand_at}
use Rattle.stands.specs.Look.{pair_at}

-- marked as held, and present
unfoldable pub is_part : Stand → Bool
is_part p = eqb p.held 1 && not (eqb p.typ no_type)

-- each type is a u32
pub record Coded (stands : List (List ℕ)) : Type 0 where
  pub each : (k : ℕ) → k < length stands → (stand_at stands k).typ < 4294967296

-- ---- the columns

-- a segment of which only type and pair are read
abbrev pub column_of : ℕ → Pair → Segment
column_of type pair = record { type = type; kind = 0; rows = 0; ids = []; offsets = []; values = []; terms = []; flag = 0; alive_count = 0; pair = pair; alive = [] }

-- the one that stands here, if it is held
abbrev pub held_at : Stand → List Segment → List Segment
held_at p hs = cond (is_part p) (column_of p.typ (pair_at p) ∷ hs) hs

unfoldable pub held_in : List (List ℕ) → List Segment
held_in [] = []
held_in (r ∷ rs) = held_at (stand_of r) (held_in rs)

unfoldable pub types_in : List (List ℕ) → List ℕ
types_in stands = map (λ r. (stand_of r).typ) stands

-- ---- the rules

unfoldable pub one_among : ℕ → List ℕ → Bool
one_among required ts = one_category (filter (λ (t : ℕ). not (eqb t no_type)) (required ∷ ts))

-- every one of the columns becomes type u
unfoldable pub all_become : ℕ → List Segment → Bool
all_become u hs = all (λ (s : Segment). is_coercible s.type u s.pair) hs

-- the joined type, or none where check 10 fails
unfoldable pub type_answer : ℕ → List (List ℕ) → Option ℕ
type_answer required stands =
    cond (one_among required (types_in stands) && all_become (type_of required (held_in stands)) (held_in stands)) (Some (type_of required (held_in stands))) None

-- the pairs of the held columns put together, by type u
unfoldable pub held_pair : ℕ → List (List ℕ) → Pair
held_pair u stands = pairs_together u (map (λ (s : Segment). s.pair) (held_in stands))

-- held, and with an alive set
unfoldable pub is_thinned : Stand → Bool
is_thinned p = eqb p.flag 1 && is_part p

unfoldable pub any_thinned : List (List ℕ) → Bool
any_thinned stands = any (λ r. is_thinned (stand_of r)) stands

-- ---- one type after another

-- t is of the category of the first type, or one of them is none
unfoldable pub fits_first : ℕ → ℕ → Bool
fits_first first t = eqb first no_type || (eqb t no_type || eqb (category first) (category t))

unfoldable pub same_from : ℕ → List ℕ → Bool
same_from first [] = true
same_from first (t ∷ ts) = fits_first first t && same_from (first_of first t) ts
