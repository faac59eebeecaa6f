-- Pairs put together. Assumes nothing.
use Rattle.std.specs.Prelude.{ℕ, cond, ◌||◌, List, [], ◌∷◌, ◌==◌}
use Rattle.definitions.specs.Segment.{Pair, pair, no_pair}
use Rattle.definitions.specs.Types.{I64, U64, is_less}

-- the lower of the least and the higher of the greatest values, by type t
unfoldable pub both_pairs : ℕ → Pair → Pair → Pair
both_pairs t p q = pair (cond (is_less t q.least p.least) q.least p.least) (cond (is_less t p.greatest q.greatest) q.greatest p.greatest)

-- one after another
abbrev pub pairs_from : ℕ → Pair → List Pair → Pair
pairs_from t p [] = p
pairs_from t p (q ∷ qs) = pairs_from t (both_pairs t p q) qs

abbrev pub pairs_or_none : ℕ → List Pair → Pair
pairs_or_none t [] = no_pair
pairs_or_none t (p ∷ ps) = pairs_from t p ps

-- 0 and 0 of a type other than I64 and U64, or of no pairs
unfoldable pub pairs_together : ℕ → List Pair → Pair
pairs_together t ps = cond (t == I64 || t == U64) (pairs_or_none t ps) no_pair
