-- Keys of words, which unsigned numbers compare as the type does, and the least and the greatest of them. Assumes nothing.
use Rattle.std.specs.Prelude.{ℕ, ◌+◌, ◌-◌, ◌%◌, min, max, cond, List, [], ◌∷◌, map, ◌==◌}
use Rattle.definitions.specs.Segment.{Pair, pair}
use Rattle.definitions.specs.Types.{I64}
use Rattle.min_max.specs.declared.Range.{Range}

-- what is added to a word of the type
unfoldable pub shift_of : ℕ → ℕ
shift_of t = cond (t == I64) 9223372036854775808 0

abbrev pub key_of : ℕ → ℕ → ℕ
key_of shift w = (w + shift) % 18446744073709551616

-- the word of a key
abbrev pub word_of : ℕ → ℕ → ℕ
word_of shift k = (k + (18446744073709551616 - shift)) % 18446744073709551616

abbrev pub range_of : ℕ → ℕ → Range
range_of least greatest = record { least = least; greatest = greatest }

abbrev pub both_of : Range → Range → Range
both_of p q = range_of (min p.least q.least) (max p.greatest q.greatest)

-- with one key more
abbrev pub with_key : Range → ℕ → Range
with_key p k = range_of (min p.least k) (max p.greatest k)

-- with all of these keys
abbrev pub range_from : Range → List ℕ → Range
range_from p [] = p
range_from p (k ∷ ks) = range_from (with_key p k) ks

unfoldable pub all_keys : ℕ → List ℕ → List ℕ
all_keys shift ws = map (key_of shift) ws

-- in the words of the definitions
abbrev pub pair_in : Range → Pair
pair_in r = pair r.least r.greatest
