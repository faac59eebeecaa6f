-- A term by where it stands, with its first sixteen bytes as two words beside that. Assumes nothing.
use Rattle.std.specs.Prelude.{ℕ, zero, suc, ◌+◌, ◌-◌, ◌*◌, ◌≤◌, ◌<◌, min, List, ◌∷◌, length, take, drop, get_or}
use Rattle.term_order.specs.declared.Key.{Key}

-- the number that the first k bytes make, the first one highest; zeros stand after the last
unfoldable pub value_of : ℕ → List ℕ → ℕ
value_of zero t = 0
value_of (suc k) t = value_of k t * 256 + get_or t k 0

-- the first eight bytes as a word
unfoldable pub word_of : List ℕ → ℕ
word_of t = value_of 8 t

-- the term that stands from one byte to another
abbrev pub term_in : List ℕ → ℕ → ℕ → List ℕ
term_in bytes from till = take (till - from) (drop from bytes)

-- how many of the first sixteen bytes there are, and the bytes after them
unfoldable pub rest_of : List ℕ → List ℕ
rest_of t = min 16 (length t) ∷ drop 16 t

-- what a key is compared by: its words, and what they leave open
unfoldable pub keyed : List ℕ → Key → List ℕ
keyed bytes k = k.first ∷ k.second ∷ rest_of (term_in bytes k.from k.till)

-- the key of a term: its words are the first eight bytes and the next eight
abbrev pub key_at : List ℕ → ℕ → ℕ → Key
key_at bytes from till =
    record { from = from; till = till; first = word_of (term_in bytes from till); second = word_of (drop 8 (term_in bytes from till)) }

-- a key's term lies in the bytes
pub record Inside (bytes : List ℕ) (k : Key) : Type 0 where
  pub low : k.from ≤ k.till
  pub high : k.till ≤ length bytes

-- each is below 256
pub record AllBytes (t : List ℕ) : Type 0 where
  pub byte : (i : ℕ) → get_or t i 0 < 256
