-- Values and their words (document 02, (g)): a value is one number, and its words appear only where sections and outputs are laid out. Assumes nothing.
use Rattle.std.specs.Prelude.{ℕ, ◌+◌, ◌*◌, ◌/◌, ◌%◌, ◌^◌, List, [], ◌∷◌, cond, eqb}

-- the type of listener addresses
abbrev pub IpAddr : ℕ
IpAddr = 6

-- an address is two words, any other value one; a type that is unknown has one too
unfoldable pub words_per_value : ℕ → ℕ
words_per_value type = cond (eqb type IpAddr) 2 1

-- the address of a high and a low word
abbrev pub ip_addr_of : ℕ → ℕ → ℕ
ip_addr_of high low = high * 2 ^ 64 + low

-- the words of addresses, the high word first
abbrev pub halves : List ℕ → List ℕ
halves [] = []
halves (v ∷ vs) = v / 2 ^ 64 ∷ v % 2 ^ 64 ∷ halves vs

-- the addresses that words say
abbrev pub paired : List ℕ → List ℕ
paired [] = []
paired (high ∷ []) = []
paired (high ∷ low ∷ ws) = ip_addr_of high low ∷ paired ws

-- the words of a type's values
unfoldable pub value_words : ℕ → List ℕ → List ℕ
value_words type values = cond (eqb type IpAddr) (halves values) values

-- the values of a type that words say
unfoldable pub values_in : ℕ → List ℕ → List ℕ
values_in type words = cond (eqb type IpAddr) (paired words) words
