-- What the joining program writes (document 01, C1): a line for the answer, and of an accepted join eight lines more. Total on any bytes read.
-- Assumes nothing.
use Rattle.std.specs.Prelude.{ℕ, zero, suc, ◌+◌, ◌*◌, ◌/◌, ◌%◌, List, [], ◌∷◌, ◌++◌, ◌≡◌, cond, length, take, ltb}
use Prim.Native.Char.{code}
use Prim.Native.String.{String, [] as []ˢ, ◌∷◌ as ◌∷ˢ◌}
use Rattle.definitions.specs.Words.{words_per_value, value_words}
use Rattle.definitions.specs.Segment.{cut}
use Rattle.definitions.specs.Join.{Column}
use Rattle.definitions.specs.Outcome.{Buffers, Answer, accepted, refused, Outcome, join_outcome}
use Rattle.definitions.specs.Wire.{bytes_fit, lent_by}

-- the codes of a text's characters: in ASCII, its bytes
abbrev pub text : String → List ℕ
text []ˢ = []
text (c ∷ˢ cs) = code c ∷ text cs

-- ---- numbers

-- the ASCII code of a digit below 16: 0 to 9, then a to f
abbrev pub digit : ℕ → ℕ
digit d = cond (ltb d 10) (48 + d) (87 + d)

-- the decimal digits of a number that has at most k + 1 of them
abbrev pub decimal_within : ℕ → ℕ → List ℕ
decimal_within zero n = digit n ∷ []
decimal_within (suc k) n = cond (ltb n 10) (digit n ∷ []) (decimal_within k (n / 10) ++ (digit (n % 10) ∷ []))

-- a 64-bit word in decimal, with no zero in front
unfoldable pub decimal : ℕ → List ℕ
decimal n = decimal_within 19 n

-- bytes in lower-case hexadecimal
unfoldable pub hexadecimal : List ℕ → List ℕ
hexadecimal [] = []
hexadecimal (b ∷ bs) = (digit (b / 16) ∷ digit (b % 16) ∷ []) ++ hexadecimal bs

-- a term, an empty one as `-`
unfoldable pub term_text : List ℕ → List ℕ
term_text [] = 45 ∷ []
term_text (b ∷ bs) = hexadecimal (b ∷ bs)

-- ---- lines

abbrev pub space : List ℕ
space = 32 ∷ []

abbrev pub newline : List ℕ
newline = 10 ∷ []

-- each number after a space
unfoldable pub numbers_text : List ℕ → List ℕ
numbers_text [] = []
numbers_text (n ∷ ns) = (space ++ decimal n) ++ numbers_text ns

unfoldable pub terms_text : List (List ℕ) → List ℕ
terms_text [] = []
terms_text (t ∷ ts) = (space ++ term_text t) ++ terms_text ts

-- a name, which ends in a space, and a value
unfoldable pub value_line : List ℕ → ℕ → List ℕ
value_line name n = name ++ (decimal n ++ newline)

-- a name, a count and numbers
unfoldable pub counted_line : List ℕ → ℕ → List ℕ → List ℕ
counted_line name n ns = name ++ (decimal n ++ (numbers_text ns ++ newline))

-- a name, a count and the elements
abbrev pub list_line : List ℕ → List ℕ → List ℕ
list_line name ns = counted_line name (length ns) ns

unfoldable pub terms_line : List ℕ → List (List ℕ) → List ℕ
terms_line name ts = name ++ (decimal (length ts) ++ (terms_text ts ++ newline))

-- ---- the names, each with a space

abbrev pub answer_name : List ℕ
answer_name = text "answer "

abbrev pub type_name : List ℕ
type_name = text "type "

abbrev pub class_name : List ℕ
class_name = text "class "

abbrev pub rows_name : List ℕ
rows_name = text "rows "

abbrev pub ids_name : List ℕ
ids_name = text "ids "

abbrev pub offsets_name : List ℕ
offsets_name = text "offsets "

abbrev pub values_name : List ℕ
values_name = text "values "

abbrev pub terms_name : List ℕ
terms_name = text "terms "

abbrev pub maps_name : List ℕ
maps_name = text "maps "

-- ---- the listing

-- type, class and rows
unfoldable pub numbers_part : ℕ → ℕ → ℕ → List ℕ
numbers_part type class rows = value_line type_name type ++ (value_line class_name class ++ value_line rows_name rows)

-- row ids, offsets and so many values, each as its words
unfoldable pub lists_part : List ℕ → List ℕ → ℕ → List ℕ → List ℕ
lists_part ids offsets values words = list_line ids_name ids ++ (list_line offsets_name offsets ++ counted_line values_name values words)

-- terms and map
unfoldable pub terms_part : List (List ℕ) → List ℕ → List ℕ
terms_part terms map = terms_line terms_name terms ++ list_line maps_name map

-- all nine lines
unfoldable pub accepted_text : ℕ → ℕ → ℕ → List ℕ → List ℕ → ℕ → List ℕ → List (List ℕ) → List ℕ → List ℕ
accepted_text type class rows ids offsets values words terms map =
    value_line answer_name 0 ++ (numbers_part type class rows ++ (lists_part ids offsets values words ++ terms_part terms map))

-- a column and its map: values are counted, an address as one, and each is printed as its words. An accepted call's listing is this (proofs/Outcome)
unfoldable pub column_text : Column → List ℕ → List ℕ
column_text c m = accepted_text c.type c.class c.rows c.ids c.offsets (length c.values) (value_words c.type c.values) c.terms m

-- the column and the map as they stand in the outputs, values in words; a refusal is the first line alone
abbrev pub answer_text : Buffers → Answer → List ℕ
answer_text b (accepted n) =
    accepted_text n.type n.class n.rows
    (take n.ids b.ids)
    (take n.offsets b.offsets)
    n.values (take (n.values * words_per_value n.type) b.values)
    (cut (take n.terms b.term_lengths) b.term_bytes)
    (take n.map b.map)
answer_text b (refused k) = value_line answer_name k

unfoldable pub listing : Outcome → List ℕ
listing o = answer_text o.buffers o.answer

-- what the joining program writes for the bytes that it reads
unfoldable pub reply : List ℕ → List ℕ
reply bytes = cond (bytes_fit bytes) (listing (join_outcome (lent_by bytes))) (value_line answer_name 2)

-- the first n bytes of an input of any length are enough to give its reply: true of every n above most_bytes (proofs/Reading)
abbrev pub Enough : ℕ → Type 0
Enough n = (bytes : List ℕ) → reply (take n bytes) ≡ reply bytes
