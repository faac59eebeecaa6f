-- What the bytes on the joining program's standard input mean (document 01, "Answers of the joiner", the last paragraph): 64-bit words, the
-- lowest byte first; nine sections, each after its count. Total on any list of bytes. Assumes nothing.
use Rattle.std.specs.Prelude.{ℕ, zero, suc, ◌+◌, ◌*◌, ◌/◌, ◌%◌, List, [], ◌∷◌, map, Bool, ◌&&◌, cond, length, get_or, take, drop, replicate, eqb, leb}
use Rattle.definitions.specs.Lists.{all, all_below}
use Rattle.definitions.specs.Segment.{record_from, record_width, narrow_numbers}
use Rattle.definitions.specs.Outcome.{Buffers, Lent, lent_of}

-- ---- words

-- the number that bytes say, the lowest byte first
abbrev pub little_endian : List ℕ → ℕ
little_endian [] = 0
little_endian (b ∷ bs) = b + 256 * little_endian bs

-- the first n words
unfoldable pub words_in : ℕ → List ℕ → List ℕ
words_in zero bytes = []
words_in (suc n) bytes = little_endian (take 8 bytes) ∷ words_in n (drop 8 bytes)

-- the whole words of an input
unfoldable pub words_of : List ℕ → List ℕ
words_of bytes = words_in (length bytes / 8) bytes

-- ---- sections

-- how many words an element has: mode and required type, records, row ids, offsets, words of values, term lengths, term bytes, alive words, addresses
abbrev pub element_words : List ℕ
element_words = 1 ∷ record_width ∷ 1 ∷ 1 ∷ 1 ∷ 1 ∷ 1 ∷ 1 ∷ 2 ∷ []

-- the sections' words without the counts. The list breaks off at a section that is cut
unfoldable pub sections_by : List ℕ → List ℕ → List (List ℕ)
sections_by [] words = []
sections_by (e ∷ es) [] = []
sections_by (e ∷ es) (n ∷ words) = cond (leb (n * e) (length words)) (take (n * e) words ∷ sections_by es (drop (n * e) words)) []

unfoldable pub word_sections : List ℕ → List (List ℕ)
word_sections words = sections_by element_words words

-- where each section ends, the first one's count being word number at
unfoldable pub ends_from : ℕ → List (List ℕ) → List ℕ
ends_from at [] = []
ends_from at (s ∷ ss) = (at + 1 + length s) ∷ ends_from (at + 1 + length s) ss

-- section k of those that stand
abbrev pub section_at : List (List ℕ) → ℕ → List ℕ
section_at ss k = get_or ss k []

-- n elements of e words each
unfoldable pub grouped : ℕ → ℕ → List ℕ → List (List ℕ)
grouped e zero words = []
grouped e (suc n) words = take e words ∷ grouped e n (drop e words)

-- the records' numbers, a word each
unfoldable pub record_groups : List (List ℕ) → List (List ℕ)
record_groups ss = grouped record_width (length (section_at ss 1) / record_width) (section_at ss 1)

-- the first nine numbers of each record have 32 bits
unfoldable pub records_narrow : List (List ℕ) → Bool
records_narrow rs = all (λ (r : List ℕ). all_below 4294967296 (take narrow_numbers r)) rs

-- no number is too wide: 32 bits, term bytes 8; values, alive words and the records' pairs are any words
unfoldable pub widths_fit : List (List ℕ) → Bool
widths_fit ss =
    all_below 4294967296 (section_at ss 0)
    && (records_narrow (record_groups ss)
    && (all_below 4294967296 (section_at ss 2)
    && (all_below 4294967296 (section_at ss 3)
    && (all_below 4294967296 (section_at ss 5)
    && (all_below 256 (section_at ss 6)
    && all_below 4294967296 (section_at ss 8))))))

-- nine whole sections with nothing after them, the first of two numbers, and no number too wide
unfoldable pub words_fit : List ℕ → Bool
words_fit words =
    eqb (length (word_sections words)) 9
    && (eqb (get_or (ends_from 0 (word_sections words)) 8 0) (length words)
    && (eqb (length (section_at (word_sections words) 0)) 2
    && widths_fit (word_sections words)))

-- the most bytes that an input may have
abbrev pub most_bytes : ℕ
most_bytes = 65536

-- no more bytes than that, and whole words
unfoldable pub whole_words : List ℕ → Bool
whole_words bytes = leb (length bytes) most_bytes && eqb (length bytes % 8) 0

-- an input that doesn't fit gives 2 before all other checks
unfoldable pub bytes_fit : List ℕ → Bool
bytes_fit bytes = whole_words bytes && words_fit (words_of bytes)

-- ---- the call

unfoldable pub address_groups : List (List ℕ) → List (List ℕ)
address_groups ss = grouped 2 (length (section_at ss 8) / 2) (section_at ss 8)

-- what the joining program lends: 65,536 working bytes and 8,192 elements of each output list, of that of values as many words, all zero
unfoldable pub program_buffers : Buffers
program_buffers =
    record {
      ids = replicate 8192 0;
      offsets = replicate 8192 0;
      values = replicate 8192 0;
      term_lengths = replicate 8192 0;
      term_bytes = replicate 8192 0;
      map = replicate 8192 0;
      working = replicate 65536 0;
    }

-- the nine sections, and what the program lends, as a call of the joiner
unfoldable pub lent_from : List (List ℕ) → Lent
lent_from ss =
    lent_of
    (get_or (section_at ss 0) 0 0)
    (get_or (section_at ss 0) 1 0)
    (map record_from (record_groups ss))
    (section_at ss 2)
    (section_at ss 3)
    (section_at ss 4)
    (section_at ss 5)
    (section_at ss 6)
    (section_at ss 7)
    (address_groups ss)
    program_buffers

unfoldable pub lent_by : List ℕ → Lent
lent_by bytes = lent_from (word_sections (words_of bytes))
