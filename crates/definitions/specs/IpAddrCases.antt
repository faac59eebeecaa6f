-- Listener addresses by small cases (document 02, (g)), in the words that are lent and left: what counts addresses and what counts words, ids and offsets, class,
-- type, dropped columns. The table is proved by one computation. Assumes nothing.
use Rattle.std.specs.Prelude.{ℕ, ◌≡◌, refl, List, [], ◌∷◌, map, take, replicate}
use Rattle.definitions.specs.Lists.{concat}
use Rattle.definitions.specs.Segment.{no_pair}
use Rattle.definitions.specs.Outcome.{Buffers, Answer, accepted, refused, Outcome, Lent, lent_of}
use Rattle.definitions.specs.TimeOrder.{key_of, is_before, time_order, times_wrong, time_checks, time_answer}
use Rattle.definitions.specs.Sheet.{numbered, outcome_of}

-- ---- how the table is written

-- what is lent of one segment
record Part : Type 0 where
  numbers : List ℕ
  ids : List ℕ
  offsets : List ℕ
  words : List ℕ
  alive : List ℕ

-- the record (type, kind, rows, ids, offsets, values, terms, flag, alive rows, least, greatest), row ids, offsets, the words of the values, alive words
abbrev part : List ℕ → List ℕ → List ℕ → List ℕ → List ℕ → Part
part numbers ids offsets words alive = record { numbers = numbers; ids = ids; offsets = offsets; words = words; alive = alive }

-- Full, of so many rows, without an alive set, with the pair 0 and 0; the words as they stand in the section
abbrev full : ℕ → ℕ → List ℕ → Part
full type rows words = part (type ∷ 1 ∷ rows ∷ 0 ∷ 0 ∷ rows ∷ 0 ∷ 0 ∷ rows ∷ 0 ∷ 0 ∷ []) [] [] words []

-- U64 5, Full
abbrev five : Part
five = part (1 ∷ 1 ∷ 1 ∷ 0 ∷ 0 ∷ 1 ∷ 0 ∷ 0 ∷ 1 ∷ 5 ∷ 5 ∷ []) [] [] (5 ∷ []) []

-- addresses, Full, with an alive set of one word, and the number of its set bits
abbrev full_alive : ℕ → List ℕ → ℕ → ℕ → Part
full_alive rows words alive count = part (6 ∷ 1 ∷ rows ∷ 0 ∷ 0 ∷ rows ∷ 0 ∷ 1 ∷ count ∷ 0 ∷ 0 ∷ []) [] [] words (alive ∷ [])

-- addresses, Optional, of one row and no value
abbrev bare : Part
bare = part (6 ∷ 2 ∷ 1 ∷ 0 ∷ 0 ∷ 0 ∷ 0 ∷ 0 ∷ 1 ∷ 0 ∷ 0 ∷ []) [] [] [] []

-- a column of the type, Empty, of no rows
abbrev empty : ℕ → Part
empty type = part (type ∷ 0 ∷ 0 ∷ 0 ∷ 0 ∷ 0 ∷ 0 ∷ 0 ∷ 0 ∷ 0 ∷ 0 ∷ []) [] [] [] []

-- addresses, kind 4, 3 rows: row 0 has (1,2) and (3,4), row 2 has (5,6); with an alive set of one word, and the number of its set bits
abbrev several : ℕ → ℕ → Part
several alive count = part (6 ∷ 4 ∷ 3 ∷ 2 ∷ 3 ∷ 3 ∷ 0 ∷ 1 ∷ count ∷ 0 ∷ 0 ∷ []) (0 ∷ 2 ∷ []) (0 ∷ 2 ∷ 3 ∷ []) (1 ∷ 2 ∷ 3 ∷ 4 ∷ 5 ∷ 6 ∷ []) (alive ∷ [])

-- mode, required type, segments, addresses of rows; nines in the outputs, so many words of them for the values
abbrev lent : ℕ → ℕ → List Part → List (List ℕ) → ℕ → Lent
lent mode required ps rows place =
    lent_of mode required (numbered (map (λ (p : Part). p.numbers) ps)) (concat (map (λ (p : Part). p.ids) ps)) (concat (map (λ (p : Part). p.offsets) ps))
    (concat (map (λ (p : Part). p.words) ps)) [] [] (concat (map (λ (p : Part). p.alive) ps)) rows
    (record { ids = replicate 4 9; offsets = replicate 4 9; values = replicate place 9; term_lengths = []; term_bytes = []; map = []; working = replicate 8 9 })

abbrev stacked : ℕ → List Part → ℕ → Lent
stacked required ps place = lent 0 required ps [] place

abbrev ordered : List Part → List (List ℕ) → ℕ → Lent
ordered ps rows place = lent 1 255 ps rows place

-- what is seen of a call: type, class, rows, ids, offsets, how many values, and the values output whole; or the number that refuses it
data Seen : Type 0 where
  column : ℕ → ℕ → ℕ → List ℕ → List ℕ → ℕ → List ℕ → Seen
  refusal : ℕ → Seen

abbrev seen_in : Buffers → Answer → Seen
seen_in b (accepted n) = column n.type n.class n.rows (take n.ids b.ids) (take n.offsets b.offsets) n.values b.values
seen_in b (refused k) = refusal k

seen_of : Lent → Seen
unfolding outcome_of
seen_of l = seen_in (outcome_of l).buffers (outcome_of l).answer

record Case : Type 0 where
  lent : Lent
  expected : Seen

abbrev case : Lent → Seen → Case
case l s = record { lent = l; expected = s }

-- ---- the table

ip_addr_cases : List Case
ip_addr_cases =
    -- one address is two words, the high word first; what stands beyond them stays
    case (stacked 255 (full 6 1 (3 ∷ 4 ∷ []) ∷ []) 4) (column 6 0 1 [] [] 1 (3 ∷ 4 ∷ 9 ∷ 9 ∷ []))
    -- 2 counts words: one too few and one too many
    ∷ case (stacked 255 (full 6 1 (3 ∷ []) ∷ []) 4) (refusal 2)
    ∷ case (stacked 255 (full 6 1 (3 ∷ 4 ∷ 5 ∷ []) ∷ []) 4) (refusal 2)
    -- an unknown type has one word a value in 2, and then 3; 254 too
    ∷ case (stacked 255 (full 8 1 (3 ∷ []) ∷ []) 4) (refusal 3)
    ∷ case (stacked 255 (full 8 1 (3 ∷ 4 ∷ []) ∷ []) 4) (refusal 2)
    ∷ case (stacked 255 (full 254 1 (3 ∷ []) ∷ []) 4) (refusal 3)
    -- 262 is no address, though its lowest byte is 6
    ∷ case (stacked 255 (full 262 1 (3 ∷ []) ∷ []) 4) (refusal 3)
    ∷ case (stacked 255 (full 262 1 (3 ∷ 4 ∷ []) ∷ []) 4) (refusal 2)
    -- 11 counts words: of one address place for one word, and for two
    ∷ case (stacked 255 (full 6 1 (3 ∷ 4 ∷ []) ∷ []) 1) (refusal 11)
    ∷ case (stacked 255 (full 6 1 (3 ∷ 4 ∷ []) ∷ []) 2) (column 6 0 1 [] [] 1 (3 ∷ 4 ∷ []))
    -- of two addresses place for two words, and for three
    ∷ case (stacked 255 (full 6 2 (1 ∷ 2 ∷ 3 ∷ 4 ∷ []) ∷ []) 2) (refusal 11)
    ∷ case (stacked 255 (full 6 2 (1 ∷ 2 ∷ 3 ∷ 4 ∷ []) ∷ []) 3) (refusal 11)
    -- stacked: Full (1,2), and Optional of 2 rows, id 1, the greatest high word and 0
    ∷ case (stacked 255 (full 6 1 (1 ∷ 2 ∷ []) ∷ part (6 ∷ 2 ∷ 2 ∷ 1 ∷ 0 ∷ 1 ∷ 0 ∷ 0 ∷ 2 ∷ 0 ∷ 0 ∷ []) (1 ∷ []) [] (0xffffffffffffffff ∷ 0 ∷ []) [] ∷ []) 4)
    (column 6 1 3 (0 ∷ 2 ∷ []) [] 2 (1 ∷ 2 ∷ 0xffffffffffffffff ∷ 0 ∷ []))
    -- kind 4: offsets count addresses, and a row's addresses keep their sequence
    ∷ case (stacked 255 (part (6 ∷ 4 ∷ 2 ∷ 1 ∷ 2 ∷ 2 ∷ 0 ∷ 0 ∷ 2 ∷ 0 ∷ 0 ∷ []) (1 ∷ []) (0 ∷ 2 ∷ []) (3 ∷ 4 ∷ 1 ∷ 2 ∷ []) [] ∷ []) 5)
    (column 6 2 2 (1 ∷ []) (0 ∷ 2 ∷ []) 2 (3 ∷ 4 ∷ 1 ∷ 2 ∷ 9 ∷ []))
    -- behind others: offsets go on from the number of addresses
    ∷ case (stacked 255 (part (6 ∷ 4 ∷ 1 ∷ 1 ∷ 2 ∷ 2 ∷ 0 ∷ 0 ∷ 1 ∷ 0 ∷ 0 ∷ []) (0 ∷ []) (0 ∷ 2 ∷ []) (1 ∷ 2 ∷ 3 ∷ 4 ∷ []) [] ∷ full 6 1 (5 ∷ 6 ∷ []) ∷ []) 6)
    (column 6 2 2 (0 ∷ 1 ∷ []) (0 ∷ 2 ∷ 3 ∷ []) 3 (1 ∷ 2 ∷ 3 ∷ 4 ∷ 5 ∷ 6 ∷ []))
    -- a segment without the column between
    ∷ case (stacked 255 (full 6 1 (1 ∷ 2 ∷ []) ∷ part (255 ∷ 0 ∷ 1 ∷ 0 ∷ 0 ∷ 0 ∷ 0 ∷ 0 ∷ 1 ∷ 0 ∷ 0 ∷ []) [] [] [] [] ∷ full 6 1 (3 ∷ 4 ∷ []) ∷ []) 4)
    (column 6 1 3 (0 ∷ 2 ∷ []) [] 2 (1 ∷ 2 ∷ 3 ∷ 4 ∷ []))
    -- 4 counts addresses: the last offset, a Full segment's rows, an Optional one's ids, none of kind 0
    ∷ case (stacked 255 (part (6 ∷ 4 ∷ 2 ∷ 1 ∷ 2 ∷ 2 ∷ 0 ∷ 0 ∷ 2 ∷ 0 ∷ 0 ∷ []) (1 ∷ []) (0 ∷ 4 ∷ []) (3 ∷ 4 ∷ 1 ∷ 2 ∷ []) [] ∷ []) 4) (refusal 4)
    ∷ case (stacked 255 (part (6 ∷ 1 ∷ 4 ∷ 0 ∷ 0 ∷ 2 ∷ 0 ∷ 0 ∷ 4 ∷ 0 ∷ 0 ∷ []) [] [] (3 ∷ 4 ∷ 1 ∷ 2 ∷ []) [] ∷ []) 4) (refusal 4)
    ∷ case (stacked 255 (part (6 ∷ 2 ∷ 2 ∷ 2 ∷ 0 ∷ 1 ∷ 0 ∷ 0 ∷ 2 ∷ 0 ∷ 0 ∷ []) (0 ∷ 1 ∷ []) [] (1 ∷ 2 ∷ []) [] ∷ []) 4) (refusal 4)
    ∷ case (stacked 255 (part (6 ∷ 0 ∷ 1 ∷ 0 ∷ 0 ∷ 1 ∷ 0 ∷ 0 ∷ 1 ∷ 0 ∷ 0 ∷ []) [] [] (1 ∷ 2 ∷ []) [] ∷ []) 4) (refusal 4)
    -- as the addresses of the rows say: each value's two words stay together
    ∷ case (ordered (full 6 2 (1 ∷ 2 ∷ 3 ∷ 4 ∷ []) ∷ full 6 1 (5 ∷ 6 ∷ []) ∷ []) ((0 ∷ 1 ∷ []) ∷ (1 ∷ 0 ∷ []) ∷ (0 ∷ 0 ∷ []) ∷ []) 6)
    (column 6 0 3 [] [] 3 (3 ∷ 4 ∷ 5 ∷ 6 ∷ 1 ∷ 2 ∷ []))
    -- with an alive set: a row of one address is of class 0, of two of class 2, of none of class 1
    ∷ case (ordered (full_alive 1 (1 ∷ 2 ∷ []) 1 1 ∷ []) ((0 ∷ 0 ∷ []) ∷ []) 2) (column 6 0 1 [] [] 1 (1 ∷ 2 ∷ []))
    ∷ case (ordered (several 4 1 ∷ []) ((0 ∷ 2 ∷ []) ∷ []) 2) (column 6 0 1 [] [] 1 (5 ∷ 6 ∷ []))
    ∷ case (ordered (several 6 2 ∷ []) ((0 ∷ 2 ∷ []) ∷ (0 ∷ 1 ∷ []) ∷ []) 2) (column 6 1 2 (0 ∷ []) [] 1 (5 ∷ 6 ∷ []))
    ∷ case (ordered (several 5 2 ∷ []) ((0 ∷ 2 ∷ []) ∷ (0 ∷ 0 ∷ []) ∷ []) 6) (column 6 2 2 (0 ∷ 1 ∷ []) (0 ∷ 1 ∷ 3 ∷ []) 3 (5 ∷ 6 ∷ 1 ∷ 2 ∷ 3 ∷ 4 ∷ []))
    -- 11 counts the words that are joined, not those of withdrawn rows
    ∷ case (ordered (several 4 1 ∷ []) ((0 ∷ 2 ∷ []) ∷ []) 1) (refusal 11)
    -- a segment's words start after those of the segments before it: the Bool's value is 9, and 1
    ∷ case (stacked 255 (full 6 1 (1 ∷ 1 ∷ []) ∷ full 5 1 (9 ∷ []) ∷ []) 4) (refusal 5)
    ∷ case (stacked 255 (full 6 1 (9 ∷ 9 ∷ []) ∷ full 5 1 (1 ∷ []) ∷ []) 4) (refusal 10)
    -- also those of one that is dropped
    ∷ case (ordered (full_alive 1 (1 ∷ 2 ∷ []) 0 0 ∷ full 6 1 (3 ∷ 4 ∷ []) ∷ []) ((1 ∷ 0 ∷ []) ∷ []) 2) (column 6 0 1 [] [] 1 (3 ∷ 4 ∷ []))
    -- a category of its own, never coerced: beside U64, in both sequences; with U64 or F64 required; beside DateTime; U64 of no rows where addresses are required
    ∷ case (stacked 255 (full 6 1 (1 ∷ 2 ∷ []) ∷ five ∷ []) 4) (refusal 10)
    ∷ case (stacked 255 (five ∷ full 6 1 (1 ∷ 2 ∷ []) ∷ []) 4) (refusal 10)
    ∷ case (stacked 1 (full 6 1 (1 ∷ 2 ∷ []) ∷ []) 4) (refusal 10)
    ∷ case (stacked 2 (full 6 1 (1 ∷ 2 ∷ []) ∷ []) 4) (refusal 10)
    ∷ case (stacked 255 (full 6 1 (1 ∷ 2 ∷ []) ∷ full 7 1 (5 ∷ []) ∷ []) 4) (refusal 10)
    ∷ case (stacked 6 (empty 1 ∷ []) 4) (refusal 10)
    ∷ case (stacked 255 (full 6 1 (1 ∷ 2 ∷ []) ∷ empty 0 ∷ []) 4) (refusal 10)
    ∷ case (stacked 255 (full 6 1 (1 ∷ 2 ∷ []) ∷ empty 2 ∷ []) 4) (refusal 10)
    ∷ case (stacked 255 (full 6 1 (1 ∷ 2 ∷ []) ∷ empty 3 ∷ []) 4) (refusal 10)
    ∷ case (stacked 255 (full 6 1 (1 ∷ 2 ∷ []) ∷ empty 4 ∷ []) 4) (refusal 10)
    ∷ case (stacked 255 (full 6 1 (1 ∷ 2 ∷ []) ∷ empty 5 ∷ []) 4) (refusal 10)
    ∷ case (stacked 0 (full 6 1 (1 ∷ 2 ∷ []) ∷ []) 4) (refusal 10)
    ∷ case (stacked 3 (full 6 1 (1 ∷ 2 ∷ []) ∷ []) 4) (refusal 10)
    ∷ case (stacked 4 (full 6 1 (1 ∷ 2 ∷ []) ∷ []) 4) (refusal 10)
    ∷ case (stacked 5 (full 6 1 (1 ∷ 2 ∷ []) ∷ []) 4) (refusal 10)
    ∷ case (stacked 7 (full 6 1 (1 ∷ 2 ∷ []) ∷ []) 4) (refusal 10)
    -- also of a dropped column
    ∷ case (stacked 255 (bare ∷ five ∷ []) 4) (refusal 10)
    ∷ case (stacked 1 (bare ∷ []) 4) (refusal 10)
    ∷ case (stacked 255 (full 6 1 (1 ∷ 2 ∷ []) ∷ part (1 ∷ 2 ∷ 1 ∷ 0 ∷ 0 ∷ 0 ∷ 0 ∷ 0 ∷ 1 ∷ 0 ∷ 0 ∷ []) [] [] [] [] ∷ []) 4) (refusal 10)
    -- as required type: of no segments; of rows without a column; of addresses
    ∷ case (stacked 6 [] 2) (column 6 0 0 [] [] 0 (9 ∷ 9 ∷ []))
    ∷ case (stacked 6 (part (255 ∷ 0 ∷ 2 ∷ 0 ∷ 0 ∷ 0 ∷ 0 ∷ 0 ∷ 2 ∷ 0 ∷ 0 ∷ []) [] [] [] [] ∷ []) 2) (column 6 1 2 [] [] 0 (9 ∷ 9 ∷ []))
    ∷ case (stacked 6 (full 6 1 (1 ∷ 2 ∷ []) ∷ []) 2) (column 6 0 1 [] [] 1 (1 ∷ 2 ∷ []))
    ∷ case (stacked 6 (bare ∷ []) 2) (column 6 1 1 [] [] 0 (9 ∷ 9 ∷ []))
    -- dropped: no addresses, and none in an alive row
    ∷ case (stacked 255 (bare ∷ []) 2) (column 255 0 1 [] [] 0 (9 ∷ 9 ∷ []))
    ∷ case (ordered (full_alive 1 (1 ∷ 2 ∷ []) 0 0 ∷ []) [] 2) (column 255 0 0 [] [] 0 (9 ∷ 9 ∷ []))
    -- no test looks into an address: equal ones, and the greatest
    ∷ case (stacked 255 (full 6 2 (0xffffffffffffffff ∷ 0xffffffffffffffff ∷ 0xffffffffffffffff ∷ 0xffffffffffffffff ∷ []) ∷ []) 4)
    (column 6 0 2 [] [] 2 (replicate 4 0xffffffffffffffff))
    -- terms on it give 5
    ∷ case
    (lent_of 0 255 (numbered ((6 ∷ 1 ∷ 1 ∷ 0 ∷ 0 ∷ 1 ∷ 1 ∷ 0 ∷ 1 ∷ 0 ∷ 0 ∷ []) ∷ [])) [] [] (1 ∷ 2 ∷ []) (1 ∷ []) (97 ∷ []) [] []
    (record { ids = []; offsets = []; values = replicate 2 9; term_lengths = []; term_bytes = []; map = []; working = [] }))
    (refusal 5)
    -- kind 3 gives 19, and its length is of words
    ∷ case (stacked 255 (part (6 ∷ 3 ∷ 1 ∷ 0 ∷ 2 ∷ 1 ∷ 0 ∷ 0 ∷ 1 ∷ 0 ∷ 0 ∷ []) [] (0 ∷ 1 ∷ []) (1 ∷ 2 ∷ []) [] ∷ []) 4) (refusal 19)
    ∷ case (stacked 255 (part (6 ∷ 3 ∷ 1 ∷ 0 ∷ 2 ∷ 1 ∷ 0 ∷ 0 ∷ 1 ∷ 0 ∷ 0 ∷ []) [] (0 ∷ 1 ∷ []) (1 ∷ []) [] ∷ []) 4) (refusal 2)
    ∷ []

ip_addr_cases_hold : map (λ c. seen_of c.lent) ip_addr_cases ≡ map (λ c. c.expected) ip_addr_cases
unfolding seen_of ip_addr_cases
ip_addr_cases_hold = refl

-- ---- whole outcomes: accepted, what stands beyond the lists stays; refused by 11, nothing is changed but the working bytes

outcomes : List Outcome
outcomes =
    record {
      answer = accepted (record { type = 6; class = 2; rows = 2; ids = 2; offsets = 3; values = 3; terms = 0; term_bytes = 0; map = 0; copied = 0; pair = no_pair });
      buffers = record { ids = 0 ∷ 1 ∷ 9 ∷ 9 ∷ []; offsets = 0 ∷ 1 ∷ 3 ∷ 9 ∷ []; values = 5 ∷ 6 ∷ 1 ∷ 2 ∷ 3 ∷ 4 ∷ 9 ∷ []; term_lengths = []; term_bytes = []; map = []; working = replicate 8 0 };
    }
    ∷ record {
      answer = refused 11;
      buffers = record { ids = replicate 4 9; offsets = replicate 4 9; values = replicate 5 9; term_lengths = []; term_bytes = []; map = []; working = replicate 8 0 };
    }
    ∷ []

outcomes_hold : (outcome_of (ordered (several 5 2 ∷ []) ((0 ∷ 2 ∷ []) ∷ (0 ∷ 0 ∷ []) ∷ []) 7) ∷ outcome_of (ordered (several 5 2 ∷ []) ((0 ∷ 2 ∷ []) ∷ (0 ∷ 0 ∷ []) ∷ []) 5) ∷ []) ≡ outcomes
unfolding outcome_of outcomes
outcomes_hold = refl

-- ---- the time order counts words in 2, and finds the next segment's values after them; then it gives 12

time_number : List (List ℕ) → List ℕ → ℕ
unfolding outcome_of key_of is_before time_order times_wrong time_checks time_answer
time_number records words =
    time_answer (record { records = numbered records; sections = record { ids = []; offsets = []; values = words; term_lengths = []; term_bytes = []; alive = [] }; space = 2 })

time_numbers_hold :
    (time_number ((full 6 1 []).numbers ∷ []) (1 ∷ [])
    ∷ time_number ((full 6 1 []).numbers ∷ []) (1 ∷ 2 ∷ [])
    ∷ time_number ((full 6 1 []).numbers ∷ (full 5 1 []).numbers ∷ []) (1 ∷ 1 ∷ 9 ∷ [])
    ∷ time_number ((full 6 1 []).numbers ∷ (full 5 1 []).numbers ∷ []) (9 ∷ 9 ∷ 1 ∷ [])
    ∷ [])
    ≡ 2 ∷ 12 ∷ 5 ∷ 12 ∷ []
unfolding time_number
time_numbers_hold = refl
