-- What the joining program writes for C1, C2, C6, for refusals, and for inputs that are cut, too long or too wide: one table, proved by one
-- computation; and what the program lends. Assumes nothing.
use Rattle.std.specs.Prelude.{ℕ, zero, suc, ◌+◌, ◌*◌, ◌/◌, ◌%◌, ◌≡◌, refl, List, [], ◌∷◌, ◌++◌, map, length, take, replicate}
use Prim.Native.String.{String}
use Rattle.definitions.specs.Lists.{concat, all_below}
use Rattle.definitions.specs.Outcome.{space_of}
use Rattle.definitions.specs.Wire.{words_in, words_of, sections_by, word_sections, ends_from, records_narrow, widths_fit, words_fit, whole_words, bytes_fit, grouped, record_groups, address_groups, program_buffers, lent_from, lent_by}
use Rattle.definitions.specs.Listing.{text, decimal, hexadecimal, term_text, numbers_text, terms_text, value_line, counted_line, terms_line, numbers_part, lists_part, terms_part, accepted_text, listing, reply}
use Rattle.definitions.specs.Sheet.{outcome_of}

-- the definitions of the input and of the listing are opened here, and those of the join with outcome_of
printed : List ℕ → List ℕ
unfolding outcome_of words_in words_of sections_by word_sections ends_from all_below records_narrow widths_fit words_fit whole_words bytes_fit grouped record_groups address_groups program_buffers lent_from lent_by decimal hexadecimal term_text numbers_text terms_text value_line counted_line terms_line numbers_part lists_part terms_part accepted_text listing reply
printed bytes = reply bytes

-- n as k bytes, the lowest first
bytes_of : ℕ → ℕ → List ℕ
bytes_of zero n = []
bytes_of (suc k) n = n % 256 ∷ bytes_of k (n / 256)

-- words as an input has them
input : List ℕ → List ℕ
input words = concat (map (bytes_of 8) words)

record Case : Type 0 where
  bytes : List ℕ
  text : List ℕ

case : List ℕ → String → Case
case bytes t = record { bytes = bytes; text = text t }

-- ---- the sections, each after its count, of C1, of C2 and of C6

one : List ℕ
one =
    2 ∷ 0 ∷ 255
    ∷ 2 ∷ 4 ∷ 2 ∷ 2 ∷ 1 ∷ 0 ∷ 1 ∷ 1 ∷ 0 ∷ 2 ∷ 0 ∷ 0 ∷ 4 ∷ 1 ∷ 2 ∷ 0 ∷ 0 ∷ 2 ∷ 2 ∷ 0 ∷ 2 ∷ 0 ∷ 0
    ∷ 1 ∷ 1
    ∷ 0
    ∷ 3 ∷ 0 ∷ 1 ∷ 0
    ∷ 3 ∷ 1 ∷ 1 ∷ 1
    ∷ 3 ∷ 98 ∷ 97 ∷ 98
    ∷ 0
    ∷ 0
    ∷ []

two : List ℕ
two = 2 ∷ 0 ∷ 255 ∷ 0 ∷ 0 ∷ 0 ∷ 0 ∷ 0 ∷ 0 ∷ 0 ∷ 0 ∷ []

six : List ℕ
six =
    2 ∷ 1 ∷ 255
    ∷ 1 ∷ 1 ∷ 4 ∷ 3 ∷ 2 ∷ 3 ∷ 3 ∷ 0 ∷ 1 ∷ 2 ∷ 7 ∷ 9
    ∷ 2 ∷ 0 ∷ 2
    ∷ 3 ∷ 0 ∷ 2 ∷ 3
    ∷ 3 ∷ 7 ∷ 8 ∷ 9
    ∷ 0
    ∷ 0
    ∷ 1 ∷ 5
    ∷ 2 ∷ 0 ∷ 2 ∷ 0 ∷ 0
    ∷ []

-- Str, two rows, an empty term and a term of bytes 0, 9, 10, 255
strange : List ℕ
strange =
    2 ∷ 0 ∷ 255 ∷ 1 ∷ 4 ∷ 1 ∷ 2 ∷ 0 ∷ 0 ∷ 2 ∷ 2 ∷ 0 ∷ 2 ∷ 0 ∷ 0 ∷ 0 ∷ 0 ∷ 2 ∷ 1 ∷ 0 ∷ 2 ∷ 0 ∷ 4 ∷ 4 ∷ 0 ∷ 9 ∷ 10 ∷ 255 ∷ 0 ∷ 0 ∷ []

-- Full, one row, no required type; the type, the value, and the least and the greatest value as given
bounded : ℕ → ℕ → ℕ → ℕ → List ℕ
bounded type w least greatest = 2 ∷ 0 ∷ 255 ∷ 1 ∷ type ∷ 1 ∷ 1 ∷ 0 ∷ 0 ∷ 1 ∷ 0 ∷ 0 ∷ 1 ∷ least ∷ greatest ∷ 0 ∷ 0 ∷ 1 ∷ w ∷ 0 ∷ 0 ∷ 0 ∷ 0 ∷ []

-- U64 Full, one row, the required type and the value as given
number : ℕ → ℕ → List ℕ
number required w = 2 ∷ 0 ∷ required ∷ 1 ∷ 1 ∷ 1 ∷ 1 ∷ 0 ∷ 0 ∷ 1 ∷ 0 ∷ 0 ∷ 1 ∷ w ∷ w ∷ 0 ∷ 0 ∷ 1 ∷ w ∷ 0 ∷ 0 ∷ 0 ∷ 0 ∷ []

-- addresses, Full, of so many rows; their words after the number of words
streamed : ℕ → List ℕ → List ℕ
streamed rows words = (2 ∷ 0 ∷ 255 ∷ 1 ∷ 6 ∷ 1 ∷ rows ∷ 0 ∷ 0 ∷ rows ∷ 0 ∷ 0 ∷ rows ∷ 0 ∷ 0 ∷ 0 ∷ 0 ∷ []) ++ (words ++ (0 ∷ 0 ∷ 0 ∷ 0 ∷ []))

-- U64 kind 4, 4 rows, ids 1 3, offsets 0 2 3, values 7 8 9
kinds : List ℕ
kinds = 2 ∷ 0 ∷ 255 ∷ 1 ∷ 1 ∷ 4 ∷ 4 ∷ 2 ∷ 3 ∷ 3 ∷ 0 ∷ 0 ∷ 4 ∷ 7 ∷ 9 ∷ 2 ∷ 1 ∷ 3 ∷ 3 ∷ 0 ∷ 2 ∷ 3 ∷ 3 ∷ 7 ∷ 8 ∷ 9 ∷ 0 ∷ 0 ∷ 0 ∷ 0 ∷ []

-- ordered, U64 Full 5 6 and 7, as the addresses say
both : List ℕ → List ℕ
both addresses =
    (2 ∷ 1 ∷ 255 ∷ 2 ∷ 1 ∷ 1 ∷ 2 ∷ 0 ∷ 0 ∷ 2 ∷ 0 ∷ 0 ∷ 2 ∷ 5 ∷ 6 ∷ 1 ∷ 1 ∷ 1 ∷ 0 ∷ 0 ∷ 1 ∷ 0 ∷ 0 ∷ 1 ∷ 7 ∷ 7 ∷ 0 ∷ 0 ∷ 3 ∷ 5 ∷ 6 ∷ 7 ∷ 0 ∷ 0 ∷ 0 ∷ 3 ∷ []) ++ addresses

-- U64 Optional, 1 row, the id as given
listed : ℕ → List ℕ
listed id = 2 ∷ 0 ∷ 255 ∷ 1 ∷ 1 ∷ 2 ∷ 1 ∷ 1 ∷ 0 ∷ 1 ∷ 0 ∷ 0 ∷ 1 ∷ 5 ∷ 5 ∷ 1 ∷ id ∷ 0 ∷ 1 ∷ 5 ∷ 0 ∷ 0 ∷ 0 ∷ 0 ∷ []

-- U64, 1 row, 1 value, the kind, its ids and the last offset as given
up_offset : ℕ → List ℕ → ℕ → List ℕ
up_offset kind ids offset =
    (2 ∷ 0 ∷ 255 ∷ 1 ∷ 1 ∷ kind ∷ 1 ∷ length ids ∷ 2 ∷ 1 ∷ 0 ∷ 0 ∷ 1 ∷ 5 ∷ 5 ∷ length ids ∷ []) ++ (ids ++ (2 ∷ 0 ∷ offset ∷ 1 ∷ 5 ∷ 0 ∷ 0 ∷ 0 ∷ 0 ∷ []))

-- ordered, no column of n rows, so many of them alive, with an alive set of one word or without one, and one address
only_rows : ℕ → ℕ → List ℕ → ℕ → ℕ → List ℕ
only_rows n alive words s r =
    (2 ∷ 1 ∷ 255 ∷ 1 ∷ 255 ∷ 0 ∷ n ∷ 0 ∷ 0 ∷ 0 ∷ 0 ∷ length words ∷ alive ∷ 0 ∷ 0 ∷ 0 ∷ 0 ∷ 0 ∷ 0 ∷ 0 ∷ length words ∷ []) ++ (words ++ (1 ∷ s ∷ r ∷ []))

-- two records of no column: one of 1 row, and one of n rows, n alive ones, and this least value
second_rows : ℕ → ℕ → List ℕ
second_rows n least =
    2 ∷ 0 ∷ 255 ∷ 2 ∷ 255 ∷ 0 ∷ 1 ∷ 0 ∷ 0 ∷ 0 ∷ 0 ∷ 0 ∷ 1 ∷ 0 ∷ 0 ∷ 255 ∷ 0 ∷ n ∷ 0 ∷ 0 ∷ 0 ∷ 0 ∷ 0 ∷ n ∷ least ∷ 0 ∷ 0 ∷ 0 ∷ 0 ∷ 0 ∷ 0 ∷ 0 ∷ 0 ∷ []

-- 257 records of no column, and a term length that none of them announces
many : ℕ → List ℕ
many n = (2 ∷ 0 ∷ 255 ∷ 257 ∷ []) ++ (concat (replicate 257 (255 ∷ 0 ∷ 0 ∷ 0 ∷ 0 ∷ 0 ∷ 0 ∷ 0 ∷ 0 ∷ 0 ∷ 0 ∷ [])) ++ (0 ∷ 0 ∷ 0 ∷ 1 ∷ n ∷ 0 ∷ 0 ∷ 0 ∷ []))

-- type 8, of n rows and n values, all 0: 8 * (22 + n) bytes
long : ℕ → List ℕ
long n = input (2 ∷ 0 ∷ 255 ∷ 1 ∷ 8 ∷ 1 ∷ n ∷ 0 ∷ 0 ∷ n ∷ 0 ∷ 0 ∷ n ∷ 0 ∷ 0 ∷ 0 ∷ 0 ∷ n ∷ []) ++ replicate (8 * (n + 4)) 0

-- ---- the table

replies : List Case
replies =
    -- C1
    case (input one) "answer 0\ntype 4\nclass 1\nrows 4\nids 3 1 2 3\noffsets 0\nvalues 3 1 1 0\nterms 2 61 62\nmaps 3 1 0 1\n"
    -- C2
    ∷ case (input two) "answer 0\ntype 255\nclass 0\nrows 0\nids 0\noffsets 0\nvalues 0\nterms 0\nmaps 0\n"
    -- C6
    ∷ case (input six) "answer 0\ntype 1\nclass 2\nrows 2\nids 2 0 1\noffsets 3 0 1 3\nvalues 3 9 7 8\nterms 0\nmaps 0\n"
    -- an empty term, and lower-case hexadecimal
    ∷ case (input strange) "answer 0\ntype 4\nclass 0\nrows 2\nids 0\noffsets 0\nvalues 2 1 0\nterms 2 - 00090aff\nmaps 2 0 1\n"
    -- the greatest word
    ∷ case (input (number 255 0xffffffffffffffff)) "answer 0\ntype 1\nclass 0\nrows 1\nids 0\noffsets 0\nvalues 1 18446744073709551615\nterms 0\nmaps 0\n"
    -- C11's refusal, and that of an unknown required type
    ∷ case (input (number 0 9223372036854775808)) "answer 10\n"
    ∷ case (input (number 8 5)) "answer 3\n"
    -- two addresses, each as its two words; the greatest high word; two addresses with a word too few; two in one row
    ∷ case (input (streamed 2 (4 ∷ 1 ∷ 2 ∷ 3 ∷ 4 ∷ []))) "answer 0\ntype 6\nclass 0\nrows 2\nids 0\noffsets 0\nvalues 2 1 2 3 4\nterms 0\nmaps 0\n"
    ∷ case (input (streamed 1 (2 ∷ 0xffffffffffffffff ∷ 0 ∷ []))) "answer 0\ntype 6\nclass 0\nrows 1\nids 0\noffsets 0\nvalues 1 18446744073709551615 0\nterms 0\nmaps 0\n"
    ∷ case (input (streamed 2 (3 ∷ 1 ∷ 2 ∷ 3 ∷ []))) "answer 2\n"
    ∷ case (input (2 ∷ 0 ∷ 255 ∷ 1 ∷ 6 ∷ 4 ∷ 2 ∷ 1 ∷ 2 ∷ 2 ∷ 0 ∷ 0 ∷ 2 ∷ 0 ∷ 0 ∷ 1 ∷ 1 ∷ 2 ∷ 0 ∷ 2 ∷ 4 ∷ 3 ∷ 4 ∷ 1 ∷ 2 ∷ 0 ∷ 0 ∷ 0 ∷ 0 ∷ []))
    "answer 0\ntype 6\nclass 2\nrows 2\nids 1 1\noffsets 2 0 2\nvalues 2 3 4 1 2\nterms 0\nmaps 0\n"
    -- kind 3, and the same row in kind 4
    ∷ case (input (up_offset 3 [] 1)) "answer 19\n"
    ∷ case (input (up_offset 4 (0 ∷ []) 1)) "answer 0\ntype 1\nclass 2\nrows 1\nids 1 0\noffsets 2 0 1\nvalues 1 5\nterms 0\nmaps 0\n"
    -- the record's eleven numbers in their order, together with C1 and C6; an address's two
    ∷ case (input kinds) "answer 0\ntype 1\nclass 2\nrows 4\nids 2 1 3\noffsets 3 0 2 3\nvalues 3 7 8 9\nterms 0\nmaps 0\n"
    ∷ case (input (both (1 ∷ 0 ∷ 0 ∷ 1 ∷ 0 ∷ 0 ∷ []))) "answer 0\ntype 1\nclass 0\nrows 3\nids 0\noffsets 0\nvalues 3 7 6 5\nterms 0\nmaps 0\n"
    -- numbers of two and three digits
    ∷ case (input (number 255 10)) "answer 0\ntype 1\nclass 0\nrows 1\nids 0\noffsets 0\nvalues 1 10\nterms 0\nmaps 0\n"
    ∷ case (input (number 255 109)) "answer 0\ntype 1\nclass 0\nrows 1\nids 0\noffsets 0\nvalues 1 109\nterms 0\nmaps 0\n"
    -- 65,536 bytes are taken, and refused for the type; a byte or a word more gives 2
    ∷ case (long 8170) "answer 3\n"
    ∷ case (long 8170 ++ (0 ∷ [])) "answer 2\n"
    ∷ case (long 8171) "answer 2\n"
    -- 65,536 working bytes are lent: enough for as many rows, which the address is not among, and not for one more
    ∷ case (input (only_rows 65536 65536 [] 0 65536)) "answer 9\n"
    ∷ case (input (only_rows 65537 65537 [] 0 65536)) "answer 8\n"
    -- no bytes; a byte or a word short; a byte or a word too many
    ∷ case [] "answer 2\n"
    ∷ case (take 343 (input one)) "answer 2\n"
    ∷ case (take 336 (input one)) "answer 2\n"
    ∷ case (input one ++ (0 ∷ [])) "answer 2\n"
    ∷ case (input (one ++ (0 ∷ []))) "answer 2\n"
    -- a first count other than 2, and a count whose product with 11 is 1 in 64 bits: with that one word, eight whole sections would follow
    ∷ case (input (3 ∷ 0 ∷ 255 ∷ 0 ∷ 0 ∷ 0 ∷ 0 ∷ 0 ∷ 0 ∷ 0 ∷ 0 ∷ 0 ∷ [])) "answer 2\n"
    ∷ case (input (1 ∷ 0 ∷ 0 ∷ 0 ∷ 0 ∷ 0 ∷ 0 ∷ 0 ∷ 0 ∷ 0 ∷ [])) "answer 2\n"
    ∷ case (input (2 ∷ 0 ∷ 255 ∷ 0x2e8ba2e8ba2e8ba3 ∷ 0 ∷ 0 ∷ 0 ∷ 0 ∷ 0 ∷ 0 ∷ 0 ∷ 0 ∷ [])) "answer 2\n"
    -- addresses that are cut
    ∷ case (input (both (1 ∷ 0 ∷ 0 ∷ 1 ∷ 0 ∷ []))) "answer 2\n"
    -- a number of 33 bits where 32 are the width: mode, required type, rows, alive rows, the second record's rows, a row id, an offset, an address's segment and row
    ∷ case (input (2 ∷ 0x100000000 ∷ 255 ∷ 0 ∷ 0 ∷ 0 ∷ 0 ∷ 0 ∷ 0 ∷ 0 ∷ 0 ∷ [])) "answer 2\n"
    ∷ case (input (number 0x1000000ff 5)) "answer 2\n"
    ∷ case (input (only_rows 0x100000000 0x100000000 [] 0 0)) "answer 2\n"
    ∷ case (input (only_rows 1 0x100000001 [] 0 0)) "answer 2\n"
    ∷ case (input (second_rows 0x100000000 0)) "answer 2\n"
    ∷ case (input (listed 0x100000000)) "answer 2\n"
    ∷ case (input (up_offset 4 (0 ∷ []) 0x100000000)) "answer 2\n"
    ∷ case (input (only_rows 1 1 [] 0x100000000 0)) "answer 2\n"
    ∷ case (input (only_rows 1 1 [] 0 0x100000000)) "answer 2\n"
    -- a term length of 33 bits, before the check of the number of segments, and one of 32
    ∷ case (input (many 0x100000000)) "answer 2\n"
    ∷ case (input (many 0xffffffff)) "answer 1\n"
    -- the widest numbers are taken, and the table refuses them
    ∷ case (input (2 ∷ 0xffffffff ∷ 255 ∷ 0 ∷ 0 ∷ 0 ∷ 0 ∷ 0 ∷ 0 ∷ 0 ∷ 0 ∷ [])) "answer 3\n"
    ∷ case (input (only_rows 0xffffffff 0xffffffff [] 0 0)) "answer 7\n"
    ∷ case (input (listed 0xffffffff)) "answer 4\n"
    ∷ case (input (up_offset 4 (0 ∷ []) 0xffffffff)) "answer 4\n"
    ∷ case (input (only_rows 1 1 [] 0xffffffff 0)) "answer 9\n"
    -- a wrong number of alive rows: the widest, two whose lower bits are right, the rows where one is withdrawn, and one too few
    ∷ case (input (only_rows 1 0xffffffff [] 0 0)) "answer 6\n"
    ∷ case (input (only_rows 1 0x101 [] 0 0)) "answer 6\n"
    ∷ case (input (only_rows 1 0x80000001 [] 0 0)) "answer 6\n"
    ∷ case (input (only_rows 2 2 (1 ∷ []) 0 0)) "answer 6\n"
    ∷ case (input (only_rows 2 1 [] 0 0)) "answer 6\n"
    -- the pair: any word, and never in the listing; I64 -2^63 as both; wrong in its upper half alone
    ∷ case (input (bounded 0 0x8000000000000000 0x8000000000000000 0x8000000000000000)) "answer 0\ntype 0\nclass 0\nrows 1\nids 0\noffsets 0\nvalues 1 9223372036854775808\nterms 0\nmaps 0\n"
    ∷ case (input (bounded 1 5 0x100000005 5)) "answer 5\n"
    ∷ case (input (bounded 1 5 5 0x8000000000000005)) "answer 5\n"
    ∷ case (input (bounded 1 0x100000005 5 5)) "answer 5\n"
    ∷ case (input (second_rows 1 0)) "answer 0\ntype 255\nclass 0\nrows 2\nids 0\noffsets 0\nvalues 0\nterms 0\nmaps 0\n"
    ∷ case (input (second_rows 1 0x100000000)) "answer 5\n"
    -- of a time it is 0 and 0
    ∷ case (input (bounded 7 5 0 0)) "answer 0\ntype 7\nclass 0\nrows 1\nids 0\noffsets 0\nvalues 1 5\nterms 0\nmaps 0\n"
    ∷ case (input (bounded 7 5 5 5)) "answer 5\n"
    -- an alive word may have more than 32 bits
    ∷ case (input (only_rows 33 1 (0x100000000 ∷ []) 0 32)) "answer 0\ntype 255\nclass 0\nrows 1\nids 0\noffsets 0\nvalues 0\nterms 0\nmaps 0\n"
    -- a term byte of 9 bits
    ∷ case (input (2 ∷ 0 ∷ 255 ∷ 1 ∷ 4 ∷ 1 ∷ 1 ∷ 0 ∷ 0 ∷ 1 ∷ 1 ∷ 0 ∷ 1 ∷ 0 ∷ 0 ∷ 0 ∷ 0 ∷ 1 ∷ 0 ∷ 1 ∷ 1 ∷ 1 ∷ 256 ∷ 0 ∷ 0 ∷ [])) "answer 2\n"
    ∷ []

replies_hold : map (λ c. printed c.bytes) replies ≡ map (λ c. c.text) replies
unfolding printed bytes_of input case one two six strange bounded number streamed kinds both listed up_offset only_rows second_rows many long replies
replies_hold = refl

-- ---- what the program lends: 65,536 working bytes and 8,192 elements of each output list. An input of 65,536 bytes has fewer than 8,192 words beside
-- its counts, so no reply shows that more elements are not lent

lends_hold :
    space_of program_buffers ≡ record { working = 65536; ids = 8192; offsets = 8192; values = 8192; term_lengths = 8192; term_bytes = 8192; map = 8192 }
unfolding space_of program_buffers
lends_hold = refl
