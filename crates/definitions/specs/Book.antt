-- Joins in turn: what stands after a list of joins, the book of sources and origins, and the claim that both agree (document 01, "Weeks joined in turn").
-- The statement; its proof is proofs/Demand.antt. Assumes nothing.
use Rattle.std.specs.Prelude.{ℕ, suc, ◌≡◌, List, [], ◌∷◌, ◌++◌, map, Bool, true, false, ◌&&◌, ◌||◌, cond, not, length, get_or, T, eqb, ltb}
use Rattle.definitions.specs.Lists.{all, count, elem, concat}
use Rattle.definitions.specs.Segment.{Segment, Address, alive_words, record_of, sections_of}
use Rattle.definitions.specs.Row.{no_type}
use Rattle.definitions.specs.Join.{Column, absent, rows_of, stacked_from, joined_column, as_segment}
use Rattle.definitions.specs.Answer.{answer, present_types}
use Rattle.definitions.specs.Outcome.{Buffers, Numbers, Answer, accepted, refused, Outcome, number_of, Lent, input_of, join_outcome, read_back}

-- ---- calls

-- a join that is asked for: the places, among what stands, of the entries handed over, and the rest of the call. The lent memory may hold anything
pub record Call : Type 0 where
  pub handed : List ℕ
  pub mode : ℕ
  pub required : ℕ
  pub addresses : List Address
  pub buffers : Buffers

-- what the joiner is lent in a call that hands it these segments, laid out in sections
unfoldable pub lent_to : Call → List Segment → Lent
lent_to c ss =
    record {
      mode = c.mode;
      required = c.required;
      records = map record_of ss;
      sections = sections_of ss;
      addresses = c.addresses;
      buffers = c.buffers;
    }

module _ {A : Type 0} where
  -- the entries at the places handed over; d stands for one that is not there
  abbrev pub handed_of : A → List ℕ → List A → List A
  handed_of d places standing = map (λ k. get_or standing k d) places

  -- the entries at other places; the first entry has place n
  abbrev pub left_from : ℕ → List ℕ → List A → List A
  left_from n places [] = []
  left_from n places (x ∷ xs) = cond (elem n places) (left_from (suc n) places xs) (x ∷ left_from (suc n) places xs)

-- ---- what stands

-- a first segment, or the column that a join gave
pub data Standing : Type 0 where
  first : Segment → Standing
  result : Column → Standing

-- a result is handed on unchanged, as a segment
abbrev pub segment_in : Standing → Segment
segment_in (first s) = s
segment_in (result c) = as_segment c

-- the segments that a call is handed
abbrev pub segments_handed : Call → List Standing → List Segment
segments_handed c standing = map segment_in (handed_of (first absent) c.handed standing)

unfoldable pub call_lent : Call → List Standing → Lent
call_lent c standing = lent_to c (segments_handed c standing)

-- what the joiner gives and leaves
unfoldable pub call_outcome : Call → List Standing → Outcome
call_outcome c standing = join_outcome (call_lent c standing)

unfoldable pub call_answer : Call → List Standing → ℕ
call_answer c standing = number_of (call_outcome c standing).answer

-- refused: all that stands stays; accepted: what was handed over leaves, and the column stands that is read back from the lent outputs
abbrev pub after_answer : Call → List Standing → Buffers → Answer → List Standing
after_answer c standing b (accepted n) = left_from 0 c.handed standing ++ (result (read_back n b) ∷ [])
after_answer c standing b (refused k) = standing

unfoldable pub after_call : Call → List Standing → List Standing
after_call c standing = after_answer c standing (call_outcome c standing).buffers (call_outcome c standing).answer

abbrev pub answers_of : List Call → List Standing → List ℕ
answers_of [] standing = []
answers_of (c ∷ cs) standing = call_answer c standing ∷ answers_of cs (after_call c standing)

abbrev pub stands_after : List Call → List Standing → List Standing
stands_after [] standing = standing
stands_after (c ∷ cs) standing = stands_after cs (after_call c standing)

-- ---- the book

-- The book's entry: whether a join made it and with which required type, its sources, which are numbers of first segments, and its origins,
-- a list of (first segment, row).
pub record Entry : Type 0 where
  pub is_result : Bool
  pub required : ℕ
  pub sources : List ℕ
  pub origins : List Address

-- a first segment has itself, and all its rows from 0 up, withdrawn ones too
unfoldable pub first_entry : ℕ → Segment → Entry
first_entry n s = record { is_result = false; required = no_type; sources = n ∷ []; origins = rows_of n s }

abbrev pub first_entries : ℕ → List Segment → List Entry
first_entries n [] = []
first_entries n (s ∷ ss) = first_entry n s ∷ first_entries (suc n) ss

-- the first segments of the given numbers
abbrev pub segments_at : List Segment → List ℕ → List Segment
segments_at firsts numbers = map (λ n. get_or firsts n absent) numbers

-- a number's place in a list of numbers
abbrev pub place_in : List ℕ → ℕ → ℕ
place_in [] n = 0
place_in (m ∷ ms) n = cond (eqb n m) 0 (suc (place_in ms n))

-- the origins as addresses in the sources, which stand in the given sequence
abbrev pub origins_in : List ℕ → List Address → List Address
origins_in sequence origins = map (λ a. record { segment = place_in sequence a.segment; row = a.row }) origins

-- The definition of a result: the column that the rules of the join give for the sources in the given sequence, with the origins as the row order.
-- No limit or lent space bears on it.
unfoldable pub one_join : List Segment → ℕ → List ℕ → List Address → Column
one_join firsts required sequence origins = joined_column required (segments_at firsts sequence) (origins_in sequence origins)

-- what the book takes to stand for an entry
unfoldable pub standing_of : List Segment → Entry → Standing
standing_of firsts e =
    cond e.is_result
    (result (one_join firsts e.required e.sources e.origins))
    (first (get_or firsts (get_or e.sources 0 0) absent))

abbrev pub no_entry : Entry
no_entry = record { is_result = false; required = no_type; sources = []; origins = [] }

-- an accepted join's entry. Its origins are theirs one after another when stacked; when ordered, origin r of entry e for each address (e, r) in turn
unfoldable pub joined_entry : Call → List Entry → Entry
joined_entry c es =
    record {
      is_result = true;
      required = c.required;
      sources = concat (map (λ (e : Entry). e.sources) es);
      origins =
          cond (eqb c.mode 0)
          (concat (map (λ (e : Entry). e.origins) es))
          (map (λ (a : Address). get_or (get_or es a.segment no_entry).origins a.row a) c.addresses);
    }

-- the book finds each answer itself by the table
unfoldable pub book_answer : List Segment → Call → List Entry → ℕ
book_answer firsts c book = answer (input_of (lent_to c (map (λ e. segment_in (standing_of firsts e)) (handed_of no_entry c.handed book))))

unfoldable pub book_after_call : List Segment → Call → List Entry → List Entry
book_after_call firsts c book =
    cond (eqb (book_answer firsts c book) 0)
    (left_from 0 c.handed book ++ (joined_entry c (handed_of no_entry c.handed book) ∷ []))
    book

abbrev pub book_answers_from : List Segment → List Call → List Entry → List ℕ
book_answers_from firsts [] book = []
book_answers_from firsts (c ∷ cs) book = book_answer firsts c book ∷ book_answers_from firsts cs (book_after_call firsts c book)

abbrev pub book_after_from : List Segment → List Call → List Entry → List Entry
book_after_from firsts [] book = book
book_after_from firsts (c ∷ cs) book = book_after_from firsts cs (book_after_call firsts c book)

abbrev pub book_answers : List Segment → List Call → List ℕ
book_answers firsts calls = book_answers_from firsts calls (first_entries 0 firsts)

abbrev pub book_after : List Segment → List Call → List Entry
book_after firsts calls = book_after_from firsts calls (first_entries 0 firsts)

-- ---- what is assumed

-- an alive set is one word per 64 rows or part of it, and stands only with flag 1
unfoldable pub is_segment : Segment → Bool
is_segment s = eqb (length s.alive) (alive_words (record_of s))

-- an accepted call is handed segments. Nothing is asked of what a refused call is handed, nor of a first segment that no call is handed; a result is one always
abbrev pub accepts_only_segments : List Call → List Standing → Bool
accepts_only_segments [] standing = true
accepts_only_segments (c ∷ cs) standing =
    cond (eqb (call_answer c standing) 0) (all is_segment (segments_handed c standing)) true && accepts_only_segments cs (after_call c standing)

-- each call is handed entries that stand. Document 01's "each at most once" is not needed: the claim holds without it
abbrev pub hands_only_standing : List Call → List Standing → Bool
hands_only_standing [] standing = true
hands_only_standing (c ∷ cs) standing = all (λ k. ltb k (length standing)) c.handed && hands_only_standing cs (after_call c standing)

abbrev pub accepted_from : List Call → List Standing → List Call
accepted_from [] standing = []
accepted_from (c ∷ cs) standing =
    cond (eqb (call_answer c standing) 0) (c ∷ accepted_from cs (after_call c standing)) (accepted_from cs (after_call c standing))

abbrev pub all_equal : List ℕ → Bool
all_equal [] = true
all_equal (n ∷ ns) = all (eqb n) ns

-- the types that the accepted joins require, 255 for one that requires none
unfoldable pub required_types : List Segment → List Call → List ℕ
required_types firsts calls = map (λ (c : Call). c.required) (accepted_from calls (map first firsts))

-- all columns present in the first segments have one type and no accepted join requires any, or every accepted join requires the same type
unfoldable pub is_uniform : List Segment → List Call → Bool
is_uniform firsts calls =
    (all_equal (present_types no_type firsts) && all (eqb no_type) (required_types firsts calls))
    || (all_equal (required_types firsts calls) && all (λ t. not (eqb t no_type)) (required_types firsts calls))

-- ---- the claim

-- the same numbers in any sequence
abbrev pub IsSequenceOf : List ℕ → List ℕ → Type 0
IsSequenceOf xs ys = (n : ℕ) → count (eqb n) xs ≡ count (eqb n) ys

-- an entry of the book that a join made and that stands at place k at the end (`no_entry` is no result, so the place is there)
pub record ResultStands (firsts : List Segment) (calls : List Call) (k : ℕ) (e : Entry) : Type 0 where
  pub stands : get_or (book_after firsts calls) k no_entry ≡ e
  pub is_result : e.is_result ≡ true

-- a call of the one join, on the first segments: the sources in any sequence, ordered, or stacked if the origins are the sources' rows one after another
pub record CallsOneJoin (firsts : List Segment) (e : Entry) (c : Call) : Type 0 where
  pub sequence : IsSequenceOf c.handed e.sources
  pub required : c.required ≡ e.required
  pub ordered : c.mode ≡ 1 → c.addresses ≡ origins_in c.handed e.origins
  pub stacked : c.mode ≡ 0 → origins_in c.handed e.origins ≡ stacked_from 0 (segments_at firsts c.handed)

pub record JoinedInTurn (firsts : List Segment) (calls : List Call) : Type 0 where
  -- every answer is the book's
  pub answers : answers_of calls (map first firsts) ≡ book_answers firsts calls
  -- what stands is what the book takes to stand: each result is the one join of its sources. (One that was handed on later stands after a shorter list.)
  pub standing : stands_after calls (map first firsts) ≡ map (standing_of firsts) (book_after firsts calls)
  -- and it is the one join of them in any sequence
  pub any_sequence :
      (k : ℕ) (e : Entry) (sequence : List ℕ)
      → ResultStands firsts calls k e
      → IsSequenceOf sequence e.sources
      → get_or (stands_after calls (map first firsts)) k (first absent) ≡ result (one_join firsts e.required sequence e.origins)
  -- where the one join is also called and accepted, the call gives that column too
  pub where_called :
      (k : ℕ) (e : Entry) (c : Call) (n : Numbers)
      → ResultStands firsts calls k e
      → CallsOneJoin firsts e c
      → (call_outcome c (map first firsts)).answer ≡ accepted n
      → read_back n (call_outcome c (map first firsts)).buffers ≡ one_join firsts e.required e.sources e.origins

-- demand 3
unfoldable pub JoinsInTurnAgree : Type 0
JoinsInTurnAgree =
    (firsts : List Segment) (calls : List Call)
    → T (hands_only_standing calls (map first firsts))
    → T (accepts_only_segments calls (map first firsts))
    → T (is_uniform firsts calls)
    → JoinedInTurn firsts calls
