-- Runs of `join` one after another: what each was lent, what it gave and left. The law that demand 3 speaks of them is proofs/InTurn.antt. Assumes nothing.
use Rattle.std.specs.Prelude.{ℕ, ◌≡◌, List, [], ◌∷◌, map, get_or, T, Result, Ok}
use Rattle.definitions.specs.Segment.{Segment}
use Rattle.definitions.specs.Join.{absent}
use Rattle.definitions.specs.Outcome.{Buffers, Lent, number_of, lent_of, read_back}
use Rattle.definitions.specs.Book.{Call, Standing, first, result, call_lent, after_answer, Entry, one_join, book_answers, book_after, standing_of, hands_only_standing, accepts_only_segments, is_uniform, IsSequenceOf, ResultStands, CallsOneJoin}
use Rattle.segment.specs.Records.{records_of}
use Rattle.merge_checked.specs.declared.Numbers.{Numbers}
use Rattle.refusal.specs.declared.Refusal.{Refusal}
use Rattle.merge.specs.Whole.{numbers_in, answer_of, JoinKept}

-- the call of the book that a run answers, the lists that `join` was lent, what it gave, and the memory as it left it
pub record Run : Type 0 where
  pub call : Call
  pub records : List (List ℕ)
  pub ids : List ℕ
  pub offsets : List ℕ
  pub values : List ℕ
  pub lengths : List ℕ
  pub bytes : List ℕ
  pub alive : List ℕ
  pub addresses : List (List ℕ)
  pub gave : Result Numbers Refusal
  pub left : Buffers

abbrev pub lent_in : Run → Lent
lent_in x = lent_of x.call.mode x.call.required (records_of x.records) x.ids x.offsets x.values x.lengths x.bytes x.alive x.addresses x.call.buffers

-- what was lent is what the book's call hands over, and `join` has kept its contract
pub record Ran (x : Run) (standing : List Standing) : Type 0 where
  pub laid : lent_in x ≡ call_lent x.call standing
  pub kept : JoinKept (lent_in x) x.gave x.left

-- what stands after a run, from what `join` gave and left
abbrev pub after_run : Run → List Standing → List Standing
after_run x standing = after_answer x.call standing x.left (answer_of x.gave)

abbrev pub RanFrom : List Run → List Standing → Type 0
RanFrom [] standing = Unit {0}
RanFrom (x ∷ xs) standing = Ran x standing × RanFrom xs (after_run x standing)

abbrev pub after_runs : List Run → List Standing → List Standing
after_runs [] standing = standing
after_runs (x ∷ xs) standing = after_runs xs (after_run x standing)

abbrev pub calls_of : List Run → List Call
calls_of runs = map (λ (x : Run). x.call) runs

abbrev pub numbers_given : List Run → List ℕ
numbers_given runs = map (λ (x : Run). number_of (answer_of x.gave)) runs

pub record RunsAgree (firsts : List Segment) (runs : List Run) : Type 0 where
  -- every number that `join` gave is the book's
  pub answers : numbers_given runs ≡ book_answers firsts (calls_of runs)
  -- what it left standing is what the book takes to stand: each result is the one join of its sources
  pub standing : after_runs runs (map first firsts) ≡ map (standing_of firsts) (book_after firsts (calls_of runs))
  -- and it is the one join of them in any sequence
  pub any_sequence :
      (k : ℕ) (e : Entry) (sequence : List ℕ)
      → ResultStands firsts (calls_of runs) k e
      → IsSequenceOf sequence e.sources
      → get_or (after_runs runs (map first firsts)) k (first absent) ≡ result (one_join firsts e.required sequence e.origins)
  -- where `join` is also run for the one join, on the first segments, and accepts, the column that it left is that one too
  pub where_called :
      (k : ℕ) (e : Entry) (x : Run) (n : Numbers)
      → ResultStands firsts (calls_of runs) k e
      → CallsOneJoin firsts e x.call
      → Ran x (map first firsts)
      → x.gave ≡ Ok n
      → read_back (numbers_in n) x.left ≡ one_join firsts e.required e.sources e.origins

-- demand 3, of `join`
unfoldable pub RunsInTurnAgree : Type 0
RunsInTurnAgree =
    (firsts : List Segment) (runs : List Run)
    → RanFrom runs (map first firsts)
    → T (hands_only_standing (calls_of runs) (map first firsts))
    → T (accepts_only_segments (calls_of runs) (map first firsts))
    → T (is_uniform firsts (calls_of runs))
    → RunsAgree firsts runs
