-- The joining program's buffers, and an input of any length, of which a buffer holds the first bytes. Assumes nothing.
use Rattle.std.specs.Prelude.{ℕ, ◌≡◌, List, length, take, replicate}
use Rattle.definitions.specs.Listing.{reply}
use Rattle.runs.specs.Put.{put}

-- a buffer before it is used
unfoldable pub zeros : ℕ → List ℕ
zeros n = replicate n 0

-- what an answer says of every input, however long, of which as many bytes were read as there is place for: r is its reply's length, and the reply
-- stands at the start of out, which was old
abbrev pub Answers : (place : ℕ) (read : List ℕ) (r : ℕ) (old out : List ℕ) → Type 0
Answers place read r old out = (input : List ℕ) → read ≡ take place input → (r ≡ length (reply input)) × (out ≡ put 0 (reply input) old)
