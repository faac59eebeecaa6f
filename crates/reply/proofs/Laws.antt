-- What the reply's proofs share. Assumes nothing.
use mathlib.Core.Path.{◌≡◌, refl, sym, ap, ◌∙◌}
use mathlib.Core.List.{List, map, map-id}
use Prim.Native.Nat.{ℕ, suc, ◌≤◌}
use lib.ListN.{length, take, replicate, length-replicate, length-map}
use lib.Seq.{length-take-le}
use Rattle.definitions.specs.Wire.{most_bytes, words_of, word_sections, program_buffers, lent_from, lent_by}
use Rattle.definitions.specs.Listing.{reply}
use Rattle.definitions.proofs.Reading.{read_enough}
use Rattle.runs.specs.Put.{put}
use Rattle.runs.proofs.Laws.{front-lent}
use Rattle.definitions.specs.Outcome.{lent_of}
use Rattle.segment.specs.Records.{records_of}
use Rattle.merge.specs.Whole.{buffers_of}
use Rattle.reply.specs.Input.{zeros, Answers}

pub counted : (out : List ℕ) (r : ℕ) → r ≤ length out → (r ≤ length out) × (r ≡ length (take r out))
counted out r h = (h, sym (length-take-le r out h))

-- what is lent is what the program lends
pub lent_program : (mode required : ℕ) (records : List (List ℕ)) (ids offsets values lengths bytes alive : List ℕ) (addresses : List (List ℕ))
    → lent_of mode required (records_of records) ids offsets values lengths bytes alive addresses (buffers_of (replicate 8192 0) (replicate 8192 0) (replicate 8192 0) (replicate 8192 0) (replicate 8192 0) (replicate 8192 0) (replicate 65536 0))
    ≡ lent_of mode required (records_of records) ids offsets values lengths bytes alive addresses program_buffers
unfolding program_buffers
lent_program mode required records ids offsets values lengths bytes alive addresses = refl

pub lent_same : (input words : List ℕ) → words ≡ words_of input → lent_from (word_sections words) ≡ lent_by input
unfolding lent_by
lent_same input words e = ap (λ (w : List ℕ). lent_from (word_sections w)) e

-- what a new buffer is, by a law over its length, since the length itself would be counted down
pub new_buffer : (n : ℕ) → (n ≡ length (replicate {A = ℕ} n 0)) × (replicate n 0 ≡ zeros n)
unfolding zeros
new_buffer n = (sym (length-replicate {A = ℕ} n 0), refl)

-- the reply to the bytes read is the reply to the whole input
pub answers : (place : ℕ) (read : List ℕ) (r : ℕ) (old out : List ℕ) → suc most_bytes ≤ place → r ≡ length (reply read) → out ≡ put 0 (reply read) old → Answers place read r old out
answers place read r old out h c t input e =
    let k = ap reply e ∙ read_enough place h input in
    (c ∙ ap length k, t ∙ ap (λ (x : List ℕ). put 0 x old) k)

-- numbers that were read to the start of a buffer, as they are lent
pub numbers-lent : (ns old out : List ℕ) (n : ℕ) → n ≡ length ns → out ≡ put 0 (map (λ k. k) ns) old → take n out ≡ ns
numbers-lent ns old out n e o = front-lent (map (λ k. k) ns) old out n (e ∙ sym (length-map ns (λ k. k))) o ∙ map-id ns
