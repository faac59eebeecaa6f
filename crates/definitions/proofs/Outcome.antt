-- The laws of a call's outcome: its number is the table's answer, the column of an accepted call is read back from the outputs and listed as it is, and its
-- terms are copied once. Assumes nothing.
use Prim.Native.Nat.{ℕ, ◌*◌}
use mathlib.Core.Path.{◌≡◌, refl, sym, ap, ◌∙◌, subst}
use mathlib.Core.List.{List, map}
use mathlib.Core.Bool.{Bool, true, false, cond}
use native.Mathlib.Omega.{arith}
use lib.ListN.{length, take, drop, length-map}
use lib.Seq.{take-append_seam, take_at}
use lib.Dec.{T, eqb, eqb→eq}
use Rattle.definitions.specs.Lists.{concat}
use Rattle.definitions.specs.Words.{words_per_value, value_words}
use Rattle.definitions.specs.Segment.{cut}
use Rattle.definitions.specs.Join.{Joined}
use Rattle.definitions.specs.Answer.{answer, join_of}
use Rattle.definitions.specs.Outcome.{Buffers, Numbers, accepted, refused, number_of, written, numbers_of, refused_buffers, accepted_buffers, Lent, input_of, join_outcome, read_back}
use Rattle.definitions.specs.Listing.{accepted_text, column_text, answer_text, listing}
use Rattle.definitions.proofs.Lists.{length-concat}
use Rattle.definitions.proofs.Words.{length-words, values-first}
use Rattle.definitions.proofs.Sections.{cut-concat}

-- the terms stand in their two outputs
terms_back : (ts : List (List ℕ)) (lengths bytes : List ℕ) → cut (take (length ts) (written (map length ts) lengths)) (written (concat ts) bytes) ≡ ts
terms_back ts lengths bytes =
    ap (λ (ns : List ℕ). cut ns (written (concat ts) bytes)) (take_at (map length ts) (drop (length (map length ts)) lengths) (length ts) (length-map ts length))
    ∙ cut-concat ts (drop (length (concat ts)) bytes)

-- an accepted column is read back as it is
pub read_back_lem : (j : Joined) (b : Buffers) → read_back (numbers_of j) (accepted_buffers j b) ≡ j.column
unfolding read_back numbers_of accepted_buffers
read_back_lem j b =
    λ i.
    record {
      type = j.column.type;
      class = j.column.class;
      rows = j.column.rows;
      ids = take-append_seam j.column.ids (drop (length j.column.ids) b.ids) i;
      offsets = take-append_seam j.column.offsets (drop (length j.column.offsets) b.offsets) i;
      values = values-first j.column.type j.column.values (drop (length (value_words j.column.type j.column.values)) b.values) i;
      terms = terms_back j.column.terms b.term_lengths b.term_bytes i;
      pair = j.column.pair;
    }

-- its number is the table's
pub number_is : (l : Lent) → number_of (join_outcome l).answer ≡ answer (input_of l)
unfolding join_outcome
number_is l = go (answer (input_of l)) (eqb (answer (input_of l)) 0) refl
  where
    go : (n : ℕ) (t : Bool) → eqb n 0 ≡ t → number_of (cond t (accepted (numbers_of (join_of (input_of l)))) (refused n)) ≡ n
    go n true e = sym (eqb→eq n 0 (subst T (sym e) tt))
    go n false e = refl

-- an outcome that is accepted: the table's answer is 0, and the column is the join's
pub accepted-is : (l : Lent) (n : Numbers) → (join_outcome l).answer ≡ accepted n
    → (answer (input_of l) ≡ 0) × (read_back n (join_outcome l).buffers ≡ (join_of (input_of l)).column)
unfolding join_outcome
accepted-is l n = go (eqb (answer (input_of l)) 0) refl
  where
    go : (t : Bool) → eqb (answer (input_of l)) 0 ≡ t → cond t (accepted (numbers_of (join_of (input_of l)))) (refused (answer (input_of l))) ≡ accepted n
        → (answer (input_of l) ≡ 0) × (read_back n (cond t (accepted_buffers (join_of (input_of l)) l.buffers) (refused_buffers l.buffers)) ≡ (join_of (input_of l)).column)
    go true e p =
        let q : numbers_of (join_of (input_of l)) ≡ n = cc in
        (eqb→eq (answer (input_of l)) 0 (subst T (sym e) tt), ap (λ (m : Numbers). read_back m (accepted_buffers (join_of (input_of l)) l.buffers)) (sym q) ∙ read_back_lem (join_of (input_of l)) l.buffers)
    go false e p = absurd (let z : ◌≡◌ {A = ℕ} 0 1 = cc in omega arith)

-- and the term bytes copied are as many as the joined terms have (document 02, (d))
pub copied_once : (l : Lent) (n : Numbers) → (join_outcome l).answer ≡ accepted n → n.copied ≡ length (concat (join_of (input_of l)).column.terms)
unfolding join_outcome numbers_of
copied_once l n = go (eqb (answer (input_of l)) 0)
  where
    go : (t : Bool) → cond t (accepted (numbers_of (join_of (input_of l)))) (refused (answer (input_of l))) ≡ accepted n → n.copied ≡ length (concat (join_of (input_of l)).column.terms)
    go true p =
        let q : numbers_of (join_of (input_of l)) ≡ n = cc in
        ap (λ (m : Numbers). m.copied) (sym q) ∙ sym (length-concat (join_of (input_of l)).column.terms)
    go false p = absurd (let z : ◌≡◌ {A = ℕ} 0 1 = cc in omega arith)

-- an accepted call's listing is that of the joined column and its map
pub listing-is : (l : Lent) → answer (input_of l) ≡ 0 → listing (join_outcome l) ≡ column_text (join_of (input_of l)).column (join_of (input_of l)).map
unfolding listing join_outcome column_text numbers_of accepted_buffers
listing-is l e =
    let j = join_of (input_of l) in
    let c = j.column in
    let b = l.buffers in
    let words = value_words c.type c.values in
    ap (λ (n : ℕ). answer_text (cond (eqb n 0) (accepted_buffers j b) (refused_buffers b)) (cond (eqb n 0) (accepted (numbers_of j)) (refused n))) e
    ∙ λ i.
    accepted_text c.type c.class c.rows
    (take-append_seam c.ids (drop (length c.ids) b.ids) i)
    (take-append_seam c.offsets (drop (length c.offsets) b.offsets) i)
    (length c.values) (take_at words (drop (length words) b.values) (length c.values * words_per_value c.type) (length-words c.type c.values) i)
    (terms_back c.terms b.term_lengths b.term_bytes i)
    (take-append_seam j.map (drop (length j.map) b.map) i)
