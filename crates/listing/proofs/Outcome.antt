-- What a call's outcome gives the printing code, and the program's reply by cases. Assumes nothing.
use mathlib.Core.Path.{◌≡◌, refl, sym, ap, ◌∙◌, subst}
use mathlib.Core.List.{List, [], ◌∷◌, map}
use mathlib.Core.Bool.{Bool, true, false, cond, not}
use Prim.Native.Nat.{ℕ, ◌+◌, ◌*◌, ◌≤◌}
use native.Mathlib.Omega.{arith}
use borrow.Author.Tests.{not-true}
use lib.Dec.{eqb}
use lib.ListN.{length, take, drop, length-append, length-map, length-take}
use lib.Seq.{take_at}
use Rattle.definitions.specs.Lists.{sum, concat}
use Rattle.definitions.specs.Words.{words_per_value, value_words}
use Rattle.definitions.proofs.Words.{length-words}
use Rattle.definitions.specs.Join.{Joined}
use Rattle.definitions.specs.Answer.{answer, join_of}
use Rattle.definitions.specs.Outcome.{Buffers, Answer, accepted, refused, written, numbers_of, refused_buffers, accepted_buffers, Lent, Outcome, input_of, join_outcome}
use Rattle.definitions.specs.Wire.{bytes_fit, lent_by}
use Rattle.definitions.specs.Listing.{value_line, answer_name, answer_text, listing, reply}
use Rattle.listing.specs.Shown.{outputs, Announced, AnnouncedBy, Short}
use Rattle.listing.proofs.Lengths.{value-length, listing-room}

-- ---- an accepted column can be read back

written-room : (vs old : List ℕ) → length vs ≤ length (written vs old)
written-room vs old = omega (arith, length-append vs (drop (length vs) old))

lengths-sum : (ts : List (List ℕ)) → sum (map length ts) ≡ length (concat ts)
lengths-sum [] = refl
lengths-sum (t ∷ ts) = ap (λ (n : ℕ). length t + n) (lengths-sum ts) ∙ sym (length-append t (concat ts))

terms-room : (ts : List (List ℕ)) (lengths bytes : List ℕ)
    → sum (take (length ts) (written (map length ts) lengths)) ≤ length (written (concat ts) bytes)
terms-room ts lengths bytes =
    rw (take_at (map length ts) (drop (length (map length ts)) lengths) (length ts) (length-map ts length), lengths-sum ts) (written-room (concat ts) bytes)

column-readable : (j : Joined) (b : Buffers) → Announced (numbers_of j) (accepted_buffers j b)
unfolding numbers_of accepted_buffers
column-readable j b =
    let ts = j.column.terms in
    record {
      ids = written-room j.column.ids b.ids;
      offsets = written-room j.column.offsets b.offsets;
      values = omega (arith, written-room (value_words j.column.type j.column.values) b.values, length-words j.column.type j.column.values);
      terms = omega (arith, written-room (map length ts) b.term_lengths, length-map ts length);
      bytes = terms-room ts b.term_lengths b.term_bytes;
      maps = written-room j.map b.map;
    }

-- what the numbers of a call's answer announce stands in the lists that it left
pub outcome-readable : (l : Lent) → AnnouncedBy (join_outcome l).answer (join_outcome l).buffers
unfolding join_outcome
outcome-readable l = go (eqb (answer (input_of l)) 0)
  where
    go : (t : Bool)
        → AnnouncedBy (cond t (accepted (numbers_of (join_of (input_of l)))) (refused (answer (input_of l)))) (cond t (accepted_buffers (join_of (input_of l)) l.buffers) (refused_buffers l.buffers))
    go true = column-readable (join_of (input_of l)) l.buffers
    go false = tt

-- ---- the text

-- only the six lists are printed
text-outputs : (b : Buffers) (a : Answer) → answer_text (outputs b.ids b.offsets b.values b.term_lengths b.term_bytes b.map) a ≡ answer_text b a
text-outputs b (accepted n) = refl
text-outputs b (refused k) = refl

readable-outputs : (b : Buffers) (a : Answer) → AnnouncedBy a b → AnnouncedBy a (outputs b.ids b.offsets b.values b.term_lengths b.term_bytes b.map)
readable-outputs b (accepted n) r = record { ids = r.ids; offsets = r.offsets; values = r.values; terms = r.terms; bytes = r.bytes; maps = r.maps }
readable-outputs b (refused k) r = tt

short-take : (n : ℕ) (l : List ℕ) → length l ≤ 8192 → length (take n l) ≤ 8192
short-take n l h = omega (arith, length-take n l)

-- no answer's text is longer than the program's buffer
pub text-room : (b : Buffers) (a : Answer) → Short b → length (answer_text b a) ≤ 786432
text-room b (accepted n) s =
    listing-room n.type n.class n.rows (take n.ids b.ids) (take n.offsets b.offsets) n.values (take (n.values * words_per_value n.type) b.values) (take n.terms b.term_lengths) b.term_bytes (take n.map b.map)
    (short-take n.ids b.ids s.ids) (short-take n.offsets b.offsets s.offsets) (short-take (n.values * words_per_value n.type) b.values s.values) (short-take n.terms b.term_lengths s.terms) s.bytes (short-take n.map b.map s.maps)
text-room b (refused k) s = omega (arith, value-length answer_name k)

-- ---- the reply

pub reply_no : (bytes : List ℕ) (r : Bool) → r ≡ bytes_fit bytes → not r ≡ true → value_line answer_name 2 ≡ reply bytes
unfolding reply
reply_no bytes r e h = rw (← e, not-true r h)

pub reply_yes : (bytes : List ℕ) (l : Lent) → bytes_fit bytes ≡ true → l ≡ lent_by bytes → listing (join_outcome l) ≡ reply bytes
unfolding reply
reply_yes bytes l h e = rw (h, e)

-- ---- what a call left: its answer, and the six lists that are printed

module _ (l : Lent) (a : Answer) (b : Buffers) (e : record { answer = a; buffers = b } ≡ join_outcome l) where
  pub left-readable : AnnouncedBy a (outputs b.ids b.offsets b.values b.term_lengths b.term_bytes b.map)
  left-readable = readable-outputs b a (subst (λ (o : Outcome). AnnouncedBy o.answer o.buffers) (sym e) (outcome-readable l))

  pub left-text : answer_text (outputs b.ids b.offsets b.values b.term_lengths b.term_bytes b.map) a ≡ listing (join_outcome l)
  unfolding listing
  left-text = text-outputs b a ∙ ap (λ (o : Outcome). answer_text o.buffers o.answer) e
