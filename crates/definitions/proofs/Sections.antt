-- Segments laid out in sections and cut out of them again. Assumes nothing.
use Prim.Native.Nat.{ℕ, suc, ◌*◌, ◌≤◌}
use mathlib.Core.Path.{◌≡◌, refl, ap, ap₂, ◌∙◌}
use mathlib.Core.List.{List, [], ◌∷◌, ◌++◌, map, append_assoc, map-append}
use lib.ListN.{length, take, drop, length-map}
use lib.Seq.{length-take-le, take-append_seam, drop-append_seam, take_at, drop_at}
use lib.Dec.{T, eqb→eq}
use lib.Ieee.Fits.{and_l, and_r}
use Rattle.definitions.specs.Lists.{sum, concat, all}
use Rattle.definitions.specs.Words.{words_per_value, value_words, values_in}
use Rattle.definitions.specs.Segment.{Segment, SegmentRecord, record_from, record_numbers, Address, Space, alive_words, record_words, cut, first_segment, after_first, segments_from, segments_of, record_of, sections_of, Input}
use Rattle.definitions.specs.Book.{is_segment}
use Rattle.definitions.proofs.Lists.{length-concat, concat-append}
use Rattle.definitions.proofs.Words.{length-words, length-values, values-first}

pub cut-length : (ls bytes : List ℕ) → length (cut ls bytes) ≡ length ls
cut-length [] bytes = refl
cut-length (n ∷ ns) bytes = ap suc (cut-length ns (drop n bytes))

pub cut-concat : (ts : List (List ℕ)) (rest : List ℕ) → cut (map length ts) (concat ts ++ rest) ≡ ts
cut-concat [] rest = refl
cut-concat (t ∷ ts) rest = rw (append_assoc t (concat ts) rest, take-append_seam t (concat ts ++ rest), drop-append_seam t (concat ts ++ rest)) (ap (λ (l : List (List ℕ)). t ∷ l) (cut-concat ts rest))

-- the terms of a first segment, and what stands behind them
module _ (ts us : List (List ℕ)) where
  lengths-first : take (length ts) (map length (ts ++ us)) ≡ map length ts
  lengths-first = rw (map-append length ts us) (take_at (map length ts) (map length us) (length ts) (length-map ts length))

  terms-first : cut (take (length ts) (map length (ts ++ us))) (concat (ts ++ us)) ≡ ts
  terms-first = rw (lengths-first, concat-append ts us) (cut-concat ts (concat us))

  lengths-after : drop (length ts) (map length (ts ++ us)) ≡ map length us
  lengths-after = rw (map-append length ts us) (drop_at (map length ts) (map length us) (length ts) (length-map ts length))

  bytes_after : drop (sum (take (length ts) (map length (ts ++ us)))) (concat (ts ++ us)) ≡ concat us
  bytes_after = rw (lengths-first, concat-append ts us) (drop_at (concat ts) (concat us) (sum (map length ts)) (length-concat ts))

alive-length : (s : Segment) → T (is_segment s) → length s.alive ≡ alive_words (record_of s)
unfolding is_segment
alive-length s h = eqb→eq (length s.alive) (alive_words (record_of s)) h

-- the first segment's runs stand first
first_back : (s : Segment) (ss : List Segment) → T (is_segment s) → first_segment (record_of s) (sections_of (s ∷ ss)) ≡ s
unfolding first_segment record_of sections_of record_words
first_back s ss h =
    λ i.
    record {
      type = s.type;
      kind = s.kind;
      rows = s.rows;
      ids = take-append_seam s.ids (concat (map (λ (t : Segment). t.ids) ss)) i;
      offsets = take-append_seam s.offsets (concat (map (λ (t : Segment). t.offsets) ss)) i;
      values = values-first s.type s.values (concat (map (λ (t : Segment). value_words t.type t.values) ss)) i;
      terms = terms-first s.terms (concat (map (λ (t : Segment). t.terms) ss)) i;
      flag = s.flag;
      alive_count = s.alive_count;
      pair = s.pair;
      alive = take_at s.alive (concat (map (λ (t : Segment). t.alive) ss)) (alive_words (record_of s)) (alive-length s h) i;
    }

-- and the others' behind them
after_back : (s : Segment) (ss : List Segment) → T (is_segment s) → after_first (record_of s) (sections_of (s ∷ ss)) ≡ sections_of ss
unfolding after_first record_of sections_of record_words
after_back s ss h =
    λ i.
    record {
      ids = drop-append_seam s.ids (concat (map (λ (t : Segment). t.ids) ss)) i;
      offsets = drop-append_seam s.offsets (concat (map (λ (t : Segment). t.offsets) ss)) i;
      values = drop_at (value_words s.type s.values) (concat (map (λ (t : Segment). value_words t.type t.values) ss)) (length s.values * words_per_value s.type) (length-words s.type s.values) i;
      term_lengths = lengths-after s.terms (concat (map (λ (t : Segment). t.terms) ss)) i;
      term_bytes = bytes_after s.terms (concat (map (λ (t : Segment). t.terms) ss)) i;
      alive = drop_at s.alive (concat (map (λ (t : Segment). t.alive) ss)) (alive_words (record_of s)) (alive-length s h) i;
    }

pub segments_back : (ss : List Segment) → T (all is_segment ss) → segments_from (map record_of ss) (sections_of ss) ≡ ss
segments_back [] h = refl
segments_back (s ∷ ss) h =
    ap₂ (λ (x : Segment) (l : List Segment). x ∷ l) (first_back s ss (and_l (is_segment s) (all is_segment ss) h))
    (ap (segments_from (map record_of ss)) (after_back s ss (and_l (is_segment s) (all is_segment ss) h)) ∙ segments_back ss (and_r (is_segment s) (all is_segment ss) h))

-- a section that holds a record's words holds its values
pub values-many : (r : SegmentRecord) (words : List ℕ) → record_words r ≤ length words → length (values_in r.type (take (record_words r) words)) ≡ r.values
unfolding record_words
values-many r words h = length-values r.type r.values (take (record_words r) words) (length-take-le (record_words r) words h)

-- segments laid out as an input
unfoldable pub flatten : ℕ → ℕ → List Segment → List Address → Space → Input
flatten mode required ss addresses space =
    record {
      mode = mode;
      required = required;
      records = map record_of ss;
      sections = sections_of ss;
      addresses = addresses;
      space = space;
    }

pub flatten_back : (mode required : ℕ) (ss : List Segment) (addresses : List Address) (space : Space) → T (all is_segment ss)
    → segments_of (flatten mode required ss addresses space) ≡ ss
unfolding segments_of flatten
flatten_back mode required ss addresses space h = segments_back ss h

-- ---- a record's numbers

pub record_back : (r : SegmentRecord) → record_from (record_numbers r) ≡ r
record_back r = refl
