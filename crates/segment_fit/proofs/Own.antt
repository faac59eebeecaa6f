-- The checks of one segment as the code makes them are the definitions' own. Assumes nothing.
use mathlib.Core.Path.{◌≡◌, refl, sym, ap, ◌∙◌}
use mathlib.Core.Bool.{Bool, true, false, not, ◌&&◌, ◌||◌, cond, and-true, and_assoc}
use mathlib.Core.List.{List, [], ◌∷◌}
use Prim.Native.Nat.{ℕ, suc, ◌+◌, ◌*◌, ◌≤◌}
use native.Mathlib.Numerals.{add-one}
use lib.Dec.{eqb, ltb, leb, eqb-suc-zero}
use lib.ListN.{length, take, get_or}
use lib.Seq.{length-take-le}
use borrow.Author.Tests.{eqb-true}
use Rattle.definitions.specs.Lists.{up_to, all, any, is_empty, last, ascending, terms_ascending, all_below}
use Rattle.definitions.specs.Words.{values_in}
use Rattle.definitions.specs.Segment.{SegmentRecord, Sections, cut, alive_words, record_words, first_segment}
use Rattle.definitions.specs.Row.{bit_at, set_bits, has_alive_set, alive_number, no_type}
use Rattle.definitions.specs.Types.{is_known_type, has_terms, pair_of, BoolType}
use Rattle.definitions.specs.Answer.{codes_known, no_column_is_bare, ids_fit, offsets_fit, empty_fits, full_fits, optional_fits, old_fits, new_fits, lists_fit, pair_fits, values_fit, bit_past_rows, alive_set_wrong}
use Rattle.definitions.specs.Withdraw.{segment_of}
use Rattle.lists.proofs.Numbers.{leb-suc}
use Rattle.lists.proofs.Lists.{empty-length, all_ext}
use Rattle.definitions.proofs.Words.{unseen}
use Rattle.definitions.proofs.Sections.{cut-length, values-many}
use Rattle.segment.specs.Kind.{by_index}
use Rattle.segment.proofs.Kind.{by_index_lem}
use Rattle.term_reader.specs.Read.{terms_rise}
use Rattle.segment_fit.specs.Fits.{rises, last_of, bare_counts, fits_codes, fits_ids, fits_offsets, fits_empty, fits_full, fits_optional, fits_new, fits_lists, fits_words, fits_terms, fits_pair, fits_values, past_rows, fits_number, fits_set}

-- ---- lists

empty-take : (n : ℕ) (xs : List ℕ) → n ≤ length xs → is_empty (take n xs) ≡ eqb n 0
empty-take n xs h = empty-length (take n xs) ∙ ap (λ (k : ℕ). eqb k 0) (length-take-le n xs h)

empty-cut : (n : ℕ) (xs bytes : List ℕ) → n ≤ length xs → is_empty (cut (take n xs) bytes) ≡ eqb n 0
empty-cut n xs bytes h = empty-length (cut (take n xs) bytes) ∙ ap (λ (k : ℕ). eqb k 0) (cut-length (take n xs) bytes ∙ length-take-le n xs h)

empty-values : (r : SegmentRecord) (words : List ℕ) → record_words r ≤ length words → is_empty (values_in r.type (take (record_words r) words)) ≡ eqb r.values 0
empty-values r words h = empty-length (values_in r.type (take (record_words r) words)) ∙ ap (λ (k : ℕ). eqb k 0) (values-many r words h)

-- ---- tests in another sequence

rotate3 : (a b c : Bool) → a && b && c ≡ b && (c && a)
rotate3 true true c = sym (and-true c)
rotate3 true false c = refl
rotate3 false true true = refl
rotate3 false true false = refl
rotate3 false false c = refl

rotate4 : (a b c d : Bool) → a && b && c && d ≡ b && (c && (d && a))
rotate4 a true c d = ap (λ (x : Bool). x && c && d) (and-true a) ∙ rotate3 a c d
rotate4 true false c d = refl
rotate4 false false c d = refl

assoc4 : (a b c d : Bool) → a && b && c && d ≡ a && (b && (c && d))
assoc4 true b c d = and_assoc b c d
assoc4 false b c d = refl

-- ---- 3

pub assoc5 : (a b c d e : Bool) → a && b && c && d && e ≡ a && (b && (c && (d && e)))
assoc5 true b c d e = assoc4 b c d e
assoc5 false b c d e = refl

pub codes-first : (r : SegmentRecord) (s : Sections) → r.ids ≤ length s.ids → r.offsets ≤ length s.offsets → record_words r ≤ length s.values → r.terms ≤ length s.term_lengths
    → codes_known (first_segment r s) && no_column_is_bare (first_segment r s) ≡ fits_codes r
unfolding first_segment fits_codes bare_counts codes_known no_column_is_bare
codes-first r s i o v t =
    rw (empty-take r.ids s.ids i, empty-take r.offsets s.offsets o, empty-values r s.values v, empty-cut r.terms s.term_lengths s.term_bytes t, assoc5 (eqb r.kind 0) (eqb r.ids 0) (eqb r.offsets 0) (eqb r.values 0) (eqb r.terms 0))
    (assoc4 (is_known_type r.type) (ltb r.kind 5) (ltb r.flag 2) (not (eqb r.type no_type) || (eqb r.kind 0 && (eqb r.ids 0 && (eqb r.offsets 0 && (eqb r.values 0 && eqb r.terms 0))))))

-- ---- 4

module _ (rows n : ℕ) (ids offsets values : List ℕ) (v : length values ≡ n) where
  ids-is : ascending ids && all (λ k. ltb k rows) ids ≡ fits_ids rows ids
  unfolding fits_ids all_below rises
  ids-is = refl

  pub offsets-is : eqb (get_or offsets 0 1) 0 && eqb (last offsets) (length values) ≡ fits_offsets n offsets
  unfolding fits_offsets last_of
  offsets-is = rw v

  empty-is : is_empty ids && is_empty offsets && is_empty values ≡ fits_empty n ids offsets
  unfolding fits_empty
  empty-is = rw (empty-length ids, empty-length offsets, empty-length values, v) (and_assoc (eqb (length ids) 0) (eqb (length offsets) 0) (eqb n 0))

  full_is : is_empty ids && is_empty offsets && eqb (length values) rows ≡ fits_full rows n ids offsets
  unfolding fits_full
  full_is = rw (empty-length ids, empty-length offsets, v) (and_assoc (eqb (length ids) 0) (eqb (length offsets) 0) (eqb n rows))

  optional-is : ascending ids && all (λ k. ltb k rows) ids && is_empty offsets && eqb (length values) (length ids) ≡ fits_optional rows n ids offsets
  unfolding fits_optional
  optional-is = rw (ids-is, empty-length offsets, v) (rotate3 (fits_ids rows ids) (eqb (length offsets) 0) (eqb n (length ids)))

  new_is : (ascending ids && all (λ k. ltb k rows) ids) && eqb (length offsets) (suc (length ids)) && (eqb (get_or offsets 0 1) 0 && eqb (last offsets) (length values)) && ascending offsets ≡ fits_new rows n ids offsets
  unfolding fits_new rises
  new_is = rw (ids-is, offsets-is, ← add-one (length ids)) (rotate4 (fits_ids rows ids) (eqb (length offsets) (length ids + 1)) (fits_offsets n offsets) (ascending offsets))

pub lists_first : (r : SegmentRecord) (s : Sections) → eqb r.kind 3 ≡ false → record_words r ≤ length s.values → lists_fit (first_segment r s) ≡ fits_lists r (take r.ids s.ids) (take r.offsets s.offsets)
unfolding first_segment fits_lists lists_fit ids_fit offsets_fit empty_fits full_fits optional_fits old_fits new_fits
lists_first r s old h =
    let i = take r.ids s.ids in
    let o = take r.offsets s.offsets in
    let w = values_in r.type (take (record_words r) s.values) in
    let v = values-many r s.values h in
    by_index_lem r.kind (empty_fits (first_segment r s)) (full_fits (first_segment r s)) (optional_fits (first_segment r s)) (old_fits (first_segment r s)) (new_fits (first_segment r s)) old
    ∙ λ j.
    by_index r.kind
    (empty-is r.rows r.values i o w v j)
    (full_is r.rows r.values i o w v j)
    (optional-is r.rows r.values i o w v j)
    (new_is r.rows r.values i o w v j)

-- ---- 5

terms_of_bool : (t : ℕ) → eqb t BoolType ≡ true → has_terms t ≡ false
unfolding has_terms
terms_of_bool t e = rw (eqb-true t 5 e)

words-is : (t n : ℕ) (vs : List ℕ) → (not (eqb t BoolType) || all (λ w. leb w 1) vs) && (not (has_terms t) || all (λ w. ltb w n) vs) ≡ fits_words t n vs
unfolding fits_words all_below
words-is t n vs = go (eqb t BoolType) refl
  where
    go : (b : Bool) → eqb t BoolType ≡ b → (not b || all (λ w. leb w 1) vs) && (not (has_terms t) || all (λ w. ltb w n) vs) ≡ cond b (all (λ w. ltb w 2) vs) (cond (has_terms t) (all (λ w. ltb w n) vs) true)
    go true e = rw (terms_of_bool t e, and-true (all (λ w. leb w 1) vs)) (all_ext (λ w. leb w 1) (λ w. ltb w 2) vs (λ w. leb-suc w 1))
    go false e = pick (has_terms t)
      where
        pick : (h : Bool) → not h || all (λ w. ltb w n) vs ≡ cond h (all (λ w. ltb w n) vs) true
        pick true = refl
        pick false = refl

-- no test looks into an address
words_same : (t n : ℕ) (ws : List ℕ) → fits_words t n (values_in t ws) ≡ fits_words t n ws
unfolding fits_words has_terms
words_same t n ws = unseen (λ u vs. fits_words u n vs) (λ vs ws. refl) t ws

terms-is : (t k : ℕ) (ls bs : List ℕ) → terms_ascending (cut ls bs) && (is_empty (cut ls bs) || (has_terms t && not (eqb k 0))) ≡ fits_terms t k ls bs
unfolding fits_terms terms_rise
terms-is t k [] bs = refl
terms-is t k (n ∷ ns) bs = rw (eqb-suc-zero (length ns)) (swap (terms_ascending (cut (n ∷ ns) bs)) (has_terms t) (not (eqb k 0)))
  where
    swap : (a b c : Bool) → a && (b && c) ≡ b && (c && a)
    swap a b c = sym (and_assoc a b c) ∙ rotate3 a b c

pair-first : (r : SegmentRecord) (s : Sections) → pair_fits (first_segment r s) ≡ fits_pair r (take (record_words r) s.values)
unfolding first_segment pair_fits fits_pair pair_of
pair-first r s =
    unseen (λ t vs. eqb r.pair.least (pair_of t vs).least && eqb r.pair.greatest (pair_of t vs).greatest) (λ vs ws. refl) r.type (take (record_words r) s.values)

pub values-first : (r : SegmentRecord) (s : Sections) → values_fit (first_segment r s) ≡ fits_values r (take (record_words r) s.values) (take r.terms s.term_lengths) s.term_bytes
unfolding first_segment fits_values values_fit
values-first r s =
    let ls = take r.terms s.term_lengths in
    let ws = take (record_words r) s.values in
    let vs = values_in r.type ws in
    let words = (not (eqb r.type BoolType) || all (λ w. leb w 1) vs) && (not (has_terms r.type) || all (λ w. ltb w (length ls)) vs) in
    let typed = is_empty (cut ls s.term_bytes) || (has_terms r.type && not (eqb r.kind 0)) in
    rw (cut-length ls s.term_bytes)
    (ap (λ (b : Bool). b && pair_fits (first_segment r s)) (and_assoc words (terms_ascending (cut ls s.term_bytes)) typed)
    ∙ and_assoc words (terms_ascending (cut ls s.term_bytes) && typed) (pair_fits (first_segment r s))
    ∙ (λ i. (words-is r.type (length ls) vs ∙ words_same r.type (length ls) ws) i && (terms-is r.type r.kind ls s.term_bytes i && pair-first r s i)))

-- ---- 6

-- of a record and its alive words alone
pub set_is : (r : SegmentRecord) (alive : List ℕ) → alive_set_wrong (segment_of (record { given = r; words = alive })) ≡ not (fits_set r alive)
unfolding alive_set_wrong bit_past_rows alive_number fits_set fits_number past_rows
set_is r alive = neither (any (λ x. leb r.rows x && bit_at alive x) (up_to (64 * length alive))) (eqb r.alive_count (cond (eqb r.flag 1) (set_bits alive) r.rows))
  where
    neither : (a b : Bool) → a || not b ≡ not (not a && b)
    neither true b = refl
    neither false b = refl

-- of the first segment
pub set_first : (r : SegmentRecord) (s : Sections) → alive_set_wrong (first_segment r s) ≡ not (fits_set r (take (alive_words r) s.alive))
unfolding first_segment alive_set_wrong bit_past_rows alive_number
set_first r s = set_is r (take (alive_words r) s.alive)

pub flag-first : (r : SegmentRecord) (s : Sections) → has_alive_set (first_segment r s) ≡ eqb r.flag 1
unfolding first_segment
flag-first r s = refl
