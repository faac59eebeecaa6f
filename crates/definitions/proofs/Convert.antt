-- The converter's laws: each row keeps its values, the converted segment passes the checks, it is held and of the class as before, and the join of converted
-- segments is the join of the old ones. Assumes nothing.
use Prim.Native.Nat.{ℕ, suc, ◌+◌, ◌*◌, ◌≤◌, ◌<◌}
use native.Mathlib.Nat.{le_refl, le_of_eq, add-zero, zero-add}
use native.Mathlib.Omega.{arith}
use mathlib.Core.Path.{◌≡◌, refl, sym, ap, ap₂, ◌∙◌, subst}
use mathlib.Core.List.{List, [], ◌∷◌, map}
use mathlib.Core.Bool.{Bool, true, false, not, cond, ◌||◌, ◌&&◌}
use lib.ListN.{length, take, get_or, length-append, get_or-eq_default}
use lib.Seq.{slice, take_all, drop-nil}
use lib.Dec.{T, eqb, ltb, leb, eqb→eq, eqb_refl, lt→ltb, ltb→lt, nltb→le}
use lib.Ieee.Fits.{and_i, and_l, and_r}
use lib.Ieee.Bits.{is_true}
use Rattle.definitions.specs.Lists.{sum, up_to, all, any, filter, concat, elem, greatest, is_empty, not_falling, ascending_from, ascending, last, terms_ascending}
use Rattle.definitions.specs.Words.{words_per_value, values_in}
use Rattle.definitions.specs.Segment.{Segment, SegmentRecord, Sections, Address, by_kind, cut, alive_words, record_words, first_segment, segments_from, record_of}
use Rattle.definitions.specs.Row.{rank, one_at, between, if_listed, row_values, has_value, has_alive_set, is_alive, alive_rows, alive_number, is_present, is_dropped, is_held, as_empty, effective}
use Rattle.definitions.specs.Types.{is_known_type, has_terms, BoolType}
use Rattle.definitions.specs.Class.{row_class, kind_class, alive_class, class_of}
use Rattle.definitions.specs.Join.{ids_from, totals_from, is_used, kept_terms, new_word, cell_of, join_rules}
use Rattle.definitions.specs.Answer.{lengths_wrong, codes_known, is_old, ids_fit, offsets_fit, empty_fits, full_fits, optional_fits, old_fits, new_fits, lists_fit, pair_fits, values_fit, bit_past_rows, alive_set_wrong}
use Rattle.definitions.specs.Convert.{row_cells, converted, ConvertInput, old_segment, is_convertible, convert_checks, convert_answer}
use Rattle.definitions.proofs.Lists.{and3, and4, up_length, up_at}
use Rattle.definitions.proofs.Sections.{cut-length, values-many}
use Rattle.definitions.proofs.Slices.{walk_slices, fall_step, first-zero, last-at}
use Rattle.definitions.proofs.Checks.{all-passed, passes}
use Rattle.definitions.proofs.Decode.{multi-at, length_totals, ids_are}
use Rattle.definitions.proofs.Accept.{not-false}
use Rattle.definitions.proofs.Alike.{Alike, alike_self, AllAlike, none, some, join_alike}

-- ---- a list cut at offsets and put together again

whole_list : (os v : List ℕ) (n : ℕ) → length os ≡ suc n → get_or os 0 1 ≡ 0 → last os ≡ length v → T (not_falling os)
    → concat (map (λ k. slice (get_or os k 0) (get_or os (suc k) 0) v) (up_to n)) ≡ v
whole_list os v n e z l h =
    (walk_slices (λ k. get_or os k 0) v 0 n (λ r k. fall_step os r h (omega arith))).1
    ∙ ap₂ (λ (a b : ℕ). slice a b v) (first-zero os z) (ap (λ (k : ℕ). get_or os k 0) (zero-add n) ∙ last-at os n e ∙ l)
    ∙ take_all (length v) v (le_refl (length v))

-- ---- rows by number

-- a list of rows, where rows past the end have nothing
row-of : (f : ℕ → List ℕ) (n r : ℕ) → (n ≤ r → f r ≡ []) → get_or (map f (up_to n)) r [] ≡ f r
row-of f n r h = go (ltb r n) (ltb→lt r n) (nltb→le r n)
  where
    go : (b : Bool) → (T b → r < n) → (T (not b) → n ≤ r) → get_or (map f (up_to n)) r [] ≡ f r
    go true k l = up_at f [] 0 n r (k tt) ∙ ap f (zero-add r)
    go false k l =
        get_or-eq_default (map f (up_to n)) [] (subst (λ (m : ℕ). m ≤ r) (sym (up_length f n)) (l tt)) ∙ sym (h (l tt))

-- ---- the lists of cells pass check 4

ids-from : (m n : ℕ) (cells : List (List ℕ)) → m < n → T (ascending_from m (ids_from n cells))
ids-from m n [] h = tt
ids-from m n ([] ∷ cs) h = ids-from m (suc n) cs (omega arith)
ids-from m n ((v ∷ vs) ∷ cs) h = and_i (ltb m n) (ascending_from n (ids_from (suc n) cs)) (lt→ltb m n h) (ids-from n (suc n) cs (le_refl (suc n)))

pub ids-ascending : (n : ℕ) (cells : List (List ℕ)) → T (ascending (ids_from n cells))
ids-ascending n [] = tt
ids-ascending n ([] ∷ cs) = ids-ascending (suc n) cs
ids-ascending n ((v ∷ vs) ∷ cs) = ids-from n (suc n) cs (le_refl (suc n))

pub ids-below : (n rows : ℕ) (cells : List (List ℕ)) → n + length cells ≤ rows → T (all (λ k. ltb k rows) (ids_from n cells))
ids-below n rows [] h = tt
ids-below n rows ([] ∷ cs) h = ids-below (suc n) rows cs (omega arith)
ids-below n rows ((v ∷ vs) ∷ cs) h =
    and_i (ltb n rows) (all (λ k. ltb k rows) (ids_from (suc n) cs)) (lt→ltb n rows (omega arith)) (ids-below (suc n) rows cs (omega arith))

pub totals_ascending : (m : ℕ) (cells : List (List ℕ)) → T (ascending_from m (totals_from m cells))
totals_ascending m [] = tt
totals_ascending m ([] ∷ cs) = totals_ascending m cs
totals_ascending m ((v ∷ vs) ∷ cs) =
    and_i (ltb m (m + suc (length vs))) (ascending_from (m + suc (length vs)) (totals_from (m + suc (length vs)) cs)) (lt→ltb m (m + suc (length vs)) (omega arith))
    (totals_ascending (m + suc (length vs)) cs)

pub totals_last : (m : ℕ) (cells : List (List ℕ)) → last (m ∷ totals_from m cells) ≡ m + length (concat cells)
totals_last m [] = sym (add-zero m)
totals_last m ([] ∷ cs) = totals_last m cs
totals_last m ((v ∷ vs) ∷ cs) =
    let k = totals_last (m + suc (length vs)) cs in
    let l = length-append (v ∷ vs) (concat cs) in
    k ∙ (omega arith)

all_four : (a b c d : Bool) → T a → T b → T c → T d → T (a && b && c && d)
all_four true true true true h i j k = tt
all_four false b c d h i j k = absurd h
all_four true false c d h i j k = absurd i
all_four true true false d h i j k = absurd j
all_four true true true false h i j k = absurd k

-- ---- the old segment

-- what 4 says of it
pub record OldLists (s : Segment) : Type 0 where
  pub long : length s.offsets ≡ suc s.rows
  pub first : get_or s.offsets 0 1 ≡ 0
  pub end : last s.offsets ≡ length s.values
  pub flat : T (not_falling s.offsets)

module _ (s : Segment) (old : s.kind ≡ 3) (fit : T (lists_fit s)) where
  old_fit : T (old_fits s)
  unfolding lists_fit
  old_fit = subst (λ (k : ℕ). T (by_kind k (empty_fits s) (full_fits s) (optional_fits s) (old_fits s) (new_fits s))) old fit

  pub old_lists : OldLists s
  unfolding old_fits offsets_fit
  old_lists =
      let t = and4 (is_empty s.ids) (eqb (length s.offsets) (suc s.rows)) (offsets_fit s) (not_falling s.offsets) old_fit in
      record {
        long = eqb→eq (length s.offsets) (suc s.rows) t.1;
        first = eqb→eq (get_or s.offsets 0 1) 0 (and_l (eqb (get_or s.offsets 0 1) 0) (eqb (last s.offsets) (length s.values)) t.2);
        end = eqb→eq (last s.offsets) (length s.values) (and_r (eqb (get_or s.offsets 0 1) 0) (eqb (last s.offsets) (length s.values)) t.2);
        flat = t.3;
      }

  pub old_row : (r : ℕ) → row_values s r ≡ between s r
  unfolding row_values
  old_row r = ap (λ (k : ℕ). by_kind k [] (one_at s r) (if_listed s r (one_at s (rank r s.ids))) (between s r) (if_listed s r (between s (rank r s.ids)))) old

  pub cells-values : concat (row_cells s) ≡ s.values
  cells-values =
      ap (λ (f : ℕ → List ℕ). concat (map f (up_to s.rows))) (λ i r. old_row r i)
      ∙ whole_list s.offsets s.values s.rows old_lists.long old_lists.first old_lists.end old_lists.flat

  past-rows : (r : ℕ) → s.rows ≤ r → row_values s r ≡ []
  past-rows r h =
      old_row r
      ∙ ap (λ (n : ℕ). slice (get_or s.offsets r 0) n s.values) (get_or-eq_default s.offsets 0 (omega (arith, old_lists.long)))
      ∙ drop-nil {A = ℕ} (get_or s.offsets r 0)

  -- ---- the converted segment: each row has the same values in the same order

  pub row_kept : (r : ℕ) → row_values (converted s) r ≡ row_values s r
  unfolding row_values converted
  row_kept r =
      ap (λ (v : List ℕ). cond (elem r (ids_from 0 (row_cells s)))
      (slice (get_or (0 ∷ totals_from 0 (row_cells s)) (rank r (ids_from 0 (row_cells s))) 0) (get_or (0 ∷ totals_from 0 (row_cells s)) (suc (rank r (ids_from 0 (row_cells s)))) 0) v) [])
      (sym cells-values)
      ∙ multi-at (row_cells s) r
      ∙ row-of (row_values s) s.rows r (past-rows r)

  -- its ids are the rows with a value
  pub ids-kept : (r : ℕ) → elem r (converted s).ids ≡ has_value s r
  unfolding converted
  ids-kept r = ids_are (row_cells s) r ∙ ap (λ (v : List ℕ). not (is_empty v)) (row-of (row_values s) s.rows r (past-rows r))

  -- ---- it passes the checks

  pub converted_lists : T (lists_fit (converted s))
  unfolding lists_fit converted new_fits ids_fit offsets_fit
  converted_lists =
      let i =
      and_i (ascending (ids_from 0 (row_cells s))) (all (λ n. ltb n s.rows) (ids_from 0 (row_cells s))) (ids-ascending 0 (row_cells s))
      (ids-below 0 s.rows (row_cells s) (le_of_eq (zero-add (length (row_cells s)) ∙ up_length (row_values s) s.rows))) in
      let n : T (eqb (suc (length (totals_from 0 (row_cells s)))) (suc (length (ids_from 0 (row_cells s))))) =
      subst (λ (m : ℕ). T (eqb (suc (length (totals_from 0 (row_cells s)))) (suc m))) (length_totals 0 0 (row_cells s)) (eqb_refl (suc (length (totals_from 0 (row_cells s))))) in
      let l : T (eqb (last (0 ∷ totals_from 0 (row_cells s))) (length s.values)) =
      subst (λ (m : ℕ). T (eqb (last (0 ∷ totals_from 0 (row_cells s))) m)) (totals_last 0 (row_cells s) ∙ zero-add (length (concat (row_cells s))) ∙ ap length cells-values)
      (eqb_refl (last (0 ∷ totals_from 0 (row_cells s)))) in
      all_four (ascending (ids_from 0 (row_cells s)) && all (λ n. ltb n s.rows) (ids_from 0 (row_cells s))) (eqb (suc (length (totals_from 0 (row_cells s)))) (suc (length (ids_from 0 (row_cells s)))))
      (eqb (last (0 ∷ totals_from 0 (row_cells s))) (length s.values)) (ascending_from 0 (totals_from 0 (row_cells s))) i n l (totals_ascending 0 (row_cells s))

  pub converted-codes : codes_known (converted s) ≡ codes_known s
  unfolding codes_known converted
  converted-codes = ap (λ (k : ℕ). is_known_type s.type && ltb k 5 && ltb s.flag 2) (sym old)

  pub converted-values : values_fit (converted s) ≡ values_fit s
  unfolding values_fit pair_fits converted
  converted-values =
      ap (λ (k : ℕ).
      (not (eqb s.type BoolType) || all (λ w. leb w 1) s.values)
      && (not (has_terms s.type) || all (λ w. ltb w (length s.terms)) s.values)
      && terms_ascending s.terms
      && (is_empty s.terms || (has_terms s.type && not (eqb k 0)))
      && pair_fits s)
      (sym old)

  pub converted-alive : alive_set_wrong (converted s) ≡ alive_set_wrong s
  unfolding alive_set_wrong bit_past_rows alive_number converted
  converted-alive = refl

  -- ---- the join sees the same

  rows-kept : row_values (converted s) ≡ row_values s
  rows-kept = λ i r. row_kept r i

  pub converted-held : is_held (converted s) ≡ is_held s
  unfolding is_held is_dropped converted alive_rows is_alive
  converted-held =
      ap (λ (f : ℕ → List ℕ). is_present s && not (is_empty s.values || (has_alive_set s && not (any (λ r. not (is_empty (f r))) (alive_rows s))))) rows-kept

  pub converted-class : class_of (converted s) ≡ class_of s
  unfolding class_of alive_class kind_class converted alive_rows is_alive
  converted-class =
      ap₂ (λ (f : ℕ → List ℕ) (c : ℕ). cond (has_alive_set s) (greatest (map (λ r. row_class (f r)) (alive_rows s))) c)
      rows-kept (sym (ap (λ (k : ℕ). by_kind {A = ℕ} k (cond (eqb s.rows 0) 0 1) 0 1 2 2) old))

  converted-kept : kept_terms (converted s) ≡ kept_terms s
  unfolding kept_terms is_used converted alive_rows is_alive
  converted-kept =
      ap (λ (f : ℕ → List ℕ). cond (has_alive_set s)
      (map (λ k. get_or s.terms k []) (filter (λ k. any (λ r. elem k (f r)) (alive_rows s)) (up_to (length s.terms)))) s.terms)
      rows-kept

  empty-same : as_empty (converted s) ≡ as_empty s
  unfolding as_empty converted
  empty-same = refl

  effective-class : class_of (effective (converted s)) ≡ class_of (effective s)
  unfolding effective
  effective-class = ap (λ (b : Bool). class_of (cond b (converted s) (as_empty (converted s)))) converted-held ∙ go (is_held s)
    where
      go : (b : Bool) → class_of (cond b (converted s) (as_empty (converted s))) ≡ class_of (cond b s (as_empty s))
      go true = converted-class
      go false = ap class_of empty-same

  word_same : (type : ℕ) (terms : List (List ℕ)) → new_word type terms (converted s) ≡ new_word type terms s
  unfolding new_word converted
  word_same type terms = refl

  converted-cell : (type : ℕ) (terms : List (List ℕ)) (r : ℕ) → cell_of type terms (converted s) r ≡ cell_of type terms s r
  unfolding cell_of effective
  converted-cell type terms r =
      ap (λ (b : Bool). map (new_word type terms (cond b (converted s) (as_empty (converted s)))) (row_values (cond b (converted s) (as_empty (converted s))) r)) converted-held ∙ go (is_held s)
    where
      go : (b : Bool) → map (new_word type terms (cond b (converted s) (as_empty (converted s)))) (row_values (cond b (converted s) (as_empty (converted s))) r)
          ≡ map (new_word type terms (cond b s (as_empty s))) (row_values (cond b s (as_empty s)) r)
      go true = λ i. map (word_same type terms i) (row_kept r i)
      go false = ap (λ (t : Segment). map (new_word type terms t) (row_values t r)) empty-same

  pub converted_alike : Alike (converted s) s
  unfolding converted
  converted_alike =
      record {
        type = refl;
        rows = refl;
        pair = refl;
        terms = refl;
        held = converted-held;
        class = effective-class;
        kept = converted-kept;
        cell = converted-cell;
      }

-- ---- what the converter accepts

-- It keeps each row's values in their order; its ids are the rows with a value, and its offsets rise. It passes what a join and the time order ask of a
-- segment by 3, 19, 4, 5 and 6, and is held, and of the class, as before
pub record Taken (s : Segment) : Type 0 where
  pub row : (r : ℕ) → row_values (converted s) r ≡ row_values s r
  pub ids : (r : ℕ) → elem r (converted s).ids ≡ has_value s r
  pub offsets : T (ascending (converted s).offsets)
  pub three : T (codes_known (converted s) && is_present (converted s))
  pub nineteen : is_old (converted s) ≡ false
  pub four : T (lists_fit (converted s))
  pub five : T (values_fit (converted s))
  pub six : alive_set_wrong (converted s) ≡ false
  pub held : is_held (converted s) ≡ is_held s
  pub class : class_of (converted s) ≡ class_of s

pub taken : (i : ConvertInput) → convert_answer i ≡ 0 → Taken (old_segment i)
unfolding convert_answer convert_checks is_convertible converted
taken i e =
    let s = old_segment i in
    let p = passes (all-passed (convert_checks i) 0 tt e).0 in
    let k = and3 (codes_known s) (is_present s) (is_old s) (not-false (codes_known s && is_present s && is_old s) (p 3)) in
    let old = eqb→eq s.kind 3 k.2 in
    let fit = not-false (lists_fit s) (p 4) in
    record {
      row = row_kept s old fit;
      ids = ids-kept s old fit;
      offsets = totals_ascending 0 (row_cells s);
      three = and_i (codes_known (converted s)) (is_present s) (subst T (sym (converted-codes s old fit)) k.0) k.1;
      nineteen = refl;
      four = converted_lists s old fit;
      five = subst T (sym (converted-values s old fit)) (not-false (values_fit s) (p 5));
      six = converted-alive s old fit ∙ p 6;
      held = converted-held s old fit;
      class = converted-class s old fit;
    }

-- ---- what it leaves: the new record, with the new ids and offsets, and with the values, terms and alive words where they were, is the converted segment

abbrev pub left_record : ConvertInput → SegmentRecord
left_record i = record_of (converted (old_segment i))

abbrev pub left_sections : ConvertInput → Sections
left_sections i =
    record {
      ids = (converted (old_segment i)).ids;
      offsets = (converted (old_segment i)).offsets;
      values = i.sections.values;
      term_lengths = i.sections.term_lengths;
      term_bytes = i.sections.term_bytes;
      alive = i.sections.alive;
    }

-- a run as long as its section is the section
whole_run : (n : ℕ) (l : List ℕ) → n + 0 ≡ length l → take n l ≡ l
whole_run n l e = take_all n l (omega arith)

-- what 2 says of one record
pub record Exact (r : SegmentRecord) (s : Sections) : Type 0 where
  pub words : record_words r ≡ length s.values
  pub terms : take r.terms s.term_lengths ≡ s.term_lengths
  pub bytes : sum s.term_lengths ≡ length s.term_bytes
  pub alive : alive_words r ≡ length s.alive

exact : (r : SegmentRecord) (s : Sections) → lengths_wrong (r ∷ []) s ≡ false → Exact r s
unfolding lengths_wrong
exact r s e =
    let a = eqb (r.ids + 0) (length s.ids) in
    let b = a && eqb (r.offsets + 0) (length s.offsets) in
    let c = b && eqb (record_words r + 0) (length s.values) in
    let d = c && eqb (r.terms + 0) (length s.term_lengths) in
    let f = d && eqb (sum s.term_lengths) (length s.term_bytes) in
    let g = not-false (f && eqb (alive_words r + 0) (length s.alive)) e in
    let p = and_l f (eqb (alive_words r + 0) (length s.alive)) g in
    let q = and_l d (eqb (sum s.term_lengths) (length s.term_bytes)) p in
    let t = and_l c (eqb (r.terms + 0) (length s.term_lengths)) q in
    record {
      words = sym (add-zero (record_words r)) ∙ eqb→eq (record_words r + 0) (length s.values) (and_r b (eqb (record_words r + 0) (length s.values)) t);
      terms = whole_run r.terms s.term_lengths (eqb→eq (r.terms + 0) (length s.term_lengths) (and_r c (eqb (r.terms + 0) (length s.term_lengths)) q));
      bytes = eqb→eq (sum s.term_lengths) (length s.term_bytes) (and_r d (eqb (sum s.term_lengths) (length s.term_bytes)) p);
      alive = sym (add-zero (alive_words r)) ∙ eqb→eq (alive_words r + 0) (length s.alive) (and_r f (eqb (alive_words r + 0) (length s.alive)) g);
    }

same_length : (n : ℕ) (l : List ℕ) → n ≡ length l → eqb (n + 0) (length l) ≡ true
same_length n l e = is_true (eqb (n + 0) (length l)) (subst (λ (m : ℕ). T (eqb m (length l))) (sym (add-zero n ∙ e)) (eqb_refl (length l)))

pub left-lengths : (i : ConvertInput) → convert_answer i ≡ 0 → lengths_wrong (left_record i ∷ []) (left_sections i) ≡ false
unfolding convert_answer convert_checks lengths_wrong record_of converted first_segment alive_words record_words
left-lengths i e =
    let x = exact i.given i.sections (passes (all-passed (convert_checks i) 0 tt e).0 2) in
    let c = converted (old_segment i) in
    rw (
      same_length (length c.ids) c.ids refl,
      same_length (length c.offsets) c.offsets refl,
      same_length (length c.values * words_per_value i.given.type) i.sections.values (ap (λ (n : ℕ). n * words_per_value i.given.type) (values-many i.given i.sections.values (omega (arith, x.words))) ∙ x.words),
      same_length (length c.terms) i.sections.term_lengths (cut-length (take i.given.terms i.sections.term_lengths) i.sections.term_bytes ∙ ap length x.terms),
      is_true (eqb (sum i.sections.term_lengths) (length i.sections.term_bytes)) (subst (λ (n : ℕ). T (eqb (sum i.sections.term_lengths) n)) x.bytes (eqb_refl (sum i.sections.term_lengths))),
      same_length (alive_words i.given) i.sections.alive x.alive,
    )

pub left-segment : (i : ConvertInput) → convert_answer i ≡ 0 → segments_from (left_record i ∷ []) (left_sections i) ≡ converted (old_segment i) ∷ []
unfolding convert_answer convert_checks record_of converted first_segment alive_words record_words
left-segment i e =
    let x = exact i.given i.sections (passes (all-passed (convert_checks i) 0 tt e).0 2) in
    let c = converted (old_segment i) in
    let many = values-many i.given i.sections.values (omega (arith, x.words)) in
    ap (λ (s : Segment). s ∷ [])
    (λ j.
    record {
      type = i.given.type;
      kind = 4;
      rows = i.given.rows;
      ids = take_all (length c.ids) c.ids (le_refl (length c.ids)) j;
      offsets = take_all (length c.offsets) c.offsets (le_refl (length c.offsets)) j;
      values = values_in i.given.type (take (many j * words_per_value i.given.type) i.sections.values);
      terms = terms_again j;
      flag = i.given.flag;
      alive_count = i.given.alive_count;
      pair = i.given.pair;
      alive = take (alive_words i.given) i.sections.alive;
    })
  where
    again : (n : ℕ) (l : List ℕ) → take n l ≡ l → take (length (take n l)) l ≡ take n l
    again n l h = ap (λ (k : List ℕ). take (length k) l) h ∙ take_all (length l) l (le_refl (length l)) ∙ sym h

    terms_again : cut (take (length (cut (take i.given.terms i.sections.term_lengths) i.sections.term_bytes)) i.sections.term_lengths) i.sections.term_bytes
        ≡ cut (take i.given.terms i.sections.term_lengths) i.sections.term_bytes
    terms_again =
        ap (λ (n : ℕ). cut (take n i.sections.term_lengths) i.sections.term_bytes) (cut-length (take i.given.terms i.sections.term_lengths) i.sections.term_bytes)
        ∙ ap (λ (l : List ℕ). cut l i.sections.term_bytes) (again i.given.terms i.sections.term_lengths (exact i.given i.sections (passes (all-passed (convert_checks i) 0 tt e).0 2)).terms)

-- ---- the join of segments whose old ones were converted

-- kind 3 goes through the converter, any other kind stays
abbrev pub renewed : Segment → Segment
renewed s = cond (is_old s) (converted s) s

renewed_alike : (s : Segment) → T (lists_fit s) → Alike (renewed s) s
renewed_alike s fit = go (is_old s) (eqb→eq s.kind 3)
  where
    go : (b : Bool) → (T b → s.kind ≡ 3) → Alike (cond b (converted s) s) s
    go true e = converted_alike s (e tt) fit
    go false e = alike_self s

all-renewed : (ss : List Segment) → T (all lists_fit ss) → AllAlike (map renewed ss) ss
all-renewed [] h = none
all-renewed (s ∷ ss) h = some (renewed_alike s (and_l (lists_fit s) (all lists_fit ss) h)) (all-renewed ss (and_r (lists_fit s) (all lists_fit ss) h))

-- the joined column and the map are those of the old segments
pub join_renewed : (required mode : ℕ) (ss : List Segment) (addresses : List Address) → T (all lists_fit ss)
    → join_rules required mode (map renewed ss) addresses ≡ join_rules required mode ss addresses
join_renewed required mode ss addresses h = join_alike required (all-renewed ss h) mode addresses
