-- The laws of the walks over the segments: what each says at the next number or record, and at the end. Assumes nothing.
use mathlib.Core.Path.{◌≡◌, sym, ◌∙◌}
use mathlib.Core.Bool.{true, ◌&&◌}
use mathlib.Core.List.{List, [], ◌∷◌}
use Prim.Native.Nat.{ℕ, ◌+◌, ◌≤◌, ◌<◌}
use native.Mathlib.Omega.{arith}
use native.Mathlib.Nat.{add-zero, zero-add, add_assoc}
use lib.ListN.{length, drop, take, get_or, length-drop}
use Rattle.definitions.specs.Lists.{sum}
use Rattle.definitions.specs.Segment.{SegmentRecord, alive_words, record_words}
use Rattle.definitions.specs.Answer.{total}
use Rattle.segment.specs.declared.Record.{Record}
use Rattle.segment.specs.Records.{struct_of, record_in, records_of}
use Rattle.segment.proofs.Walk.{records-end, records-step, total_step}
use Rattle.segment_fit.specs.Fits.{fits_lists, fits_values, fits_alive}
use Rattle.sections_fit.specs.declared.Totals.{Totals}
use Rattle.sections_fit.specs.Walks.{HoldsLists, lists_from, HoldsValues, values_from, alive_fits_from, totals_of, add_to}
use Rattle.lists.proofs.Sums.{sum_split}

-- ---- the records' sums

-- t, and then the sums of the records
unfoldable pub totals_from : Totals → List SegmentRecord → Totals
totals_from t [] = t
totals_from t (r ∷ rs) = totals_from (add_to t r) rs

abbrev pub no_totals : Totals
no_totals = record { rows = 0; ids = 0; offsets = 0; values = 0; words = 0; terms = 0; alive = 0 }

totals_are : (t : Totals) (rs : List SegmentRecord) → totals_from t rs
    ≡ record { rows = t.rows + total (λ (r : SegmentRecord). r.rows) rs; ids = t.ids + total (λ (r : SegmentRecord). r.ids) rs; offsets = t.offsets + total (λ (r : SegmentRecord). r.offsets) rs; values = t.values + total (λ (r : SegmentRecord). r.values) rs; words = t.words + total record_words rs; terms = t.terms + total (λ (r : SegmentRecord). r.terms) rs; alive = t.alive + total alive_words rs }
unfolding totals_from add_to
totals_are t [] = λ i. record { rows = sym (add-zero t.rows) i; ids = sym (add-zero t.ids) i; offsets = sym (add-zero t.offsets) i; values = sym (add-zero t.values) i; words = sym (add-zero t.words) i; terms = sym (add-zero t.terms) i; alive = sym (add-zero t.alive) i }
totals_are t (r ∷ rs) =
    totals_are (add_to t r) rs
    ∙ (λ i. record {
      rows = add_assoc t.rows r.rows (total (λ (x : SegmentRecord). x.rows) rs) i;
      ids = add_assoc t.ids r.ids (total (λ (x : SegmentRecord). x.ids) rs) i;
      offsets = add_assoc t.offsets r.offsets (total (λ (x : SegmentRecord). x.offsets) rs) i;
      values = add_assoc t.values r.values (total (λ (x : SegmentRecord). x.values) rs) i;
      words = add_assoc t.words (record_words r) (total record_words rs) i;
      terms = add_assoc t.terms r.terms (total (λ (x : SegmentRecord). x.terms) rs) i;
      alive = add_assoc t.alive (alive_words r) (total alive_words rs) i;
    })

pub totals_all : (rs : List SegmentRecord) → totals_from no_totals rs ≡ totals_of rs
totals_all rs =
    totals_are no_totals rs
    ∙ (λ i. record {
      rows = zero-add (total (λ (r : SegmentRecord). r.rows) rs) i;
      ids = zero-add (total (λ (r : SegmentRecord). r.ids) rs) i;
      offsets = zero-add (total (λ (r : SegmentRecord). r.offsets) rs) i;
      values = zero-add (total (λ (r : SegmentRecord). r.values) rs) i;
      words = zero-add (total record_words rs) i;
      terms = zero-add (total (λ (r : SegmentRecord). r.terms) rs) i;
      alive = zero-add (total alive_words rs) i;
    })

-- ---- the walks

module _ (records : List (List ℕ)) (s : ℕ) (h : length records ≤ s) where
  pub lists_end : (ids offsets : List ℕ) → true ≡ lists_from (records_of (drop s records)) ids offsets
  unfolding lists_from
  lists_end ids offsets = rw (records-end records s h)

  pub values-end : (values lengths bytes : List ℕ) → true ≡ values_from (records_of (drop s records)) values lengths bytes
  unfolding values_from
  values-end values lengths bytes = rw (records-end records s h)

  pub alive-end : (mode : ℕ) (alive : List ℕ) → true ≡ alive_fits_from mode (records_of (drop s records)) alive
  unfolding alive_fits_from
  alive-end mode alive = rw (records-end records s h)

  pub totals_end : (t : Totals) → t ≡ totals_from t (records_of (drop s records))
  unfolding totals_from
  totals_end t = rw (records-end records s h)

-- each section is split into the segment's own part and that of the others
module _ (records : List (List ℕ)) (s : ℕ) (h : s < length records) {r : Record} (e : r ≡ struct_of (get_or records s [])) where
  module _ (ids offsets : List ℕ) {own own' others others' : List ℕ} (i : own ≡ take r.ids ids) (o : own' ≡ take r.offsets offsets) (i' : others ≡ drop r.ids ids) (o' : others' ≡ drop r.offsets offsets) where
    pub lists_step : lists_from (records_of (drop s records)) ids offsets ≡ fits_lists (record_in r) own own' && lists_from (records_of (drop (s + 1) records)) others others'
    unfolding lists_from
    lists_step = rw (i, o, i', o', records-step records s h e)

    pub lists_held : HoldsLists (records_of (drop s records)) ids offsets → HoldsLists (records_of (drop (s + 1) records)) others others'
    lists_held u =
        record {
          ids = rw (i', length-drop r.ids ids) (omega (arith, u.ids, total_step records s h e (λ (x : SegmentRecord). x.ids)));
          offsets = rw (o', length-drop r.offsets offsets) (omega (arith, u.offsets, total_step records s h e (λ (x : SegmentRecord). x.offsets)));
        }

  module _ (values lengths bytes : List ℕ) {own own' others others' : List ℕ} {n : ℕ} (v : own ≡ take n values) (t : own' ≡ take r.terms lengths) (v' : others ≡ drop n values) (t' : others' ≡ drop r.terms lengths)
      (k : n ≡ record_words (record_in r)) where
    pub terms_few : HoldsValues (records_of (drop s records)) values lengths bytes → sum own' + sum others' ≤ length bytes
    terms_few u = rw (t, t') (omega (arith, u.bytes, sum_split r.terms lengths))

    module _ {m : ℕ} {rest : List ℕ} (f : m ≡ sum own') (b : rest ≡ drop m bytes) where
      pub values_step : values_from (records_of (drop s records)) values lengths bytes ≡ fits_values (record_in r) own own' bytes && values_from (records_of (drop (s + 1) records)) others others' rest
      unfolding values_from
      values_step = rw (b, f, v, t, v', t', k, records-step records s h e)

      pub values_held : HoldsValues (records_of (drop s records)) values lengths bytes → HoldsValues (records_of (drop (s + 1) records)) others others' rest
      values_held u =
          record {
            words = rw (v', length-drop n values) (omega (arith, u.words, k, total_step records s h e record_words));
            terms = rw (t', length-drop r.terms lengths) (omega (arith, u.terms, total_step records s h e (λ (x : SegmentRecord). x.terms)));
            bytes = rw (b, length-drop m bytes) (omega (arith, f, terms_few u));
          }

  module _ (mode : ℕ) (alive : List ℕ) {own others : List ℕ} {n : ℕ} (a : own ≡ take n alive) (a' : others ≡ drop n alive) (k : n ≡ alive_words (record_in r)) where
    pub alive_step : alive_fits_from mode (records_of (drop s records)) alive ≡ fits_alive mode (record_in r) own && alive_fits_from mode (records_of (drop (s + 1) records)) others
    unfolding alive_fits_from
    alive_step = rw (a, a', k, records-step records s h e)

  pub totals_step : (t : Totals) → totals_from (add_to t (record_in r)) (records_of (drop (s + 1) records)) ≡ totals_from t (records_of (drop s records))
  unfolding totals_from
  totals_step t = rw (records-step records s h e)
