-- Where a segment stands as its stand says, its rows are the segment's. Assumes nothing.
use Prim.Native.Nat.{ℕ, ◌*◌, ◌<◌}
use mathlib.Core.Path.{◌≡◌, sym, ap, ◌∙◌, subst}
use mathlib.Core.List.{List, map}
use lib.ListN.{length, length-map}
use lib.Seq.{slice}
use lib.Dec.{T}
use Rattle.definitions.specs.Words.{values_in}
use Rattle.definitions.specs.Segment.{Segment}
use Rattle.definitions.specs.Row.{row_values}
use Rattle.definitions.specs.Answer.{index_fits}
use Rattle.definitions.proofs.Fit.{not_old}
use Rattle.definitions.proofs.Words.{length-values, values-slice}
use Rattle.column_index.specs.Lookup.{start_of, end_of, Sound}
use Rattle.column_index.proofs.Laws.{row-slice}
use Rattle.column_index.proofs.Walk.{fits-sound, sound-inside}
use Rattle.stands.specs.declared.Stand.{Stand}
pub use Rattle.stands.specs.Look.{Stands}
use Rattle.stands.specs.Look.{ids_at, offsets_at, values_at, start_in, end_in, width_in, cell_in, Inside}
use Rattle.stands.specs.Stack.{SoundAt}
use Rattle.stands.proofs.Cells.{sound-within, cell-length}

module _ {p : Stand} {ids offsets values words : List ℕ} {s : Segment} (st : Stands p ids offsets values words s) where
  module _ (fit : T (index_fits s)) where
    -- what the words of a row say are its values
    pub cell-stands : (r : ℕ) → values_in s.type (cell_in p ids offsets values r) ≡ row_values s r
    unfolding cell_in start_in end_in
    cell-stands r =
        ap (λ (n : ℕ). values_in s.type (slice (start_in p ids offsets r * n) (end_in p ids offsets r * n) (values_at p values))) st.unit
        ∙ values-slice s.type (start_in p ids offsets r) (end_in p ids offsets r) (values_at p values)
        ∙ (λ i. slice (start_of (st.kind i) (st.ids_are i) (st.offsets_are i) r) (end_of (st.kind i) (st.ids_are i) (st.offsets_are i) r) (st.values_are i))
        ∙ sym (row-slice s r (not_old s fit))

    pub sound-stands : SoundAt p ids offsets
    sound-stands =
        record {
          ids-lie = st.ids-lie;
          offsets-lie = st.offsets-lie;
          sound =
              subst (λ (k : ℕ). Sound k p.rows p.count (ids_at p ids) (offsets_at p offsets)) (sym st.kind)
              (subst (λ (k : ℕ). Sound s.kind k p.count (ids_at p ids) (offsets_at p offsets)) (sym st.rows)
              (subst (λ (k : ℕ). Sound s.kind s.rows k (ids_at p ids) (offsets_at p offsets)) (sym st.count)
              (subst (λ (l : List ℕ). Sound s.kind s.rows (length s.values) l (offsets_at p offsets)) (sym st.ids_are)
              (subst (λ (l : List ℕ). Sound s.kind s.rows (length s.values) s.ids l) (sym st.offsets_are) (fits-sound s fit)))));
        }

    pub inside-stands : (r : ℕ) → r < s.rows → Inside p ids offsets values r
    unfolding end_in
    inside-stands r h =
        let l : r < p.rows = subst (λ (n : ℕ). r < n) (sym st.rows) h in
        record {
          within = sound-within sound-stands r l;
          values-lie = st.values-lie;
          inside = sound-inside sound-stands.sound l;
          long = st.long;
        }

    pub row-width : (r : ℕ) → r < s.rows → width_in p ids offsets r ≡ length (row_values s r)
    row-width r h =
        sym (length-values s.type (width_in p ids offsets r) (cell_in p ids offsets values r) (cell-length p ids offsets values r (inside-stands r h) ∙ ap (λ (n : ℕ). width_in p ids offsets r * n) st.unit))
        ∙ ap length (cell-stands r)

    pub width-stands : (r : ℕ) → r < s.rows → (f : ℕ → ℕ) → width_in p ids offsets r ≡ length (map f (row_values s r))
    width-stands r h f = row-width r h ∙ sym (length-map (row_values s r) f)
