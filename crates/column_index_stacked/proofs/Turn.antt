-- A turn of the loops over the segments, at segment s: what is left to write is the segment's part and the rest. Assumes nothing.
use Prim.Native.Nat.{ℕ, ◌+◌, ◌≤◌, ◌<◌}
use mathlib.Core.Path.{◌≡◌, sym, ap, ◌∙◌, subst}
use mathlib.Core.List.{List, [], ◌++◌}
use lib.ListN.{length, drop}
use Rattle.definitions.specs.Lists.{sum}
use Rattle.runs.specs.Put.{put}
use Rattle.runs.proofs.Laws.{Filling, fill_room, fill_more}
use Rattle.stands.specs.declared.Stand.{Stand}
use Rattle.stands.specs.Width.{ids_of, totals_of}
use Rattle.stands.specs.Stand.{stand_at}
use Rattle.stands.specs.Stack.{segment_widths, stacked_widths, all_rows, SoundAt, AllSound}
use Rattle.stands.proofs.Stack.{ids-append, totals_append}
use Rattle.stands.proofs.Bulk.{seg-length, seg-sum, stacked_step, stacked-end, rows_step, values_step}

module _ {stands : List (List ℕ)} {ids offsets : List ℕ} (l : AllSound stands ids offsets) {s : ℕ} (h : s < length stands) {p : Stand} (e : p ≡ stand_at stands s) where
  abbrev own : List ℕ
  own = segment_widths p ids offsets

  abbrev rest : List ℕ
  rest = stacked_widths (drop (s + 1) stands) ids offsets

  now_sound : SoundAt p ids offsets
  now_sound = subst (λ (q : Stand). SoundAt q ids offsets) (sym e) (l.each s h)

  pub now_rows : all_rows (drop s stands) ≡ p.rows + all_rows (drop (s + 1) stands)
  now_rows = rows_step stands s h ∙ ap (λ (q : Stand). q.rows + all_rows (drop (s + 1) stands)) (sym e)

  step : stacked_widths (drop s stands) ids offsets ≡ own ++ rest
  step = stacked_step stands ids offsets s h ∙ ap (λ (q : Stand). segment_widths q ids offsets ++ rest) (sym e)

  pub now_values : sum (stacked_widths (drop s stands) ids offsets) ≡ p.count + sum rest
  now_values = values_step l h ∙ ap (λ (q : Stand). q.count + sum rest) (sym e)

  module _ {start : ℕ} {whole old out : List ℕ} {at : ℕ} (f : ℕ) where
    module _ (g : Filling start whole old (ids_of f (stacked_widths (drop s stands) ids offsets)) out at) where
      ids-left : ids_of f (stacked_widths (drop s stands) ids offsets) ≡ ids_of f own ++ ids_of (f + p.rows) rest
      ids-left = ap (ids_of f) step ∙ ids-append f own rest ∙ ap (λ (n : ℕ). ids_of f own ++ ids_of (f + n) rest) (seg-length now_sound)

      pub ids-room : at + length (ids_of f own) ≤ length out
      ids-room = fill_room g (ids_of f own) (ids_of (f + p.rows) rest) ids-left

      pub ids_more : {out' : List ℕ} {at' : ℕ} → at' ≡ at + length (ids_of f own) → out' ≡ put at (ids_of f own) out → Filling start whole old (ids_of (f + p.rows) rest) out' at'
      ids_more {out'} {at'} = fill_more g (ids_of f own) (ids_of (f + p.rows) rest) ids-left out' at'

    module _ (g : Filling start whole old (totals_of f (stacked_widths (drop s stands) ids offsets)) out at) where
      totals_left : totals_of f (stacked_widths (drop s stands) ids offsets) ≡ totals_of f own ++ totals_of (f + p.count) rest
      totals_left = ap (totals_of f) step ∙ totals_append f own rest ∙ ap (λ (n : ℕ). totals_of f own ++ totals_of (f + n) rest) (seg-sum now_sound)

      pub totals_room : at + length (totals_of f own) ≤ length out
      totals_room = fill_room g (totals_of f own) (totals_of (f + p.count) rest) totals_left

      pub totals_more : {out' : List ℕ} {at' : ℕ} → at' ≡ at + length (totals_of f own) → out' ≡ put at (totals_of f own) out
          → Filling start whole old (totals_of (f + p.count) rest) out' at'
      totals_more {out'} {at'} = fill_more g (totals_of f own) (totals_of (f + p.count) rest) totals_left out' at'

module _ (stands : List (List ℕ)) (ids offsets : List ℕ) (f s : ℕ) (h : length stands ≤ s) where
  pub ids-end : ids_of f (stacked_widths (drop s stands) ids offsets) ≡ []
  unfolding ids_of
  ids-end = ap (ids_of f) (stacked-end stands ids offsets s h)

  pub totals_end : totals_of f (stacked_widths (drop s stands) ids offsets) ≡ []
  unfolding totals_of
  totals_end = ap (totals_of f) (stacked-end stands ids offsets s h)
