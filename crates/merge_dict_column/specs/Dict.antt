-- The dictionaries of the segments, where they stand, and what is merged of them. Assumes nothing.
use Rattle.std.specs.Prelude.{ℕ, ◌≤◌, ◌<◌, ◌≡◌, Bool, List, T, length, drop}
use Rattle.definitions.specs.Lists.{terms_ascending}
use Rattle.definitions.specs.Segment.{cut}
use Rattle.stands.specs.Stand.{part, stand_at}
use Rattle.term_cursors.specs.Runs.{terms_before, text_before}
use Rattle.term_walk.specs.Walk.{terms_to, map_to, Merged}

-- a segment's dictionary; one that is not held has none
unfoldable pub dict_at : List (List ℕ) → List ℕ → List ℕ → ℕ → List (List ℕ)
dict_at stands lengths bytes s = cut (part (stand_at stands s).terms lengths) (drop (stand_at stands s).text.from bytes)

-- the marked terms, ascending, each once
unfoldable pub merged_terms : List (List ℕ) → List ℕ → List ℕ → List ℕ → Bool → List (List ℕ)
merged_terms stands lengths bytes marks all = terms_to marks all (λ s. (stand_at stands s).terms.from) (dict_at stands lengths bytes) (length stands)

-- each old ordinal's new one, segment by segment
unfoldable pub merged_map : List (List ℕ) → List ℕ → List ℕ → List ℕ → Bool → List ℕ
merged_map stands lengths bytes marks all = map_to (merged_terms stands lengths bytes marks all) (dict_at stands lengths bytes) (length stands)

-- what the walk needs of the texts, the map and the outputs
pub record Texts (stands : List (List ℕ)) (lengths bytes lens outs ords : List ℕ) : Type 0 where
  pub ascending : (s : ℕ) → s < length stands → T (terms_ascending (dict_at stands lengths bytes s))
  pub starts : (s : ℕ) → s < length stands → (stand_at stands s).map.from ≡ terms_before stands s
  pub terms : terms_before stands (length stands) ≤ length lens
  pub places : terms_before stands (length stands) ≤ length ords
  pub texts : text_before stands lengths (length stands) ≤ length outs
  pub narrow : text_before stands lengths (length stands) < 4294967296

-- what is left at the end
abbrev pub Dictionary : List (List ℕ) → List ℕ → List ℕ → List ℕ → Bool → List ℕ → List ℕ → List ℕ → ℕ → ℕ → ℕ → List ℕ → List ℕ → List ℕ → Type 0
Dictionary stands lengths bytes marks all = Merged (merged_terms stands lengths bytes marks all) (merged_map stands lengths bytes marks all)
