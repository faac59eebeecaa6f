-- Where the sections stand among the words. Assumes nothing.
use Rattle.std.specs.Prelude.{ℕ, ◌+◌, ◌*◌, ◌≤◌, ◌<◌, ◌≡◌, true, ◌&&◌, cond, List, ◌∷◌, ltb, leb, get_or, length, Option, None, Some}
use Rattle.definitions.specs.Wire.{word_sections, ends_from, section_at, record_groups, records_narrow, words_fit}
use Rattle.definitions.specs.Lists.{all_below}

-- the end of the section whose count is word number at, with size words to an element; none if it is cut
unfoldable pub section_end : ℕ → ℕ → List ℕ → Option ℕ
section_end size at words = cond (ltb at (length words) && leb (at + 1 + get_or words at 0 * size) (length words)) (Some (at + 1 + get_or words at 0 * size)) None

-- 0, and where each section ends: section k's count is word number bound k, its words follow up to bound k + 1
unfoldable pub bounds_of : List ℕ → List ℕ
bounds_of words = 0 ∷ ends_from 0 (word_sections words)

-- bounds begins with the bounds of the sections
pub record Bounded (words bounds : List ℕ) : Type 0 where
  pub room : 10 ≤ length bounds
  pub at : (k : ℕ) → k ≤ length (word_sections words) → get_or bounds k 0 ≡ get_or (bounds_of words) k 0

-- section k stands, and each of its numbers is below the bound
pub record Narrow (words bounds : List ℕ) (k bound : ℕ) : Type 0 where
  pub bounded : Bounded words bounds
  pub stands : k < length (word_sections words)
  pub below : all_below bound (section_at (word_sections words) k) ≡ true

-- the records stand, and the first numbers of each are narrow enough
pub record NarrowRecords (words bounds : List ℕ) : Type 0 where
  pub bounded : Bounded words bounds
  pub stands : 1 < length (word_sections words)
  pub below : records_narrow (record_groups (word_sections words)) ≡ true

-- the words and the bounds of an input that fits
pub record Fitted (words bounds : List ℕ) : Type 0 where
  pub bounded : Bounded words bounds
  pub fits : words_fit words ≡ true
  pub short : length words ≤ 8192
