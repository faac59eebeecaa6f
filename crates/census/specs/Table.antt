-- The table says where the segments of a join stand, as they count in it. Assumes nothing.
use Rattle.std.specs.Prelude.{ℕ, ◌+◌, ◌≤◌, ◌<◌, ◌≡◌, List, cond, T, length, get_or, drop}
use Rattle.definitions.specs.Lists.{sum, concat}
use Rattle.definitions.specs.Segment.{Segment, cut}
use Rattle.definitions.specs.Row.{is_held, effective}
use Rattle.definitions.specs.Join.{absent}
use Rattle.definitions.specs.Answer.{sum_over, greatest_sum, index_fits, values_fit}
use Rattle.lists.specs.Sums.{sum_below}
use Rattle.stands.specs.Stand.{part, many, span, Lies, stand_at}
use Rattle.stands.specs.Look.{Stands}

-- a segment as it counts
abbrev pub counted : List Segment → ℕ → Segment
counted ss k = effective (get_or ss k absent)

-- where segment k's part of the map starts: behind those of the segments before
abbrev pub map_before : List Segment → ℕ → ℕ
map_before ss k = sum_below (λ j. length (counted ss j).terms) k

-- each segment's runs lie where the table says, whether or not they follow one another
pub record Table (stands : List (List ℕ)) (ids offsets values lengths bytes words : List ℕ) (ss : List Segment) : Type 0 where
  pub size : length stands ≡ length ss
  pub few : length ss ≤ 256
  pub fits : (k : ℕ) → k < length ss → T (index_fits (get_or ss k absent))
  pub worded : (k : ℕ) → k < length ss → T (values_fit (get_or ss k absent))
  pub rows : sum_over (λ (s : Segment). s.rows) ss ≤ greatest_sum
  pub values_low : sum_over (λ (s : Segment). length s.values) ss ≤ greatest_sum
  pub each : (k : ℕ) → k < length ss → Stands (stand_at stands k) ids offsets values words (counted ss k)
  pub type : (k : ℕ) → k < length ss → (stand_at stands k).typ ≡ (get_or ss k absent).type
  pub small : (k : ℕ) → k < length ss → (stand_at stands k).typ < 4294967296
  pub held : (k : ℕ) → k < length ss → (stand_at stands k).held ≡ cond (is_held (get_or ss k absent)) 1 0
  pub terms-lie : (k : ℕ) → k < length ss → Lies (stand_at stands k).terms lengths
  pub text_in : (k : ℕ) → k < length ss → (stand_at stands k).text.from + sum (part (stand_at stands k).terms lengths) ≤ length bytes
  pub text-long : (k : ℕ) → k < length ss → many (stand_at stands k).text ≡ length (concat (counted ss k).terms)
  pub dict : (k : ℕ) → k < length ss → cut (part (stand_at stands k).terms lengths) (drop (stand_at stands k).text.from bytes) ≡ (counted ss k).terms
  pub map : (k : ℕ) → k < length ss → (stand_at stands k).map ≡ span (map_before ss k) (length (counted ss k).terms)
  -- no two segments have terms in common
  pub apart : (j k : ℕ) → j < k → k < length ss → (stand_at stands j).terms.to ≤ (stand_at stands k).terms.from
