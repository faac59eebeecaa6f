-- Where a row's values stand among its segment's values, by the segment's kind, row ids and offsets (document 01, "The join", first point). Assumes nothing.
use Rattle.std.specs.Prelude.{ℕ, suc, ◌-◌, ◌≤◌, ◌<◌, ◌≡◌, List, Bool, false, cond, length, get_or, T, eqb, ltb}
use Rattle.definitions.specs.Lists.{elem, all, ascending, last}
use Rattle.definitions.specs.Row.{rank}
use Rattle.segment.specs.Kind.{by_index}

-- the definitions' rank and membership, kept shut
unfoldable pub rank_in : ℕ → List ℕ → ℕ
rank_in row ids = rank row ids

unfoldable pub is_in : ℕ → List ℕ → Bool
is_in row ids = elem row ids

-- the first of the row's values
unfoldable pub start_of : ℕ → List ℕ → List ℕ → ℕ → ℕ
unfolding rank_in is_in
start_of kind ids offsets row =
    by_index kind 0 row (cond (is_in row ids) (rank_in row ids) 0) (cond (is_in row ids) (get_or offsets (rank_in row ids) 0) 0)

-- the place behind the last of them
unfoldable pub end_of : ℕ → List ℕ → List ℕ → ℕ → ℕ
unfolding rank_in is_in
end_of kind ids offsets row =
    by_index kind 0 (suc row) (cond (is_in row ids) (suc (rank_in row ids)) 0) (cond (is_in row ids) (get_or offsets (suc (rank_in row ids)) 0) 0)

-- what a lookup asks of the lists
pub record Readable (kind : ℕ) (ids offsets : List ℕ) : Type 0 where
  pub ascends : T (ascending ids)
  pub multi : 3 ≤ kind → length ids < length offsets

-- a kind whose rows are looked up by rank
abbrev pub Ranked : ℕ → Type 0
Ranked kind = (kind ≡ 0 → ⊥) × (kind ≡ 1 → ⊥)

-- how many values the row has
unfoldable pub width_of : ℕ → List ℕ → List ℕ → ℕ → ℕ
unfolding start_of end_of
width_of kind ids offsets row = end_of kind ids offsets row - start_of kind ids offsets row

-- what the checks 19 and 4 say of a segment with so many values
pub record Sound (kind rows count : ℕ) (ids offsets : List ℕ) : Type 0 where
  pub current : eqb kind 3 ≡ false
  pub ascends : T (ascending ids)
  pub empty : kind ≡ 0 → count ≡ 0
  pub full : kind ≡ 1 → count ≡ rows
  pub optional : kind ≡ 2 → T (all (λ n. ltb n rows) ids) × (count ≡ length ids)
  pub multi : 3 ≤ kind → T (all (λ n. ltb n rows) ids) × (length offsets ≡ suc (length ids)) × (get_or offsets 0 0 ≡ 0) × (last offsets ≡ count) × T (ascending offsets)
