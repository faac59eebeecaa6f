-- Where a dictionary's terms stand in its bytes, and whether they ascend. Assumes nothing.
use Rattle.std.specs.Prelude.{ℕ, ◌+◌, List, Bool, ◌&&◌, length, take, drop, get_or, ltb}
use Rattle.std.specs.Borrow.{Bor}
use Rattle.definitions.specs.Lists.{compare_bytes, is_below, terms_ascending, terms_ascending_from}
use Rattle.definitions.specs.Segment.{cut}
use Rattle.term_reader.specs.declared.Reader.{Reader}
use Rattle.term_reader.specs.declared.Place.{Place}

-- the term with an ordinal, which begins at a byte
abbrev pub term_at : List ℕ → List ℕ → ℕ → ℕ → List ℕ
term_at bytes lengths at ordinal = take (get_or lengths ordinal 0) (drop at bytes)

-- where the next one stands
abbrev pub next_place : List ℕ → ℕ → ℕ → Place
next_place lengths at ordinal = record { at = at + get_or lengths ordinal 0; ordinal = ordinal + 1 }

-- whether there is a next one, above it
unfoldable pub goes_on : List ℕ → List ℕ → ℕ → ℕ → Bool
goes_on bytes lengths at ordinal =
    ltb (ordinal + 1) (length lengths)
    && is_below (compare_bytes (term_at bytes lengths at ordinal) (term_at bytes lengths (at + get_or lengths ordinal 0) (ordinal + 1)))

-- a reader at the first term, and at another place
abbrev pub started : Bor (List ℕ) → Reader
started bytes = record { bytes = bytes; place = record { at = 0; ordinal = 0 } }

abbrev pub moved : Reader → Place → Reader
moved r p = record r { place = p }

-- whether all of them ascend
unfoldable pub terms_rise : List ℕ → List ℕ → Bool
terms_rise lengths bytes = terms_ascending (cut lengths bytes)

-- the same of those after a term
unfoldable pub terms_rise_from : List ℕ → List ℕ → List ℕ → Bool
terms_rise_from t lengths bytes = terms_ascending_from t (cut lengths bytes)
