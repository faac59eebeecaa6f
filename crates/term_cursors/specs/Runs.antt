-- Where each segment's terms stand, and the first cursors of the walk. Assumes nothing.
use Rattle.std.specs.Prelude.{ℕ, zero, suc, ◌+◌, ◌≤◌, ◌<◌, Bool, false, List, [], ◌++◌, ◌≡◌, length}
use Rattle.definitions.specs.Lists.{sum}
use Rattle.lists.specs.Sums.{sum_below}
use Rattle.stands.specs.declared.Stand.{Stand}
use Rattle.stands.specs.Stand.{part, many, Lies, stand_at}
use Rattle.term_merger.specs.declared.Cursor.{Cursor}
use Rattle.term_merger.specs.Order.{cursor_in, no_cursor}
use Rattle.term_cursors.specs.Cursors.{cursor_at, terms_in, bytes_in, sum_over}

-- f 0, f 1, .., f (n - 1), one after another
abbrev pub join_to : {A : Type 0} → (ℕ → List A) → ℕ → List A
join_to f zero = []
join_to f (suc n) = join_to f n ++ f n

-- how many terms the segments before s have
abbrev pub terms_before : List (List ℕ) → ℕ → ℕ
terms_before stands s = sum_below (λ k. many (stand_at stands k).terms) s

-- and how many term bytes
abbrev pub text_before : List (List ℕ) → List ℕ → ℕ → ℕ
text_before stands lengths s = sum_below (λ k. sum (part (stand_at stands k).terms lengths)) s

-- what the walk needs of the runs
pub record Runs (stands : List (List ℕ)) (lengths bytes marks : List ℕ) (all : Bool) : Type 0 where
  pub few : length stands ≤ 256
  pub lie : (s : ℕ) → s < length stands → Lies (stand_at stands s).terms lengths
  pub marked : all ≡ false → (s : ℕ) → s < length stands → (stand_at stands s).terms.to ≤ length marks
  pub texts : (s : ℕ) → s < length stands → (stand_at stands s).text.from + sum (part (stand_at stands s).terms lengths) ≤ length bytes

-- the first cursor of a segment
unfoldable pub first_cursor : Stand → List ℕ → List ℕ → List ℕ → Bool → Cursor
first_cursor p lengths bytes marks all = cursor_at lengths bytes marks all p.text.from p.terms.from p.terms.to p.map.from

pub record Filled (stands : List (List ℕ)) (lengths bytes marks : List ℕ) (all : Bool) (n : ℕ) (cursors : List Cursor) : Type 0 where
  pub size : length cursors ≡ 256
  pub cursor : (s : ℕ) → s < n → cursor_in cursors s ≡ first_cursor (stand_at stands s) lengths bytes marks all
  pub rest : (s : ℕ) → n ≤ s → cursor_in cursors s ≡ no_cursor
  pub terms : sum_over terms_in cursors ≡ terms_before stands n
  pub texts : sum_over (bytes_in lengths) cursors ≡ text_before stands lengths n
