-- The input as a whole. Assumes nothing.
use mathlib.Core.Path.{◌≡◌, sym, ◌∙◌}
use mathlib.Core.List.{List}
use mathlib.Core.Bool.{Bool, true, false, not}
use Prim.Native.Nat.{ℕ, ◌%◌, ◌≤◌}
use borrow.Author.Tests.{leb-true, not-false}
use lib.Dec.{leb, eqb}
use Rattle.lists.proofs.Tests.{both_true}
use lib.ListN.{length}
use Rattle.definitions.specs.Wire.{words_of, words_fit, whole_words, bytes_fit}

pub whole-short : (l : List ℕ) → whole_words l ≡ true → length l ≤ 65536
unfolding whole_words
whole-short l h = leb-true (length l) 65536 (both_true (leb (length l) 65536) (eqb (length l % 8) 0) h).0

-- the same of a test t that the code asks for `!t`
pub short : (l : List ℕ) {t : Bool} → t ≡ whole_words l → not t ≡ false → length l ≤ 65536
short l {t} e h = whole-short l (sym e ∙ not-false t h)

pub no_fit : (l : List ℕ) → whole_words l ≡ false → false ≡ bytes_fit l
unfolding bytes_fit
no_fit l h = rw h

pub fit : (l : List ℕ) (x : Bool) → whole_words l ≡ true → x ≡ words_fit (words_of l) → x ≡ bytes_fit l
unfolding bytes_fit
fit l x h e = rw h e
