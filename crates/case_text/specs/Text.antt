-- Numbers and lists as text, in the words of src/lib.rt: what the readers give, and what they leave of the text. Assumes nothing.
use Rattle.std.specs.Prelude.{ℕ, zero, suc, ◌+◌, ◌-◌, ◌*◌, ◌≡◌, cond, List, [], ◌∷◌, ◌++◌, length, drop, ltb, min, Option, None, Some}
use Rattle.std.specs.Option.{is_some}

-- the number of a hexadecimal digit
abbrev pub digit_of : ℕ → Option ℕ
digit_of b = cond (ltb b 48) None (cond (ltb b 58) (Some (b - 48)) (cond (ltb b 97) None (cond (ltb b 103) (Some (b - 97 + 10)) None)))

-- from the first digit on
unfoldable pub skipped : List ℕ → List ℕ
skipped [] = []
skipped (b ∷ bs) = cond (is_some (digit_of b)) (b ∷ bs) (skipped bs)

-- the number that n's digits and those that follow make, and what is left behind them; one that has 60 bits takes no more
unfoldable pub digits_from : ℕ → List ℕ → ℕ × List ℕ
digits_from n [] = (n, [])
digits_from n (b ∷ bs) = elim (digit_of b) [ None ↦ (n, b ∷ bs) | Some d ↦ cond (ltb 1152921504606846975 n) (n, b ∷ bs) (digits_from (n * 16 + d) bs) ]

-- the next number, and what is left behind it
unfoldable pub number_in : List ℕ → ℕ × List ℕ
number_in text = digits_from 0 (skipped text)

-- the next number, or the widest that there is place for
unfoldable pub capped_in : ℕ → List ℕ → ℕ × List ℕ
capped_in most text = (min (number_in text).0 most, (number_in text).1)

module _ {A : Type 0} where
  -- n elements, each read where the one before it ended, and what is left behind them
  unfoldable pub read_from : (List ℕ → A × List ℕ) → ℕ → List ℕ → List A
  read_from f zero text = []
  read_from f (suc n) text = (f text).0 ∷ read_from f n (f text).1

  unfoldable pub rest_after : (List ℕ → A × List ℕ) → ℕ → List ℕ → List ℕ
  rest_after f zero text = text
  rest_after f (suc n) text = rest_after f n (f text).1

-- k numbers of 32 bits as one element
unfoldable pub row_in : ℕ → List ℕ → List ℕ × List ℕ
row_in k text = (read_from (capped_in 4294967295) k text, rest_after (capped_in 4294967295) k text)

-- a list after its count, cut to its place: n elements read one after another by f and written, what is left behind them, and the rest of out as it was
pub record Listed {A : Type 0} (f : List ℕ → A × List ℕ) (text : List ℕ) (out : List A) (n : ℕ) (left : List ℕ) (out' : List A) : Type 0 where
  pub count : n ≡ min (number_in text).0 (length out)
  pub behind : left ≡ rest_after f n (number_in text).1
  pub written : out' ≡ read_from f n (number_in text).1 ++ drop n out
