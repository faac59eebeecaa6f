-- The type rule over stored values, as document 01 words it ("The join", the point "Type"). Since 02, (j), the join reads each column's pair instead (Types); that both
-- decide alike where pairs are true is proofs/Pairs.antt. And what the least and the greatest value are among the integers that the words stand for. Assumes nothing.
use Rattle.std.specs.Prelude.{ℕ, ◌≡◌, Bool, true, false, ◌&&◌, ◌||◌, cond, not, ℤ, pos, negsuc, eqb, ltb, leb}
use mathlib.Core.List.{List, [], ◌∷◌, Memᴰ}
use Rattle.definitions.specs.Lists.{all}
use Rattle.definitions.specs.Segment.{Segment, Pair}
use Rattle.definitions.specs.Row.{no_type}
use Rattle.definitions.specs.Types.{I64, U64, F64, is_numerical, is_negative, greatest_i64, has_type, only_type, integer_of}

-- each stored value of the held columns of type t passes the test; withdrawn rows count
unfoldable pub every_value : ℕ → (ℕ → Bool) → List Segment → Bool
every_value t test held = all (λ s. not (eqb s.type t) || all test s.values) held

-- I64 if no F64 and every U64 value is below 9223372036854775807; else U64 if no F64 and no I64 value is negative; else F64
unfoldable pub numerical_by_values : List Segment → ℕ
numerical_by_values held =
    cond (not (has_type F64 held) && every_value U64 (λ w. ltb w greatest_i64) held) I64
    (cond (not (has_type F64 held) && every_value I64 (λ w. not (is_negative w)) held) U64
    F64)

-- the only held type, else the numerical rule; no column where none is held
abbrev pub held_by_values : List Segment → ℕ
held_by_values [] = no_type
held_by_values (s ∷ ss) = cond (only_type s.type ss) s.type (numerical_by_values (s ∷ ss))

-- the required one, else by the held columns
unfoldable pub type_by_values : ℕ → List Segment → ℕ
type_by_values required held = cond (eqb required no_type) (held_by_values held) required

-- whether a column of type t with these stored values becomes type u
unfoldable pub coercible_by_values : ℕ → ℕ → List ℕ → Bool
coercible_by_values t u values =
    eqb t u
    || (eqb u F64 && is_numerical t)
    || (eqb u I64 && eqb t U64 && all (λ w. leb w greatest_i64) values)
    || (eqb u U64 && eqb t I64 && all (λ w. not (is_negative w)) values)

-- ---- least and greatest

-- whether an integer is below another one
abbrev pub is_lower : ℤ → ℤ → Bool
is_lower (pos m) (pos n) = ltb m n
is_lower (pos m) (negsuc n) = false
is_lower (negsuc m) (pos n) = true
is_lower (negsuc m) (negsuc n) = ltb n m

-- both are among the values, and no value's integer is below that of the least or above that of the greatest
pub record IsPair (t : ℕ) (values : List ℕ) (p : Pair) : Type 0 where
  pub least_in : Memᴰ p.least values
  pub greatest-in : Memᴰ p.greatest values
  pub least-low : (w : ℕ) → Memᴰ w values → is_lower (integer_of t w) (integer_of t p.least) ≡ false
  pub greatest-high : (w : ℕ) → Memᴰ w values → is_lower (integer_of t p.greatest) (integer_of t w) ≡ false
