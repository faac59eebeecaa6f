-- The nearest double to an integer, ties to even, at most half the gap away (document 01, the last rule of the join). It holds of every integer of
-- either range (proofs/Rounded). Lengths are in units of 2 ^ -1074, the least positive double. Assumes nothing.
use Rattle.std.specs.Prelude.{ℕ, suc, ◌+◌, ◌-◌, ◌*◌, ◌/◌, ◌%◌, ◌^◌, ◌≤◌, ◌<◌, ◌≡◌, ◌⊎◌, Bool, T, ℤ, Float}
use Rattle.std.specs.Float.{binary64}
use Rattle.std.specs.Float.Ieee.{size, of_int, to_bits, of_bits, fits}
use Rattle.std.specs.Float.Ieee.Nearest.{closest}
use Rattle.std.specs.Float.Ieee.Exact.{HasValue}
use Rattle.definitions.specs.Types.{size_of, is_below_zero, double_of}

-- ---- lengths

-- an integer's size in units
abbrev pub in_units : ℕ → ℕ
in_units n = n * 2 ^ 1074

-- how many of its binary digits a double drops, which keeps 53
unfoldable pub drop_of : ℕ → ℕ
drop_of n = size (in_units n) - 53

-- the gap between the neighbouring doubles around the integer
abbrev pub gap_of : ℕ → ℕ
gap_of n = 2 ^ drop_of n

-- those two
abbrev pub lower_of : ℕ → ℕ
lower_of n = in_units n / gap_of n * gap_of n

abbrev pub upper_of : ℕ → ℕ
upper_of n = lower_of n + gap_of n

-- the double that it becomes: so many whole gaps
abbrev pub rounded_of : ℕ → ℕ
rounded_of n = closest (in_units n) (gap_of n) * gap_of n

abbrev pub apart : ℕ → ℕ → ℕ
apart a b = a - b + (b - a)

-- ---- doubles

-- a double that is below zero if s says so, and m units in size
abbrev pub IsDoubleOf : Bool → ℕ → Float → Type 0
IsDoubleOf s m y = T (fits binary64 y) × HasValue y s m (2 ^ 1074)

-- there is one
abbrev pub IsDouble : Bool → ℕ → Type 0
IsDouble s m = (y : Float) × IsDoubleOf s m y

-- ---- the statement

pub record IsNearest (z : ℤ) : Type 0 where
  -- the bits are those of the double, which has the integer's sign and is so many units in size
  pub pattern : of_bits binary64 (double_of z) ≡ of_int binary64 z
  pub value : HasValue (of_int binary64 z) (is_below_zero z) (rounded_of (size_of z)) (2 ^ 1074)
  -- the integer stands between two neighbouring doubles
  pub lower : IsDouble (is_below_zero z) (lower_of (size_of z))
  pub upper : IsDouble (is_below_zero z) (upper_of (size_of z))
  pub above : lower_of (size_of z) ≤ in_units (size_of z)
  pub below : in_units (size_of z) < upper_of (size_of z)
  pub adjacent : (s : Bool) (m : ℕ) → IsDouble s m → (m ≤ lower_of (size_of z)) ⊎ (upper_of (size_of z) ≤ m)
  -- it becomes one of the two
  pub one_of : (rounded_of (size_of z) ≡ lower_of (size_of z)) ⊎ (rounded_of (size_of z) ≡ upper_of (size_of z))
  -- the distance is at most half the gap, and no double of that sign is nearer
  pub half : apart (rounded_of (size_of z)) (in_units (size_of z)) * 2 ≤ gap_of (size_of z)
  pub closer : (m : ℕ) → IsDouble (is_below_zero z) m → apart (rounded_of (size_of z)) (in_units (size_of z)) ≤ apart m (in_units (size_of z))
  -- nor is one of the other sign, m units in size
  pub across : (m : ℕ) → apart (rounded_of (size_of z)) (in_units (size_of z)) ≤ m + in_units (size_of z)
  -- a tie goes to the even pattern, which is that of just one of the two, since they are consecutive numbers
  pub even : in_units (size_of z) * 2 ≡ lower_of (size_of z) * 2 + gap_of (size_of z) → double_of z % 2 ≡ 0
  pub consecutive : (x y : Float) → IsDoubleOf (is_below_zero z) (lower_of (size_of z)) x → IsDoubleOf (is_below_zero z) (upper_of (size_of z)) y → to_bits binary64 y ≡ suc (to_bits binary64 x)
