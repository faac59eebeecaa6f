-- What the contracts of the readers cite. Assumes nothing.
use Rattle.std.specs.Prelude.{ℕ, ◌≤◌, ◌≡◌, List, length, take}

-- n counts elements at the start of xs. The second part follows from the first: with both, the part `&xs[..n]` asks for no proof of its own.
abbrev pub Counts : {A : Type 0} → ℕ → List A → Type 0
Counts n xs = (n ≤ length xs) × (n ≡ length (take n xs))
