-- Lists of checks: what an answer says of the checks before it, and what has passed. Assumes nothing.
use Prim.Native.Nat.{ℕ}
use mathlib.Core.Path.{◌≡◌, refl, sym, ap, subst}
use mathlib.Core.List.{List, [], ◌∷◌, ◌++◌}
use mathlib.Core.Bool.{Bool, true, false, cond, not, false≢true}
use lib.Dec.{T, eqb}
use lib.Ieee.Fits.{and_l, and_r}
use Rattle.definitions.specs.Lists.{any}
use Rattle.definitions.specs.Checks.{Check, first_else, first_of, Passed, fails_at, are_numbered}
use Rattle.definitions.proofs.Lists.{or-both, or_left, or_right}

-- ---- Booleans

-- ---- one list after another

pub first-append : (a b : List Check) (rest : ℕ) → first_else (a ++ b) rest ≡ first_else a (first_else b rest)
first-append [] b rest = refl
first-append (c ∷ a) b rest = ap (cond c.fails c.number) (first-append a b rest)

pub passed-append : (a b : List Check) → Passed (a ++ b) → Passed a × Passed b
passed-append [] b p = (record { none = refl }, p)
passed-append (c ∷ a) b p =
    let q = passed-append a b (record { none = or_right c.fails (any (λ (c : Check). c.fails) (a ++ b)) p.none }) in
    (record { none = or-both c.fails (or_left c.fails (any (λ (c : Check). c.fails) (a ++ b)) p.none) q.0.none }, q.1)

-- ---- what an answer says

-- a refusal stands, whatever follows
stays : (b : Bool) (n : ℕ) {r r' : ℕ} → ((r ≡ 0 → ⊥) → r ≡ r') → (cond b n r ≡ 0 → ⊥) → cond b n r ≡ cond b n r'
stays true n f h = refl
stays false n f h = f h

pub first_stays : (cs : List Check) (rest : ℕ) → (first_of cs ≡ 0 → ⊥) → first_of cs ≡ first_else cs rest
first_stays [] rest h = absurd (h refl)
first_stays (c ∷ cs) rest h = stays c.fails c.number (first_stays cs rest) h

-- where all have passed, the rest decides
goes : (b : Bool) (n : ℕ) {r x : ℕ} → b ≡ false → r ≡ x → cond b n r ≡ x
goes true n p q = absurd (false≢true (sym p))
goes false n p q = q

pub first-passed : (cs : List Check) (rest : ℕ) → Passed cs → first_else cs rest ≡ rest
first-passed [] rest p = refl
first-passed (c ∷ cs) rest p =
    let q = or_right c.fails (any (λ (c : Check). c.fails) cs) p.none in
    goes c.fails c.number (or_left c.fails (any (λ (c : Check). c.fails) cs) p.none) (first-passed cs rest (record { none = q }))

fell : (b : Bool) (n r : ℕ) → T (not (eqb n 0)) → cond b n r ≡ 0 → (b ≡ false) × (r ≡ 0)
fell true n r t e = absurd (subst (λ (k : ℕ). T (not (eqb k 0))) e t)
fell false n r t e = (refl, e)

-- an answer of 0: all have passed, and so has the rest
pub all-passed : (cs : List Check) (rest : ℕ) → T (are_numbered cs) → first_else cs rest ≡ 0 → Passed cs × (rest ≡ 0)
all-passed [] rest t e = (record { none = refl }, e)
all-passed (c ∷ cs) rest t e =
    let p = fell c.fails c.number (first_else cs rest) (and_l (not (eqb c.number 0)) (are_numbered cs) t) e in
    let q = all-passed cs rest (and_r (not (eqb c.number 0)) (are_numbered cs) t) p.1 in
    (record { none = or-both c.fails p.0 q.0.none }, q.1)

-- ---- a check by its number

found : (b : Bool) {x y : Bool} → x ≡ false → y ≡ false → cond b x y ≡ false
found true p q = p
found false p q = q

passes_in : (cs : List Check) → Passed cs → (n : ℕ) → fails_at n cs ≡ false
passes_in [] p n = refl
passes_in (c ∷ cs) p n =
    let q = or_right c.fails (any (λ (c : Check). c.fails) cs) p.none in
    found (eqb c.number n) (or_left c.fails (any (λ (c : Check). c.fails) cs) p.none) (passes_in cs (record { none = q }) n)

pub passes : {cs : List Check} → Passed cs → (n : ℕ) → fails_at n cs ≡ false
passes {cs} p n = passes_in cs p n
