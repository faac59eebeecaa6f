-- The answer by the columns where they stand, and that it is the definitions' for the segments that they stand for. Assumes nothing.
use mathlib.Core.Path.{◌≡◌, refl, ap, ◌∙◌}
use mathlib.Core.Bool.{Bool, true, false, not, cond, ◌&&◌, ◌||◌}
use mathlib.Core.List.{List, [], ◌∷◌, map}
use Prim.Native.Nat.{ℕ, suc, ◌<◌, zero-le, suc-le-suc}
use native.Mathlib.Omega.{arith}
use lib.Dec.{eqb, ltb}
use lib.ListN.{length, get_or}
use Rattle.definitions.specs.Lists.{all, any, filter}
use Rattle.definitions.specs.Segment.{Segment, Pair}
use Rattle.definitions.specs.Row.{no_type, is_dropped, is_held, held_of}
use Rattle.definitions.specs.Types.{F64, U64, I64, is_coercible, has_type, every_pair, only_type, numerical_type, held_type, type_of, greatest_i64, is_negative}
use Rattle.definitions.specs.Join.{joined_type, absent}
use Rattle.definitions.specs.Answer.{present_types, all_coercible, types_wrong}
use Rattle.min_max.specs.Pairs.{pairs_together}
use Rattle.stands.specs.Stand.{stand_of, stand_at}
use Rattle.stands.specs.Look.{pair_at}
use Rattle.std.proofs.Common.{Option, None, Some}
use Rattle.merge_type.specs.Parts.{is_part, types_in, column_of, held_in, one_among, all_become, type_answer, held_pair}

-- ---- of a segment the rules read type and pair alone

abbrev bare : Segment → Segment
bare s = column_of s.type s.pair

all-bare : (p : Segment → Bool) (hs : List Segment) → all p (map bare hs) ≡ all (λ (s : Segment). p (bare s)) hs
all-bare p [] = refl
all-bare p (h ∷ hs) = ap (λ (b : Bool). p (bare h) && b) (all-bare p hs)

any-bare : (p : Segment → Bool) (hs : List Segment) → any p (map bare hs) ≡ any (λ (s : Segment). p (bare s)) hs
any-bare p [] = refl
any-bare p (h ∷ hs) = ap (λ (b : Bool). p (bare h) || b) (any-bare p hs)

pairs-bare : (hs : List Segment) → map (λ (s : Segment). s.pair) (map bare hs) ≡ map (λ (s : Segment). s.pair) hs
pairs-bare [] = refl
pairs-bare (h ∷ hs) = ap (λ (ps : List Pair). h.pair ∷ ps) (pairs-bare hs)

numerical_bare : (hs : List Segment) → numerical_type (map bare hs) ≡ numerical_type hs
unfolding numerical_type has_type every_pair
numerical_bare hs =
    let a = any-bare (λ (s : Segment). eqb s.type F64) hs in
    let b = all-bare (λ (s : Segment). not (eqb s.type U64) || ltb s.pair.greatest greatest_i64) hs in
    let c = all-bare (λ (s : Segment). not (eqb s.type I64) || not (is_negative s.pair.least)) hs in
    λ i. cond (not (a i) && b i) I64 (cond (not (a i) && c i) U64 F64)

type-bare : (required : ℕ) (hs : List Segment) → type_of required (map bare hs) ≡ type_of required hs
unfolding type_of only_type
type-bare required hs = ap (λ (x : ℕ). cond (eqb required no_type) x required) (go hs)
  where
    go : (hs : List Segment) → held_type (map bare hs) ≡ held_type hs
    go [] = refl
    go (h ∷ hs) =
        let a = all-bare (λ (s : Segment). eqb s.type h.type) hs in
        let b = numerical_bare (h ∷ hs) in
        λ i. cond (a i) h.type (b i)

become_bare : (u : ℕ) (hs : List Segment) → all_become u (map bare hs) ≡ all_become u hs
unfolding all_become
become_bare u hs = all-bare (λ (s : Segment). is_coercible s.type u s.pair) hs

-- ---- from the table to the definitions' segments

-- each column has its segment's type, is held as the segment is, and then has its pair
pub record Typed (stands : List (List ℕ)) (ss : List Segment) : Type 0 where
  pub many : length stands ≡ length ss
  pub type : (k : ℕ) → k < length ss → (stand_at stands k).typ ≡ (get_or ss k absent).type
  pub held : (k : ℕ) → k < length ss → (stand_at stands k).held ≡ cond (is_held (get_or ss k absent)) 1 0
  pub pair : (k : ℕ) → k < length ss → is_held (get_or ss k absent) ≡ true → pair_at (stand_at stands k) ≡ (get_or ss k absent).pair

-- a column is held as its segment is
pub held_at : {stands : List (List ℕ)} {ss : List Segment} → Typed stands ss → (k : ℕ) → k < length ss → is_part (stand_at stands k) ≡ is_held (get_or ss k absent)
unfolding is_part is_held
held_at {stands} {ss} t k h =
    (λ i. eqb (t.held k h i) 1 && not (eqb (t.type k h i) no_type)) ∙ go (eqb (get_or ss k absent).type no_type) (is_dropped (get_or ss k absent))
  where
    go : (p d : Bool) → eqb (cond (not p && not d) 1 0) 1 && not p ≡ not p && not d
    go true d = refl
    go false true = refl
    go false false = refl

module _ {r : List ℕ} {rs : List (List ℕ)} {s : Segment} {ss : List Segment} (t : Typed (r ∷ rs) (s ∷ ss)) where
  typed-rest : Typed rs ss
  typed-rest =
      record {
        many = omega (arith, t.many);
        type = λ k h. t.type (suc k) (suc-le-suc h);
        held = λ k h. t.held (suc k) (suc-le-suc h);
        pair = λ k h. t.pair (suc k) (suc-le-suc h);
      }

  type-here : (stand_of r).typ ≡ s.type
  type-here = t.type 0 (suc-le-suc zero-le)

types_typed : (stands : List (List ℕ)) (ss : List Segment) → Typed stands ss → types_in stands ≡ map (λ (s : Segment). s.type) ss
unfolding types_in
types_typed [] [] t = refl
types_typed [] (s ∷ ss) t = absurd (omega (arith, t.many))
types_typed (r ∷ rs) [] t = absurd (omega (arith, t.many))
types_typed (r ∷ rs) (s ∷ ss) t = λ i. type-here t i ∷ types_typed rs ss (typed-rest t) i

held-typed : (stands : List (List ℕ)) (ss : List Segment) → Typed stands ss → held_in stands ≡ map bare (held_of ss)
unfolding held_in held_of
held-typed [] [] t = refl
held-typed [] (s ∷ ss) t = absurd (omega (arith, t.many))
held-typed (r ∷ rs) [] t = absurd (omega (arith, t.many))
held-typed (r ∷ rs) (s ∷ ss) t =
    ap (λ (b : Bool). cond b (column_of (stand_of r).typ (pair_at (stand_of r)) ∷ held_in rs) (held_in rs)) (held_at t 0 (suc-le-suc zero-le)) ∙ go (held-typed rs ss (typed-rest t)) (is_held s) refl
  where
    go : held_in rs ≡ map bare (filter is_held ss) → (b : Bool) → is_held s ≡ b
        → cond b (column_of (stand_of r).typ (pair_at (stand_of r)) ∷ held_in rs) (held_in rs) ≡ map bare (cond b (s ∷ filter is_held ss) (filter is_held ss))
    go more true e = λ i. column_of (type-here t i) (t.pair 0 (suc-le-suc zero-le) e i) ∷ more i
    go more false e = more

cond-not : (b : Bool) (x y : Option ℕ) → cond b x y ≡ cond (not b) y x
cond-not true x y = refl
cond-not false x y = refl

-- the answer is 10 where the definitions say that types are wrong, and else the joined type
pub answer-is : (required : ℕ) {stands : List (List ℕ)} {ss : List Segment} → Typed stands ss → type_answer required stands ≡ cond (types_wrong required ss) None (Some (joined_type required ss))
unfolding type_answer one_among types_wrong present_types all_coercible all_become joined_type
answer-is required {stands} {ss} t =
    let held = held-typed stands ss t in
    let a = ap (one_among required) (types_typed stands ss t) in
    let u = ap (type_of required) held ∙ type-bare required (held_of ss) in
    let b = (λ i. all_become (u i) (held i)) ∙ become_bare (joined_type required ss) (held_of ss) in
    (λ i. cond (a i && b i) (Some (u i)) None) ∙ cond-not (one_among required (map (λ (s : Segment). s.type) ss) && all_become (joined_type required ss) (held_of ss)) (Some (joined_type required ss)) None

-- and the pairs put together are the held segments'
pub held-pair-is : (to : ℕ) {stands : List (List ℕ)} {ss : List Segment} → Typed stands ss → held_pair to stands ≡ pairs_together to (map (λ (s : Segment). s.pair) (held_of ss))
unfolding held_pair
held-pair-is to {stands} {ss} t = ap (λ (hs : List Segment). pairs_together to (map (λ (s : Segment). s.pair) hs)) (held-typed stands ss t) ∙ ap (pairs_together to) (pairs-bare (held_of ss))
