-- Segments that a join can't tell apart: what the join reads of a segment. Assumes nothing.
use Prim.Native.Nat.{ℕ, zero, suc, max}
use mathlib.Core.Path.{◌≡◌, refl, ap, ap₂}
use mathlib.Core.List.{List, [], ◌∷◌, ◌++◌, map}
use mathlib.Core.Bool.{Bool, true, false, not, cond, ◌||◌, ◌&&◌, false≢true, true≢false}
use lib.ListN.{get_or}
use lib.Dec.{eqb, ltb}
use Rattle.definitions.specs.Lists.{up_to, all, any, filter, concat, sort_terms}
use Rattle.definitions.specs.Segment.{Segment, Pair, Address}
use Rattle.definitions.specs.Row.{is_held, held_of, effective, no_type}
use Rattle.definitions.specs.Types.{I64, U64, F64, greatest_i64, is_negative, has_type, every_pair, only_type, numerical_type, held_type, type_of}
use Rattle.definitions.specs.Class.{class_of, greatest_class}
use Rattle.definitions.specs.Join.{absent, stacked_from, row_order, kept_terms, terms_of, ordinal_of, map_of, cell_of, encode, joined_type, joined_class, joined_cells, joined_column, join_rules}

pub record Alike (s t : Segment) : Type 0 where
  pub type : s.type ≡ t.type
  pub rows : s.rows ≡ t.rows
  pub pair : s.pair ≡ t.pair
  pub terms : s.terms ≡ t.terms
  pub held : is_held s ≡ is_held t
  pub class : class_of (effective s) ≡ class_of (effective t)
  pub kept : kept_terms s ≡ kept_terms t
  pub cell : (type : ℕ) (terms : List (List ℕ)) (r : ℕ) → cell_of type terms s r ≡ cell_of type terms t r

pub alike_self : (s : Segment) → Alike s s
alike_self s =
    record { type = refl; rows = refl; pair = refl; terms = refl; held = refl; class = refl; kept = refl; cell = λ type terms r. refl }

pub data AllAlike : List Segment → List Segment → Type 0 where
  none : AllAlike [] []
  some : {s t : Segment} {ss ts : List Segment} → Alike s t → AllAlike ss ts → AllAlike (s ∷ ss) (t ∷ ts)

held_alike : {ss ts : List Segment} → AllAlike ss ts → AllAlike (held_of ss) (held_of ts)
unfolding held_of
held_alike none = none
held_alike (some {s} {t} {ss} {ts} a l) = go (is_held s) (is_held t) a.held (held_alike l)
  where
    go : (b c : Bool) → b ≡ c → AllAlike (filter is_held ss) (filter is_held ts)
        → AllAlike (cond b (s ∷ filter is_held ss) (filter is_held ss)) (cond c (t ∷ filter is_held ts) (filter is_held ts))
    go true true e k = some a k
    go true false e k = absurd (true≢false e)
    go false true e k = absurd (false≢true e)
    go false false e k = k

-- ---- the joined type

all_alike : (p : ℕ → Pair → Bool) {ss ts : List Segment} → AllAlike ss ts → all (λ s. p s.type s.pair) ss ≡ all (λ s. p s.type s.pair) ts
all_alike p none = refl
all_alike p (some a l) = ap₂ ◌&&◌ (ap₂ p a.type a.pair) (all_alike p l)

any_alike : (p : ℕ → Bool) {ss ts : List Segment} → AllAlike ss ts → any (λ s. p s.type) ss ≡ any (λ s. p s.type) ts
any_alike p none = refl
any_alike p (some a l) = ap₂ ◌||◌ (ap p a.type) (any_alike p l)

numerical_alike : {ss ts : List Segment} → AllAlike ss ts → numerical_type ss ≡ numerical_type ts
unfolding numerical_type has_type every_pair
numerical_alike {ss} {ts} l =
    λ i.
    cond (not (any_alike (λ t. eqb t F64) l i) && all_alike (λ t p. not (eqb t U64) || ltb p.greatest greatest_i64) l i) I64
    (cond (not (any_alike (λ t. eqb t F64) l i) && all_alike (λ t p. not (eqb t I64) || not (is_negative p.least)) l i) U64 F64)

type_alike : {ss ts : List Segment} → AllAlike ss ts → held_type ss ≡ held_type ts
unfolding only_type
type_alike none = refl
type_alike (some {s} {t} {ss} {ts} a l) =
    λ i. cond (only (a.type i) i) (a.type i) (numerical_alike (some a l) i)
  where
    only : (u : ℕ) → all (λ s. eqb s.type u) ss ≡ all (λ s. eqb s.type u) ts
    only u = all_alike (λ t p. eqb t u) l

-- ---- class, terms, map, rows

class_alike : {ss ts : List Segment} → AllAlike ss ts → greatest_class ss ≡ greatest_class ts
unfolding greatest_class
class_alike none = refl
class_alike (some a l) = ap₂ max a.class (class_alike l)

kept_alike : {ss ts : List Segment} → AllAlike ss ts → concat (map kept_terms ss) ≡ concat (map kept_terms ts)
kept_alike none = refl
kept_alike (some a l) = ap₂ (λ (x y : List (List ℕ)). x ++ y) a.kept (kept_alike l)

maps_alike : (f : List ℕ → ℕ) {ss ts : List Segment} → AllAlike ss ts → concat (map (λ (s : Segment). map f s.terms) ss) ≡ concat (map (λ (s : Segment). map f s.terms) ts)
maps_alike f none = refl
maps_alike f (some a l) = ap₂ (λ (x y : List ℕ). x ++ y) (ap (map f) a.terms) (maps_alike f l)

stacked_alike : (n : ℕ) {ss ts : List Segment} → AllAlike ss ts → stacked_from n ss ≡ stacked_from n ts
stacked_alike n none = refl
stacked_alike n (some a l) =
    ap₂ (λ (x y : List Address). x ++ y) (ap (λ (m : ℕ). map (λ (r : ℕ). record { segment = n; row = r }) (up_to m)) a.rows) (stacked_alike (suc n) l)

at_alike : (k : ℕ) {ss ts : List Segment} → AllAlike ss ts → Alike (get_or ss k absent) (get_or ts k absent)
at_alike k none = alike_self (get_or [] k absent)
at_alike zero (some a l) = a
at_alike (suc k) (some a l) = at_alike k l

-- ---- the join

module _ (required : ℕ) {ss ts : List Segment} (l : AllAlike ss ts) where
  terms-same : terms_of ss ≡ terms_of ts
  unfolding terms_of
  terms-same = ap sort_terms (kept_alike (held_alike l))

  type-same : joined_type required ss ≡ joined_type required ts
  unfolding joined_type type_of
  type-same = ap (λ (t : ℕ). cond (eqb required no_type) t required) (type_alike (held_alike l))

  cells_same : (order : List Address) → joined_cells required ss order ≡ joined_cells required ts order
  unfolding joined_cells
  cells_same order = λ i. map (λ (a : Address). (at_alike a.segment l).cell (type-same i) (terms-same i) a.row i) order

  column_alike : (order : List Address) → joined_column required ss order ≡ joined_column required ts order
  unfolding joined_column joined_class
  column_alike order =
      λ i. encode (type-same i) (cond (eqb (type-same i) no_type) 0 (class_alike l i)) (terms-same i) (cells_same order i)

  -- what the rules of the join give is the same, the map too
  pub join_alike : (mode : ℕ) (addresses : List Address) → join_rules required mode ss addresses ≡ join_rules required mode ts addresses
  unfolding join_rules row_order map_of
  join_alike mode addresses =
      λ i.
      record {
        column = column_alike (cond (eqb mode 0) (stacked_alike 0 l i) addresses) i;
        map = maps_alike (ordinal_of (terms-same i)) (held_alike l) i;
      }
