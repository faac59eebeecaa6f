-- What becomes of a run of words, and a turn of the loop over segments. Assumes nothing.
use Prim.Native.Nat.{ℕ, ◌+◌, ◌-◌, ◌≤◌, ◌<◌, zero-le, suc-le-suc}
use native.Mathlib.Numerals.{add-one}
use native.Mathlib.Omega.{arith}
use mathlib.Core.Path.{◌≡◌, refl, sym, ap, ap₂, ◌∙◌}
use mathlib.Core.List.{List, [], ◌∷◌, ◌++◌, map, map-id, map-append}
use mathlib.Core.Bool.{Bool, true, false, cond}
use lib.ListN.{length, get_or, set, drop, length-map, length-set, drop_of_length-le}
use lib.Seq.{drop-cons}
use Rattle.definitions.specs.Types.{has_terms, integer_of, double_of, coerced}
use Rattle.lists.proofs.Parts.{run_length, part_at}
use Rattle.numerical.proofs.Laws as one
use Rattle.runs.specs.Put.{put, looked}
use Rattle.runs.proofs.Laws.{Filling, fill_room, fill_more, looked-length, put_nil, put_one, put-put}
use Rattle.stands.specs.declared.Span.{Span}
use Rattle.stands.specs.declared.Stand.{Stand}
use Rattle.stands.specs.Stand.{part, stand_at}
use Rattle.stands.specs.Look.{values_at}
use Rattle.column_values_merge.specs.Word.{doubles, coerced_all, words_by, Words, new_words}
use Rattle.column_values_merge.specs.Stack.{stacked_words}
use Rattle.definitions.proofs.Lists.{get_or_in, map_mem}

pub doubles-length : (t : ℕ) (vs : List ℕ) → length (doubles t vs) ≡ length vs
unfolding doubles
doubles-length t vs = length-map vs (λ w. double_of (integer_of t w))

pub doubles-at : (t : ℕ) (vs : List ℕ) (j : ℕ) → j < length vs → double_of (integer_of t (get_or vs j 0)) ≡ get_or (doubles t vs) j 0
unfolding doubles
doubles-at t vs j h = sym (get_or_in (λ w. double_of (integer_of t w)) vs j 0 0 h)

-- ---- coercion

module _ (t u : ℕ) (vs : List ℕ) where
  pub coerced-other : (u ≡ 2 → ⊥) → vs ≡ coerced_all t u vs
  unfolding coerced_all
  coerced-other h = sym (map-id vs) ∙ map_mem (λ w. w) (coerced t u) vs (λ w _. one.coerced-other t u w h)

  pub coerced_double : u ≡ 2 → t ≡ 2 → vs ≡ coerced_all t u vs
  unfolding coerced_all
  coerced_double h k = sym (map-id vs) ∙ map_mem (λ w. w) (coerced t u) vs (λ w _. one.coerced_double t u w h k)

  pub coerced_integer : u ≡ 2 → (t ≡ 2 → ⊥) → doubles t vs ≡ coerced_all t u vs
  unfolding doubles coerced_all
  coerced_integer h k = map_mem (λ w. double_of (integer_of t w)) (coerced t u) vs (λ w _. one.coerced_integer t u w h k)

pub coerced-one : (t u w : ℕ) {x : ℕ} → x ≡ coerced t u w → x ∷ [] ≡ coerced_all t u (w ∷ [])
unfolding coerced_all
coerced-one t u w e = ap (λ (n : ℕ). n ∷ []) e

coerced-length : (t u : ℕ) (vs : List ℕ) → length (coerced_all t u vs) ≡ length vs
unfolding coerced_all
coerced-length t u vs = length-map vs (coerced t u)

-- ---- terms

pub looked-one : (to type : ℕ) (u : Span) (table : List ℕ) (w x : ℕ) → has_terms type ≡ true → u.from + w < u.to → x ≡ get_or table (u.from + w) 0 → x ∷ [] ≡ words_by to type u table (w ∷ [])
unfolding words_by looked
looked-one to type u table w x e h q =
    ap (λ (n : ℕ). n ∷ []) (q ∙ sym (part_at (u.to - u.from) u.from table w (omega arith))) ∙ ap (λ (b : Bool). cond b (looked (part u table) (w ∷ [])) (coerced_all type to (w ∷ []))) (sym e)

pub ordinal_in : (type : ℕ) (u : Span) (table : List ℕ) (w : ℕ) → Words type u table (w ∷ []) → has_terms type ≡ true → u.from + w < u.to
ordinal_in type u table w g e =
    let k : w < length (part u table) = g.ordinals e 0 (suc-le-suc zero-le) in
    omega (arith, g.map_lies.rises, run_length u.from u.to table g.map_lies.ends)

-- no words
pub words-none : (to type : ℕ) (u : Span) (table : List ℕ) → words_by to type u table [] ≡ []
unfolding words_by looked coerced_all
words-none to type u table = go (has_terms type)
  where
    go : (b : Bool) → ◌≡◌ {A = List ℕ} (cond b [] []) []
    go true = refl
    go false = refl

module _ (to type : ℕ) (u : Span) (table vs : List ℕ) where
  pub words-looked : has_terms type ≡ true → looked (part u table) vs ≡ words_by to type u table vs
  unfolding words_by
  words-looked e = rw e

  pub words-coerced : has_terms type ≡ false → coerced_all type to vs ≡ words_by to type u table vs
  unfolding words_by
  words-coerced e = rw e

  pub words-length : length (words_by to type u table vs) ≡ length vs
  unfolding words_by
  words-length = go (has_terms type)
    where
      go : (b : Bool) → length (cond b (looked (part u table) vs) (coerced_all type to vs)) ≡ length vs
      go true = looked-length (part u table) vs
      go false = coerced-length type to vs

words_append : (to type : ℕ) (u : Span) (table vs ws : List ℕ) → words_by to type u table (vs ++ ws) ≡ words_by to type u table vs ++ words_by to type u table ws
unfolding words_by looked coerced_all
words_append to type u table vs ws = go (has_terms type)
  where
    go : (b : Bool) → cond b (map (λ x. get_or (part u table) x 0) (vs ++ ws)) (map (coerced type to) (vs ++ ws))
        ≡ cond b (map (λ x. get_or (part u table) x 0) vs) (map (coerced type to) vs) ++ cond b (map (λ x. get_or (part u table) x 0) ws) (map (coerced type to) ws)
    go true = map-append (λ x. get_or (part u table) x 0) vs ws
    go false = map-append (coerced type to) vs ws

-- a row, by how many words it has
module _ (to type : ℕ) (u : Span) (table : List ℕ) where
  pub none-put : (vs out : List ℕ) (at : ℕ) → length vs ≡ 0 → out ≡ put at (words_by to type u table vs) out
  none-put [] out at h = rw words-none (sym (put_nil at out))
  none-put (x ∷ vs) out at h = absurd (omega arith)

  pub one-put : (vs out : List ℕ) (at w : ℕ) → length vs ≡ 1 → at + length vs ≤ length out → w ∷ [] ≡ words_by to type u table (get_or vs 0 0 ∷ []) → set out at w ≡ put at (words_by to type u table vs) out
  one-put [] out at w h r e = absurd (omega arith)
  one-put (x ∷ []) out at w h r e = rw (← e) (put_one at w out (omega arith))
  one-put (x ∷ y ∷ vs) out at w h r e = absurd (omega arith)

  -- one word after the other
  pub two-put : (vs out : List ℕ) (at v w : ℕ) → length vs ≡ 2 → at + length vs ≤ length out → v ∷ [] ≡ words_by to type u table (get_or vs 0 0 ∷ []) → w ∷ [] ≡ words_by to type u table (get_or vs 1 0 ∷ [])
      → set (set out at v) (at + 1) w ≡ put at (words_by to type u table vs) out
  two-put [] out at v w h r e f = absurd (omega arith)
  two-put (x ∷ []) out at v w h r e f = absurd (omega arith)
  two-put (x ∷ y ∷ []) out at v w h r e f =
      put_one (at + 1) w (set out at v) (simp length-set (omega arith))
      ∙ ap (put (at + 1) (w ∷ [])) (put_one at v out (omega arith))
      ∙ put-put at (v ∷ []) out (omega arith) (w ∷ [])
      ∙ ap (λ (ws : List ℕ). put at ws out) (ap₂ ◌++◌ e f ∙ sym (words_append to type u table (x ∷ []) (y ∷ [])))
  two-put (x ∷ y ∷ z ∷ vs) out at v w h r e f = absurd (omega arith)

-- ---- a turn at the segment s

words_step : (to : ℕ) (stands : List (List ℕ)) (values table : List ℕ) (s : ℕ) → s < length stands
    → stacked_words to (drop s stands) values table ≡ new_words to (stand_at stands s) table (values_at (stand_at stands s) values) ++ stacked_words to (drop (s + 1) stands) values table
unfolding stacked_words
words_step to stands values table s h = rw (add-one s, drop-cons stands s [] h)

pub words_done : (to : ℕ) (stands : List (List ℕ)) (values table : List ℕ) (s : ℕ) → length stands ≤ s → stacked_words to (drop s stands) values table ≡ []
unfolding stacked_words
words_done to stands values table s h = rw (drop_of_length-le stands h)

module _ (to : ℕ) (stands : List (List ℕ)) (values table : List ℕ) {s : ℕ} (h : s < length stands) {p : Stand} (e : p ≡ stand_at stands s)
    {start : ℕ} {whole old out : List ℕ} {at : ℕ} (g : Filling start whole old (stacked_words to (drop s stands) values table) out at) where
  left : stacked_words to (drop s stands) values table ≡ new_words to p table (values_at p values) ++ stacked_words to (drop (s + 1) stands) values table
  left = words_step to stands values table s h ∙ ap (λ (q : Stand). new_words to q table (values_at q values) ++ stacked_words to (drop (s + 1) stands) values table) (sym e)

  pub words-room : at + length (values_at p values) ≤ length out
  words-room = rw (← words-length to p.typ p.map table (values_at p values)) (fill_room g (new_words to p table (values_at p values)) (stacked_words to (drop (s + 1) stands) values table) left)

  pub words_more : {out' : List ℕ} → out' ≡ put at (new_words to p table (values_at p values)) out
      → Filling start whole old (stacked_words to (drop (s + 1) stands) values table) out' (at + length (values_at p values))
  words_more {out'} o =
      fill_more g (new_words to p table (values_at p values)) (stacked_words to (drop (s + 1) stands) values table) left out' (at + length (values_at p values))
      (ap (λ (n : ℕ). at + n) (sym (words-length to p.typ p.map table (values_at p values)))) o
