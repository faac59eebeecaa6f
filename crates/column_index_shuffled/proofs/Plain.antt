-- Rows of one word each, copied as they stand, are the join's words. Assumes nothing.
use Prim.Native.Nat.{ℕ, suc, ◌+◌, ◌-◌, ◌*◌, ◌≤◌, ◌<◌, zero-le, suc-le-suc}
use native.Mathlib.Nat.{mul-one}
use native.Mathlib.Omega.{arith}
use mathlib.Core.Path.{◌≡◌, refl, sym, ap, ap₂, ◌∙◌}
use mathlib.Core.List.{List, [], ◌∷◌, ◌++◌}
use mathlib.Core.Bool.{Bool, true, false, not, ◌||◌}
use lib.Dec.{T, eqb, eqb→eq}
use lib.ListN.{length, get_or, take, drop, set, length-map}
use lib.Seq.{drop-cons}
use borrow.Author.Tests.{eqb-true, eqb-false}
use Rattle.definitions.specs.Types.{F64, has_terms}
use Rattle.definitions.proofs.Lists.{all_mem, mem_at, and4, get_or_in}
use Rattle.lists.proofs.Tests.{true-T}
use Rattle.stands.specs.declared.Stand.{Stand}
use Rattle.stands.specs.Stand.{run, stand_of}
use Rattle.stands.specs.Look.{addressed, row_of, start_in, end_in, cell_in, Inside}
use Rattle.stands.proofs.Cells.{cell_in_lem, cell-run}
use Rattle.column_index.specs.Lookup.{start_of, end_of}
use Rattle.runs.specs.Put.{put}
use Rattle.runs.proofs.Laws.{putting, putting-first, putting-all}
use Rattle.column_values_merge.specs.Word.{new_words, coerced_all}
use Rattle.column_values_merge.proofs.Laws.{coerced-other, coerced_double, words-coerced}
use Rattle.column_index_shuffled.specs.Order.{ordered_words, Ordered}
use Rattle.column_index_shuffled.specs.Plain.{is_plain, all_plain, place_of, plain_words, Placed}

-- ---- a row of such a column

record Plain (to : ℕ) (p : Stand) : Type 0 where
  kind : p.kind ≡ 1
  unit : p.unit ≡ 1
  stays : (table vs : List ℕ) → new_words to p table vs ≡ vs

plain-is : (to : ℕ) (p : Stand) → T (is_plain to p) → Plain to p
unfolding is_plain
plain-is to p h =
    let t = and4 (eqb p.kind 1) (eqb p.unit 1) (not (has_terms p.typ)) (not (eqb to F64) || eqb p.typ F64) h in
    record {
      kind = eqb→eq p.kind 1 t.0;
      unit = eqb→eq p.unit 1 t.1;
      stays = λ table vs. sym (words (eqb to F64) (eqb p.typ F64) refl refl t.3 vs ∙ words-coerced to p.typ p.map table vs (no_terms (has_terms p.typ) t.2));
    }
  where
    no_terms : (b : Bool) → T (not b) → b ≡ false
    no_terms true k = absurd k
    no_terms false k = refl

    words : (a b : Bool) → eqb to F64 ≡ a → eqb p.typ F64 ≡ b → T (not a || b) → (vs : List ℕ) → vs ≡ coerced_all p.typ to vs
    words true true e f k vs = coerced_double p.typ to vs (eqb-true to F64 e) (eqb-true p.typ F64 f)
    words true false e f k vs = absurd k
    words false b e f k vs = coerced-other p.typ to vs (eqb-false to F64 e)

module _ {to : ℕ} {p : Stand} {ids offsets values : List ℕ} {row : ℕ} (d : Plain to p) (i : Inside p ids offsets values row) where
  start_is : start_in p ids offsets row ≡ row
  unfolding start_in start_of
  start_is = rw d.kind

  end_is : end_in p ids offsets row ≡ suc row
  unfolding end_in end_of
  end_is = rw d.kind

  abbrev place : ℕ
  place = p.values.from + row

  word_in : place < length values
  word_in =
      let c = cell_in_lem p ids offsets values row i in
      let e : end_in p ids offsets row * p.unit ≡ suc row = ap₂ ◌*◌ end_is d.unit ∙ mul-one (suc row) in
      omega (arith, c, e, i.values-lie.rises, i.values-lie.ends)

  cell-is : cell_in p ids offsets values row ≡ get_or values place 0 ∷ []
  cell-is =
      sym (cell-run p ids offsets values row i)
      ∙ (λ j. run (p.values.from + (ap₂ ◌*◌ start_is d.unit ∙ mul-one row) j) (p.values.from + (ap₂ ◌*◌ end_is d.unit ∙ mul-one (suc row)) j) values)
      ∙ ap (λ (n : ℕ). take n (drop place values)) (let k : p.values.from + suc row - place ≡ 1 = omega arith in k)
      ∙ ap (take 1) (drop-cons values place 0 word_in)

  words_are : (table : List ℕ) → new_words to p table (cell_in p ids offsets values row) ≡ get_or values place 0 ∷ []
  words_are table = d.stays table (cell_in p ids offsets values row) ∙ cell-is

-- ---- all rows

plain-length : (stands : List (List ℕ)) (values : List ℕ) (addresses : List (List ℕ)) → length (plain_words stands values addresses) ≡ length addresses
unfolding plain_words
plain-length stands values addresses = length-map addresses (λ a. get_or values (place_of stands a) 0)

plain_at : (stands : List (List ℕ)) (values : List ℕ) (addresses : List (List ℕ)) (j : ℕ) → j < length addresses → get_or values (place_of stands (get_or addresses j [])) 0 ≡ get_or (plain_words stands values addresses) j 0
unfolding plain_words
plain_at stands values addresses j h = sym (get_or_in (λ a. get_or values (place_of stands a) 0) addresses j 0 [] h)

module _ {addresses stands : List (List ℕ)} {ids offsets values table : List ℕ} (l : Ordered addresses stands ids offsets values table) (to : ℕ) {b : Bool} (q : b ≡ all_plain to stands) (t : b ≡ true) where
  at : (k : ℕ) → k < length addresses → Plain to (addressed stands (get_or addresses k []))
  unfolding all_plain
  at k h =
      plain-is to (addressed stands (get_or addresses k []))
      (all_mem (λ r. is_plain to (stand_of r)) stands (true-T (all_plain to stands) (sym q ∙ t)) (mem_at stands (get_or (get_or addresses k []) 0 0) [] (l.each k h).0))

  pub placed : Placed addresses stands values
  placed = record { each = λ k h. ((l.each k h).0, word_in (at k h) (l.each k h).1) }

  words-from : (as' : List (List ℕ)) → ((k : ℕ) → k < length as' → Plain to (addressed stands (get_or as' k []))) → ((k : ℕ) → k < length as' → Inside (addressed stands (get_or as' k [])) ids offsets values (row_of (get_or as' k [])))
      → ordered_words to stands ids offsets values table as' ≡ plain_words stands values as'
  unfolding ordered_words plain_words
  words-from [] f g = refl
  words-from (a ∷ as') f g =
      ap₂ (λ (x y : List ℕ). x ++ y) (words_are (f 0 (suc-le-suc zero-le)) (g 0 (suc-le-suc zero-le)) table)
      (words-from as' (λ k h. f (suc k) (suc-le-suc h)) (λ k h. g (suc k) (suc-le-suc h)))

  pub words-plain : ordered_words to stands ids offsets values table addresses ≡ plain_words stands values addresses
  words-plain = words-from addresses at (λ k h. (l.each k h).1)

  pub plain-room : {n : ℕ} → length (ordered_words to stands ids offsets values table addresses) ≤ n → length addresses ≤ n
  plain-room h = omega (arith, h, ap (length {A = ℕ}) words-plain, plain-length stands values addresses)

  pub plain-left : (old : List ℕ) {out : List ℕ} → out ≡ put 0 (plain_words stands values addresses) old → out ≡ put 0 (ordered_words to stands ids offsets values table addresses) old
  plain-left old e = e ∙ ap (λ (ws : List ℕ). put 0 ws old) (sym words-plain)

-- ---- one row more

pub plain_more : (addresses stands : List (List ℕ)) (values : List ℕ) (j : ℕ) → j < length addresses → (p : Stand) → p ≡ addressed stands (get_or addresses j []) → (old out : List ℕ) → length addresses ≤ length old
    → out ≡ putting 0 (plain_words stands values addresses) old j → set out j (get_or values (p.values.from + row_of (get_or addresses j [])) 0) ≡ putting 0 (plain_words stands values addresses) old (j + 1)
plain_more addresses stands values j h p d old out room q =
    let n = plain-length stands values addresses in
    rw (q, d, plain_at stands values addresses j h) (putting-first (plain_words stands values addresses) old j 0 (omega (arith, n)) (omega (arith, n)))

pub plain-all : (stands : List (List ℕ)) (values : List ℕ) (addresses : List (List ℕ)) (old : List ℕ) {out : List ℕ} (j : ℕ) → j ≤ length addresses → length addresses ≤ j
    → out ≡ putting 0 (plain_words stands values addresses) old j → out ≡ put 0 (plain_words stands values addresses) old
plain-all stands values addresses old j h k q =
    q ∙ putting-all 0 (plain_words stands values addresses) old j (length addresses) (plain-length stands values addresses) h k
