-- The table of rows: how many it takes, and what stands in it. Assumes nothing.
use mathlib.Core.Path.{◌≡◌, refl, sym, ◌∙◌, ap}
use mathlib.Core.Bool.{Bool, true, false, cond}
use mathlib.Core.List.{List, [], ◌∷◌, ◌++◌}
use Prim.Native.Nat.{ℕ, zero, suc, ◌+◌, ◌≤◌, ◌<◌}
use native.Mathlib.Nat.{le_refl}
use native.Mathlib.Omega.{arith}
use lib.Dec.{ltb}
use lib.ListN.{length, take, get_or, set, replicate, length-set, length-replicate, length-map}
use lib.Seq.{take-suc, take-suc-set, take-length, length-take-le}
use borrow.Author.Tests.{ltb-true, ltb-false}
use Rattle.segment.specs.declared.Record.{Record}
use Rattle.segment.specs.Records.{row_width, struct_in, struct_of, record_in}
use Rattle.segment.proofs.Rows as Rows
use Rattle.records.specs.Rows.{none, numbers_of, rows_of, count_of, blank, laid_to}
use Rattle.definitions.proofs.Lists.{get_or_in}

-- the row of a record stands for it
pub row_back : (r : Record) → struct_of (numbers_of r) ≡ r
row_back r = ap struct_in (Rows.row_back (record_in r))

pub count-is : (n : ℕ) (P : ℕ → Type 0) → (n < 257 → P n) → (257 ≤ n → P 257) → P (count_of n)
unfolding count_of
count-is n P few many = go (ltb n 257) refl
  where
    go : (b : Bool) → ltb n 257 ≡ b → P (cond b n 257)
    go true e = few (ltb-true n 257 e)
    go false e = many (ltb-false n 257 e)

-- no more than there are, and no more than the table has
pub count-within : (n : ℕ) → count_of n ≤ n
count-within n = count-is n (λ k. k ≤ n) (λ _. le_refl n) (λ h. h)

pub count-few : (n : ℕ) → count_of n ≤ 257
count-few n = count-is n (λ k. k ≤ 257) (λ h. omega arith) (λ _. omega arith)

-- one row more
pub laid_none : (rs : List Record) → blank ≡ laid_to rs 0
unfolding laid_to
laid_none rs = refl

pub laid_more : (rs : List Record) (i : ℕ) → set (laid_to rs i) i (numbers_of (get_or rs i none)) ≡ laid_to rs (i + 1)
unfolding laid_to
laid_more rs i = let e : i + 1 ≡ suc i = omega arith in ap (laid_to rs) (sym e)

pub laid-size : (rs : List Record) (i : ℕ) → length (laid_to rs i) ≡ 257
unfolding laid_to
laid-size rs zero = length-replicate 257 (replicate {A = ℕ} row_width 0)
laid-size rs (suc i) = length-set (laid_to rs i) i (numbers_of (get_or rs i none)) ∙ laid-size rs i

pub rows-size : (rs : List Record) → length (rows_of rs) ≡ length rs
rows-size rs = length-map rs numbers_of

-- what is laid out is the records' rows
pub laid-take : (rs : List Record) (i : ℕ) → i ≤ length rs → i ≤ 257 → take i (laid_to rs i) ≡ take i (rows_of rs)
unfolding laid_to
laid-take rs zero h k = refl
laid-take rs (suc i) h k =
    let l : i < length (laid_to rs i) = omega (arith, laid-size rs i, k) in
    let m : i < length (rows_of rs) = omega (arith, rows-size rs, h) in
    let n : i < length rs = omega (arith, h) in
    take-suc-set (laid_to rs i) i (numbers_of (get_or rs i none)) l
    ∙ ap (λ (x : List (List ℕ)). x ++ (numbers_of (get_or rs i none) ∷ [])) (laid-take rs i (omega (arith, h)) (omega (arith, k)))
    ∙ ap (λ (x : List ℕ). take i (rows_of rs) ++ (x ∷ [])) (sym (get_or_in numbers_of rs i [] none n))
    ∙ sym (take-suc (rows_of rs) i [] m)

-- the table's rows: all of them where they are at most 256, and else 257
pub laid-all : (rs : List Record) → length rs < 257 → take (count_of (length rs)) (laid_to rs (count_of (length rs))) ≡ rows_of rs
laid-all rs h =
    let e : count_of (length rs) ≡ length rs = count-is (length rs) (λ k. k ≡ length rs) (λ _. refl) (λ k. absurd (omega (arith, h, k))) in
    laid-take rs (count_of (length rs)) (count-within (length rs)) (count-few (length rs)) ∙ ap (λ (k : ℕ). take k (rows_of rs)) (e ∙ sym (rows-size rs)) ∙ take-length (rows_of rs)

pub laid-many : (rs : List Record) → 257 ≤ length rs → length (take (count_of (length rs)) (laid_to rs (count_of (length rs)))) ≡ 257
laid-many rs h =
    let e : count_of (length rs) ≡ 257 = count-is (length rs) (λ k. k ≡ 257) (λ k. absurd (omega (arith, h, k))) (λ _. refl) in
    let l : count_of (length rs) ≤ length (laid_to rs (count_of (length rs))) = omega (arith, e, laid-size rs (count_of (length rs))) in
    length-take-le (count_of (length rs)) (laid_to rs (count_of (length rs))) l ∙ e
