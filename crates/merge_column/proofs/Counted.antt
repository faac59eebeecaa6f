-- An ordered join lists each alive row once, so its rows count as many values as the segments' alive rows do. Assumes nothing.
use Prim.Native.Nat.{ℕ, zero, suc, ◌+◌, ◌<◌, zero-le, suc-le-suc}
use native.Mathlib.Nat.{le_antisymm, zero-add, add-zero}
use native.Mathlib.Omega.{arith}
use mathlib.Core.Path.{◌≡◌, refl, sym, ap, ap₂, ◌∙◌, subst}
use mathlib.Core.List.{List, [], ◌∷◌, map, Memᴰ, map-append, map-map, map-id}
use mathlib.Core.Bool.{Bool, true, false, cond}
use lib.ListN.{length, get_or}
use lib.Dec.{T, eqb}
use borrow.Author.Tests.{lt-ltb, eqb-false}
use Rattle.definitions.specs.Lists.{sum, up_from, up_to, filter}
use Rattle.definitions.specs.Segment.{Segment, Address, address_from, address}
use Rattle.definitions.specs.Row.{bit_at, has_alive_set, is_alive, is_held, as_empty, effective}
use Rattle.definitions.specs.Join.{absent, rows_of, stacked_from}
use Rattle.definitions.specs.Answer.{is_alive_at, alive_addresses, lists_alive_rows}
use Rattle.definitions.proofs.Accept.{lists_ordered, mem_stacked}
use Rattle.definitions.proofs.TimeOrder.{alive_back, alive-at, alive_distinct}
use Rattle.segment.specs.Lent.{addresses_of}
use Rattle.stands.specs.Width.{id_part, ids_of}
use Rattle.stands.specs.Stack.{segment_widths, stacked_widths}
use Rattle.stands.specs.declared.Stand.{Stand}
use Rattle.stands.specs.Stand.{stand_of, stand_at}
use Rattle.stands.specs.Look.{alive_set_at, width_in, widths}
use Rattle.census.specs.Census.{alive_width, counted_in, counted_all}
use Rattle.census.specs.Table.{Table}
use Rattle.census.proofs.Rows.{count_of, count-nil, count-cons, count-is, counted-stacked}
use Rattle.merge_column.proofs.Index.{not_repeated}
use Rattle.lists.proofs.Distinct.{sum_distinct}
use Rattle.definitions.proofs.Lists.{mem-filter, filter_back}
use Rattle.lists.proofs.Sums.{sum-append}
use Rattle.definitions.proofs.Cell.{either, effective-rows}

-- ---- sums over lists

sum-filter : {A : Type 0} (f : A → ℕ) (p : A → Bool) (l : List A) → sum (map f (filter p l)) ≡ sum (map (λ a. cond (p a) (f a) 0) l)
sum-filter f p [] = refl
sum-filter f p (x ∷ xs) = go (p x) (sum-filter f p xs)
  where
    go : (b : Bool) → sum (map f (filter p xs)) ≡ sum (map (λ a. cond (p a) (f a) 0) xs) → sum (map f (cond b (x ∷ filter p xs) (filter p xs))) ≡ cond b (f x) 0 + sum (map (λ a. cond (p a) (f a) 0) xs)
    go true e = ap (λ (n : ℕ). f x + n) e
    go false e = e ∙ sym (zero-add (sum (map (λ a. cond (p a) (f a) 0) xs)))

sum_same : (u v : ℕ → ℕ) (s n : ℕ) → ((r : ℕ) → r < s + n → u r ≡ v r) → sum (map u (up_from s n)) ≡ sum (map v (up_from s n))
sum_same u v s zero h = refl
sum_same u v s (suc n) h = ap₂ (λ (a b : ℕ). a + b) (h s (omega arith)) (sum_same u v (suc s) n (λ r l. h r (omega arith)))

-- ---- the listed rows against the alive ones

module _ (ss : List Segment) (order : List Address) (o : T (lists_alive_rows ss order)) where
  listed-alive : (a : Address) → Memᴰ a order → Memᴰ a (alive_addresses ss)
  unfolding alive_addresses
  listed-alive a m =
      let t = (lists_ordered ss order o).alive a m in
      mem-filter (is_alive_at ss) {x = a} (stacked_from 0 ss) (alive-at ss a (record { segment = t.0; row = t.1; alive = t.2 }))
      (mem_stacked ss a.segment a.row t.0 t.1)

  alive-listed : (a : Address) → Memᴰ a (alive_addresses ss) → Memᴰ a order
  unfolding alive_addresses
  alive-listed a m =
      let v = alive_back ss a (filter_back (is_alive_at ss) (stacked_from 0 ss) m).1 in
      (lists_ordered ss order o).every a.segment a.row v.segment v.row v.alive

  listed-sum : (f : Address → ℕ) → sum (map f order) ≡ sum (map (λ a. cond (is_alive_at ss a) (f a) 0) (stacked_from 0 ss))
  unfolding alive_addresses
  listed-sum f =
      le_antisymm (sum_distinct f order (alive_addresses ss) (not_repeated ss order o) listed-alive) (sum_distinct f (alive_addresses ss) order (alive_distinct ss) alive-listed)
      ∙ sum-filter f (is_alive_at ss) (stacked_from 0 ss)

-- ---- segment by segment

module _ (h : Address → ℕ) (φ : ℕ → ℕ) (ids offsets words : List ℕ) where
  stack_sum : (n : ℕ) (rest : List Segment) (rs : List (List ℕ)) → length rs ≡ length rest
      → ((k : ℕ) → k < length rest → sum (map h (rows_of (n + k) (get_or rest k absent))) ≡ sum (map φ (counted_in (stand_at rs k) ids offsets words)))
      → sum (map h (stacked_from n rest)) ≡ sum (map φ (counted_all rs ids offsets words))
  unfolding counted_all
  stack_sum n [] [] a e = refl
  stack_sum n [] (r ∷ rs) a e = absurd (omega arith)
  stack_sum n (s ∷ rest) [] a e = absurd (omega arith)
  stack_sum n (s ∷ rest) (r ∷ rs) a e =
      ap sum (map-append h (rows_of n s) (stacked_from (suc n) rest)) ∙ sum-append (map h (rows_of n s)) (map h (stacked_from (suc n) rest))
      ∙ ap₂ (λ (x y : ℕ). x + y)
      (ap (λ (m : ℕ). sum (map h (rows_of m s))) (sym (add-zero n)) ∙ e 0 (suc-le-suc zero-le))
      (stack_sum (suc n) rest rs (omega arith)
      (λ k l. ap (λ (m : ℕ). sum (map h (rows_of m (get_or rest k absent)))) (let z : suc n + k ≡ n + suc k = omega arith in z) ∙ e (suc k) (suc-le-suc l)))
      ∙ sym (ap sum (map-append φ (counted_in (stand_of r) ids offsets words) (counted_all rs ids offsets words)) ∙ sum-append (map φ (counted_in (stand_of r) ids offsets words)) (map φ (counted_all rs ids offsets words)))

effective-flag : (s : Segment) → (effective s).flag ≡ s.flag
unfolding effective as_empty
effective-flag s = either (λ (t : Segment). t.flag ≡ s.flag) (is_held s) s (as_empty s) refl refl

effective-alive : (s : Segment) → (effective s).alive ≡ s.alive
unfolding effective as_empty
effective-alive s = either (λ (t : Segment). t.alive ≡ s.alive) (is_held s) s (as_empty s) refl refl

module _ {stands : List (List ℕ)} {ids offsets values lengths bytes words : List ℕ} {ss : List Segment} (t : Table stands ids offsets values lengths bytes words ss) where
  -- without an alive set every row counts
  pub all-counted : ((k : ℕ) → k < length ss → has_alive_set (get_or ss k absent) ≡ false) → stacked_widths stands ids offsets ≡ counted_all stands ids offsets words
  all-counted none =
      counted-stacked stands ids offsets words
      (λ k h q.
      let l : k < length ss = subst (λ (n : ℕ). k < n) t.size h in
      eqb-false (get_or ss k absent).flag 1 (none k l) (sym ((t.each k l).flag ∙ effective-flag (get_or ss k absent)) ∙ q))

  module _ (addresses : List (List ℕ)) (o : T (lists_alive_rows ss (addresses_of addresses))) where
    abbrev width : Address → ℕ
    width a = width_in (stand_at stands a.segment) ids offsets a.row

    widths_are : (l : List (List ℕ)) → widths stands ids offsets l ≡ map width (addresses_of l)
    unfolding widths
    widths_are [] = refl
    widths_are (a ∷ rest) = ap (λ (ws : List ℕ). width (address_from a) ∷ ws) (widths_are rest)

    module _ (φ : ℕ → ℕ) (z : φ 0 ≡ 0) where
      abbrev h : Address → ℕ
      h a = cond (is_alive_at ss a) (φ (width a)) 0

      one-segment : (k : ℕ) → k < length ss → sum (map h (rows_of k (get_or ss k absent))) ≡ sum (map φ (counted_in (stand_at stands k) ids offsets words))
      unfolding counted_in segment_widths is_alive_at is_alive alive_width
      one-segment k l = ap sum (map-map h (address k) (up_to (get_or ss k absent).rows)) ∙ go (has_alive_set (get_or ss k absent)) refl
        where
          p : Stand
          p = stand_at stands k

          rows : (stand_at stands k).rows ≡ (get_or ss k absent).rows
          rows = (t.each k l).rows ∙ effective-rows (get_or ss k absent)

          set : alive_set_at (stand_at stands k) words ≡ (get_or ss k absent).alive
          set = (t.each k l).alive_are ∙ effective-alive (get_or ss k absent)

          flag : eqb (stand_at stands k).flag 1 ≡ has_alive_set (get_or ss k absent)
          flag = ap (λ (n : ℕ). eqb n 1) ((t.each k l).flag ∙ effective-flag (get_or ss k absent))

          living : (r : ℕ) → r < 0 + (get_or ss k absent).rows → h (address k r) ≡ cond (is_alive (get_or ss k absent) r) (φ (width_in (stand_at stands k) ids offsets r)) 0
          living r m = rw (lt-ltb k (length ss) l, lt-ltb r (get_or ss k absent).rows (let n : r < (get_or ss k absent).rows = omega arith in n)) refl

          dead : (b : Bool) (w : ℕ) → cond b (φ w) 0 ≡ φ (cond b w 0)
          dead true w = refl
          dead false w = sym z

          go : (b : Bool) → has_alive_set (get_or ss k absent) ≡ b
              → sum (map (λ r. h (address k r)) (up_to (get_or ss k absent).rows))
              ≡ sum (map φ (cond (eqb (stand_at stands k).flag 1) (map (alive_width (stand_at stands k) ids offsets (alive_set_at (stand_at stands k) words)) (up_from 0 (stand_at stands k).rows)) (map (width_in (stand_at stands k) ids offsets) (up_to (stand_at stands k).rows))))
          go true e =
              sum_same (λ r. h (address k r)) (λ r. φ (cond (bit_at (get_or ss k absent).alive r) (width_in (stand_at stands k) ids offsets r) 0)) 0 (get_or ss k absent).rows
              (λ r m. living r m ∙ ap (λ (b : Bool). cond (cond b (bit_at (get_or ss k absent).alive r) true) (φ (width_in (stand_at stands k) ids offsets r)) 0) e ∙ dead (bit_at (get_or ss k absent).alive r) (width_in (stand_at stands k) ids offsets r))
              ∙ sym (ap sum (map-map φ (λ r. cond (bit_at (get_or ss k absent).alive r) (width_in (stand_at stands k) ids offsets r) 0) (up_from 0 (get_or ss k absent).rows)))
              ∙ sym (ap₂ (λ (ws : List ℕ) (n : ℕ). sum (map φ (map (λ r. cond (bit_at ws r) (width_in (stand_at stands k) ids offsets r) 0) (up_from 0 n)))) set rows)
              ∙ sym (ap (λ (b : Bool). sum (map φ (cond b (map (alive_width (stand_at stands k) ids offsets (alive_set_at (stand_at stands k) words)) (up_from 0 (stand_at stands k).rows)) (map (width_in (stand_at stands k) ids offsets) (up_to (stand_at stands k).rows))))) (flag ∙ e))
          go false e =
              sum_same (λ r. h (address k r)) (λ r. φ (width_in (stand_at stands k) ids offsets r)) 0 (get_or ss k absent).rows
              (λ r m. living r m ∙ ap (λ (b : Bool). cond (cond b (bit_at (get_or ss k absent).alive r) true) (φ (width_in (stand_at stands k) ids offsets r)) 0) e)
              ∙ sym (ap sum (map-map φ (width_in (stand_at stands k) ids offsets) (up_from 0 (get_or ss k absent).rows)))
              ∙ sym (ap (λ (n : ℕ). sum (map φ (map (width_in (stand_at stands k) ids offsets) (up_from 0 n)))) rows)
              ∙ sym (ap (λ (b : Bool). sum (map φ (cond b (map (alive_width (stand_at stands k) ids offsets (alive_set_at (stand_at stands k) words)) (up_from 0 (stand_at stands k).rows)) (map (width_in (stand_at stands k) ids offsets) (up_to (stand_at stands k).rows))))) (flag ∙ e))

      same : sum (map φ (widths stands ids offsets addresses)) ≡ sum (map φ (counted_all stands ids offsets words))
      same =
          ap (λ (ws : List ℕ). sum (map φ ws)) (widths_are addresses)
          ∙ ap sum (map-map φ width (addresses_of addresses))
          ∙ listed-sum ss (addresses_of addresses) o (λ a. φ (width a))
          ∙ stack_sum h φ ids offsets words 0 ss stands t.size (λ k l. ap (λ (m : ℕ). sum (map h (rows_of m (get_or ss k absent)))) (zero-add k) ∙ one-segment k l)

    -- as many values
    pub values_same : sum (widths stands ids offsets addresses) ≡ sum (counted_all stands ids offsets words)
    values_same = sym (ap sum (map-id (widths stands ids offsets addresses))) ∙ same (λ n. n) refl ∙ ap sum (map-id (counted_all stands ids offsets words))

    -- as many rows with a value
    pub listed_same : length (ids_of 0 (widths stands ids offsets addresses)) ≡ length (ids_of 0 (counted_all stands ids offsets words))
    listed_same =
        sym (count-is (widths stands ids offsets addresses)) ∙ ones (widths stands ids offsets addresses)
        ∙ same (λ w. length (id_part 0 w)) refl
        ∙ sym (ones (counted_all stands ids offsets words)) ∙ count-is (counted_all stands ids offsets words)
      where
        ones : (l : List ℕ) → count_of l ≡ sum (map (λ w. length (id_part 0 w)) l)
        ones [] = count-nil
        ones (x ∷ xs) = count-cons x xs ∙ ap (λ (n : ℕ). length (id_part 0 x) + n) (ones xs)
