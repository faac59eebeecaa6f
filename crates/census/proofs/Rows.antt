-- Lengths of the lists of row ids, and the census of a segment. Assumes nothing.
use Prim.Native.Nat.{ℕ, zero, suc, ◌+◌, ◌-◌, ◌*◌, ◌≤◌, ◌<◌, zero-le, suc-le-suc}
use native.Mathlib.Nat.{zero-add, le_refl, le_of_suc-le-suc}
use native.Mathlib.Numerals.{add-one}
use native.Mathlib.Omega.{arith}
use mathlib.Core.Path.{◌≡◌, refl, sym, ap, ap₂, ◌∙◌}
use mathlib.Core.List.{List, [], ◌∷◌, ◌++◌, map}
use mathlib.Core.Bool.{Bool, true, false, cond}
use mathlib.Core.Logic.{◌⊎◌, inl, inr}
use lib.ListN.{length, get_or}
use lib.Seq.{take_all}
use lib.Dec.{T, eqb, ltb, ltb→lt}
use lib.Arith.{lt_of_le-ne}
use borrow.Author.Tests.{eq-eqb, ne_eqb, eqb-true, eqb-false}
use Rattle.definitions.specs.Lists.{count, up_from, up_to, elem, all, ascending, ascending_from, sum}
use Rattle.definitions.specs.Row.{rank, bit_at}
use Rattle.definitions.proofs.Lists.{length-up_from}
use Rattle.definitions.proofs.Ranks.{asc_tail, asc-at, asc-sorted, elem-above, asc_step}
use Rattle.lists.specs.Sums.{sum_below}
use Rattle.lists.proofs.Sums.{sums_are, below_mono}
use Rattle.lists.proofs.Lists.{all-at}
use Rattle.lists.proofs.Numbers.{same?}
use Rattle.lists.proofs.Parts.{run_length}
use Rattle.runs.proofs.Laws.{shifted-length}
use Rattle.column_index.specs.Lookup.{rank_in, is_in, width_of, Ranked}
use Rattle.column_index.proofs.Laws.{three_le, rank_most, above-rank, listed-at}
use Rattle.column_index.proofs.Sound.{asc_fall, fall_last}
use Rattle.stands.specs.declared.Stand.{Stand}
use Rattle.stands.specs.Stand.{many, stand_of, stand_at}
use Rattle.stands.specs.Width.{id_part, ids_of}
use Rattle.stands.specs.Look.{ids_at, offsets_at, alive_set_at, start_in, end_in, width_in}
use Rattle.stands.specs.Stack.{segment_widths, stacked_widths, SoundAt}
use Rattle.stands.proofs.Stack.{width-empty, width-full, width-none, width-optional, width-multi}
use Rattle.stands.proofs.Bulk.{some, seg-ids-empty, seg-ids-full, seg-ids-listed, ids-length, seg-sum}
use Rattle.census.specs.declared.Census.{Census}
use Rattle.census.specs.Census.{census_of, alive_in, census_in, alive_census, listed_at, alive_width, alive_widths, counted_in, counted_all, id_width, listed_by, values_by, Offsets, Ids, Countable}

-- how many rows have a value; the first row's number makes no difference
unfoldable pub count_of : List ℕ → ℕ
count_of ws = length (ids_of 0 ws)

ids-count : (n m : ℕ) (ws : List ℕ) → length (ids_of n ws) ≡ length (ids_of m ws)
unfolding ids_of
ids-count n m [] = refl
ids-count n m (zero ∷ ws) = ids-count (suc n) (suc m) ws
ids-count n m (suc w ∷ ws) = ap suc (ids-count (suc n) (suc m) ws)

pub count-nil : count_of [] ≡ 0
unfolding count_of ids_of
count-nil = refl

pub count-cons : (w : ℕ) (ws : List ℕ) → count_of (w ∷ ws) ≡ length (id_part 0 w) + count_of ws
unfolding count_of ids_of
count-cons zero ws = ids-count 1 0 ws ∙ sym (zero-add (length (ids_of 0 ws)))
count-cons (suc w) ws = ap suc (ids-count 1 0 ws) ∙ (let k : suc (length (ids_of 0 ws)) ≡ 1 + length (ids_of 0 ws) = omega arith in k)

pub count-append : (a b : List ℕ) → count_of (a ++ b) ≡ count_of a + count_of b
count-append [] b = sym (ap (λ (n : ℕ). n + count_of b) count-nil ∙ zero-add (count_of b))
count-append (x ∷ a) b =
    let p = count-cons x (a ++ b) in
    let q = count-cons x a in
    let r = count-append a b in
    omega arith

-- never more than the sum
pub count-sum : (ws : List ℕ) → count_of ws ≤ sum ws
count-sum [] = let q = count-nil in omega arith
count-sum (zero ∷ ws) = let p = count-cons 0 ws in let r = count-sum ws in omega arith
count-sum (suc w ∷ ws) = let p = count-cons (suc w) ws in let r = count-sum ws in omega arith

pub count-is : (ws : List ℕ) → count_of ws ≡ length (ids_of 0 ws)
unfolding count_of
count-is ws = refl

-- ---- rows by their ids

above_other : (s i : ℕ) → s ≤ i → (i ≡ s → ⊥) → suc s ≤ i
above_other s i h d = lt_of_le-ne h (λ e. d (sym e))

not_listed : (s i : ℕ) (is : List ℕ) → T (ascending_from i is) → s < i → elem s (i ∷ is) ≡ false
not_listed s i is a h = rw (ne_eqb s i (λ e. omega arith)) (none (elem s is) refl)
  where
    none : (b : Bool) → elem s is ≡ b → b ≡ false
    none false q = refl
    none true q = absurd (let x = elem-above s i is a q in omega arith)

-- what is nothing for the rows that are no ids sums up over the ids
over-ids : (f : ℕ → ℕ) (s n : ℕ) (ids : List ℕ) → T (ascending ids) → ((k : ℕ) → k < length ids → s ≤ get_or ids k 0) → ((k : ℕ) → k < length ids → get_or ids k 0 < s + n)
    → ((r : ℕ) → s ≤ r → elem r ids ≡ false → f r ≡ 0) → sum (map f (up_from s n)) ≡ sum (map f ids)
over-ids f s zero [] a l u z = refl
over-ids f s zero (i ∷ is) a l u z = absurd (let p = l 0 (suc-le-suc zero-le) in let q = u 0 (suc-le-suc zero-le) in omega arith)
over-ids f s (suc n) [] a l u z = ap₂ (λ (x y : ℕ). x + y) (z s (le_refl s) refl) (over-ids f (suc s) n [] tt (λ k h. absurd (omega arith)) (λ k h. absurd (omega arith)) (λ r h e. z r (omega arith) e))
over-ids f s (suc n) (i ∷ is) a l u z =
    go
    (λ e. over-ids f (suc s) n is (asc_tail i is a) (λ k h. let x = asc-at i is k a h in omega arith) (λ k h. let x = u (suc k) (suc-le-suc h) in omega arith)
    (λ r h q. z r (omega arith) (rw (ne_eqb r i (λ x. omega arith)) q)))
    (λ d. over-ids f (suc s) n (i ∷ is) a (λ k h. from k h (above_other s i (l 0 (suc-le-suc zero-le)) d)) (λ k h. let x = u k h in omega arith) (λ r h q. z r (omega arith) q))
    (same? i s)
  where
    from : (k : ℕ) → k < length (i ∷ is) → suc s ≤ i → suc s ≤ get_or (i ∷ is) k 0
    from zero h x = x
    from (suc k) h x = let y = asc-at i is k a (le_of_suc-le-suc h) in omega arith

    go : (i ≡ s → sum (map f (up_from (suc s) n)) ≡ sum (map f is)) → ((i ≡ s → ⊥) → sum (map f (up_from (suc s) n)) ≡ f i + sum (map f is))
        → (i ≡ s) ⊎ (i ≡ s → ⊥) → f s + sum (map f (up_from (suc s) n)) ≡ f i + sum (map f is)
    go p q (inl e) = ap₂ (λ (x y : ℕ). x + y) (ap f (sym e)) (p e)
    go p q (inr d) =
        ap (λ (x : ℕ). x + sum (map f (up_from (suc s) n))) (z s (le_refl s) (not_listed s i is a (above_other s i (l 0 (suc-le-suc zero-le)) d)))
        ∙ zero-add (sum (map f (up_from (suc s) n))) ∙ q d

module _ {p : Stand} {ids offsets : List ℕ} (words : List ℕ) (sa : SoundAt p ids offsets) (rk : Ranked p.kind) where
  abbrev own : List ℕ
  own = ids_at p ids

  abbrev w : ℕ → ℕ
  w = alive_width p ids offsets words

  own-small : (k : ℕ) → k < length own → get_or own k 0 < 0 + p.rows
  own-small k h = let x = ltb→lt (get_or own k 0) p.rows (all-at (λ n. ltb n p.rows) own k 0 small h) in omega arith
    where
      small : T (all (λ n. ltb n p.rows) own)
      small = pick (same? p.kind 2)
        where
          pick : (p.kind ≡ 2) ⊎ (p.kind ≡ 2 → ⊥) → T (all (λ n. ltb n p.rows) own)
          pick (inl e) = (sa.sound.optional e).0
          pick (inr d) = (sa.sound.multi (three_le p.kind rk.0 rk.1 d)).0

  no_width : (r : ℕ) → elem r own ≡ false → w r ≡ 0
  unfolding alive_width width_in start_in end_in width_of
  no_width r e = ap (λ (x : ℕ). cond (bit_at words r) x 0) (width-none p.kind own (offsets_at p offsets) r rk.0 rk.1 e) ∙ none (bit_at words r)
    where
      none : (b : Bool) → ◌≡◌ {A = ℕ} (cond b 0 0) 0
      none true = refl
      none false = refl

  ids-sum : sum (map w own) ≡ sum (alive_widths p ids offsets words 0 p.rows)
  ids-sum = sym (over-ids w 0 p.rows own sa.sound.ascends (λ k h. zero-le) own-small (λ r h e. no_width r e))

  ones : (l : List ℕ) → count_of (map w l) ≡ sum (map (λ r. length (id_part 0 (w r))) l)
  ones [] = count-nil
  ones (x ∷ xs) = count-cons (w x) (map w xs) ∙ ap (λ (n : ℕ). length (id_part 0 (w x)) + n) (ones xs)

  ids-listed : count_of (map w own) ≡ count_of (alive_widths p ids offsets words 0 p.rows)
  ids-listed =
      ones own
      ∙ sym (over-ids (λ r. length (id_part 0 (w r))) 0 p.rows own sa.sound.ascends (λ k h. zero-le) own-small (λ r h e. ap (λ (n : ℕ). length (id_part 0 n)) (no_width r e)))
      ∙ sym (ones (up_from 0 p.rows))

  -- ---- the row of id k

  rank-at : (k : ℕ) → k < length own → rank (get_or own k 0) own ≡ k
  unfolding rank_in
  rank-at k h = go (same? (rank (get_or own k 0) own) k)
    where
      most : rank (get_or own k 0) own ≤ k
      most = rank_most (get_or own k 0) own sa.sound.ascends k (le_refl (get_or own k 0))

      go : (rank (get_or own k 0) own ≡ k) ⊎ (rank (get_or own k 0) own ≡ k → ⊥) → rank (get_or own k 0) own ≡ k
      go (inl e) = e
      go (inr d) =
          let l : rank (get_or own k 0) own < k = lt_of_le-ne most d in
          let a = above-rank (get_or own k 0) own sa.sound.ascends (rank (get_or own k 0) own) (le_refl (rank (get_or own k 0) own)) (omega arith) in
          let b = asc_step own (rank (get_or own k 0) own) sa.sound.ascends (omega arith) in
          let e = asc-sorted own sa.sound.ascends (suc (rank (get_or own k 0) own)) k l h in
          absurd (omega arith)

  elem_at : (k : ℕ) → k < length own → elem (get_or own k 0) own ≡ true
  unfolding is_in rank_in
  elem_at k h = sym (listed-at (get_or own k 0) own k sa.sound.ascends (sym (rank-at k h)) h) ∙ eq-eqb (get_or own k 0) (get_or own k 0) refl

  offs : List ℕ
  offs = offsets_at p offsets

  width-at : (k : ℕ) → k < length own → id_width p.kind offs k ≡ width_in p ids offsets (get_or own k 0)
  unfolding id_width width_in start_in end_in width_of offs
  width-at k h = go (eqb p.kind 2) refl
    where
      go : (b : Bool) → eqb p.kind 2 ≡ b → cond b 1 (get_or (offsets_at p offsets) (k + 1) 0 - get_or (offsets_at p offsets) k 0) ≡ width_of p.kind own (offsets_at p offsets) (get_or own k 0)
      go true e = sym (width-optional p.kind own (offsets_at p offsets) (get_or own k 0) (eqb-true p.kind 2 e) (elem_at k h))
      go false e =
          sym (width-multi p.kind own (offsets_at p offsets) (get_or own k 0) rk.0 rk.1 (eqb-false p.kind 2 e) (elem_at k h)
          ∙ ap (λ (n : ℕ). get_or (offsets_at p offsets) (suc n) 0 - get_or (offsets_at p offsets) n 0) (rank-at k h)
          ∙ ap (λ (n : ℕ). get_or (offsets_at p offsets) n 0 - get_or (offsets_at p offsets) k 0) (sym (add-one k)))

  value-at : (k : ℕ) → k < length own → values_by p.kind own (offsets_at p offsets) words k ≡ w (get_or own k 0)
  unfolding alive_width offs
  value-at k h = ap (λ (n : ℕ). cond (bit_at words (get_or own k 0)) n 0) (width-at k h)

  list_at : (k : ℕ) → k < length own → listed_by own words k ≡ length (id_part 0 (w (get_or own k 0)))
  unfolding alive_width width_in start_in end_in width_of
  list_at k h = go (bit_at words (get_or own k 0)) (width_in p ids offsets (get_or own k 0)) (some sa.sound rk.0 rk.1 (get_or own k 0) (elem_at k h))
    where
      go : (b : Bool) (n : ℕ) → 0 < n → ◌≡◌ {A = ℕ} (cond b 1 0) (length (id_part 0 (cond b n 0)))
      go true zero l = absurd (omega arith)
      go true (suc n) l = refl
      go false n l = refl

  pub ids-values : sum_below (values_by p.kind own (offsets_at p offsets) words) (length own) ≡ sum (alive_widths p ids offsets words 0 p.rows)
  ids-values =
      sums_are (values_by p.kind own (offsets_at p offsets) words) w own 0 value-at (length own) (le_refl (length own))
      ∙ ap (λ (l : List ℕ). sum (map w l)) (take_all (length own) own (le_refl (length own)))
      ∙ ids-sum

  pub ids-many : sum_below (listed_by own words) (length own) ≡ length (ids_of 0 (alive_widths p ids offsets words 0 p.rows))
  ids-many =
      sums_are (listed_by own words) (λ r. length (id_part 0 (w r))) own 0 list_at (length own) (le_refl (length own))
      ∙ ap (λ (l : List ℕ). sum (map (λ r. length (id_part 0 (w r))) l)) (take_all (length own) own (le_refl (length own)))
      ∙ sym (ones own)
      ∙ ids-listed
      ∙ count-is (alive_widths p ids offsets words 0 p.rows)

-- never more than all rows have
module _ (p : Stand) (ids offsets words : List ℕ) where
  alive-some : (r n : ℕ) → sum (alive_widths p ids offsets words r n) ≤ sum (map (width_in p ids offsets) (up_from r n))
  unfolding alive_width
  alive-some r zero = zero-le
  alive-some r (suc n) = let k = alive-some (suc r) n in let l = one (bit_at words r) (width_in p ids offsets r) in omega arith
    where
      one : (b : Bool) (m : ℕ) → cond b m 0 ≤ m
      one true m = le_refl m
      one false m = zero-le

  pub alive-le : sum (alive_widths p ids offsets words 0 p.rows) ≤ sum (segment_widths p ids offsets)
  unfolding segment_widths
  alive-le = alive-some 0 p.rows

-- no row of kind 0 has a value
module _ (p : Stand) (ids offsets words : List ℕ) (e : p.kind ≡ 0) where
  pub empty-sum : (s n : ℕ) → 0 ≡ sum (alive_widths p ids offsets words s n)
  unfolding alive_width width_in start_in end_in width_of
  empty-sum s zero = refl
  empty-sum s (suc n) =
      let z = width-empty p.kind (ids_at p ids) (offsets_at p offsets) s e in
      empty-sum (suc s) n ∙ sym (zero-add (sum (alive_widths p ids offsets words (suc s) n))) ∙ ap (λ (w : ℕ). w + sum (alive_widths p ids offsets words (suc s) n)) (sym (ap (λ (w : ℕ). cond (bit_at words s) w 0) z ∙ none (bit_at words s)))
    where
      none : (b : Bool) → ◌≡◌ {A = ℕ} (cond b 0 0) 0
      none true = refl
      none false = refl

  pub empty-count : (n : ℕ) → 0 ≡ length (ids_of 0 (alive_widths p ids offsets words 0 n))
  empty-count n =
      let x = count-sum (alive_widths p ids offsets words 0 n) in
      let y = empty-sum 0 n in
      let z = count-is (alive_widths p ids offsets words 0 n) in
      omega arith

-- every row of kind 1 has one value
module _ (p : Stand) (ids offsets words : List ℕ) (e : p.kind ≡ 1) where
  one_wide : (r : ℕ) → alive_width p ids offsets words r ≡ cond (bit_at words r) 1 0
  unfolding alive_width width_in start_in end_in width_of
  one_wide r = ap (λ (w : ℕ). cond (bit_at words r) w 0) (width-full p.kind (ids_at p ids) (offsets_at p offsets) r e)

  pub full-sum : (s n : ℕ) → count (bit_at words) (up_from s n) ≡ sum (alive_widths p ids offsets words s n)
  full-sum s zero = refl
  full-sum s (suc n) = go (bit_at words s) (full-sum (suc s) n) ∙ ap (λ (w : ℕ). w + sum (alive_widths p ids offsets words (suc s) n)) (sym (one_wide s))
    where
      go : (b : Bool) → count (bit_at words) (up_from (suc s) n) ≡ sum (alive_widths p ids offsets words (suc s) n)
          → cond b (suc (count (bit_at words) (up_from (suc s) n))) (count (bit_at words) (up_from (suc s) n)) ≡ cond b 1 0 + sum (alive_widths p ids offsets words (suc s) n)
      go true h = omega arith
      go false h = omega arith

  full-counted : (s n : ℕ) → count (bit_at words) (up_from s n) ≡ count_of (alive_widths p ids offsets words s n)
  full-counted s zero = sym count-nil
  full-counted s (suc n) =
      go (bit_at words s) (full-counted (suc s) n) ∙ ap (λ (w : ℕ). length (id_part 0 w) + count_of (alive_widths p ids offsets words (suc s) n)) (sym (one_wide s))
      ∙ sym (count-cons (alive_width p ids offsets words s) (alive_widths p ids offsets words (suc s) n))
    where
      go : (b : Bool) → count (bit_at words) (up_from (suc s) n) ≡ count_of (alive_widths p ids offsets words (suc s) n)
          → cond b (suc (count (bit_at words) (up_from (suc s) n))) (count (bit_at words) (up_from (suc s) n)) ≡ length (id_part 0 (cond b 1 0)) + count_of (alive_widths p ids offsets words (suc s) n)
      go true h = omega arith
      go false h = omega arith

  pub full-count : (n : ℕ) → count (bit_at words) (up_from 0 n) ≡ length (ids_of 0 (alive_widths p ids offsets words 0 n))
  full-count n = full-counted 0 n ∙ count-is (alive_widths p ids offsets words 0 n)

-- ---- segments

pub listed-is : {p : Stand} {ids offsets : List ℕ} → SoundAt p ids offsets → listed_at p ≡ length (ids_of 0 (segment_widths p ids offsets))
unfolding listed_at
listed-is {p} {ids} {offsets} sa = go (eqb p.kind 0) refl (eqb p.kind 1) refl (eqb p.kind 2)
  where
    n : ℕ
    n = many p.ids

    listed : (p.kind ≡ 0 → ⊥) → (p.kind ≡ 1 → ⊥) → n ≡ length (ids_of 0 (segment_widths p ids offsets))
    listed a b = sym (ap length (seg-ids-listed sa a b 0) ∙ shifted-length 0 (ids_at p ids) ∙ ids-length sa)

    go : (a : Bool) → eqb p.kind 0 ≡ a → (b : Bool) → eqb p.kind 1 ≡ b → (c : Bool)
        → cond a 0 (cond b p.rows (cond c n n)) ≡ length (ids_of 0 (segment_widths p ids offsets))
    go true x b y c = sym (ap length (seg-ids-empty sa (eqb-true p.kind 0 x) 0))
    go false x true y c = sym (ap length (seg-ids-full sa (eqb-true p.kind 1 y) 0) ∙ length-up_from 0 p.rows)
    go false x false y true = listed (eqb-false p.kind 0 x) (eqb-false p.kind 1 y)
    go false x false y false = listed (eqb-false p.kind 0 x) (eqb-false p.kind 1 y)

module _ (p : Stand) (ids offsets words : List ℕ) where
  pub counted-whole : (p.flag ≡ 1 → ⊥) → segment_widths p ids offsets ≡ counted_in p ids offsets words
  unfolding counted_in
  counted-whole n = rw (ne_eqb p.flag 1 n)

-- without an alive set every row counts
pub counted-stacked : (stands : List (List ℕ)) (ids offsets words : List ℕ) → ((k : ℕ) → k < length stands → (stand_at stands k).flag ≡ 1 → ⊥) → stacked_widths stands ids offsets ≡ counted_all stands ids offsets words
unfolding stacked_widths counted_all
counted-stacked [] ids offsets words n = refl
counted-stacked (r ∷ rs) ids offsets words n =
    ap₂ (λ (x y : List ℕ). x ++ y) (counted-whole (stand_of r) ids offsets words (n 0 (omega arith))) (counted-stacked rs ids offsets words (λ k h. n (suc k) (omega arith)))

-- ---- a turn of the count by ids

pub sum_fits : (f : ℕ → ℕ) (k m n x : ℕ) → k < m → n ≡ sum_below f k → x ≡ f k → n + x ≤ sum_below f m
sum_fits f k m n x h e q = let a = below_mono f (suc k) m h in omega arith

-- ascending numbers are at least their places
asc-long : (os : List ℕ) (j : ℕ) → T (ascending os) → j < length os → j ≤ get_or os j 0
asc-long os zero h l = zero-le
asc-long os (suc j) h l = let a = asc-long os j h (omega arith) in let b = asc_step os j h l in omega arith

-- ---- the census by kind

module _ {p : Stand} {ids offsets words : List ℕ} (k : Countable p ids offsets words) (set : p.flag ≡ 1) where
  words_long : length (alive_set_at p words) ≡ many p.alive
  words_long = run_length p.alive.from p.alive.to words k.alive-lie.ends

  rows-there : p.rows ≤ 64 * length (alive_set_at p words)
  rows-there = omega (arith, words_long, k.enough set)

  module _ (rk : Ranked p.kind) where
    pub ids-ready : Ids p.kind (ids_at p ids) (offsets_at p offsets) (alive_set_at p words)
    ids-ready =
        record {
          below = λ j h. let a = own-small (alive_set_at p words) k.sound rk j h in omega (arith, rows-there);
          several = λ n j h. pair n j h;
          small = let a = ids-values (alive_set_at p words) k.sound rk in let b = alive-le p ids offsets (alive_set_at p words) in let d = seg-sum k.sound in let e = k.few in omega arith;
          few = few-ids;
        }
      where
        pair : (p.kind ≡ 2 → ⊥) → (j : ℕ) → j < length (ids_at p ids) → Offsets (offsets_at p offsets) j
        pair n j h =
            let t = k.sound.sound.multi (three_le p.kind rk.0 rk.1 n) in
            let l : suc j < length (offsets_at p offsets) = omega (arith, t.1) in
            let a = asc_step (offsets_at p offsets) j t.4 l in
            let e = ap (λ (m : ℕ). get_or (offsets_at p offsets) m 0) (add-one j) in
            record { there = omega arith; rise = omega arith }

        few-ids : length (ids_at p ids) ≤ 4294967296
        few-ids = pick (same? p.kind 2)
          where
            pick : (p.kind ≡ 2) ⊎ (p.kind ≡ 2 → ⊥) → length (ids_at p ids) ≤ 4294967296
            pick (inl e) = let t = k.sound.sound.optional e in omega (arith, t.1, k.few)
            pick (inr d) =
                let t = k.sound.sound.multi (three_le p.kind rk.0 rk.1 d) in
                let a = asc-long (offsets_at p offsets) (length (ids_at p ids)) t.4 (omega (arith, t.1)) in
                let b = fall_last (offsets_at p offsets) (length (ids_at p ids)) (asc_fall (offsets_at p offsets) t.4) (omega (arith, t.1)) in
                omega (arith, t.3, k.few)

module _ (p : Stand) (ids offsets words : List ℕ) where
  pub census_alive : {c : Census} → p.flag ≡ 1 → c ≡ alive_census p ids offsets words → c ≡ census_in p ids offsets words
  unfolding census_in alive_in counted_in
  census_alive e f = f ∙ ap (λ (b : Bool). census_of (cond b (count (bit_at (alive_set_at p words)) (up_to p.rows)) p.rows) (cond b (alive_widths p ids offsets (alive_set_at p words) 0 p.rows) (segment_widths p ids offsets))) (sym (eq-eqb p.flag 1 e))

  pub census_whole : {n m : ℕ} → (p.flag ≡ 1 → ⊥) → n ≡ length (ids_of 0 (segment_widths p ids offsets)) → m ≡ sum (segment_widths p ids offsets) → record { alive = p.rows; listed = n; values = m } ≡ census_in p ids offsets words
  unfolding census_in alive_in counted_in
  census_whole e f g =
      (λ i. record { alive = p.rows; listed = f i; values = g i })
      ∙ ap (λ (b : Bool). census_of (cond b (count (bit_at (alive_set_at p words)) (up_to p.rows)) p.rows) (cond b (alive_widths p ids offsets (alive_set_at p words) 0 p.rows) (segment_widths p ids offsets))) (sym (ne_eqb p.flag 1 e))
