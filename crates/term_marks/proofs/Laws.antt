-- The laws of marks: places set one after another, a segment's marks, and a turn of the loop over the segments. Assumes nothing.
use mathlib.Core.Path.{◌≡◌, refl, sym, ap, ap₂, ◌∙◌, subst}
use mathlib.Core.Bool.{Bool, true, false, cond, ◌||◌}
use mathlib.Core.List.{List, [], ◌∷◌, ◌++◌}
use Prim.Native.Nat.{ℕ, zero, suc, ◌+◌, ◌-◌, ◌≤◌, ◌<◌}
use native.Mathlib.Numerals.{add-one}
use native.Mathlib.Omega.{arith}
use lib.Dec.{eqb}
use lib.ListN.{length, get_or, set, take, drop, replicate, length-set, length-replicate, get_or-replicate, drop_of_length-le, get_or-append}
use lib.Seq.{slice, drop-cons, drop-drop, length-take-le, get_or-set_same, get_or-set_other, get_or-take, get_or-drop, get_or-append-add}
use borrow.Author.Tests.{eqb-true, eqb-false, eq-eqb, ne_eqb}
use Rattle.definitions.specs.Lists.{up_from, any, elem, filter}
use Rattle.definitions.specs.Segment.{Segment}
use Rattle.definitions.specs.Row.{row_values, bit_at, has_alive_set, is_alive, alive_rows}
use Rattle.definitions.specs.Join.{is_used}
use Rattle.definitions.proofs.Lists.{any_append}
use Rattle.runs.specs.Put.{put, Below}
use Rattle.runs.proofs.Laws.{length-put, below-part}
use Rattle.column_index.specs.Lookup.{start_of, end_of}
use Rattle.column_index.proofs.Laws.{row-slice}
use Rattle.column_index.proofs.Walk.{sound-rises, sound-inside}
use Rattle.stands.specs.declared.Span.{Span}
use Rattle.stands.specs.declared.Stand.{Stand}
use Rattle.stands.specs.Stand.{run, part, many, Lies, stand_at}
use Rattle.term_marks.specs.Marks.{column_at, is_kept, bit, set_all, used_by, used_from, used_in, marks_over, marked_in, marked_all, Marking, Columns}
use Rattle.lists.proofs.Parts.{run_length, part_at, drop-take}

-- ---- the places of a list

pub set_step : (vs m : List ℕ) (j : ℕ) → j < length vs → set_all (drop (j + 1) vs) (set m (get_or vs j 0) 1) ≡ set_all (drop j vs) m
unfolding set_all
set_step vs m j h = rw (add-one j, drop-cons vs j 0 h)

pub set-end : (vs m : List ℕ) (j : ℕ) → length vs ≤ j → set_all (drop j vs) m ≡ m
unfolding set_all
set-end vs m j h = rw (drop_of_length-le vs h)

set-length : (vs m : List ℕ) → length (set_all vs m) ≡ length m
unfolding set_all
set-length [] m = refl
set-length (v ∷ vs) m = set-length vs (set m v 1) ∙ length-set m v 1

set-none : (vs m : List ℕ) → length m ≡ 0 → set_all vs m ≡ m
unfolding set_all
set-none [] m e = refl
set-none (v ∷ vs) [] e = set-none vs [] refl
set-none (v ∷ vs) (x ∷ m) e = absurd (omega arith)

set-append : (xs ys m : List ℕ) → set_all (xs ++ ys) m ≡ set_all ys (set_all xs m)
unfolding set_all
set-append [] ys m = refl
set-append (x ∷ xs) ys m = set-append xs ys (set m x 1)

set_at : (vs m : List ℕ) (k : ℕ) → k < length m → get_or (set_all vs m) k 0 ≡ cond (elem k vs) 1 (get_or m k 0)
unfolding set_all
set_at [] m k h = refl
set_at (v ∷ vs) m k h = set_at vs (set m v 1) k (rw (length-set m v 1) h) ∙ go (eqb k v) refl
  where
    both : (b : Bool) → ◌≡◌ {A = ℕ} (cond b 1 1) 1
    both true = refl
    both false = refl

    go : (b : Bool) → eqb k v ≡ b → cond (elem k vs) 1 (get_or (set m v 1) k 0) ≡ cond (b || elem k vs) 1 (get_or m k 0)
    go true q =
        let e : k ≡ v = eqb-true k v q in
        let s : get_or (set m v 1) k 0 ≡ 1 = ap (λ (z : ℕ). get_or (set m z 1) k 0) (sym e) ∙ get_or-set_same m k 1 0 h in
        ap (cond (elem k vs) 1) s ∙ both (elem k vs)
    go false q = ap (cond (elem k vs) 1) (get_or-set_other m v k 1 0 (eqb-false k v q))

-- ---- a row's values, and those of the rows behind it

module _ (kind : ℕ) (ids offsets values alive : List ℕ) (row : ℕ) (m : List ℕ) where
  abbrev by_if : Bool → List ℕ
  by_if b = set_all (cond b (slice (start_of kind ids offsets row) (end_of kind ids offsets row) values) []) m

  pub by_dead : false ≡ bit_at alive row → m ≡ set_all (used_by kind ids offsets values alive row) m
  unfolding used_by set_all
  by_dead e = ap by_if e

  pub by_alive : true ≡ bit_at alive row → {a e : ℕ} → a ≡ start_of kind ids offsets row → e ≡ end_of kind ids offsets row → set_all (run a e values) m ≡ set_all (used_by kind ids offsets values alive row) m
  unfolding used_by
  by_alive t {a} {e} p q = ap (λ (l : List ℕ). set_all l m) (sym (drop-take a e values)) ∙ ap₂ (λ (x y : ℕ). set_all (slice x y values) m) p q ∙ ap by_if t

module _ (kind : ℕ) (ids offsets values alive : List ℕ) where
  abbrev used : ℕ → ℕ → List ℕ
  used row n = used_from kind ids offsets values alive row n

  pub rows_more : (row rows : ℕ) (m m' whole : List ℕ) → row < rows → m' ≡ set_all (used_by kind ids offsets values alive row) m → set_all (used_from kind ids offsets values alive row (rows - row)) m ≡ whole
      → set_all (used_from kind ids offsets values alive (row + 1) (rows - (row + 1))) m' ≡ whole
  unfolding used_from
  rows_more row rows m m' whole h e g =
      let w : suc (rows - (row + 1)) ≡ rows - row = omega arith in
      ap₂ (λ (n : ℕ) (l : List ℕ). set_all (used n (rows - (row + 1))) l) (add-one row) e
      ∙ sym (set-append (used_by kind ids offsets values alive row) (used (suc row) (rows - (row + 1))) m)
      ∙ ap (λ (n : ℕ). set_all (used row n) m) w
      ∙ g

  pub rows_end : (row rows : ℕ) (m : List ℕ) → rows ≤ row → set_all (used_from kind ids offsets values alive row (rows - row)) m ≡ m
  unfolding used_from set_all
  rows_end row rows m h = ap (λ (n : ℕ). set_all (used row n) m) (let w : rows - row ≡ 0 = omega arith in w)

-- where a row's values stand, and that they are ordinals
module _ {kind rows : ℕ} {ids offsets values alive : List ℕ} {n : ℕ} (m : Marking kind rows ids offsets values alive n) {row : ℕ} (h : row < rows) {a e : ℕ} (s : a ≡ start_of kind ids offsets row) (t : e ≡ end_of kind ids offsets row) where
  pub row-rises : a ≤ e
  row-rises = rw (s, t) (sound-rises m.sound h)

  pub row-ends : e ≤ length values
  row-ends = rw t (sound-inside m.sound h)

  pub row-below : {k : ℕ} → k ≡ n → Below k (run a e values)
  row-below q = rw q (below-part n a (e - a) values m.ordinals)

-- an ordinal is listed if an alive row uses it
used-elem : (s : Segment) (k row n : ℕ) → eqb s.kind 3 ≡ false → has_alive_set s ≡ true
    → elem k (used_from s.kind s.ids s.offsets s.values s.alive row n) ≡ any (λ r. elem k (row_values s r)) (filter (is_alive s) (up_from row n))
unfolding used_from used_by is_alive
used-elem s k row zero new h = refl
used-elem s k row (suc n) new h =
    any_append (eqb k) (cond (bit_at s.alive row) (slice (start_of s.kind s.ids s.offsets row) (end_of s.kind s.ids s.offsets row) s.values) []) (used_from s.kind s.ids s.offsets s.values s.alive (suc row) n)
    ∙ ap (λ (l : List ℕ). elem k (cond (bit_at s.alive row) l []) || elem k (used_from s.kind s.ids s.offsets s.values s.alive (suc row) n)) (sym (row-slice s row new))
    ∙ ap (λ (b : Bool). elem k (cond (bit_at s.alive row) (row_values s row) []) || b) (used-elem s k (suc row) n new h)
    ∙ go (bit_at s.alive row)
    ∙ ap (λ (b : Bool). any (λ r. elem k (row_values s r)) (cond (cond b (bit_at s.alive row) true) (row ∷ filter (is_alive s) (up_from (suc row) n)) (filter (is_alive s) (up_from (suc row) n)))) (sym h)
  where
    go : (b : Bool) → elem k (cond b (row_values s row) []) || any (λ r. elem k (row_values s r)) (filter (is_alive s) (up_from (suc row) n))
        ≡ any (λ r. elem k (row_values s r)) (cond b (row ∷ filter (is_alive s) (up_from (suc row) n)) (filter (is_alive s) (up_from (suc row) n)))
    go true = refl
    go false = refl

-- ---- a segment's marks

module _ (p : Stand) (ids offsets values alive old : List ℕ) where
  abbrev over_if : Bool → List ℕ
  over_if b = cond b (set_all (used_in p ids offsets values alive) old) (replicate (length old) 1)

  pub over-all : (p.flag ≡ 1 → ⊥) → replicate (length old) 1 ≡ marks_over p ids offsets values alive old
  unfolding marks_over
  over-all e = ap over_if (sym (ne_eqb p.flag 1 e))

  pub over-rows : p.flag ≡ 1 → set_all (used_in p ids offsets values alive) old ≡ marks_over p ids offsets values alive old
  unfolding marks_over
  over-rows e = ap over_if (sym (eq-eqb p.flag 1 e))

  -- no terms
  pub over_none : p.flag ≡ 1 → length old ≡ 0 → old ≡ marks_over p ids offsets values alive old
  over_none e z = sym (set-none (used_in p ids offsets values alive) old z) ∙ over-rows e

  over-length : length (marks_over p ids offsets values alive old) ≡ length old
  unfolding marks_over
  over-length = go (eqb p.flag 1)
    where
      go : (b : Bool) → length (over_if b) ≡ length old
      go true = set-length (used_in p ids offsets values alive) old
      go false = length-replicate (length old) 1

  -- a mark of a term that was not marked
  over-at : (i : ℕ) → i < length old → get_or old i 0 ≡ 0 → (p.flag ≡ 1 → eqb p.kind 3 ≡ false) → get_or (marks_over p ids offsets values alive old) i 0 ≡ bit (is_kept (column_at p ids offsets values alive) i)
  unfolding marks_over is_kept is_used alive_rows
  over-at i h z new = go (eqb p.flag 1) refl
    where
      go : (b : Bool) → eqb p.flag 1 ≡ b → get_or (over_if b) i 0 ≡ bit (cond b (is_used (column_at p ids offsets values alive) i) true)
      go true e =
          set_at (used_in p ids offsets values alive) old i h
          ∙ ap (cond (elem i (used_in p ids offsets values alive)) 1) z
          ∙ ap bit (used-elem (column_at p ids offsets values alive) i 0 p.rows (new (eqb-true p.flag 1 e)) e)
      go false e = get_or-replicate (length old) i 1 0 h

-- ---- all marks after a segment's

pub lies_as : {w : Span} {l l' : List ℕ} → Lies w l → length l' ≡ length l → Lies w l'
lies_as y e = record { rises = y.rises; ends = omega (arith, y.ends) }

module _ (p : Stand) (ids offsets values alive marks : List ℕ) (lies : Lies p.terms marks) where
  abbrev before : List ℕ
  before = take p.terms.from marks

  abbrev over : List ℕ
  over = marks_over p ids offsets values alive (part p.terms marks)

  abbrev behind : List ℕ
  behind = drop p.terms.to marks

  front : length before ≡ p.terms.from
  front = length-take-le p.terms.from marks (omega (arith, lies.rises, lies.ends))

  part-long : length (part p.terms marks) ≡ many p.terms
  part-long = run_length p.terms.from p.terms.to marks lies.ends

  over-long : p.terms.from + length over ≡ p.terms.to
  over-long = omega (arith, over-length p ids offsets values alive (part p.terms marks), part-long, lies.rises)

  in_parts : marked_in p ids offsets values alive marks ≡ before ++ (over ++ behind)
  unfolding marked_in put
  in_parts = ap (λ (n : ℕ). before ++ (over ++ drop n marks)) over-long

  -- what the code leaves, where it lends the part
  in_lent : (ys : List ℕ) → ys ≡ over → before ++ (ys ++ drop (many p.terms) (drop p.terms.from marks)) ≡ marked_in p ids offsets values alive marks
  in_lent ys e =
      let w : p.terms.from + many p.terms ≡ p.terms.to = omega (arith, lies.rises) in
      ap₂ (λ (l r : List ℕ). before ++ (l ++ r)) e (drop-drop (many p.terms) p.terms.from marks ∙ ap (λ (n : ℕ). drop n marks) w) ∙ sym in_parts

  pub in_length : length (marked_in p ids offsets values alive marks) ≡ length marks
  unfolding marked_in
  in_length = length-put p.terms.from over marks (omega (arith, over-long, lies.ends))

  in_from : (n : ℕ) → get_or (marked_in p ids offsets values alive marks) (p.terms.from + n) 0 ≡ get_or (over ++ behind) n 0
  in_from n = ap₂ (λ (l : List ℕ) (k : ℕ). get_or l (k + n) 0) in_parts (sym front) ∙ get_or-append-add before (over ++ behind) n 0

  pub in_before : (x : ℕ) → x < p.terms.from → get_or (marked_in p ids offsets values alive marks) x 0 ≡ get_or marks x 0
  in_before x h = ap (λ (l : List ℕ). get_or l x 0) in_parts ∙ get_or-append before (over ++ behind) 0 x (omega (arith, front)) ∙ get_or-take p.terms.from marks x 0 h

  pub in_at : (i : ℕ) → i < many p.terms → get_or marks (p.terms.from + i) 0 ≡ 0 → (p.flag ≡ 1 → eqb p.kind 3 ≡ false)
      → get_or (marked_in p ids offsets values alive marks) (p.terms.from + i) 0 ≡ bit (is_kept (column_at p ids offsets values alive) i)
  in_at i h z new =
      in_from i
      ∙ get_or-append over behind 0 i (omega (arith, over-long))
      ∙ over-at p ids offsets values alive (part p.terms marks) i (omega (arith, part-long)) (part_at (many p.terms) p.terms.from marks i h ∙ z) new

  pub in_behind : (x : ℕ) → p.terms.to ≤ x → get_or (marked_in p ids offsets values alive marks) x 0 ≡ get_or marks x 0
  in_behind x h =
      let n : ℕ = x - p.terms.to in
      let e : x ≡ p.terms.from + (length over + n) = omega (arith, over-long) in
      let f : p.terms.to + n ≡ x = omega arith in
      ap (λ (k : ℕ). get_or (marked_in p ids offsets values alive marks) k 0) e ∙ in_from (length over + n) ∙ get_or-append-add over behind n 0 ∙ get_or-drop p.terms.to marks n 0 ∙ ap (λ (k : ℕ). get_or marks k 0) f

-- ---- a turn at the segment s

pub marks-end : (stands : List (List ℕ)) (ids offsets values alive marks : List ℕ) (s : ℕ) → length stands ≤ s → marked_all (drop s stands) ids offsets values alive marks ≡ marks
unfolding marked_all
marks-end stands ids offsets values alive marks s h = rw (drop_of_length-le stands h)

marks_step : (stands : List (List ℕ)) (ids offsets values alive marks : List ℕ) (s : ℕ) → s < length stands
    → marked_all (drop s stands) ids offsets values alive marks ≡ marked_all (drop (s + 1) stands) ids offsets values alive (marked_in (stand_at stands s) ids offsets values alive marks)
unfolding marked_all
marks_step stands ids offsets values alive marks s h = rw (add-one s, drop-cons stands s [] h)

module _ {stands : List (List ℕ)} {ids offsets values alive old : List ℕ} (c : Columns stands ids offsets values alive old) (marks : List ℕ) (l : length marks ≡ length old) {s : ℕ} (h : s < length stands) {p : Stand}
    (e : p ≡ stand_at stands s) where
  turn_lies : Lies p.terms marks
  turn_lies = subst (λ (q : Stand). Lies q.terms marks) (sym e) (lies_as (c.terms-lie s h) l)

  pub turn_more : {ys whole : List ℕ} → marked_all (drop s stands) ids offsets values alive marks ≡ whole → ys ≡ marks_over p ids offsets values alive (part p.terms marks)
      → (marked_all (drop (s + 1) stands) ids offsets values alive (take p.terms.from marks ++ (ys ++ drop (many p.terms) (drop p.terms.from marks))) ≡ whole)
      × (length (take p.terms.from marks ++ (ys ++ drop (many p.terms) (drop p.terms.from marks))) ≡ length old)
  turn_more {ys} g o =
      let z = in_lent p ids offsets values alive marks turn_lies ys o in (
        ap (marked_all (drop (s + 1) stands) ids offsets values alive) (z ∙ ap (λ (q : Stand). marked_in q ids offsets values alive marks) e) ∙ sym (marks_step stands ids offsets values alive marks s h) ∙ g,
        ap length z ∙ in_length p ids offsets values alive marks turn_lies ∙ l,
      )
