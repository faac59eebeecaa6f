-- A list that is written only where it is wanted, and a turn of the loop over the addresses. Assumes nothing.
use Prim.Native.Nat.{ℕ, suc, ◌+◌, ◌-◌, ◌*◌, ◌≤◌, ◌<◌}
use native.Mathlib.Nat.{mul-le-mul_right}
use native.Mathlib.Numerals.{add-one}
use native.Mathlib.Omega.{arith}
use mathlib.Core.Path.{◌≡◌, refl, sym, ap, ap₂, ◌∙◌, subst}
use mathlib.Core.List.{List, [], ◌∷◌, ◌++◌}
use mathlib.Core.Bool.{Bool, true, false, cond, false≢true}
use lib.ListN.{length, get_or, set, drop, drop_of_length-le}
use lib.Seq.{drop-cons}
use Rattle.definitions.specs.Lists.{sum}
use Rattle.lists.proofs.Parts.{run_length}
use Rattle.runs.specs.Put.{put, put_if, RoomIf}
use Rattle.runs.proofs.Laws.{Filling, fill_start, fill_end, fill_room, fill_more, put_one}
use Rattle.stands.specs.Width.{id_part, ids_of, totals_of}
use Rattle.stands.specs.declared.Span.{Span}
use Rattle.stands.specs.declared.Stand.{Stand}
use Rattle.stands.specs.Stand.{part, many, Lies}
use Rattle.stands.specs.Look.{addressed, row_of, start_in, end_in, width_in, words_of, cell_in, widths, Inside}
use Rattle.stands.proofs.Cells.{cell_in_lem, cell-run}
use Rattle.stands.proofs.Laws.{first-set, fill_second, part_length, widths_step, ids_step, totals_step, width_now}
use Rattle.column_values_merge.specs.Word.{new_words, Worded}
use Rattle.column_values_merge.proofs.Laws.{words-length}
use Rattle.column_index_shuffled.specs.Order.{ordered_words, Ordered}

-- ---- a list that is written where it is wanted

pub record Partly (wanted : Bool) (whole old rest out : List ℕ) (at : ℕ) : Type 0 where
  pub on : wanted ≡ true → Filling 0 whole old rest out at
  pub off : wanted ≡ false → out ≡ old
  pub kept : length out ≡ length old

pub partly_start : (b : Bool) (whole old : List ℕ) → RoomIf b 0 (length whole) (length old) → Partly b whole old whole old 0
partly_start b whole old r = record { on = λ e. fill_start whole old (omega (arith, r.room e)); off = λ e. refl; kept = refl }

module _ {b : Bool} {whole old rest out : List ℕ} {at : ℕ} (g : Partly b whole old rest out at) where
  pub partly_end : rest ≡ [] → out ≡ put_if b 0 whole old
  unfolding put_if
  partly_end e = go b g.on g.off
    where
      go : (c : Bool) → (c ≡ true → Filling 0 whole old rest out at) → (c ≡ false → out ≡ old) → out ≡ cond c (put 0 whole old) old
      go true f h = (fill_end (f refl) e).1
      go false f h = h refl

  module _ (a r : List ℕ) (e : rest ≡ a ++ r) where
    pub partly_room : RoomIf b at (length a) (length out)
    partly_room = record { room = λ t. fill_room (g.on t) a r e }

    pub partly_more : (out' : List ℕ) (at' : ℕ) → at' ≡ at + length a → out' ≡ put_if b at a out → Partly b whole old r out' at'
    unfolding put_if
    partly_more out' at' p o = go b g.on g.off o
      where
        go : (c : Bool) → (c ≡ true → Filling 0 whole old rest out at) → (c ≡ false → out ≡ old) → out' ≡ cond c (put at a out) out → Partly c whole old r out' at'
        go true f h q =
            let m = fill_more (f refl) a r e out' at' p q in
            record { on = λ t. m; off = λ t. absurd (false≢true (sym t)); kept = m.kept }
        go false f h q = record { on = λ t. absurd (false≢true t); off = λ t. q ∙ h refl; kept = ap length (q ∙ h refl) }

-- the first element, written before the others
module _ (b : Bool) (x : ℕ) (vs old : List ℕ) (r : RoomIf b 0 (length (x ∷ vs)) (length old)) where
  module _ (out : List ℕ) (o : out ≡ put_if b 0 (x ∷ []) old) where
    pub partly_second : Partly b (x ∷ vs) out vs out 1
    unfolding put_if
    partly_second = go b (λ e. r.room e) o
      where
        go : (c : Bool) → (c ≡ true → 0 + length (x ∷ vs) ≤ length old) → out ≡ cond c (put 0 (x ∷ []) old) old → Partly c (x ∷ vs) out vs out 1
        go true h q =
            let k : length (x ∷ vs) ≤ length old = let m = h refl in omega arith in
            let e : set old 0 x ≡ out = put_one 0 x old (omega arith) ∙ sym q in
            record { on = λ t. subst (λ (z : List ℕ). Filling 0 (x ∷ vs) z vs z 1) e (fill_second x vs old k); off = λ t. absurd (false≢true (sym t)); kept = refl }
        go false h q = record { on = λ t. absurd (false≢true t); off = λ t. refl; kept = refl }

    pub partly_first : put_if b 0 (x ∷ vs) out ≡ put_if b 0 (x ∷ vs) old
    unfolding put_if
    partly_first = go b (λ e. r.room e) o
      where
        go : (c : Bool) → (c ≡ true → 0 + length (x ∷ vs) ≤ length old) → out ≡ cond c (put 0 (x ∷ []) old) old → cond c (put 0 (x ∷ vs) out) out ≡ cond c (put 0 (x ∷ vs) old) old
        go true h q =
            let k : 0 < length old = let m = h refl in omega arith in
            ap (put 0 (x ∷ vs)) (q ∙ sym (put_one 0 x old k)) ∙ first-set x vs old
        go false h q = q

-- ---- a turn at the address j: p is where its segment stands, x and y where the row's values were found

module _ {addresses stands : List (List ℕ)} {ids offsets values table : List ℕ} (l : Ordered addresses stands ids offsets values table) {j : ℕ} (h : j < length addresses) where
  abbrev row : ℕ
  row = row_of (get_or addresses j [])

  -- what is left, from address k on
  abbrev words_from : ℕ → ℕ → List ℕ
  words_from to k = ordered_words to stands ids offsets values table (drop k addresses)

  abbrev widths_from : ℕ → List ℕ
  widths_from k = widths stands ids offsets (drop k addresses)

  module _ {p : Stand} (here : p ≡ addressed stands (get_or addresses j [])) where
    row_inside : Inside p ids offsets values row
    row_inside = subst (λ (q : Stand). Inside q ids offsets values row) (sym here) (l.each j h).1

    module _ {x y : ℕ} (xe : x ≡ start_in p ids offsets row) (ye : y ≡ end_in p ids offsets row) where
      row-rises : x ≤ y
      row-rises = omega (arith, row_inside.within.rises)

      words-end : p.values.from + y * p.unit ≤ length values
      words-end = rw ye (let c = cell_in_lem p ids offsets values row row_inside in omega (arith, row_inside.values-lie.rises, row_inside.values-lie.ends))

      row-width : y - x ≡ width_now stands ids offsets addresses j
      unfolding width_in
      row-width = ap₂ (λ (m n : ℕ). m - n) ye xe ∙ ap (λ (q : Stand). width_in q ids offsets row) here

      widths_now : sum (widths_from j) ≡ (y - x) + sum (widths_from (j + 1))
      widths_now = ap sum (widths_step stands ids offsets addresses j h) ∙ ap (λ (n : ℕ). n + sum (widths_from (j + 1))) (sym row-width)

      -- no running total of values is too large
      module _ (t : ℕ) (f : t + sum (widths_from j) ≡ sum (widths stands ids offsets addresses)) where
        pub total-fits : t + (y - x) ≤ 4294967295
        total-fits = omega (arith, widths_now, l.count)

        pub total-more : t + (y - x) + sum (widths_from (j + 1)) ≡ sum (widths stands ids offsets addresses)
        total-more = omega (arith, widths_now)

      -- where the row's words stand
      abbrev r : Span
      r = words_of p x y

      pub row_lies : Lies r values
      row_lies = record { rises = let k = mul-le-mul_right p.unit row-rises in omega arith; ends = words-end }

      lent : part r values ≡ cell_in p ids offsets values row
      lent = rw (xe, ye) (cell-run p ids offsets values row row_inside)

      pub row-worded : Worded p table (part r values)
      row-worded = rw lent (subst (λ (q : Stand). Worded q table (cell_in q ids offsets values row)) (sym here) (l.each j h).2)

      abbrev words : ℕ → List ℕ
      words to = new_words to p table (part r values)

      words_now : (to : ℕ) → words_from to j ≡ words to ++ words_from to (j + 1)
      unfolding ordered_words
      words_now to =
          rw (add-one j, drop-cons addresses j [] h)
          (ap (λ (q : Stand). new_words to q table (cell_in q ids offsets values row) ++ words_from to (suc j)) (sym here) ∙ ap (λ (c : List ℕ). new_words to p table c ++ words_from to (suc j)) (sym lent))

      words_count : (to : ℕ) → length (words to) ≡ many r
      words_count to = words-length to p.typ p.map table (part r values) ∙ run_length r.from r.to values words-end

      module _ (to : ℕ) {whole old out : List ℕ} {at : ℕ} (g : Filling 0 whole old (words_from to j) out at) where
        pub words-room : at + many r ≤ length out
        words-room = rw (← words_count to) (fill_room g (words to) (words_from to (j + 1)) (words_now to))

        pub words_more : {out' : List ℕ} {at' : ℕ} → at' ≡ at + many r → out' ≡ put at (words to) out → Filling 0 whole old (words_from to (j + 1)) out' at'
        words_more {out'} {at'} q o = fill_more g (words to) (words_from to (j + 1)) (words_now to) out' at' (q ∙ ap (λ (n : ℕ). at + n) (sym (words_count to))) o

      totals_now : (t : ℕ) → totals_of t (widths_from j) ≡ id_part (t + (y - x)) (y - x) ++ totals_of (t + (y - x)) (widths_from (j + 1))
      totals_now t = totals_step stands ids offsets addresses j h t (y - x) row-width

      module _ {b : Bool} {whole old out : List ℕ} {at : ℕ} where
        module _ (g : Partly b whole old (ids_of j (widths_from j)) out at) where
          pub ids-room : RoomIf b at (length (id_part j (y - x))) (length out)
          ids-room = partly_room g (id_part j (y - x)) (ids_of (j + 1) (widths_from (j + 1))) (ids_step stands ids offsets addresses j h (y - x) row-width)

          pub ids_more : {out' : List ℕ} {w : ℕ} → w ≡ length (id_part 0 (y - x)) → out' ≡ put_if b at (id_part j (y - x)) out → Partly b whole old (ids_of (j + 1) (widths_from (j + 1))) out' (at + w)
          ids_more {out'} {w} q o =
              partly_more g (id_part j (y - x)) (ids_of (j + 1) (widths_from (j + 1))) (ids_step stands ids offsets addresses j h (y - x) row-width) out' (at + w)
              (ap (λ (n : ℕ). at + n) (q ∙ sym (part_length j (y - x)))) o

        module _ (t : ℕ) (g : Partly b whole old (totals_of t (widths_from j)) out at) where
          pub totals_room : RoomIf b at (length (id_part (t + (y - x)) (y - x))) (length out)
          totals_room = partly_room g (id_part (t + (y - x)) (y - x)) (totals_of (t + (y - x)) (widths_from (j + 1))) (totals_now t)

          -- n is how many rows were listed: the totals stand one place behind the ids
          pub totals_more : (n w : ℕ) → at ≡ n + 1 → {out' : List ℕ} → w ≡ length (id_part 0 (y - x)) → out' ≡ put_if b at (id_part (t + (y - x)) (y - x)) out
              → Partly b whole old (totals_of (t + (y - x)) (widths_from (j + 1))) out' (n + w + 1)
          totals_more n w c {out'} q o =
              partly_more g (id_part (t + (y - x)) (y - x)) (totals_of (t + (y - x)) (widths_from (j + 1))) (totals_now t) out' (n + w + 1) (omega (arith, part_length (t + (y - x)) (y - x))) o

pub words-none : (to : ℕ) (stands : List (List ℕ)) (ids offsets values table : List ℕ) (addresses : List (List ℕ)) (j : ℕ) → length addresses ≤ j
    → ordered_words to stands ids offsets values table (drop j addresses) ≡ []
unfolding ordered_words
words-none to stands ids offsets values table addresses j h = rw (drop_of_length-le addresses h)
