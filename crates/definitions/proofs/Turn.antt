-- Joins in turn: at each call the book's answer is the joiner's, and what stands is what the book takes to stand. Assumes nothing.
use Prim.Native.Nat.{ℕ, suc, ◌<◌}
use mathlib.Core.Path.{◌≡◌, refl, sym, ap, ap₂, ◌∙◌, subst}
use mathlib.Core.List.Memᴰ
use mathlib.Core.List.{List, [], ◌∷◌, ◌++◌, map, Memᴰ, map-map, map-append}
use mathlib.Core.Logic.{⊎_elim}
use mathlib.Core.Bool.{Bool, true, false, cond, false≢true}
use lib.ListN.{length, get_or, length-map}
use lib.Dec.{T, eqb, ltb, ltb→lt, eqb→eq}
use lib.Ieee.Fits.{and_l, and_r}
use Rattle.definitions.specs.Lists.{all, elem}
use Rattle.definitions.specs.Segment.{Segment, Input, segments_of}
use Rattle.definitions.specs.Join.{Column, absent, stacked_from, row_order, joined_column, join_rules}
use Rattle.definitions.specs.Answer.{all_coercible, answer, join_of}
use Rattle.definitions.specs.Outcome.{Buffers, accepted, refused, space_of, numbers_of, refused_buffers, accepted_buffers, input_of, join_outcome}
use Rattle.definitions.specs.Book.{Standing, first, result, segment_in, Call, lent_to, handed_of, left_from, call_lent, call_outcome, call_answer, after_answer, after_call, answers_of, stands_after, Entry, no_entry, standing_of, joined_entry, book_answer, book_after_call, book_answers_from, book_after_from, is_segment, segments_handed, accepts_only_segments, hands_only_standing, accepted_from}
use Rattle.definitions.proofs.Sections.{flatten, flatten_back}
use Rattle.definitions.proofs.Outcome.{read_back_lem, number_is}
use Rattle.definitions.proofs.Accept.{Accepted, is-accepted, Lists, lists_order}
use Rattle.definitions.proofs.Part as P
use Rattle.definitions.proofs.Entry.{seg_of, Good, parts_of, parts_segments, joined_is, good_joined}
use Rattle.definitions.proofs.Lists.{all_mem, mem_at, mem_map_back, map_mem, get_or_in}

-- ---- lists

left-map : {A B : Type 0} (f : A → B) (n : ℕ) (places : List ℕ) (l : List A) → left_from n places (map f l) ≡ map f (left_from n places l)
left-map f n places [] = refl
left-map {A} {B} f n places (x ∷ xs) = go (elem n places) (left-map f (suc n) places xs)
  where
    go : (b : Bool) → left_from (suc n) places (map f xs) ≡ map f (left_from (suc n) places xs)
        → cond b (left_from (suc n) places (map f xs)) (f x ∷ left_from (suc n) places (map f xs)) ≡ map f (cond b (left_from (suc n) places xs) (x ∷ left_from (suc n) places xs))
    go true e = e
    go false e = ap (λ (l : List B). f x ∷ l) e

left_mem : {A : Type 0} (n : ℕ) (places : List ℕ) (l : List A) {x : A} → Memᴰ x (left_from n places l) → Memᴰ x l
left_mem n places [] m = m
left_mem n places (y ∷ ys) {x} m = go (elem n places) m (λ k. left_mem (suc n) places ys k)
  where
    go : (b : Bool) → Memᴰ x (cond b (left_from (suc n) places ys) (y ∷ left_from (suc n) places ys)) → (Memᴰ x (left_from (suc n) places ys) → Memᴰ x ys)
        → Memᴰ x (y ∷ ys)
    go true m f = Memᴰ.tail (f m)
    go false (Memᴰ.head q) f = Memᴰ.head q
    go false (Memᴰ.tail m) f = Memᴰ.tail (f m)

-- ---- a call, by the table's answer and the join's column

answer-is : (c : Call) (standing : List Standing) → call_answer c standing ≡ answer (input_of (call_lent c standing))
unfolding call_answer call_outcome
answer-is c standing = number_is (call_lent c standing)

after_is : (c : Call) (standing : List Standing)
    → after_call c standing
    ≡ cond (eqb (answer (input_of (call_lent c standing))) 0) (left_from 0 c.handed standing ++ (result (join_of (input_of (call_lent c standing))).column ∷ [])) standing
unfolding after_call call_outcome join_outcome
after_is c standing = go (eqb (answer i) 0)
  where
    i : Input
    i = input_of (call_lent c standing)

    b : Buffers
    b = (call_lent c standing).buffers

    go : (t : Bool)
        → after_answer c standing (cond t (accepted_buffers (join_of i) b) (refused_buffers b)) (cond t (accepted (numbers_of (join_of i))) (refused (answer i)))
        ≡ cond t (left_from 0 c.handed standing ++ (result (join_of i).column ∷ [])) standing
    go true = ap (λ (x : Column). left_from 0 c.handed standing ++ (result x ∷ [])) (read_back_lem (join_of i) b)
    go false = refl

module _ (firsts : List Segment) (required u : ℕ) where
  abbrev stand : Entry → Standing
  stand = standing_of firsts

  -- ---- one call
  module _ (c : Call) (book : List Entry) (goods : (e : Entry) → Memᴰ e book → Good firsts required u e)
      (range : T (all (λ k. ltb k (length (map stand book))) c.handed)) where
    abbrev es : List Entry
    es = handed_of no_entry c.handed book

    in_range : (k : ℕ) → Memᴰ k c.handed → k < length book
    in_range k m =
        subst (λ (n : ℕ). k < n) (length-map book stand)
        (ltb→lt k (length (map stand book)) (all_mem (λ k. ltb k (length (map stand book))) c.handed range m))

    good_es : (e : Entry) → Memᴰ e es → Good firsts required u e
    good_es e m =
        let t = mem_map_back (λ k. get_or book k no_entry) c.handed m in
        goods e (Memᴰ.cast t.2 (mem_at book t.0 no_entry (in_range t.0 t.1)))

    handed-same : segments_handed c (map stand book) ≡ map (seg_of firsts) es
    handed-same =
        ap (map segment_in)
        (map_mem (λ k. get_or (map stand book) k (first absent)) (λ k. stand (get_or book k no_entry)) c.handed (λ k m. get_or_in stand book k (first absent) no_entry (in_range k m))
        ∙ sym (map-map stand (λ k. get_or book k no_entry) c.handed))
        ∙ map-map segment_in stand es

    abbrev input : Input
    input = input_of (lent_to c (map (seg_of firsts) es))

    input-same : input_of (call_lent c (map stand book)) ≡ input
    unfolding call_lent
    input-same = ap (λ (ss : List Segment). input_of (lent_to c ss)) handed-same

    answer-same : call_answer c (map stand book) ≡ book_answer firsts c book
    unfolding book_answer
    answer-same = answer-is c (map stand book) ∙ ap answer input-same

    call-zero : answer input ≡ 0 → call_answer c (map stand book) ≡ 0
    call-zero e = answer-is c (map stand book) ∙ ap answer input-same ∙ e

    abbrev part_segments : List Segment
    part_segments = P.segments_in required u (parts_of firsts required u es good_es)

    module _ (q : answer input ≡ 0 → c.required ≡ required) (laid : answer input ≡ 0 → T (all is_segment (map (seg_of firsts) es))) where
      -- the segments handed over are cut out of the sections again
      back : answer input ≡ 0 → segments_of input ≡ part_segments
      unfolding input_of lent_to flatten
      back e =
          flatten_back c.mode c.required (map (seg_of firsts) es) c.addresses (space_of c.buffers) (laid e)
          ∙ sym (parts_segments firsts required u es good_es)

      passed : answer input ≡ 0 → Accepted input part_segments
      passed e = subst (Accepted input) (back e) (is-accepted input e)

      column-same : answer input ≡ 0 → (join_of input).column ≡ joined_column c.required part_segments (row_order c.mode part_segments c.addresses)
      unfolding join_rules input_of lent_to
      column-same e = ap (λ (ss : List Segment). joined_column c.required ss (row_order c.mode ss c.addresses)) (back e)

      lists_by : answer input ≡ 0 → Lists part_segments (cond (eqb c.mode 0) (stacked_from 0 part_segments) c.addresses)
      unfolding input_of lent_to row_order
      lists_by e = lists_order input part_segments (passed e)

      coercible_by : answer input ≡ 0 → T (all_coercible required part_segments)
      unfolding input_of lent_to
      coercible_by e = subst (λ (n : ℕ). T (all_coercible n part_segments)) (q e) (passed e).coercible

      -- the result is the new entry's one join
      result-is : answer input ≡ 0 → result (join_of input).column ≡ stand (joined_entry c es)
      unfolding standing_of joined_entry row_order
      result-is e =
          ap result
          (column-same e
          ∙ ap (λ (n : ℕ). joined_column n part_segments (row_order c.mode part_segments c.addresses)) (q e)
          ∙ joined_is firsts required u c es good_es (q e) (passed e).lists (passed e).values (lists_by e) (coercible_by e))

      new_good : answer input ≡ 0 → Good firsts required u (joined_entry c es)
      new_good e = good_joined firsts required u c es good_es (q e) (passed e).lists (passed e).values (lists_by e) (coercible_by e) (laid e)

      zero_of : eqb (answer input) 0 ≡ true → answer input ≡ 0
      zero_of e = eqb→eq (answer input) 0 (subst T (sym e) tt)

      -- what stands after the call
      after_same : after_call c (map stand book) ≡ map stand (book_after_call firsts c book)
      unfolding book_after_call book_answer
      after_same =
          after_is c (map stand book)
          ∙ ap (λ (i : Input). cond (eqb (answer i) 0) (left_from 0 c.handed (map stand book) ++ (result (join_of i).column ∷ [])) (map stand book)) input-same
          ∙ go (eqb (answer input) 0) refl
        where
          go : (b : Bool) → eqb (answer input) 0 ≡ b
              → cond b (left_from 0 c.handed (map stand book) ++ (result (join_of input).column ∷ [])) (map stand book)
              ≡ map stand (cond b (left_from 0 c.handed book ++ (joined_entry c es ∷ [])) book)
          go true e =
              ap₂ (λ (l : List Standing) (x : Standing). l ++ (x ∷ [])) (left-map stand 0 c.handed book) (result-is (zero_of e))
              ∙ sym (map-append stand (left_from 0 c.handed book) (joined_entry c es ∷ []))
          go false e = refl

      goods_after : (e : Entry) → Memᴰ e (book_after_call firsts c book) → Good firsts required u e
      unfolding book_after_call book_answer
      goods_after e m = go (eqb (answer input) 0) refl m
        where
          here : answer input ≡ 0 → Memᴰ e (left_from 0 c.handed book) → Good firsts required u e
          here z k = goods e (left_mem 0 c.handed book k)

          there : answer input ≡ 0 → Memᴰ e (joined_entry c es ∷ []) → Good firsts required u e
          there z k = subst (Good firsts required u) (sym (Memᴰ.eq_of_singleton k)) (new_good z)

          go : (b : Bool) → eqb (answer input) 0 ≡ b → Memᴰ e (cond b (left_from 0 c.handed book ++ (joined_entry c es ∷ [])) book) → Good firsts required u e
          go true z k = ⊎_elim (here (zero_of z)) (there (zero_of z)) (Memᴰ.append_cases (left_from 0 c.handed book) k)
          go false z k = goods e k

  -- ---- all calls

  accepted-head : (c : Call) (b : Bool) (l : List Call) → T (all (eqb required) (map (λ (c : Call). c.required) (cond b (c ∷ l) l)))
      → (b ≡ true → c.required ≡ required) × T (all (eqb required) (map (λ (c : Call). c.required) l))
  accepted-head c true l h = (
    λ e. sym (eqb→eq required c.required (and_l (eqb required c.required) (all (eqb required) (map (λ (c : Call). c.required) l)) h)),
    and_r (eqb required c.required) (all (eqb required) (map (λ (c : Call). c.required) l)) h,
  )
  accepted-head c false l h = (λ e. absurd (false≢true e), h)

  pub record Agreed (calls : List Call) (book : List Entry) : Type 0 where
    pub answers : answers_of calls (map stand book) ≡ book_answers_from firsts calls book
    pub standing : stands_after calls (map stand book) ≡ map stand (book_after_from firsts calls book)
    pub goods : (e : Entry) → Memᴰ e (book_after_from firsts calls book) → Good firsts required u e

  -- what is assumed of the calls, from what stands
  pub record Given (calls : List Call) (standing : List Standing) : Type 0 where
    pub hands : T (hands_only_standing calls standing)
    pub segments : T (accepts_only_segments calls standing)
    pub accepted : T (all (eqb required) (map (λ (c : Call). c.required) (accepted_from calls standing)))

  -- one call, and the rest
  joined-on : (c : Call) (cs : List Call) (book : List Entry) (goods : (e : Entry) → Memᴰ e book → Good firsts required u e)
      (range : T (all (λ k. ltb k (length (map stand book))) c.handed)) (q : answer (input c book goods range) ≡ 0 → c.required ≡ required)
      (laid : answer (input c book goods range) ≡ 0 → T (all is_segment (map (seg_of firsts) (es c book goods range))))
      → ((b : List Entry) → ((e : Entry) → Memᴰ e b → Good firsts required u e) → Given cs (map stand b) → Agreed cs b)
      → Given cs (after_call c (map stand book))
      → Agreed (c ∷ cs) book
  joined-on c cs book goods range q laid ih g =
      record {
        answers = ap₂ (λ (n : ℕ) (l : List ℕ). n ∷ l) (answer-same c book goods range) (ap (answers_of cs) after ∙ rest.answers);
        standing = ap (stands_after cs) after ∙ rest.standing;
        goods = rest.goods;
      }
    where
      after : after_call c (map stand book) ≡ map stand (book_after_call firsts c book)
      after = after_same c book goods range q laid

      rest : Agreed cs (book_after_call firsts c book)
      rest = ih (book_after_call firsts c book) (goods_after c book goods range q laid) (subst (Given cs) after g)

  pub agreed : (calls : List Call) (book : List Entry) → ((e : Entry) → Memᴰ e book → Good firsts required u e) → Given calls (map stand book) → Agreed calls book
  agreed [] book goods g = record { answers = refl; standing = refl; goods = goods }
  agreed (c ∷ cs) book goods g =
      joined-on c cs book goods range (λ e. types.0 (accepts e)) (λ e. subst (λ (ss : List Segment). T (all is_segment ss)) (handed-same c book goods range) (laid e))
      (λ b h k. agreed cs b h k)
      (record {
        hands = and_r (all (λ k. ltb k (length (map stand book))) c.handed) (hands_only_standing cs (after_call c (map stand book))) g.hands;
        segments = and_r (segments_if (eqb (call_answer c (map stand book)) 0)) (accepts_only_segments cs (after_call c (map stand book))) g.segments;
        accepted = types.1;
      })
    where
      range : T (all (λ k. ltb k (length (map stand book))) c.handed)
      range = and_l (all (λ k. ltb k (length (map stand book))) c.handed) (hands_only_standing cs (after_call c (map stand book))) g.hands

      accepts : answer (input c book goods range) ≡ 0 → eqb (call_answer c (map stand book)) 0 ≡ true
      accepts e = ap (λ (n : ℕ). eqb n 0) (call-zero c book goods range e)

      types : (eqb (call_answer c (map stand book)) 0 ≡ true → c.required ≡ required)
          × T (all (eqb required) (map (λ (c : Call). c.required) (accepted_from cs (after_call c (map stand book)))))
      types = accepted-head c (eqb (call_answer c (map stand book)) 0) (accepted_from cs (after_call c (map stand book))) g.accepted

      segments_if : Bool → Bool
      segments_if b = cond b (all is_segment (segments_handed c (map stand book))) true

      laid : answer (input c book goods range) ≡ 0 → T (all is_segment (segments_handed c (map stand book)))
      laid e =
          subst (λ (b : Bool). T (segments_if b)) (accepts e)
          (and_l (segments_if (eqb (call_answer c (map stand book)) 0)) (accepts_only_segments cs (after_call c (map stand book))) g.segments)
