-- Demand 3: joins in turn agree with their book. Assumes nothing.
use Prim.Native.Nat.{ℕ, zero, suc, ◌+◌, ◌<◌, zero-le, suc-le-suc}
use native.Mathlib.Nat.{le_antisymm, zero-add, add-zero, suc-add, add-suc}
use native.Mathlib.Omega.{arith}
use mathlib.Core.Path.{◌≡◌, refl, sym, ap, ap₂, ◌∙◌, subst}
use mathlib.Core.List.Memᴰ
use mathlib.Core.List.{List, [], ◌∷◌, map, Memᴰ, map-map}
use mathlib.Core.Bool.{Bool, true, false, not, cond, ◌||◌, ◌&&◌, false≢true}
use lib.ListN.{length, get_or, get_or-map}
use lib.Dec.{T, eqb, ltb, ltb→lt, eqb→eq, eqb_refl, eqb-suc-zero}
use lib.Ieee.Fits.{and_i, and_l, and_r}
use Rattle.definitions.specs.Lists.{all, any, count, filter, elem}
use Rattle.definitions.specs.Segment.{Segment, alive_words, record_of}
use Rattle.definitions.specs.Row.{is_present, is_held, effective, no_type}
use Rattle.definitions.specs.Class.{class_of, greatest_class}
use Rattle.definitions.specs.Join.{Column, absent, stacked_from, row_order, terms_of, cell_of, encode, joined_type, joined_column, join_rules, as_segment}
use Rattle.definitions.specs.Answer.{present_types, answer, join_of}
use Rattle.definitions.specs.Book as Book
use Rattle.definitions.specs.Book.{Standing, first, result, segment_in, Call, lent_to, segments_handed, call_lent, call_outcome, stands_after, Entry, no_entry, first_entry, first_entries, segments_at, origins_in, one_join, standing_of, book_after, is_segment, all_equal, required_types, is_uniform, IsSequenceOf, ResultStands, CallsOneJoin, JoinsInTurnAgree}
use Rattle.definitions.specs.Outcome.{Numbers, accepted, space_of, Lent, input_of, join_outcome, read_back}
use Rattle.definitions.proofs.Sections.{flatten, flatten_back}
use Rattle.definitions.proofs.Outcome.{accepted-is}
use Rattle.definitions.proofs.Summary.{keeps_term, Same, same-terms, same-type, same_class, OfType, Uniform}
use Rattle.definitions.proofs.Group.{Listed, column_of}
use Rattle.definitions.proofs.Accept.{is-accepted, or_cases}
use Rattle.definitions.proofs.Entry.{rows_at, one-column, Good, good_first}
use Rattle.definitions.proofs.Turn.{Given, Agreed, agreed}
use Rattle.definitions.proofs.Lists.{any_mem, mem-filter, greatest_ge, any-true, any_false, any_none, all_mem, greatest-le, mem_map_back, mem_at, map_mem, get_or_in, get_or_all, all_of, mem_elem, elem_mem}

-- ---- lists with the same members

module _ (xs ys : List Segment) (there : (x : Segment) → Memᴰ x xs → Memᴰ x ys) (back : (x : Segment) → Memᴰ x ys → Memᴰ x xs) where
  any_same : (p : Segment → Bool) → any p xs ≡ any p ys
  any_same p = go (any p ys) refl
    where
      go : (b : Bool) → any p ys ≡ b → any p xs ≡ b
      go true e = let t = any-true p ys e in any_mem p (back t.0 t.1) t.2
      go false e = any_none p xs (λ x m. any_false p ys e (there x m))

  members_same : Same xs ys
  unfolding greatest_class
  members_same =
      record {
        held = any_same is_held;
        class =
            le_antisymm (greatest-le (λ s. class_of (effective s)) (greatest_class ys) xs (λ x m. greatest_ge (λ s. class_of (effective s)) (there x m)))
            (greatest-le (λ s. class_of (effective s)) (greatest_class xs) ys (λ x m. greatest_ge (λ s. class_of (effective s)) (back x m)));
        terms = λ u. any_same (keeps_term u);
      }

-- ---- sequences of the same numbers

elem-count : (n : ℕ) (l : List ℕ) → elem n l ≡ not (eqb (count (eqb n) l) 0)
elem-count n [] = refl
elem-count n (m ∷ ms) = go (eqb n m) (elem-count n ms)
  where
    go : (b : Bool) → elem n ms ≡ not (eqb (count (eqb n) ms) 0) → b || elem n ms ≡ not (eqb (cond b (suc (count (eqb n) ms)) (count (eqb n) ms)) 0)
    go true e = sym (ap not (eqb-suc-zero (count (eqb n) ms)))
    go false e = e

elem-same : (xs ys : List ℕ) → IsSequenceOf xs ys → (n : ℕ) → elem n xs ≡ elem n ys
elem-same xs ys h n = elem-count n xs ∙ ap (λ (k : ℕ). not (eqb k 0)) (h n) ∙ sym (elem-count n ys)

segments-there : (firsts : List Segment) (xs ys : List ℕ) → ((n : ℕ) → elem n xs ≡ elem n ys) → (x : Segment) → Memᴰ x (segments_at firsts xs) → Memᴰ x (segments_at firsts ys)
segments-there firsts xs ys h x m =
    let t = mem_map_back (λ n. get_or firsts n absent) xs m in
    Memᴰ.cast t.2 (Memᴰ.map (λ n. get_or firsts n absent) (elem_mem t.0 ys (sym (h t.0) ∙ mem_elem t.0 xs t.1)))

-- ---- the one join does not depend on the sequence of the sources

module _ (firsts : List Segment) (required u : ℕ) (e : Entry) (good : Good firsts required u e) (sequence : List ℕ) (seq : IsSequenceOf sequence e.sources) where
  same-sources : Same (segments_at firsts sequence) (segments_at firsts e.sources)
  same-sources =
      members_same (segments_at firsts sequence) (segments_at firsts e.sources) (segments-there firsts sequence e.sources (elem-same sequence e.sources seq))
      (segments-there firsts e.sources sequence (λ n. sym (elem-same sequence e.sources seq n)))

  uniform_sequence : Uniform required u (segments_at firsts sequence)
  uniform_sequence =
      record {
        of_type = λ q.
            all_of (λ s. not (is_present s) || eqb s.type u) (segments_at firsts sequence)
            (λ x m. all_mem (λ s. not (is_present s) || eqb s.type u) (segments_at firsts e.sources) (good.stands.uniform_group.of_type q)
            (segments-there firsts sequence e.sources (elem-same sequence e.sources seq) x m));
      }

  column-sequence : column_of required (segments_at firsts sequence) (rows_at firsts e.origins) ≡ column_of required (segments_at firsts e.sources) (rows_at firsts e.origins)
  column-sequence =
      λ i.
      encode (type i) (same_class required u (segments_at firsts sequence) (segments_at firsts e.sources) uniform_sequence good.stands.uniform_group same-sources i)
      (terms i) (map (λ (o : Listed). cell_of (type i) (terms i) o.0 o.1) (rows_at firsts e.origins))
    where
      type : joined_type required (segments_at firsts sequence) ≡ joined_type required (segments_at firsts e.sources)
      type = same-type required u (segments_at firsts sequence) (segments_at firsts e.sources) uniform_sequence good.stands.uniform_group same-sources

      terms : terms_of (segments_at firsts sequence) ≡ terms_of (segments_at firsts e.sources)
      terms = same-terms (segments_at firsts sequence) (segments_at firsts e.sources) same-sources

  any-sequence : one_join firsts required sequence e.origins ≡ one_join firsts required e.sources e.origins
  any-sequence =
      one-column firsts required sequence e.origins (λ a m. elem-same sequence e.sources seq a.segment ∙ good.within a m)
      ∙ column-sequence
      ∙ sym (one-column firsts required e.sources e.origins good.within)

-- ---- the first segments

module _ (firsts : List Segment) where
  stand-firsts : (n : ℕ) (ss : List Segment) → ((k : ℕ) → get_or ss k absent ≡ get_or firsts (n + k) absent) → map (standing_of firsts) (first_entries n ss) ≡ map first ss
  unfolding standing_of first_entry
  stand-firsts n [] h = refl
  stand-firsts n (s ∷ ss) h =
      ap₂ (λ (x : Standing) (l : List Standing). x ∷ l) (ap first (ap (λ (k : ℕ). get_or firsts k absent) (sym (add-zero n)) ∙ sym (h 0)))
      (stand-firsts (suc n) ss (λ k. h (suc k) ∙ ap (λ (m : ℕ). get_or firsts m absent) (add-suc n k ∙ sym (suc-add n k))))

  good_firsts : (required u : ℕ) → ((n : ℕ) → Uniform required u (get_or firsts n absent ∷ []))
      → (n : ℕ) (ss : List Segment) → ((k : ℕ) → get_or ss k absent ≡ get_or firsts (n + k) absent)
      → (e : Entry) → Memᴰ e (first_entries n ss) → Good firsts required u e
  good_firsts required u uni n [] h e m = absurd (Memᴰ.not-nil m)
  good_firsts required u uni n (s ∷ ss) h e (Memᴰ.head q) =
      subst (Good firsts required u) (sym (q ∙ ap (first_entry n) (h 0 ∙ ap (λ (k : ℕ). get_or firsts k absent) (add-zero n)))) (good_first firsts required u n (uni n))
  good_firsts required u uni n (s ∷ ss) h e (Memᴰ.tail m) =
      good_firsts required u uni (suc n) ss (λ k. h (suc k) ∙ ap (λ (j : ℕ). get_or firsts j absent) (add-suc n k ∙ sym (suc-add n k))) e m

  -- ---- the premise

  -- the joins' required type, or none, and the one type of the present columns
  record Chosen (calls : List Call) : Type 0 where
    required : ℕ
    u : ℕ
    uniform : (n : ℕ) → Uniform required u (get_or firsts n absent ∷ [])
    accepted : T (all (eqb required) (required_types firsts calls))

  abbrev head_or : List ℕ → ℕ
  head_or [] = 0
  head_or (n ∷ ns) = n

  equal_head : (ts : List ℕ) {t : ℕ} → T (all_equal ts) → Memᴰ t ts → T (eqb t (head_or ts))
  equal_head (n ∷ ns) h (Memᴰ.head q) = subst (λ (k : ℕ). T (eqb k n)) (sym q) (eqb_refl n)
  equal_head [] {t = t} h x'' = elim x'' [ ]
  equal_head (n ∷ ns) {t} h (Memᴰ.tail m) = subst (λ (k : ℕ). T (eqb t k)) (sym (eqb→eq n t (all_mem (eqb n) ns h m))) (eqb_refl t)

  of_one-type : T (all_equal (present_types no_type firsts)) → OfType (head_or (present_types no_type firsts)) firsts
  unfolding present_types
  of_one-type h =
      all_of (λ s. not (is_present s) || eqb s.type u) firsts
      (λ s m. go s m (is_present s) refl)
    where
      u : ℕ
      u = head_or (filter (λ t. not (eqb t no_type)) (map (λ (s : Segment). s.type) firsts))

      go : (s : Segment) → Memᴰ s firsts → (b : Bool) → is_present s ≡ b → T (not b || eqb s.type u)
      go s m true e =
          equal_head (filter (λ t. not (eqb t no_type)) (map (λ (s : Segment). s.type) firsts)) h
          (mem-filter (λ t. not (eqb t no_type)) (map (λ (s : Segment). s.type) firsts) e (Memᴰ.map (λ (s : Segment). s.type) m))
      go s m false e = tt

  uniform_at : (u : ℕ) → OfType u firsts → (n : ℕ) → Uniform no_type u (get_or firsts n absent ∷ [])
  uniform_at u h n =
      record {
        of_type = λ q.
            and_i (not (is_present (get_or firsts n absent)) || eqb (get_or firsts n absent).type u) true (get_or_all (λ s. not (is_present s) || eqb s.type u) firsts n absent h tt) tt;
      }

  required_uniform : (required : ℕ) → T (not (eqb required no_type)) → (n : ℕ) → Uniform required 0 (get_or firsts n absent ∷ [])
  required_uniform required h n = record { of_type = λ q. absurd (subst (λ (b : Bool). T (not b)) q h) }

  chosen : (calls : List Call) → T (is_uniform firsts calls) → Chosen calls
  unfolding is_uniform
  chosen calls h =
      or_cases (Chosen calls) (all_equal (present_types no_type firsts) && all (eqb no_type) (required_types firsts calls))
      (all_equal (required_types firsts calls) && all (λ t. not (eqb t no_type)) (required_types firsts calls)) h
      (λ k.
      record {
        required = no_type;
        u = head_or (present_types no_type firsts);
        uniform =
            uniform_at (head_or (present_types no_type firsts))
            (of_one-type (and_l (all_equal (present_types no_type firsts)) (all (eqb no_type) (required_types firsts calls)) k));
        accepted = and_r (all_equal (present_types no_type firsts)) (all (eqb no_type) (required_types firsts calls)) k;
      })
      (λ k.
      same (required_types firsts calls) refl (and_l (all_equal (required_types firsts calls)) (all (λ t. not (eqb t no_type)) (required_types firsts calls)) k)
      (and_r (all_equal (required_types firsts calls)) (all (λ t. not (eqb t no_type)) (required_types firsts calls)) k))
    where
      same : (ts : List ℕ) → required_types firsts calls ≡ ts → T (all_equal ts) → T (all (λ t. not (eqb t no_type)) ts) → Chosen calls
      same [] q h k = record { required = 0; u = 0; uniform = required_uniform 0 tt; accepted = subst (λ (l : List ℕ). T (all (eqb 0) l)) (sym q) tt }
      same (t ∷ ts) q h k =
          record {
            required = t;
            u = 0;
            uniform = required_uniform t (and_l (not (eqb t no_type)) (all (λ t. not (eqb t no_type)) ts) k);
            accepted = subst (λ (l : List ℕ). T (all (eqb t) l)) (sym q) (and_i (eqb t t) (all (eqb t) ts) (eqb_refl t) h);
          }

-- ---- where the one join is also called

result-segment : (c : Column) → T (is_segment (as_segment c))
unfolding is_segment as_segment alive_words record_of
result-segment c = tt

result-standing : (firsts : List Segment) (e : Entry) → e.is_result ≡ true → standing_of firsts e ≡ result (one_join firsts e.required e.sources e.origins)
unfolding standing_of
result-standing firsts e r =
    ap (λ (b : Bool). cond b (result (one_join firsts e.required e.sources e.origins)) (first (get_or firsts (get_or e.sources 0 0) absent))) r

-- a result's place is one of the book's
result-place : (book : List Entry) (k : ℕ) → (get_or book k no_entry).is_result ≡ true → k < length book
result-place [] k r = absurd (false≢true r)
result-place (e ∷ es) zero r = suc-le-suc zero-le
result-place (e ∷ es) (suc k) r = suc-le-suc (result-place es k r)

-- a result's sources are segments
sources-laid : (firsts : List Segment) (required u : ℕ) (e : Entry) → Good firsts required u e → e.is_result ≡ true → (n : ℕ) → Memᴰ n e.sources → T (is_segment (get_or firsts n absent))
sources-laid firsts required u e good r =
    good.laid (subst (λ (x : Standing). T (is_segment (segment_in x))) (sym (result-standing firsts e r)) (result-segment (one_join firsts e.required e.sources e.origins)))

handed-firsts : (firsts : List Segment) (c : Call) → segments_handed c (map first firsts) ≡ segments_at firsts c.handed
handed-firsts firsts c =
    map-map segment_in (λ k. get_or (map first firsts) k (first absent)) c.handed
    ∙ map_mem (λ k. segment_in (get_or (map first firsts) k (first absent))) (λ k. get_or firsts k absent) c.handed (λ k m. ap segment_in (get_or-map first firsts k absent))

module _ (firsts : List Segment) (e : Entry) (c : Call) (laid : (n : ℕ) → Memᴰ n e.sources → T (is_segment (get_or firsts n absent)))
    (at : CallsOneJoin firsts e c) where
  abbrev ss : List Segment
  ss = segments_at firsts c.handed

  called_laid : T (all is_segment ss)
  called_laid =
      all_of is_segment ss
      (λ x m.
      let t = mem_map_back (λ n. get_or firsts n absent) c.handed m in
      subst (λ (y : Segment). T (is_segment y)) (sym t.2)
      (laid t.0 (elem_mem t.0 e.sources (sym (elem-same c.handed e.sources at.sequence t.0) ∙ mem_elem t.0 c.handed t.1))))

  called : answer (input_of (lent_to c ss)) ≡ 0 → (join_of (input_of (lent_to c ss))).column ≡ one_join firsts e.required c.handed e.origins
  unfolding join_rules input_of lent_to flatten row_order one_join
  called a =
      ap (λ (ss : List Segment). joined_column c.required ss (cond (eqb c.mode 0) (stacked_from 0 ss) c.addresses))
      (flatten_back c.mode c.required ss c.addresses (space_of c.buffers) called_laid)
      ∙ go c.mode refl (is-accepted (input_of (lent_to c ss)) a).mode
      ∙ ap (λ (n : ℕ). joined_column n ss (origins_in c.handed e.origins)) at.required
    where
      go : (m : ℕ) → c.mode ≡ m → T (ltb m 2)
          → joined_column c.required ss (cond (eqb m 0) (stacked_from 0 ss) c.addresses) ≡ joined_column c.required ss (origins_in c.handed e.origins)
      go zero q h = ap (joined_column c.required ss) (sym (at.stacked q))
      go (suc zero) q h = ap (joined_column c.required ss) (at.ordered q)
      go (suc (suc m)) q h = absurd (let k : suc (suc m) < 2 = ltb→lt (suc (suc m)) 2 h in omega arith)

  gives-one_join : (n : Numbers) → (call_outcome c (map first firsts)).answer ≡ accepted n
      → read_back n (call_outcome c (map first firsts)).buffers ≡ one_join firsts e.required c.handed e.origins
  unfolding call_outcome call_lent
  gives-one_join n a =
      let q : lent_to c (segments_handed c (map first firsts)) ≡ lent_to c ss = ap (lent_to c) (handed-firsts firsts c) in
      let o = accepted-is (lent_to c ss) n (subst (λ (l : Lent). (join_outcome l).answer ≡ accepted n) q a) in
      ap (λ (l : Lent). read_back n (join_outcome l).buffers) q ∙ o.1 ∙ called o.0

-- ---- the claim

pub joins_in_turn-agree : JoinsInTurnAgree
unfolding JoinsInTurnAgree required_types
joins_in_turn-agree firsts calls hands segments uni =
    record {
      answers = ap (Book.answers_of calls) (sym start) ∙ all-agree.answers;
      standing = stands;
      any_sequence = λ k e sequence r seq. stands_at k e r ∙ ap result (sym (sequence-same k e sequence r seq));
      where_called = λ k e c n r at a.
          gives-one_join firsts e c (sources-laid firsts pick.required pick.u e (good_at k e r) r.is_result) at n a ∙ sequence-same k e c.handed r at.sequence;
    }
  where
    pick : Chosen firsts calls
    pick = chosen firsts calls uni

    start : map (standing_of firsts) (first_entries 0 firsts) ≡ map first firsts
    start = stand-firsts firsts 0 firsts (λ k. ap (λ (n : ℕ). get_or firsts n absent) (sym (zero-add k)))

    all-agree : Agreed firsts pick.required pick.u calls (first_entries 0 firsts)
    all-agree =
        agreed firsts pick.required pick.u calls (first_entries 0 firsts)
        (good_firsts firsts pick.required pick.u pick.uniform 0 firsts (λ k. ap (λ (n : ℕ). get_or firsts n absent) (sym (zero-add k))))
        (subst (Given firsts pick.required pick.u calls) (sym start) (record { hands = hands; segments = segments; accepted = pick.accepted }))

    stands : stands_after calls (map first firsts) ≡ map (standing_of firsts) (book_after firsts calls)
    stands = ap (stands_after calls) (sym start) ∙ all-agree.standing

    place : (k : ℕ) (e : Entry) → ResultStands firsts calls k e → k < length (book_after firsts calls)
    place k e r = result-place (book_after firsts calls) k (ap (λ (x : Entry). x.is_result) r.stands ∙ r.is_result)

    good_at : (k : ℕ) (e : Entry) → ResultStands firsts calls k e → Good firsts pick.required pick.u e
    good_at k e r = all-agree.goods e (Memᴰ.cast (sym r.stands) (mem_at (book_after firsts calls) k no_entry (place k e r)))

    -- what stands in a result's place
    stands_at : (k : ℕ) (e : Entry) → ResultStands firsts calls k e
        → get_or (stands_after calls (map first firsts)) k (first absent) ≡ result (one_join firsts e.required e.sources e.origins)
    stands_at k e r =
        ap (λ (l : List Standing). get_or l k (first absent)) stands
        ∙ get_or_in (standing_of firsts) (book_after firsts calls) k (first absent) no_entry (place k e r)
        ∙ ap (standing_of firsts) r.stands
        ∙ result-standing firsts e r.is_result

    sequence-same : (k : ℕ) (e : Entry) (sequence : List ℕ) → ResultStands firsts calls k e → IsSequenceOf sequence e.sources
        → one_join firsts e.required sequence e.origins ≡ one_join firsts e.required e.sources e.origins
    sequence-same k e sequence r seq =
        let good = good_at k e r in
        ap (λ (n : ℕ). one_join firsts n sequence e.origins) (good.by_call r.is_result)
        ∙ any-sequence firsts pick.required pick.u e good sequence seq
        ∙ ap (λ (n : ℕ). one_join firsts n e.sources e.origins) (sym (good.by_call r.is_result))
