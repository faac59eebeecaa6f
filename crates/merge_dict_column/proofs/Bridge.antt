-- The merged dictionary and map are those of the definitions. Assumes nothing.
use mathlib.Core.Path.{◌≡◌, refl, sym, ap, ap₂, ◌∙◌}
use mathlib.Core.Bool.{Bool, true, false, cond}
use mathlib.Core.List.{List, [], ◌∷◌, ◌++◌, map, append_assoc, append-nil}
use Prim.Native.Nat.{ℕ, zero, suc, ◌+◌, ◌-◌, ◌≤◌, ◌<◌, zero-le, suc-le-suc}
use native.Mathlib.Nat.{add-zero}
use native.Mathlib.Omega.{arith}
use lib.Dec.{eqb}
use lib.ListN.{length, get_or, drop, length-drop}
use Rattle.definitions.specs.Lists.{sum, up_from, up_to, filter, concat, sort_terms}
use Rattle.definitions.specs.Segment.{Segment}
use Rattle.definitions.specs.Row.{is_held, as_empty, held_of, has_alive_set}
use Rattle.definitions.specs.Join.{absent, is_used, kept_terms, terms_of, ordinal_of, map_of}
use Rattle.definitions.specs.Answer.{sum_over, terms_in, bytes_in}
use Rattle.definitions.proofs.Group.{effective-held, effective-not}
use Rattle.definitions.proofs.Sections.{cut-length}
use Rattle.lists.proofs.Cuts.{cut-bytes}
use Rattle.lists.proofs.Parts.{run_length}
use Rattle.stands.specs.Stand.{part, many, stand_at}
use Rattle.census.specs.Table.{counted, Table}
use Rattle.lists.proofs.Sums.{below-same}
use Rattle.census.proofs.Table.{terms-held, bytes-held}
use Rattle.term_cursors.specs.Cursors.{unmarked_at}
use Rattle.term_cursors.specs.Runs.{join_to, terms_before, text_before}
use Rattle.term_walk.specs.Walk.{marked_from}
use Rattle.merge_dict_column.specs.Dict.{dict_at, merged_terms, merged_map}

-- ---- marked terms

module _ (marks : List ℕ) (all : Bool) where
  all-marked : (l : List (List ℕ)) (pos : ℕ) → ((i : ℕ) → i < length l → eqb (unmarked_at marks all (pos + i)) 0 ≡ true) → marked_from marks all pos l ≡ l
  all-marked [] pos h = refl
  all-marked (t ∷ ts) pos h =
      let b : eqb (unmarked_at marks all pos) 0 ≡ true = ap (λ (z : ℕ). eqb (unmarked_at marks all z) 0) (sym (add-zero pos)) ∙ h 0 (suc-le-suc zero-le) in
      let r : marked_from marks all (suc pos) ts ≡ ts =
      all-marked ts (suc pos) (λ i k. ap (λ (z : ℕ). eqb (unmarked_at marks all z) 0) (let w : suc pos + i ≡ pos + suc i = omega arith in w) ∙ h (suc i) (suc-le-suc k)) in
      ap (λ (z : Bool). cond z (t ∷ marked_from marks all (suc pos) ts) (marked_from marks all (suc pos) ts)) b ∙ ap (λ (z : List (List ℕ)). t ∷ z) r

  some-marked : (whole l : List (List ℕ)) (pos a : ℕ) → ((i : ℕ) → get_or whole (a + i) [] ≡ get_or l i [])
      → marked_from marks all (pos + a) l ≡ map (λ k. get_or whole k []) (filter (λ k. eqb (unmarked_at marks all (pos + k)) 0) (up_from a (length l)))
  some-marked whole [] pos a h = refl
  some-marked whole (t ∷ ts) pos a h =
      let w : suc (pos + a) ≡ pos + suc a = omega arith in
      let r : marked_from marks all (suc (pos + a)) ts ≡ map (λ k. get_or whole k []) (filter (λ k. eqb (unmarked_at marks all (pos + k)) 0) (up_from (suc a) (length ts))) =
      ap (λ (z : ℕ). marked_from marks all z ts) w
      ∙ some-marked whole ts pos (suc a) (λ i. ap (λ (z : ℕ). get_or whole z []) (let v : suc a + i ≡ a + suc i = omega arith in v) ∙ h (suc i)) in
      let e : get_or whole a [] ≡ t = ap (λ (z : ℕ). get_or whole z []) (sym (add-zero a)) ∙ h 0 in
      go (eqb (unmarked_at marks all (pos + a)) 0) r e
    where
      go : (b : Bool) → marked_from marks all (suc (pos + a)) ts ≡ map (λ k. get_or whole k []) (filter (λ k. eqb (unmarked_at marks all (pos + k)) 0) (up_from (suc a) (length ts))) → get_or whole a [] ≡ t
          → cond b (t ∷ marked_from marks all (suc (pos + a)) ts) (marked_from marks all (suc (pos + a)) ts) ≡ map (λ k. get_or whole k []) (cond b (a ∷ (filter (λ k. eqb (unmarked_at marks all (pos + k)) 0) (up_from (suc a) (length ts)))) (filter (λ k. eqb (unmarked_at marks all (pos + k)) 0) (up_from (suc a) (length ts))))
      go true r e = ap₂ (λ (x : List ℕ) (y : List (List ℕ)). x ∷ y) (sym e) r
      go false r e = r

filter_same : (p q : ℕ → Bool) (a n : ℕ) → ((k : ℕ) → a ≤ k → k < a + n → p k ≡ q k) → filter p (up_from a n) ≡ filter q (up_from a n)
filter_same p q a zero h = refl
filter_same p q a (suc n) h =
    ap₂ (λ (b : Bool) (l : List ℕ). cond b (a ∷ l) l) (h a (omega arith) (omega arith)) (filter_same p q (suc a) n (λ k l m. h k (omega arith) (omega arith)))

-- ---- one list after another

join_shift : {A : Type 0} (g : ℕ → List A) (n : ℕ) → join_to g (suc n) ≡ g 0 ++ join_to (λ s. g (suc s)) n
join_shift g zero = sym (append-nil (g 0))
join_shift g (suc n) = ap (λ l. l ++ g (suc n)) (join_shift g n) ∙ append_assoc (g 0) (join_to (λ s. g (suc s)) n) (g (suc n))

join_held : {A : Type 0} (h : Segment → List A) (ss : List Segment) (g : ℕ → List A) → ((s : ℕ) → s < length ss → g s ≡ cond (is_held (get_or ss s absent)) (h (get_or ss s absent)) [])
    → join_to g (length ss) ≡ concat (map h (filter is_held ss))
join_held h [] g e = refl
join_held h (x ∷ xs) g e =
    join_shift g (length xs)
    ∙ ap₂ (λ a b. a ++ b) (e 0 (suc-le-suc zero-le)) (join_held h xs (λ s. g (suc s)) (λ s k. e (suc s) (suc-le-suc k)))
    ∙ go (is_held x)
  where
    go : (b : Bool) → cond b (h x) [] ++ concat (map h (filter is_held xs)) ≡ concat (map h (cond b (x ∷ filter is_held xs) (filter is_held xs)))
    go true = refl
    go false = refl

-- ---- the dictionary of the definitions

-- a term of a held segment is marked if the segment keeps it
pub record Marked (stands : List (List ℕ)) (marks : List ℕ) (all : Bool) (ss : List Segment) : Type 0 where
  pub mark : (s i : ℕ) → s < length ss → is_held (get_or ss s absent) ≡ true → i < length (get_or ss s absent).terms
      → eqb (unmarked_at marks all ((stand_at stands s).terms.from + i)) 0 ≡ cond (has_alive_set (get_or ss s absent)) (is_used (get_or ss s absent) i) true

module _ {stands : List (List ℕ)} {ids offsets values lengths bytes words : List ℕ} {ss : List Segment} (t : Table stands ids offsets values lengths bytes words ss) where
  dict-is : (s : ℕ) → s < length ss → dict_at stands lengths bytes s ≡ (counted ss s).terms
  unfolding dict_at
  dict-is s l = t.dict s l

  -- by whether it is held
  split : {A : Type 0} (h : Segment → A) (none : A) (g : List (List ℕ) → ℕ → A) (s : ℕ) → s < length ss → g [] s ≡ none → (is_held (get_or ss s absent) ≡ true → g (get_or ss s absent).terms s ≡ h (get_or ss s absent))
      → g (counted ss s).terms s ≡ cond (is_held (get_or ss s absent)) (h (get_or ss s absent)) none
  unfolding as_empty
  split {A} h none g s l z f = go (is_held (get_or ss s absent)) refl
    where
      go : (b : Bool) → is_held (get_or ss s absent) ≡ b → g (counted ss s).terms s ≡ cond b (h (get_or ss s absent)) none
      go true e = ap (λ (y : Segment). g y.terms s) (effective-held (get_or ss s absent) e) ∙ f e
      go false e = ap (λ (y : Segment). g y.terms s) (effective-not (get_or ss s absent) e) ∙ z

  module _ {marks : List ℕ} {all : Bool} (m : Marked stands marks all ss) where
    abbrev pos : ℕ → ℕ
    pos s = (stand_at stands s).terms.from

    kept-held : (s : ℕ) → s < length ss → is_held (get_or ss s absent) ≡ true → marked_from marks all (pos s) (get_or ss s absent).terms ≡ kept_terms (get_or ss s absent)
    unfolding kept_terms
    kept-held s l e = go (has_alive_set (get_or ss s absent)) refl
      where
        go : (b : Bool) → has_alive_set (get_or ss s absent) ≡ b → marked_from marks all (pos s) (get_or ss s absent).terms ≡ cond b (map (λ k. get_or (get_or ss s absent).terms k []) (filter (is_used (get_or ss s absent)) (up_to (length (get_or ss s absent).terms)))) (get_or ss s absent).terms
        go true f =
            ap (λ (z : ℕ). marked_from marks all z (get_or ss s absent).terms) (sym (add-zero (pos s)))
            ∙ some-marked marks all (get_or ss s absent).terms (get_or ss s absent).terms (pos s) 0 (λ i. ap (λ (z : ℕ). get_or (get_or ss s absent).terms z []) (let w : 0 + i ≡ i = omega arith in w))
            ∙ ap (λ (z : List ℕ). map (λ k. get_or (get_or ss s absent).terms k []) z)
            (filter_same (λ k. eqb (unmarked_at marks all (pos s + k)) 0) (is_used (get_or ss s absent)) 0 (length (get_or ss s absent).terms)
            (λ k a c. m.mark s k l e (omega arith) ∙ ap (λ (z : Bool). cond z (is_used (get_or ss s absent) k) true) f))
        go false f = all-marked marks all (get_or ss s absent).terms (pos s) (λ i c. m.mark s i l e c ∙ ap (λ (z : Bool). cond z (is_used (get_or ss s absent) i) true) f)

    pub terms_are : merged_terms stands lengths bytes marks all ≡ terms_of ss
    unfolding merged_terms terms_of held_of
    terms_are =
        ap (λ (n : ℕ). sort_terms (join_to (λ s. marked_from marks all (pos s) (dict_at stands lengths bytes s)) n)) t.size
        ∙ ap sort_terms
        (join_held kept_terms ss (λ s. marked_from marks all (pos s) (dict_at stands lengths bytes s))
        (λ s l. ap (marked_from marks all (pos s)) (dict-is s l) ∙ split kept_terms [] (λ d s. marked_from marks all (pos s) d) s l refl (kept-held s l)))

    pub map_is : merged_map stands lengths bytes marks all ≡ map_of ss
    unfolding merged_map map_of held_of
    map_is =
        ap (λ (o : List (List ℕ)). join_to (λ s. map (ordinal_of o) (dict_at stands lengths bytes s)) (length stands)) terms_are
        ∙ ap (λ (n : ℕ). join_to (λ s. map (ordinal_of (terms_of ss)) (dict_at stands lengths bytes s)) n) t.size
        ∙ join_held (λ x. map (ordinal_of (terms_of ss)) x.terms) ss (λ s. map (ordinal_of (terms_of ss)) (dict_at stands lengths bytes s))
        (λ s l. ap (map (ordinal_of (terms_of ss))) (dict-is s l) ∙ split (λ x. map (ordinal_of (terms_of ss)) x.terms) [] (λ d s. map (ordinal_of (terms_of ss)) d) s l refl (λ e. refl))

  -- ---- the room that the walk needs is the held columns' sums

  pub many_is : (s : ℕ) → s < length ss → many (stand_at stands s).terms ≡ length (counted ss s).terms
  many_is s l =
      sym (run_length (stand_at stands s).terms.from (stand_at stands s).terms.to lengths (t.terms-lie s l).ends)
      ∙ sym (cut-length (part (stand_at stands s).terms lengths) (drop (stand_at stands s).text.from bytes))
      ∙ ap length (t.dict s l)

  text-is : (s : ℕ) → s < length ss → sum (part (stand_at stands s).terms lengths) ≡ length (concat (counted ss s).terms)
  text-is s l =
      let d : length (drop (stand_at stands s).text.from bytes) ≡ length bytes - (stand_at stands s).text.from = length-drop (stand_at stands s).text.from bytes in
      sym (cut-bytes (part (stand_at stands s).terms lengths) (drop (stand_at stands s).text.from bytes) (omega (arith, t.text_in s l)))
      ∙ ap (λ (z : List (List ℕ)). length (concat z)) (t.dict s l)

  -- the number of the held columns' terms
  pub terms-sum : terms_before stands (length stands) ≡ sum_over terms_in (held_of ss)
  terms-sum = ap (terms_before stands) t.size ∙ below-same (λ s. many (stand_at stands s).terms) (λ s. length (counted ss s).terms) (length ss) many_is ∙ terms-held ss

  -- and of their bytes
  pub texts-sum : text_before stands lengths (length stands) ≡ sum_over bytes_in (held_of ss)
  texts-sum =
      ap (text_before stands lengths) t.size
      ∙ below-same (λ s. sum (part (stand_at stands s).terms lengths)) (λ s. length (concat (counted ss s).terms)) (length ss) text-is
      ∙ bytes-held ss
