-- Where the sections end, which words are a section's, and elements of several words. Assumes nothing.
use mathlib.Core.Path.{◌≡◌, refl, sym, ap, ◌∙◌, subst}
use mathlib.Core.List.{List, [], ◌∷◌, ◌++◌, map}
use mathlib.Core.Bool.{Bool, true, false, cond, ◌&&◌}
use Prim.Native.Nat.{ℕ, zero, suc, ◌+◌, ◌-◌, ◌*◌, ◌/◌, ◌≤◌, ◌<◌}
use native.Mathlib.Nat.{add_comm, suc-mul, zero-mul, le_of_suc-le-suc}
use native.Mathlib.Numerals.{add-one}
use native.Mathlib.Omega.{arith}
use borrow.Author.Tests.{lt-ltb, le-ltb, ltb-true, ltb-false, le-leb, lt-leb, leb-true, leb-false, eq-eqb, ne_eqb}
use lib.Dec.{T, ltb, leb, eqb}
use Rattle.std.specs.Prelude.{Option, None, Some}
use lib.Ieee.Bits.{is_true}
use lib.ListN.{length, drop, take, get_or, set, length-append, length-take, length-drop, drop_of_length-le, get_or-append}
use lib.Seq.{drop-cons, drop-drop, take-take}
use Rattle.definitions.specs.Lists.{all, all_below}
use Rattle.definitions.specs.Segment.{record_width, narrow_numbers}
use Rattle.segment.specs.Records.{row_of}
use Rattle.definitions.specs.Wire.{element_words, sections_by, word_sections, ends_from, section_at, grouped, record_groups, records_narrow, widths_fit, words_fit, address_groups}
use Rattle.lists.proofs.Parts.{part-lent, part_length}
use Rattle.lists.proofs.Lists.{all-at}
use Rattle.wire.proofs.Words.{below_all}
use Rattle.wire.specs.Bounds.{section_end, bounds_of, Bounded, Narrow, NarrowRecords}
use Rattle.runs.specs.Put.{put, Below}
use Rattle.runs.proofs.Laws.{put_one, put-put}

-- ---- one section

module _ (words : List ℕ) (at e : ℕ) where
  -- the words of the section
  abbrev size : ℕ
  size = get_or words at 0 * e

  pub end_out : length words ≤ at → None ≡ section_end e at words
  unfolding section_end
  end_out h = rw (le-ltb at (length words) h)

  pub end_short : at < length words → length words < at + 1 + size → None ≡ section_end e at words
  unfolding section_end
  end_short h k = rw (lt-ltb at (length words) h, lt-leb (at + 1 + size) (length words) k)

  pub end_whole : at < length words → at + 1 + size ≤ length words → Some (at + 1 + size) ≡ section_end e at words
  unfolding section_end
  end_whole h k = rw (lt-ltb at (length words) h, le-leb (at + 1 + size) (length words) k)

  sections-none : (es : List ℕ) → length words ≤ at → sections_by es (drop at words) ≡ []
  unfolding sections_by
  sections-none [] h = refl
  sections-none (x ∷ es) h = rw (drop_of_length-le words h)

  sections-short : (es : List ℕ) → at < length words → length words < at + 1 + size → sections_by (e ∷ es) (drop at words) ≡ []
  unfolding sections_by
  sections-short es h k =
      rw (drop-cons words at 0 h, lt-leb size (length (drop (suc at) words)) (omega (arith, length-drop (suc at) words)))

  sections-more : (es : List ℕ) → at < length words → at + 1 + size ≤ length words
      → sections_by (e ∷ es) (drop at words) ≡ take size (drop (at + 1) words) ∷ sections_by es (drop (at + 1 + size) words)
  unfolding sections_by
  sections-more es h k =
      rw (drop-cons words at 0 h, add-one at, le-leb size (length (drop (suc at) words)) (omega (arith, length-drop (suc at) words)), drop-drop size (suc at) words)

  -- the two ways it goes
  pub record Whole : Type 0 where
    pub below : at < length words
    pub fits : at + 1 + size ≤ length words
    pub end : Some (at + 1 + size) ≡ section_end e at words

  none_go : (es : List ℕ) (t u : Bool) → ltb at (length words) ≡ t → leb (at + 1 + size) (length words) ≡ u → section_end e at words ≡ None → sections_by (e ∷ es) (drop at words) ≡ []
  none_go es false u p q z = sections-none (e ∷ es) (ltb-false at (length words) p)
  none_go es true false p q z = sections-short es (ltb-true at (length words) p) (leb-false (at + 1 + size) (length words) q)
  none_go es true true p q z =
      let w = end_whole (ltb-true at (length words) p) (leb-true (at + 1 + size) (length words) q) in
      absurd (cc)

  pub end-none : (es : List ℕ) → section_end e at words ≡ None → sections_by (e ∷ es) (drop at words) ≡ []
  end-none es z = none_go es (ltb at (length words)) (leb (at + 1 + size) (length words)) refl refl z

  some_go : (t u : Bool) → ltb at (length words) ≡ t → leb (at + 1 + size) (length words) ≡ u → {end : ℕ} → section_end e at words ≡ Some end → Whole
  some_go false u p q z = let n = end_out (ltb-false at (length words) p) in absurd (cc)
  some_go true false p q z = let n = end_short (ltb-true at (length words) p) (leb-false (at + 1 + size) (length words) q) in absurd (cc)
  some_go true true p q z =
      let h = ltb-true at (length words) p in
      let k = leb-true (at + 1 + size) (length words) q in
      record { below = h; fits = k; end = end_whole h k }

  pub end-some : {end : ℕ} → section_end e at words ≡ Some end → Whole
  end-some z = some_go (ltb at (length words)) (leb (at + 1 + size) (length words)) refl refl z

  pub size-length : at + 1 + size ≤ length words → length (take size (drop (at + 1) words)) ≡ size
  size-length k = part_length size (at + 1) words k

  ends_more : (es : List ℕ) (end : ℕ) → section_end e at words ≡ Some end
      → (end ≤ length words) × (ends_from at (sections_by (e ∷ es) (drop at words)) ≡ (end ∷ []) ++ ends_from end (sections_by es (drop end words)))
  unfolding ends_from
  ends_more es end q =
      let w = end-some q in
      let g : Some (at + 1 + size) ≡ Some end = w.end ∙ q in
      let f : end ≡ at + 1 + size = cc in
      (omega (arith, w.fits), rw (f, sections-more es w.below w.fits, size-length w.fits))

-- ---- all sections

pub ends-length : (at : ℕ) (ss : List (List ℕ)) → length (ends_from at ss) ≡ length ss
unfolding ends_from
ends-length at [] = refl
ends-length at (s ∷ ss) = ap suc (ends-length (at + 1 + length s) ss)

count_go : (b : Bool) (s : List ℕ) (r : List (List ℕ)) (n : ℕ) → length r ≤ n → length (cond b (s ∷ r) []) ≤ suc n
count_go true s r n h = omega arith
count_go false s r n h = omega arith

sections-count : (es ws : List ℕ) → length (sections_by es ws) ≤ length es
unfolding sections_by
sections-count [] ws = omega arith
sections-count (e ∷ es) [] = omega arith
sections-count (e ∷ es) (n ∷ ws) = count_go (leb (n * e) (length ws)) (take (n * e) ws) (sections_by es (drop (n * e) ws)) (length es) (sections-count es (drop (n * e) ws))

pub ends-room : (words : List ℕ) → length (ends_from 0 (word_sections words)) ≤ 9
unfolding word_sections
ends-room words = omega (arith, ends-length 0 (sections_by element_words words), sections-count element_words words)

-- what is left of the ends at section k, whose count is word number at
unfoldable pub ends_left : List ℕ → ℕ → ℕ → List ℕ
ends_left words k at = ends_from at (sections_by (drop k element_words) (drop at words))

pub left_start : (words : List ℕ) → ends_from 0 (word_sections words) ≡ ends_left words 0 0
unfolding ends_left word_sections
left_start words = refl

pub left_end : (words : List ℕ) (k at : ℕ) → 9 ≤ k → ends_left words k at ≡ []
unfolding ends_left ends_from sections_by
left_end words k at h = rw (drop_of_length-le element_words {i = k} h)

pub left_cut : (words : List ℕ) (k at : ℕ) → k < 9 → section_end (get_or element_words k 0) at words ≡ None → ends_left words k at ≡ []
unfolding ends_left ends_from
left_cut words k at h q = rw (drop-cons element_words k 0 h, end-none words at (get_or element_words k 0) (drop (suc k) element_words) q)

pub left-more : (words : List ℕ) (k at end : ℕ) → k < 9 → section_end (get_or element_words k 0) at words ≡ Some end
    → (end ≤ length words) × (ends_left words k at ≡ (end ∷ []) ++ ends_left words (k + 1) end)
unfolding ends_left
left-more words k at end h q =
    let m = ends_more words at (get_or element_words k 0) (drop (suc k) element_words) end q in
    (m.0, rw (add-one k, drop-cons element_words k 0 h) m.1)

-- ---- which words are a section's

-- s stands among the words after number from, up to end
pub record Part (words : List ℕ) (from end : ℕ) (s : List ℕ) : Type 0 where
  pub low : from + 1 ≤ end
  pub high : end ≤ length words
  pub list : take (end - (from + 1)) (drop (from + 1) words) ≡ s

parts_cons : (words s : List ℕ) (ss : List (List ℕ)) (at n : ℕ) → at + 1 + n ≤ length words → s ≡ take n (drop (at + 1) words) → length s ≡ n
    → ((k : ℕ) → k < length ss → Part words (get_or ((at + 1 + n) ∷ ends_from (at + 1 + n) ss) k 0) (get_or (ends_from (at + 1 + n) ss) k 0) (get_or ss k []))
    → (k : ℕ) → k < suc (length ss) → Part words (get_or (at ∷ ends_from at (s ∷ ss)) k 0) (get_or (ends_from at (s ∷ ss)) k 0) (get_or (s ∷ ss) k [])
unfolding ends_from
parts_cons words s ss at n h e l f zero k =
    let d : at + 1 + length s - (at + 1) ≡ n = omega arith in
    record { low = omega arith; high = omega arith; list = rw d (sym e) }
parts_cons words s ss at n h e l f (suc j) k = subst (λ (m : ℕ). Part words (get_or ((at + 1 + m) ∷ ends_from (at + 1 + m) ss) j 0) (get_or (ends_from (at + 1 + m) ss) j 0) (get_or ss j [])) (sym l) (f j (le_of_suc-le-suc k))

parts_none : (words : List ℕ) (at k : ℕ) → k < length (sections_by [] (drop at words)) → ⊥
unfolding sections_by
parts_none words at k h = omega arith

-- every section that stands when the first one's count is word number at
abbrev Parts : List ℕ → List ℕ → ℕ → Type 0
Parts words es at =
    (k : ℕ) → k < length (sections_by es (drop at words))
    → Part words (get_or (at ∷ ends_from at (sections_by es (drop at words))) k 0) (get_or (ends_from at (sections_by es (drop at words))) k 0) (get_or (sections_by es (drop at words)) k [])

parts_go : (words es : List ℕ) (at e : ℕ) → Parts words es (at + 1 + size words at e) → (o : Option ℕ) → section_end e at words ≡ o → Parts words (e ∷ es) at
parts_go words es at e f None q k h = absurd (omega (arith, h, ap length (end-none words at e es q)))
parts_go words es at e f (Some end) q k h =
    let w = end-some words at e q in
    let m = sections-more words at e es w.below w.fits in
    rw m (parts_cons words (take (size words at e) (drop (at + 1) words)) (sections_by es (drop (at + 1 + size words at e) words)) at (size words at e) w.fits refl (size-length words at e w.fits) f k (rw m at h))

parts : (words es : List ℕ) (at : ℕ) → Parts words es at
parts words [] at k h = absurd (parts_none words at k h)
parts words (e ∷ es) at k h = parts_go words es at e (parts words es (at + 1 + size words at e)) (section_end e at words) refl k h

-- a section by its bounds
pub part_of : (words bounds : List ℕ) (k : ℕ) → Bounded words bounds → k < length (word_sections words)
    → Part words (get_or bounds k 0) (get_or bounds (k + 1) 0) (section_at (word_sections words) k)
unfolding bounds_of word_sections
part_of words bounds k b h =
    rw (add-one k, b.at k (omega arith), b.at (suc k) (omega arith)) (parts words element_words 0 k h)

-- what section_bounds leaves is such
pub bounded : (words old out : List ℕ) → 10 ≤ length old → out ≡ put 0 (bounds_of words) old → Bounded words out
unfolding put bounds_of
bounded words old out h e =
    record {
      room = rw e (omega (arith, length-append (0 ∷ ends_from 0 (word_sections words)) (drop (0 + length (0 ∷ ends_from 0 (word_sections words))) old), length-drop (0 + length (0 ∷ ends_from 0 (word_sections words))) old, ends-room words));
      at = λ k l. rw e (get_or-append (0 ∷ ends_from 0 (word_sections words)) (drop (0 + length (0 ∷ ends_from 0 (word_sections words))) old) 0 k (omega (arith, ends-length 0 (word_sections words))));
    }

pub last_bound : (words bounds : List ℕ) → Bounded words bounds → length (word_sections words) ≡ 9 → get_or bounds 9 0 ≡ get_or (ends_from 0 (word_sections words)) 8 0
unfolding bounds_of
last_bound words bounds b h = b.at 9 (omega arith)

head_end : (ss : List (List ℕ)) → 0 < length ss → get_or (ends_from 0 ss) 0 0 ≡ 1 + length (section_at ss 0)
unfolding ends_from
head_end [] h = absurd (omega arith)
head_end (s ∷ ss) h = omega arith

pub first_bound : (words bounds : List ℕ) → Bounded words bounds → length (word_sections words) ≡ 9 → get_or bounds 1 0 ≡ 1 + length (section_at (word_sections words) 0)
unfolding bounds_of
first_bound words bounds b h = b.at 1 (omega arith) ∙ head_end (word_sections words) (omega arith)

three_two : (n : ℕ) → eqb (1 + n) 3 ≡ eqb n 2
three_two zero = refl
three_two (suc zero) = refl
three_two (suc (suc zero)) = refl
three_two (suc (suc (suc k))) = ne_eqb (1 + suc (suc (suc k))) 3 (λ e. omega arith) ∙ sym (ne_eqb (suc (suc (suc k))) 2 (λ e. omega arith))

-- what is left to ask of nine sections, by the bounds
pub fit_by_bounds : (words bounds : List ℕ) → Bounded words bounds → length (word_sections words) ≡ 9
    → words_fit words ≡ eqb (get_or bounds 9 0) (length words) && (eqb (get_or bounds 1 0) 3 && widths_fit (word_sections words))
unfolding words_fit
fit_by_bounds words bounds b h =
    rw (eq-eqb (length (word_sections words)) 9 h, last_bound words bounds b h, first_bound words bounds b h, three_two (length (section_at (word_sections words) 0)))

-- ---- elements of several words

pub grouped-length : (e n : ℕ) (l : List ℕ) → length (grouped e n l) ≡ n
unfolding grouped
grouped-length e zero l = refl
grouped-length e (suc n) l = ap suc (grouped-length e n (drop e l))

pub grouped-at : (e n : ℕ) (l : List ℕ) (i : ℕ) → i < n → get_or (grouped e n l) i [] ≡ take e (drop (i * e) l)
unfolding grouped
grouped-at e zero l i h = absurd (omega arith)
grouped-at e (suc n) l zero h = rw (zero-mul e)
grouped-at e (suc n) l (suc i) h =
    let q : e + i * e ≡ suc i * e = add_comm e (i * e) ∙ sym (suc-mul i e) in
    grouped-at e n (drop e l) i (le_of_suc-le-suc h) ∙ ap (take e) (drop-drop (i * e) e l ∙ ap (λ (k : ℕ). drop k l) q)

pub two_at : (l : List ℕ) (k : ℕ) → k + 2 ≤ length l → take 2 (drop k l) ≡ get_or l k 0 ∷ get_or l (k + 1) 0 ∷ []
two_at l k h = rw (add-one k, drop-cons l k 0 (omega arith), drop-cons l (suc k) 0 (omega arith))

pub sections-nine : (words : List ℕ) → length (word_sections words) ≤ 9
unfolding word_sections
sections-nine words = sections-count element_words words

-- what the loop over the sections leaves
pub bounds_done : (words old out : List ℕ) (k : ℕ) → 10 ≤ length old → k + 1 ≡ 1 + length (ends_from 0 (word_sections words)) → out ≡ put 1 (ends_from 0 (word_sections words)) (set old 0 0)
    → (k ≡ length (word_sections words)) × (out ≡ put 0 (bounds_of words) old)
unfolding bounds_of
bounds_done words old out k h e o = (
  omega (arith, ends-length 0 (word_sections words)),
  o ∙ ap (put 1 (ends_from 0 (word_sections words))) (put_one 0 0 old (omega arith)) ∙ put-put 0 (0 ∷ []) old (omega arith) (ends_from 0 (word_sections words)),
)

pub part-short : (words : List ℕ) (from end : ℕ) (s : List ℕ) → Part words from end s → length s ≤ length words
part-short words from end s p = omega (arith, p.low, p.high, ap length p.list, length-take (end - (from + 1)) (drop (from + 1) words), length-drop (from + 1) words)

-- what the fills ask, of a section lent as s
pub fill_ok : (bound k : ℕ) (s words bounds : List ℕ) (room : ℕ) → Narrow words bounds k bound → s ≡ section_at (word_sections words) k → length words ≤ room → Below bound s × (length s ≤ room)
fill_ok bound k s words bounds room n e r =
    (rw e (below_all bound (section_at (word_sections words) k) n.below), omega (arith, ap length e, part-short _ _ _ _ (part_of words bounds k n.bounded n.stands)))

pub group_ok : (e bound k : ℕ) (s words bounds : List ℕ) (room : ℕ) → Narrow words bounds k bound → s ≡ section_at (word_sections words) k → (length s ≤ length words → length s / e ≤ room) → Below bound s × (length s / e ≤ room)
group_ok e bound k s words bounds room n q r =
    let f = fill_ok bound k s words bounds (length words) n q (omega arith) in
    (f.0, r f.1)

pub number_ok : (bound k i : ℕ) (s words bounds : List ℕ) → Narrow words bounds k bound → s ≡ section_at (word_sections words) k → i < length (section_at (word_sections words) k) → get_or s i 0 < bound
number_ok bound k i s words bounds n e h = rw e (below_all bound (section_at (word_sections words) k) n.below i h)

-- ---- records

-- the groups of a section that is lent as s
pub groups_are : (ss : List (List ℕ)) {s : List ℕ} → s ≡ section_at ss 1 → grouped record_width (length s / record_width) s ≡ record_groups ss
unfolding record_groups
groups_are ss e = ap (λ (l : List ℕ). grouped record_width (length l / record_width) l) e

pub records_ok : (s words bounds : List ℕ) (room : ℕ) → NarrowRecords words bounds → s ≡ section_at (word_sections words) 1 → length words / record_width ≤ room
    → (records_narrow (grouped record_width (length s / record_width) s) ≡ true) × (length s / record_width ≤ room)
records_ok s words bounds room n e r =
    let h = part-short _ _ _ _ (part_of words bounds 1 n.bounded n.stands) in
    let l : length s ≤ length words = omega (arith, ap length e) in
    (ap records_narrow (groups_are (word_sections words) e) ∙ n.below, omega arith)

pub records_done : (ss : List (List ℕ)) (s : List ℕ) (old out : List (List ℕ)) → s ≡ section_at ss 1 → out ≡ put 0 (map row_of (grouped record_width (length s / record_width) s)) old
    → (length s / record_width ≡ length (record_groups ss)) × (out ≡ put 0 (map row_of (record_groups ss)) old)
records_done ss s old out e o =
    (sym (grouped-length record_width (length s / record_width) s) ∙ ap length (groups_are ss e), o ∙ ap (λ (g : List (List ℕ)). put 0 (map row_of g) old) (groups_are ss e))

-- the walk over the records
module _ (ws : List ℕ) (i : ℕ) where
  abbrev groups : List (List ℕ)
  groups = grouped record_width (length ws / record_width) ws

  abbrev is_narrow : List ℕ → Bool
  is_narrow g = all_below 4294967296 (take narrow_numbers g)

  -- a record's first numbers, as they are lent
  pub front-is : i < length ws / record_width → take (i * record_width + narrow_numbers - i * record_width) (drop (i * record_width) ws) ≡ take narrow_numbers (get_or groups i [])
  front-is h =
      part-lent (i * record_width) narrow_numbers narrow_numbers ws refl
      ∙ sym (take-take narrow_numbers record_width (drop (i * record_width) ws) (omega arith))
      ∙ ap (take narrow_numbers) (sym (grouped-at record_width (length ws / record_width) ws i h))

  pub narrow_step : i < length ws / record_width → records_narrow (drop i groups) ≡ is_narrow (get_or groups i []) && records_narrow (drop (i + 1) groups)
  unfolding records_narrow
  narrow_step h = ap (all is_narrow) (drop-cons groups i [] (omega (arith, grouped-length record_width (length ws / record_width) ws)) ∙ ap (λ (k : ℕ). get_or groups i [] ∷ drop k groups) (sym (add-one i)))

  pub narrow-end : length ws / record_width ≤ i → records_narrow (drop i groups) ≡ true
  unfolding records_narrow
  narrow-end h = ap (all is_narrow) (drop_of_length-le groups {i = i} (omega (arith, grouped-length record_width (length ws / record_width) ws)))

  -- each of them is narrow where all are
  pub narrow_one : i < length ws / record_width → records_narrow groups ≡ true → is_narrow (get_or groups i []) ≡ true
  unfolding records_narrow
  narrow_one h e = is_true (is_narrow (get_or groups i [])) (all-at is_narrow groups i [] (subst T (sym e) tt) (omega (arith, grouped-length record_width (length ws / record_width) ws)))

pub addresses_done : (ss : List (List ℕ)) (s : List ℕ) (old out : List (List ℕ)) → s ≡ section_at ss 8 → out ≡ put 0 (grouped 2 (length s / 2) s) old → (length s / 2 ≡ length (address_groups ss)) × (out ≡ put 0 (address_groups ss) old)
unfolding address_groups
addresses_done ss s old out e o =
    (sym (grouped-length 2 (length (section_at ss 8) / 2) (section_at ss 8) ∙ ap (λ (l : List ℕ). length l / 2) (sym e)), o ∙ ap (λ (l : List ℕ). put 0 (grouped 2 (length l / 2) l) old) e)
