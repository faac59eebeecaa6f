-- The walk's state, and a turn of it. Assumes nothing.
use mathlib.Core.Path.{◌≡◌, refl, sym, ap, ap₂, ◌∙◌, subst}
use mathlib.Core.Logic.{◌⊎◌, inl, inr}
use mathlib.Core.Bool.{Bool, true, false, false≢true}
use mathlib.Core.List.{List, [], ◌∷◌, ◌++◌, map, map-append}
use Prim.Native.Nat.{ℕ, ◌+◌, ◌-◌, ◌≤◌, ◌<◌, zero-le}
use native.Mathlib.Omega.{arith}
use lib.ListN.{length, get_or, set, take, drop, length-drop, length-set, length-append, length-map}
use lib.Seq.{get_or-set_same, get_or-set_other, length-take-le}
use Rattle.definitions.specs.Lists.{has_term, concat}
use Rattle.definitions.specs.Join.{ordinal_of}
use Rattle.definitions.specs.Outcome.{written}
use Rattle.definitions.proofs.Terms.{Before}
use Rattle.term_merger.specs.declared.Heap.{Heap}
use Rattle.term_order.specs.declared.Key.{Key}
use Rattle.term_order.specs.Key.{term_in, keyed, key_at, Inside, AllBytes}
use Rattle.term_order.proofs.Words.{packed, packed-before, packed-same, keyed-at, key-none, bytes-in}
use Rattle.term_merger.specs.declared.Cursor.{Cursor}
use Rattle.term_merger.specs.Order.{cursor_in, no_cursor, key_of, tie_of, TermsInside}
use Rattle.term_merger.proofs.Laws.{Le}
use Rattle.term_walk.specs.declared.Last.{Last}
use Rattle.term_walk.specs.declared.Taken.{Taken}
use Rattle.runs.specs.Put.{put}
use Rattle.term_cursors.specs.Cursors.{cursor_at, length_at, cursor_of, dict_of, term_at, mark_at, terms_in, bytes_in, sum_over}
use Rattle.term_walk.specs.Walk.{Ready, term_of, last_of, Again, Skipped, Added, Took}
use Rattle.term_merger.specs.Live.{Settled, Started, left_of}
use Rattle.term_walk.proofs.Places.{some-cursor, place, apart}
use Rattle.term_cursors.proofs.Cursors.{over-set, dict-length, at-unmarked, at-pos, at-end, at-to, cursor-key, cursor-inside, cursor_term, cursor-length, cursor-more, cursor-fits, left-bytes}
use Rattle.term_walk.proofs.Merge.{bump, bump-there, bump_at, Merging, keep, add, unlike, strictly, Mapped, mapped_add, mapped_keep, LastIs, last_hit, last_miss, last_added, has_self, ordinal-none, ordinal-new, bump-here}
use Rattle.term_walk.proofs.Heaps.{tie_rank, asc-next, asc-count, concat_snoc}
use Rattle.runs.proofs.Written.{written_one, written-more, written-length}
use Rattle.lists.proofs.Numbers.{same?}
use Rattle.lists.proofs.Sums.{sum-at}
use Rattle.term_merger.proofs.Walk.{Holding, top_left, top_least, holding_new}

pub record Going (lengths bytes marks : List ℕ) (all : Bool) (cursors₀ : List Cursor) (lens₀ outs₀ ords₀ : List ℕ)
    (cursors : List Cursor) (lens outs ords : List ℕ) (h : Heap) (l : Last) (P : ℕ → ℕ) (out : List (List ℕ)) : Type 0 where
  pub size : length cursors ≡ 256
  pub are_bytes : AllBytes bytes
  pub cursor : (s : ℕ) → s < 256 → cursor_in cursors s ≡ cursor_of lengths bytes marks all cursors₀ s (P s)
  pub most : (s : ℕ) → P s ≤ left_of cursors₀ s
  pub heap : Holding bytes cursors P (left_of cursors₀) h
  pub merging : Merging (term_at lengths bytes cursors₀) (left_of cursors₀) (mark_at marks all cursors₀) P out
  pub mapped : Mapped (term_at lengths bytes cursors₀) (left_of cursors₀) (mark_at marks all cursors₀) (λ s. (cursor_in cursors₀ s).to) P out ords
  pub others : (j : ℕ) → ((s i : ℕ) → i < left_of cursors₀ s → j ≡ (cursor_in cursors₀ s).to + i → ⊥) → get_or ords j 0 ≡ get_or ords₀ j 0
  pub size-map : length ords ≡ length ords₀
  pub last : LastIs out l.kept.terms (last_of bytes l)
  pub last-key : l.key ≡ key_at bytes l.key.from l.key.till
  pub last_in : Inside bytes l.key
  pub used : l.kept.bytes ≡ length (concat out)
  pub counted : l.kept.copied ≡ length (concat out)
  pub lens_is : lens ≡ written (map length out) lens₀
  pub outs_is : outs ≡ written (concat out) outs₀
  pub size_lens : length lens ≡ length lens₀
  pub size_outs : length outs ≡ length outs₀
  pub room : l.kept.terms + sum_over terms_in cursors ≤ sum_over terms_in cursors₀
  pub space : l.kept.bytes + sum_over (bytes_in lengths) cursors ≤ sum_over (bytes_in lengths) cursors₀

-- what taking one term leaves
pub record Stepped (lengths bytes marks : List ℕ) (all : Bool) (cursors₀ : List Cursor) (lens₀ outs₀ ords : List ℕ) (l : Last) (P : ℕ → ℕ) (s : ℕ) (t : Taken) (lens' outs' : List ℕ) (out : List (List ℕ)) : Type 0 where
  pub merging : Merging (term_at lengths bytes cursors₀) (left_of cursors₀) (mark_at marks all cursors₀) (bump P s) out
  pub mapped : Mapped (term_at lengths bytes cursors₀) (left_of cursors₀) (mark_at marks all cursors₀) (λ x. (cursor_in cursors₀ x).to) (bump P s) out (set ords ((cursor_in cursors₀ s).to + P s) t.ordinal)
  pub last : LastIs out t.last.kept.terms (last_of bytes t.last)
  pub last-key : t.last.key ≡ key_at bytes t.last.key.from t.last.key.till
  pub last_in : Inside bytes t.last.key
  pub used : t.last.kept.bytes ≡ length (concat out)
  pub counted : t.last.kept.copied ≡ length (concat out)
  pub lens_is : lens' ≡ written (map length out) lens₀
  pub outs_is : outs' ≡ written (concat out) outs₀
  pub terms : t.last.kept.terms ≤ l.kept.terms + 1
  pub texts : t.last.kept.bytes ≤ l.kept.bytes + length (term_at lengths bytes cursors₀ s (P s))
  pub small : t.ordinal ≤ length (concat out)

module _ {lengths bytes marks : List ℕ} {all : Bool} {cursors₀ : List Cursor} {lens₀ outs₀ ords₀ : List ℕ} (y : Ready lengths bytes marks all cursors₀ lens₀ outs₀ ords₀)
    {cursors : List Cursor} {lens outs ords : List ℕ} {h : Heap} {l : Last} {P : ℕ → ℕ} {out : List (List ℕ)}
    (g : Going lengths bytes marks all cursors₀ lens₀ outs₀ ords₀ cursors lens outs ords h l P out) where
  abbrev D : ℕ → ℕ → List ℕ
  D = term_at lengths bytes cursors₀

  abbrev N : ℕ → ℕ
  N = left_of cursors₀

  abbrev K : ℕ → ℕ → ℕ
  K = mark_at marks all cursors₀

  abbrev M : ℕ → ℕ
  M x = (cursor_in cursors₀ x).to

  pub in_range : (x : ℕ) → P x < N x → x < 256
  in_range x k = omega (arith, y.size, some-cursor cursors₀ x (P x) k)

  pub going_readable : TermsInside bytes cursors
  unfolding TermsInside
  going_readable x k =
      subst (λ (z : Cursor). Inside bytes z.key) (sym (g.cursor x k))
      (cursor-inside lengths bytes marks all cursors₀ x (y.low x) (y.inside x) (y.fits x) (P x) (g.most x))

  -- the current term of a segment, and its key
  term_is : (x : ℕ) → P x < N x → term_of bytes (cursor_in cursors x) ≡ D x (P x)
  term_is x k =
      ap (term_of bytes) (g.cursor x (in_range x k)) ∙ cursor_term lengths bytes marks all cursors₀ x (y.low x) (y.inside x) (y.fits x) (P x) k

  bytes-is : (x : ℕ) → P x < N x → AllBytes (D x (P x))
  bytes-is x k = subst AllBytes (term_is x k) (bytes-in bytes (cursor_in cursors x).key.from (cursor_in cursors x).key.till g.are_bytes)

  key-held : (x : ℕ) → x < 256 → (cursor_in cursors x).key ≡ key_at bytes (cursor_in cursors x).key.from (cursor_in cursors x).key.till
  key-held x k =
      subst (λ (z : Cursor). z.key ≡ key_at bytes (z.key.from) (z.key.till)) (sym (g.cursor x k)) (cursor-key lengths bytes marks all cursors₀ x (y.low x) (y.inside x) (y.fits x) (P x))

  key-is : (x : ℕ) → P x < N x → keyed bytes (cursor_in cursors x).key ≡ packed (D x (P x))
  key-is x k =
      ap (keyed bytes) (key-held x (in_range x k)) ∙ keyed-at bytes (cursor_in cursors x).key.from (cursor_in cursors x).key.till ∙ ap packed (term_is x k)

  pub unmarked-is : (x : ℕ) → P x < N x → (cursor_in cursors x).unmarked ≡ K x (P x)
  unmarked-is x k = ap (λ (z : Cursor). z.unmarked) (g.cursor x (in_range x k)) ∙ at-unmarked lengths bytes marks all cursors₀ x (y.low x) (y.inside x) (y.fits x) (P x) k

  -- the segment at the top
  module _ (some : 0 < h.len) {s : ℕ} (top : s ≡ get_or h.seg 0 0) where
    pub live : P s < N s
    live = top_left g.heap some top

    pub s_range : s < 256
    s_range = in_range s live

    least : (x : ℕ) → P x < N x → Before (D s (P s)) (D x (P x)) ⊎ ((D s (P s) ≡ D x (P x)) × (K s (P s) ≤ K x (P x)))
    unfolding key_of
    least x k = go (top_least g.heap some top x k)
      where
        go : Le (key_of bytes cursors s) (tie_of cursors s) (key_of bytes cursors x) (tie_of cursors x) → Before (D s (P s)) (D x (P x)) ⊎ ((D s (P s) ≡ D x (P x)) × (K s (P s) ≤ K x (P x)))
        go (inl b) = inl (packed-before (D s (P s)) (D x (P x)) (bytes-is s live) (bytes-is x k) (subst (λ (z : List ℕ). Before z (packed (D x (P x)))) (key-is s live) (subst (λ (z : List ℕ). Before (key_of bytes cursors s) z) (key-is x k) b)))
        go (inr (e, f)) =
            inr (
              packed-same (D s (P s)) (D x (P x)) (bytes-is s live) (bytes-is x k) (sym (key-is s live) ∙ e ∙ key-is x k),
              omega (arith, unmarked-is s live, unmarked-is x k, tie_rank (cursor_in cursors s).unmarked (cursor_in cursors x).unmarked s x f),
            )

    next : P s + 1 < N s → Before (D s (P s)) (D s (P s + 1))
    next k = asc-next (dict_of lengths bytes cursors₀ s) (P s) (y.asc s) (rw (dict-length lengths bytes marks all cursors₀ s (y.low s) (y.inside s) (y.fits s)) k)

    pub cursor-s : cursor_in cursors s ≡ cursor_of lengths bytes marks all cursors₀ s (P s)
    cursor-s = g.cursor s s_range

    term_s : term_of bytes (cursor_in cursors s) ≡ D s (P s)
    term_s = term_is s live

    pub unmarked-s : (cursor_in cursors s).unmarked ≡ K s (P s)
    unmarked-s = unmarked-is s live

    pub place-s : (cursor_in cursors s).to ≡ M s + P s
    place-s = ap (λ (z : Cursor). z.to) cursor-s ∙ at-to lengths bytes marks all cursors₀ s (y.low s) (y.inside s) (y.fits s) (P s)

    pub pos-s : (cursor_in cursors s).pos ≡ (cursor_in cursors₀ s).pos + P s
    pos-s = ap (λ (z : Cursor). z.pos) cursor-s ∙ at-pos lengths bytes marks all cursors₀ s (y.low s) (y.inside s) (y.fits s) (P s)

    pub end-s : (cursor_in cursors s).end ≡ (cursor_in cursors₀ s).end
    end-s = ap (λ (z : Cursor). z.end) cursor-s ∙ at-end lengths bytes marks all cursors₀ s (y.low s) (y.inside s) (y.fits s) (P s)

    pub length-s : get_or lengths (cursor_in cursors s).pos 0 ≡ length (D s (P s))
    length-s = ap (λ (z : Cursor). get_or lengths (z.pos) 0) cursor-s ∙ cursor-length lengths bytes marks all cursors₀ s (y.low s) (y.inside s) (y.fits s) (P s) live

    pub term-inside : Inside bytes (cursor_in cursors s).key × ((cursor_in cursors s).pos < length lengths)
    unfolding TermsInside
    term-inside = (going_readable s s_range, omega (arith, pos-s, live, y.low s, y.inside s))

    -- the length of the term at hand, as its bytes
    span-s : (cursor_in cursors s).key.till - (cursor_in cursors s).key.from ≡ length (D s (P s))
    span-s =
        let a : length (take ((cursor_in cursors s).key.till - (cursor_in cursors s).key.from) (drop (cursor_in cursors s).key.from bytes)) ≡ length (D s (P s)) = ap length term_s in
        let d : length (drop (cursor_in cursors s).key.from bytes) ≡ length bytes - (cursor_in cursors s).key.from = length-drop (cursor_in cursors s).key.from bytes in
        let b : length (take ((cursor_in cursors s).key.till - (cursor_in cursors s).key.from) (drop (cursor_in cursors s).key.from bytes)) ≡ (cursor_in cursors s).key.till - (cursor_in cursors s).key.from =
        length-take-le ((cursor_in cursors s).key.till - (cursor_in cursors s).key.from) (drop (cursor_in cursors s).key.from bytes) (omega (arith, term-inside.0.low, term-inside.0.high)) in
        omega arith

    pub terms-room : l.kept.terms < length lens
    terms-room =
        omega
        (arith, sum-at terms_in cursors s no_cursor (rw g.size s_range), pos-s, end-s, live, g.room, y.terms, g.size_lens, y.low s)

    left-s : bytes_in lengths (cursor_in cursors s) ≡ length (D s (P s)) + bytes_in lengths (cursor_of lengths bytes marks all cursors₀ s (P s + 1))
    left-s = ap (bytes_in lengths) cursor-s ∙ left-bytes lengths bytes marks all cursors₀ s (y.low s) (y.inside s) (y.fits s) (P s) live

    pub texts-room : l.kept.bytes + ((cursor_in cursors s).key.till - (cursor_in cursors s).key.from) ≤ length outs
    texts-room = omega (arith, sum-at (bytes_in lengths) cursors s no_cursor (rw g.size s_range), left-s, span-s, g.space, y.texts, g.size_outs)

    pub fits-s : (cursor_in cursors s).key.till + length_at lengths ((cursor_in cursors s).pos + 1) (cursor_in cursors s).end ≤ length bytes
    fits-s =
        subst (λ (z : Cursor). z.key.till + length_at lengths (z.pos + 1) (z.end) ≤ length bytes) (sym cursor-s)
        (cursor-fits lengths bytes marks all cursors₀ s (y.low s) (y.inside s) (y.fits s) (P s) live)

    pub place_in : (cursor_in cursors s).to < length ords
    place_in = omega (arith, place-s, place y s (P s) live, g.size-map)

    apart-s : (x i : ℕ) → i < P x → M x + i ≡ M s + P s → ⊥
    apart-s x i k e = go (same? x s)
      where
        go : (x ≡ s) ⊎ (x ≡ s → ⊥) → ⊥
        go (inl f) = omega (arith, ap M f, ap P f)
        go (inr d) = apart y x s i (P s) d (omega (arith, g.most x)) live e

    inside-map : M s + P s < length ords
    inside-map = omega (arith, place-s, place_in)

    module _ (t : Taken) (lens' outs' : List ℕ) where
      abbrev Here : List (List ℕ) → Type 0
      Here o' = Stepped lengths bytes marks all cursors₀ lens₀ outs₀ ords l P s t lens' outs' o'

      -- nothing is written
      step_same : t.last ≡ l → lens' ≡ lens → outs' ≡ outs → (K s (P s) ≡ 0 → has_term (D s (P s)) out ≡ true) → t.ordinal ≡ ordinal_of out (D s (P s)) → t.ordinal ≤ length (concat out) → Here out
      step_same e f o m v k =
          record {
            merging = keep D N K P out s g.merging live next least m;
            mapped = mapped_keep D N K M P out ords s t.ordinal inside-map apart-s v g.mapped;
            last = subst (λ (z : Last). LastIs out z.kept.terms (last_of bytes z)) (sym e) g.last;
            last-key = subst (λ (z : Last). z.key ≡ key_at bytes z.key.from z.key.till) (sym e) g.last-key;
            last_in = subst (λ (z : Last). Inside bytes z.key) (sym e) g.last_in;
            used = ap (λ (z : Last). z.kept.bytes) e ∙ g.used;
            counted = ap (λ (z : Last). z.kept.copied) e ∙ g.counted;
            lens_is = f ∙ g.lens_is;
            outs_is = o ∙ g.outs_is;
            terms = omega (arith, ap (λ (z : Last). z.kept.terms) e);
            texts = omega (arith, ap (λ (z : Last). z.kept.bytes) e);
            small = k;
          }

      last-packed : keyed bytes l.key ≡ packed (last_of bytes l)
      last-packed = ap (keyed bytes) g.last-key ∙ keyed-at bytes l.key.from l.key.till

      step_again : Again bytes (cursor_in cursors s) l lens outs t lens' outs' → Here out
      step_again a =
          let e : D s (P s) ≡ last_of bytes l = packed-same (D s (P s)) (last_of bytes l) (bytes-is s live) (bytes-in bytes l.key.from l.key.till g.are_bytes) (sym (key-is s live) ∙ a.same ∙ last-packed) in
          let hit = last_hit out l.kept.terms (last_of bytes l) (D s (P s)) g.last a.some e in
          step_same a.last a.lengths a.texts (λ k. hit.0) (omega (arith, hit.1, a.ordinal)) (omega (arith, a.ordinal, g.last.size, asc-count out g.merging.asc))

      missed : (0 < l.kept.terms → keyed bytes (cursor_in cursors s).key ≡ keyed bytes l.key → ⊥) → has_term (D s (P s)) out ≡ false
      missed d = last_miss out l.kept.terms (last_of bytes l) (D s (P s)) g.last (λ u k. g.merging.below u k s live) (λ p e. d p (key-is s live ∙ ap packed e ∙ sym last-packed))

      step_skip : Skipped bytes (cursor_in cursors s) l lens outs t lens' outs' → Here out
      step_skip a =
          step_same a.last a.lengths a.texts (λ k. absurd (a.unmarked (unmarked-s ∙ k))) (a.ordinal ∙ sym (ordinal-none (D s (P s)) out (missed a.other))) (omega (arith, a.ordinal))

      step_add : Added bytes (cursor_in cursors s) lengths l lens outs t lens' outs' → Here (out ++ (D s (P s) ∷ []))
      step_add a =
          let new : has_term (D s (P s)) out ≡ false = missed a.other in
          let mk : K s (P s) ≡ 0 = sym unmarked-s ∙ a.marked in
          let g₂ : Merging D N K P (out ++ (D s (P s) ∷ [])) = add D N K P out s g.merging live next least mk new in
          let lp : last_of bytes t.last ≡ D s (P s) = ap (λ (k : Key). term_in bytes k.from k.till) a.key ∙ term_s in
          let la : LastIs (out ++ (D s (P s) ∷ [])) (l.kept.terms + 1) (D s (P s)) = last_added out l.kept.terms (last_of bytes l) (D s (P s)) g.last new (strictly D N K P out s g.merging live next least mk new) in
          let us : length (concat (out ++ (D s (P s) ∷ []))) ≡ length (concat out) + length (D s (P s)) = ap length (concat_snoc out (D s (P s))) ∙ length-append (concat out) (D s (P s)) in
          record {
            merging = keep D N K P (out ++ (D s (P s) ∷ [])) s g₂ live next least (λ k. has_self (D s (P s)) out);
            mapped = mapped_keep D N K M P (out ++ (D s (P s) ∷ [])) ords s t.ordinal inside-map apart-s (a.ordinal ∙ g.last.size ∙ sym (ordinal-new (D s (P s)) out new))
                (mapped_add D N K M P out ords (D s (P s)) (unlike D N K P out s g.merging live next least mk new) g.mapped);
            last = subst (λ (z : ℕ). LastIs (out ++ (D s (P s) ∷ [])) z (last_of bytes t.last)) (sym a.terms)
                (subst (λ (z : List ℕ). LastIs (out ++ (D s (P s) ∷ [])) (l.kept.terms + 1) z) (sym lp) la);
            last-key = subst (λ (k : Key). k ≡ key_at bytes k.from k.till) (sym a.key) (key-held s s_range);
            last_in = subst (Inside bytes) (sym a.key) term-inside.0;
            used = omega (arith, a.used, g.used, us, span-s);
            counted = omega (arith, a.copied, g.counted, us, ap length term_s);
            lens_is =
                a.lengths
                ∙ ap₂ (λ (z : List ℕ) (v : ℕ). set z l.kept.terms v) g.lens_is length-s
                ∙ written_one (map length out) lens₀ (length (D s (P s))) l.kept.terms (g.last.size ∙ sym (length-map out length)) (omega (arith, terms-room, g.size_lens))
                ∙ ap (λ (z : List ℕ). written z lens₀) (sym (map-append length out (D s (P s) ∷ [])));
            outs_is =
                a.texts
                ∙ ap₂ (λ (v z : List ℕ). put l.kept.bytes v z) term_s g.outs_is
                ∙ written-more (concat out) (D s (P s)) outs₀ l.kept.bytes g.used
                ∙ ap (λ (z : List ℕ). written z outs₀) (sym (concat_snoc out (D s (P s))));
            terms = omega (arith, a.terms);
            texts = omega (arith, a.used, span-s);
            small = omega (arith, a.ordinal, la.size, asc-count (out ++ (D s (P s) ∷ [])) g₂.asc);
          }

      pub stepped : Took bytes (cursor_in cursors s) lengths l lens outs t lens' outs' → (o' : List (List ℕ)) × Here o'
      stepped (inl a) = (out, step_again a)
      stepped (inr (inl a)) = (out, step_skip a)
      stepped (inr (inr a)) = (out ++ (D s (P s) ∷ []), step_add a)

      pub small-ordinal : {o' : List (List ℕ)} → Here o' → t.ordinal < 4294967296
      small-ordinal st = omega (arith, st.small, st.used, st.texts, g.space, sum-at (bytes_in lengths) cursors s no_cursor (rw g.size s_range), left-s, y.small)

    -- ---- the segment goes on

    -- its next cursor
    abbrev nr : Cursor
    nr = cursor_at lengths bytes marks all (cursor_in cursors s).key.till ((cursor_in cursors s).pos + 1) (cursor_in cursors s).end ((cursor_in cursors s).to + 1)

    module _ {cursors' : List Cursor} (ce : cursors' ≡ set cursors s nr) where
      cursor-new : nr ≡ cursor_of lengths bytes marks all cursors₀ s (P s + 1)
      cursor-new =
          ap (λ (z : Cursor). cursor_at lengths bytes marks all (z.key.till) (z.pos + 1) (z.end) (z.to + 1)) cursor-s
          ∙ cursor-more lengths bytes marks all cursors₀ s (y.low s) (y.inside s) (y.fits s) (P s) live

      new-here : cursor_in (set cursors s nr) s ≡ cursor_of lengths bytes marks all cursors₀ s (P s + 1)
      new-here = get_or-set_same cursors s nr no_cursor (rw g.size s_range) ∙ cursor-new

      cursors_new : (x : ℕ) → x < 256 → cursor_in (set cursors s nr) x ≡ cursor_of lengths bytes marks all cursors₀ x (bump P s x)
      cursors_new x k = go (same? x s)
        where
          go : (x ≡ s) ⊎ (x ≡ s → ⊥) → cursor_in (set cursors s nr) x ≡ cursor_of lengths bytes marks all cursors₀ x (bump P s x)
          go (inl e) =
              ap (λ (z : ℕ). cursor_in (set cursors s nr) z) e ∙ new-here ∙ ap₂ (λ (a b : ℕ). cursor_of lengths bytes marks all cursors₀ a b) (sym e) (sym (bump_at P s x e))
          go (inr d) = get_or-set_other cursors s x nr no_cursor d ∙ g.cursor x k ∙ ap (λ (z : ℕ). cursor_of lengths bytes marks all cursors₀ x z) (sym (bump-there P s x d))

      pub size-new : length cursors' ≡ 256
      size-new = ap length ce ∙ length-set cursors s nr ∙ g.size

      most-new : (x : ℕ) → bump P s x ≤ N x
      most-new x = go (same? x s)
        where
          go : (x ≡ s) ⊎ (x ≡ s → ⊥) → bump P s x ≤ N x
          go (inl e) = omega (arith, bump_at P s x e, ap N e, live)
          go (inr d) = omega (arith, bump-there P s x d, g.most x)

      pub readable-new : TermsInside bytes cursors'
      unfolding TermsInside
      readable-new x k =
          subst (λ (z : Cursor). Inside bytes z.key) (sym (ap (λ (l : List Cursor). cursor_in l x) ce ∙ cursors_new x k))
          (cursor-inside lengths bytes marks all cursors₀ x (y.low x) (y.inside x) (y.fits x) (bump P s x) (most-new x))

      new-pos : (cursor_in (set cursors s nr) s).pos ≡ (cursor_in cursors₀ s).pos + (P s + 1)
      new-pos = ap (λ (z : Cursor). z.pos) new-here ∙ at-pos lengths bytes marks all cursors₀ s (y.low s) (y.inside s) (y.fits s) (P s + 1)

      new-end : (cursor_in (set cursors s nr) s).end ≡ (cursor_in cursors₀ s).end
      new-end = ap (λ (z : Cursor). z.end) new-here ∙ at-end lengths bytes marks all cursors₀ s (y.low s) (y.inside s) (y.fits s) (P s + 1)

      left-new : sum_over terms_in (set cursors s nr) + 1 ≡ sum_over terms_in cursors
      left-new =
          let a : nr.pos ≡ (cursor_in cursors₀ s).pos + (P s + 1) = ap (λ (z : Cursor). z.pos) cursor-new ∙ at-pos lengths bytes marks all cursors₀ s (y.low s) (y.inside s) (y.fits s) (P s + 1) in
          let b : nr.end ≡ (cursor_in cursors₀ s).end = ap (λ (z : Cursor). z.end) cursor-new ∙ at-end lengths bytes marks all cursors₀ s (y.low s) (y.inside s) (y.fits s) (P s + 1) in
          omega (arith, over-set terms_in cursors s nr (rw g.size s_range), pos-s, end-s, live)

      bytes-new : sum_over (bytes_in lengths) (set cursors s nr) + length (D s (P s)) ≡ sum_over (bytes_in lengths) cursors
      bytes-new =
          let a : bytes_in lengths nr ≡ bytes_in lengths (cursor_of lengths bytes marks all cursors₀ s (P s + 1)) = ap (bytes_in lengths) cursor-new in
          omega (arith, over-set (bytes_in lengths) cursors s nr (rw g.size s_range), left-s)

      pub fewer : sum_over terms_in cursors' < sum_over terms_in cursors
      fewer = omega (arith, left-new, ap (sum_over terms_in) ce)

      module _ (t : Taken) (lens' outs' : List ℕ) (o' : List (List ℕ)) (st : Stepped lengths bytes marks all cursors₀ lens₀ outs₀ ords l P s t lens' outs' o') where
        going_set : {seg : List ℕ} {n : ℕ} (to : ℕ) → to ≡ (cursor_in cursors s).to → Settled bytes (set cursors s nr) h.seg h.len seg n
            → Going lengths bytes marks all cursors₀ lens₀ outs₀ ords₀ (set cursors s nr) lens' outs' (set ords to t.ordinal) (record { seg = seg; len = n }) t.last (bump P s) o'
        going_set to te st' =
            let e : to ≡ M s + P s = te ∙ place-s in
            let rm : t.last.kept.terms + sum_over terms_in (set cursors s nr) ≤ sum_over terms_in cursors₀ = omega (arith, st.terms, left-new, g.room) in
            let sp : t.last.kept.bytes + sum_over (bytes_in lengths) (set cursors s nr) ≤ sum_over (bytes_in lengths) cursors₀ = omega (arith, st.texts, bytes-new, g.space) in
            record {
              size = length-set cursors s nr ∙ g.size;
              are_bytes = g.are_bytes;
              cursor = cursors_new;
              most = most-new;
              heap = holding_new g.heap some top nr (bump P s) (bump-there P s) (λ k. omega (arith, new-pos, new-end, bump-here P s)) (λ k. omega (arith, new-pos, new-end, bump-here P s, y.low s)) st';
              merging = st.merging;
              mapped = subst (λ (z : ℕ). Mapped D N K M (bump P s) o' (set ords z t.ordinal)) (sym e) st.mapped;
              others = λ j d. get_or-set_other ords to j t.ordinal 0 (λ f. d s (P s) live (f ∙ e)) ∙ g.others j d;
              size-map = length-set ords to t.ordinal ∙ g.size-map;
              last = st.last;
              last-key = st.last-key;
              last_in = st.last_in;
              used = st.used;
              counted = st.counted;
              lens_is = st.lens_is;
              outs_is = st.outs_is;
              size_lens = ap length st.lens_is ∙ written-length (map length o') lens₀ (rw (length-map o' length) (omega (arith, st.last.size, y.terms)));
              size_outs = ap length st.outs_is ∙ written-length (concat o') outs₀ (omega (arith, st.used, y.texts));
              room = rm;
              space = sp;
            }

        pub going_more : {seg : List ℕ} {n : ℕ} (to : ℕ) → to ≡ (cursor_in cursors s).to → Settled bytes cursors' h.seg h.len seg n
            → Going lengths bytes marks all cursors₀ lens₀ outs₀ ords₀ cursors' lens' outs' (set ords to t.ordinal) (record { seg = seg; len = n }) t.last (bump P s) o'
        going_more {seg} {n} to te st' =
            subst (λ (z : List Cursor). Going lengths bytes marks all cursors₀ lens₀ outs₀ ords₀ z lens' outs' (set ords to t.ordinal) (record { seg = seg; len = n }) t.last (bump P s) o') (sym ce)
            (going_set to te (subst (λ (z : List Cursor). Settled bytes z h.seg h.len seg n) ce st'))

pub going_start : (lengths bytes marks : List ℕ) (all : Bool) (cursors : List Cursor) (lens outs ords : List ℕ) (h : Heap) (l : Last) → Ready lengths bytes marks all cursors lens outs ords → Started bytes cursors h
    → length h.seg ≡ 256 → AllBytes bytes → l.kept.terms ≡ 0 → l.kept.bytes ≡ 0 → l.kept.copied ≡ 0 → l.key ≡ record { from = 0; till = 0; first = 0; second = 0 } → Going lengths bytes marks all cursors lens outs ords cursors lens outs ords h l (λ x. 0) []
going_start lengths bytes marks all cursors lens outs ords h l y st full ab a b c k =
    record {
      size = y.size;
      are_bytes = ab;
      cursor = y.cursor;
      most = λ x. zero-le;
      heap = record { len = st.len; full = full; in_heap_order = st.in_heap_order; holds = st.holds };
      merging =
          record {
            asc = tt;
            sound = λ u e. absurd (false≢true e);
            complete = λ x i k m. absurd (omega arith);
            ahead = λ x i z k m. absurd (omega arith);
            below = λ u e. absurd (false≢true e);
          };
      mapped = λ x i k. absurd (omega arith);
      others = λ j k. refl;
      size-map = refl;
      last = record { size = a; place = λ k. absurd (omega arith); has = λ k. absurd (omega arith); top = λ k. absurd (omega arith) };
      last-key = subst (λ (z : Key). z ≡ key_at bytes z.from z.till) (sym k) (key-none bytes);
      last_in = subst (Inside bytes) (sym k) (record { low = zero-le; high = zero-le });
      used = b;
      counted = c;
      lens_is = refl;
      outs_is = refl;
      size_lens = refl;
      size_outs = refl;
      room = omega arith;
      space = omega arith;
    }
