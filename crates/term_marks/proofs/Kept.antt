-- What the marks say of a segment's term, and what the checks give the marks pass. Assumes nothing.
use mathlib.Core.Path.{◌≡◌, refl, sym, ap, ◌∙◌, subst}
use mathlib.Core.Bool.{Bool, true, false, cond, not, ◌&&◌, ◌||◌}
use mathlib.Core.List.{List, [], ◌∷◌}
use Prim.Native.Nat.{ℕ, zero, suc, ◌+◌, ◌≤◌, ◌<◌, suc-le-suc, zero-le}
use native.Mathlib.Nat.{le_of_suc-le-suc}
use native.Mathlib.Omega.{arith}
use lib.Dec.{T, eqb, ltb, ltb→lt}
use lib.ListN.{length, get_or, replicate}
use Rattle.definitions.specs.Lists.{is_empty}
use Rattle.definitions.specs.Words.{IpAddr}
use Rattle.definitions.specs.Segment.{Segment}
use Rattle.definitions.specs.Row.{row_values, has_alive_set, is_alive, alive_rows}
use Rattle.definitions.specs.Types.{has_terms}
use Rattle.definitions.specs.Join.{is_used}
use Rattle.definitions.specs.Answer.{index_fits, values_fit}
use Rattle.definitions.proofs.Fit.{fit_values}
use Rattle.definitions.proofs.Words.{values-plain, terms-plain}
use Rattle.runs.specs.Put.{Below}
use Rattle.column_index.proofs.Walk.{fits-sound}
use Rattle.stands.specs.declared.Stand.{Stand}
use Rattle.stands.specs.Stand.{many, Lies, stand_of, stand_at}
use Rattle.stands.specs.Look.{ids_at, offsets_at, values_at, pair_at, alive_set_at}
use Rattle.stands.proofs.Bridge.{Stands}
use Rattle.term_cursors.specs.Cursors.{unmarked_at}
use Rattle.term_marks.specs.Marks.{column_at, bit, is_kept, marked_in, marked_all, Marking, Usable, Columns, Apart}
use Rattle.term_marks.proofs.Laws.{lies_as, in_length, in_before, in_behind, in_at}
use Rattle.lists.proofs.Parts.{run_length}
use Rattle.lists.proofs.Lists.{all-at, zeros-at}

-- ---- a mark

pub unmarked-is : (marks : List ℕ) (at : ℕ) (b : Bool) → get_or marks at 0 ≡ bit b → eqb (unmarked_at marks false at) 0 ≡ b
unfolding unmarked_at
unmarked-is marks at b e = ap (λ (n : ℕ). eqb (cond (eqb n 0) 1 0) 0) e ∙ go b
  where
    go : (b : Bool) → eqb (cond (eqb (bit b) 0) 1 0) 0 ≡ b
    go true = refl
    go false = refl

apart-rest : {r : List ℕ} {rs : List (List ℕ)} → Apart (r ∷ rs) → Apart rs
apart-rest a = record { apart = λ j k h l. a.apart (suc j) (suc k) (suc-le-suc h) (suc-le-suc l) }

module _ (ids offsets values alive : List ℕ) where
  -- the segments behind the first
  columns-rest : {r : List ℕ} {rs : List (List ℕ)} {marks : List ℕ} → Columns (r ∷ rs) ids offsets values alive marks → Columns rs ids offsets values alive (marked_in (stand_of r) ids offsets values alive marks)
  columns-rest {r} {marks} c =
      record {
        usable = λ k l. c.usable (suc k) (suc-le-suc l);
        terms-lie = λ k l. lies_as (c.terms-lie (suc k) (suc-le-suc l)) (in_length (stand_of r) ids offsets values alive marks (c.terms-lie 0 (suc-le-suc zero-le)));
      }

  pub marked-length : (stands : List (List ℕ)) (marks : List ℕ) → Columns stands ids offsets values alive marks → length (marked_all stands ids offsets values alive marks) ≡ length marks
  unfolding marked_all
  marked-length [] marks c = refl
  marked-length (r ∷ rs) marks c = marked-length rs _ (columns-rest c) ∙ in_length (stand_of r) ids offsets values alive marks (c.terms-lie 0 (suc-le-suc zero-le))

  -- a mark before all terms of the segments is left
  marked-before : (stands : List (List ℕ)) (marks : List ℕ) → Columns stands ids offsets values alive marks → (x : ℕ) → ((k : ℕ) → k < length stands → x < (stand_at stands k).terms.from)
      → get_or (marked_all stands ids offsets values alive marks) x 0 ≡ get_or marks x 0
  unfolding marked_all
  marked-before [] marks c x h = refl
  marked-before (r ∷ rs) marks c x h =
      marked-before rs _ (columns-rest c) x (λ k l. h (suc k) (suc-le-suc l))
      ∙ in_before (stand_of r) ids offsets values alive marks (c.terms-lie 0 (suc-le-suc zero-le)) x (h 0 (suc-le-suc zero-le))

  -- where nothing is marked from the segments' terms on
  marked-at : (stands : List (List ℕ)) (marks : List ℕ) → Apart stands → Columns stands ids offsets values alive marks → ((k : ℕ) → k < length stands → (x : ℕ) → (stand_at stands k).terms.from ≤ x → get_or marks x 0 ≡ 0)
      → (s i : ℕ) → s < length stands → i < many (stand_at stands s).terms → get_or (marked_all stands ids offsets values alive marks) ((stand_at stands s).terms.from + i) 0 ≡ bit (is_kept (column_at (stand_at stands s) ids offsets values alive) i)
  unfolding marked_all
  marked-at [] marks a c z s i h l = absurd (omega arith)
  marked-at (r ∷ rs) marks a c z zero i h l =
      marked-before rs _ (columns-rest c) ((stand_of r).terms.from + i) (λ k m. omega (arith, a.apart 0 (suc k) (suc-le-suc zero-le) (suc-le-suc m)))
      ∙ in_at (stand_of r) ids offsets values alive marks (c.terms-lie 0 h) i l (z 0 h ((stand_of r).terms.from + i) (omega arith)) (λ e. ((c.usable 0 h).marking e (omega arith)).sound.current)
  marked-at (r ∷ rs) marks a c z (suc s) i h l =
      marked-at rs _ (apart-rest a) (columns-rest c)
      (λ k m x e. in_behind (stand_of r) ids offsets values alive marks (c.terms-lie 0 (suc-le-suc zero-le)) x (omega (arith, a.apart 0 (suc k) (suc-le-suc zero-le) (suc-le-suc m))) ∙ z (suc k) (suc-le-suc m) x e)
      s i (le_of_suc-le-suc h) l

  -- the mark of a segment's term tells whether the segment keeps it
  pub mark-at : {stands : List (List ℕ)} {marks : List ℕ} (n : ℕ) → Apart stands → Columns stands ids offsets values alive marks → marks ≡ replicate n 0 → (s i : ℕ) → s < length stands → i < many (stand_at stands s).terms
      → get_or (marked_all stands ids offsets values alive marks) ((stand_at stands s).terms.from + i) 0 ≡ bit (is_kept (column_at (stand_at stands s) ids offsets values alive) i)
  mark-at {stands} {marks} n a c e s i h l = marked-at stands marks a c (λ k m x g. ap (λ (y : List ℕ). get_or y x 0) e ∙ zeros-at n x) s i h l

-- ---- what check 5 says of a segment that has terms

-- its type is one that has them
of_terms : (s : Segment) → T (values_fit s) → 0 < length s.terms → has_terms s.type ≡ true
of_terms s fit pos = go s.terms (has_terms s.type) pos (fit_values s fit).typed
  where
    go : (ts : List (List ℕ)) (b : Bool) → 0 < length ts → T (is_empty ts || (b && not (eqb s.kind 0))) → b ≡ true
    go [] b z h = absurd (omega arith)
    go (t ∷ ts) true z h = refl
    go (t ∷ ts) false z h = absurd h

-- its values are ordinals
ordinals-below : (s : Segment) → T (values_fit s) → 0 < length s.terms → Below (length s.terms) s.values
ordinals-below s fit pos k h =
    ltb→lt (get_or s.values k 0) (length s.terms)
    (all-at (λ w. ltb w (length s.terms)) s.values k 0 ((fit_values s fit).ordinals (of_terms s fit pos)) h)

-- its values have one word each
pub words_single : (s : Segment) → T (values_fit s) → 0 < length s.terms → eqb s.type IpAddr ≡ false
words_single s fit pos = terms-plain s.type (of_terms s fit pos)

-- ---- the segment that stands there

module _ {p : Stand} {ids offsets values words : List ℕ} {s : Segment} (st : Stands p ids offsets values words s) (plain : eqb s.type IpAddr ≡ false) where
  column-is : record { type = s.type; kind = p.kind; rows = p.rows; ids = ids_at p ids; offsets = offsets_at p offsets; values = values_at p values; terms = s.terms; flag = p.flag; alive_count = p.live; pair = pair_at p; alive = alive_set_at p words } ≡ s
  column-is =
      λ i.
      record {
        type = s.type;
        kind = st.kind i;
        rows = st.rows i;
        ids = st.ids_are i;
        offsets = st.offsets_are i;
        values = (sym (values-plain s.type plain (values_at p values)) ∙ st.values_are) i;
        terms = s.terms;
        flag = st.flag i;
        alive_count = st.live i;
        pair = st.pair i;
        alive = st.alive_are i;
      }

  pub kept-is : (i : ℕ) → is_kept (column_at p ids offsets values words) i ≡ cond (has_alive_set s) (is_used s i) true
  unfolding is_kept is_used row_values alive_rows is_alive
  kept-is i = ap (λ (z : Segment). is_kept z i) column-is

-- ---- what the checks give the marks pass

-- a segment that passed the checks stands at p, its terms' marks too
pub record Checked (p : Stand) (ids offsets values words marks : List ℕ) (s : Segment) : Type 0 where
  pub stands : Stands p ids offsets values words s
  pub lists : T (index_fits s)
  pub ordinals : T (values_fit s)
  pub few : s.rows < 4294967296
  pub terms : many p.terms ≡ length s.terms
  pub terms-lie : Lies p.terms marks

usable_of : {p : Stand} {ids offsets values words marks : List ℕ} {s : Segment} → Checked p ids offsets values words marks s → Usable p ids offsets values words (many p.terms)
usable_of {p} {words} {s} d =
    let st = d.stands in
    record {
      lying = record { ids-lie = st.ids-lie; offsets-lie = st.offsets-lie; values-lie = st.values-lie; alive-lie = st.alive-lie };
      marking = λ e pos.
          subst (λ (z : Segment). Marking z.kind z.rows z.ids z.offsets z.values z.alive (many p.terms)) (sym (column-is st (words_single s d.ordinals (omega (arith, d.terms)))))
          (record {
            sound = fits-sound s d.lists;
            words = omega (arith, st.enough (sym st.flag ∙ e), ap length st.alive_are, run_length p.alive.from p.alive.to words st.alive-lie.ends);
            ordinals = subst (λ (n : ℕ). Below n s.values) (sym d.terms) (ordinals-below s d.ordinals (omega (arith, d.terms)));
            few = d.few;
          });
    }

pub columns_of : {stands : List (List ℕ)} {ids offsets values words marks : List ℕ} (t : ℕ → Segment)
    → ((k : ℕ) → k < length stands → Checked (stand_at stands k) ids offsets values words marks (t k)) → Columns stands ids offsets values words marks
columns_of t d = record { usable = λ k h. usable_of (d k h); terms-lie = λ k h. (d k h).terms-lie }
