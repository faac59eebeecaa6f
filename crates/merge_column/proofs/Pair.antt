-- The joined column's least and greatest value: where no held column has an alive set, all their values are joined, and their pairs put together are the joined column's
-- own. Assumes nothing.
use Prim.Native.Nat.{ℕ, ◌<◌}
use native.Mathlib.Nat.{zero-add}
use mathlib.Core.Path.{◌≡◌, refl, sym, ap, ◌∙◌, subst}
use mathlib.Core.List.{List, [], ◌∷◌, map, Memᴰ, map-id}
use mathlib.Core.Bool.{Bool, true, false, cond, ◌||◌, ◌&&◌}
use lib.Dec.{T, eqb}
use lib.Ieee.Fits.{and_r}
use lib.ListN.{length, get_or}
use borrow.Author.Tests.{eqb-true, eqb-false}
use Rattle.definitions.specs.Lists.{all, concat, is_empty, up_to}
use Rattle.definitions.specs.Words.{IpAddr, value_words}
use Rattle.definitions.specs.Segment.{Segment, no_pair, Address, address}
use Rattle.definitions.specs.Row.{row_values, has_alive_set, bit_at, is_alive, is_held, held_of}
use Rattle.definitions.specs.Types.{I64, U64, F64, has_terms, pair_of, is_coercible, coerced}
use Rattle.definitions.specs.Join.{absent, new_word, cell_of, cell_at, row_order, stacked_from, joined_type, terms_of, joined_cells, joined_column, encode, Column}
use Rattle.definitions.specs.Answer.{values_fit, present_types, one_category, all_coercible, types_wrong}
use Rattle.definitions.proofs.Lists.{all_mem, all_of, any_false, any_none, mem_at, mem-filter, filter_back, map_mem, mem_map_back, mem_up_to, up_from-below}
use Rattle.definitions.proofs.Words.{words-plain}
use Rattle.definitions.proofs.Least.{pair_members}
use Rattle.definitions.proofs.Pairs.{held-true, retyped_pair}
use Rattle.definitions.proofs.Group.{held_facts, effective-held, not-held-cell}
use Rattle.definitions.proofs.Accept.{not-false, like-terms, Lists, lists_stacked, lists_ordered}
use Rattle.definitions.proofs.Part.{index_of}
use Rattle.definitions.proofs.Entry.{mem-concat, concat_back}
use Rattle.min_max.specs.Pairs.{pairs_together}
use Rattle.min_max.proofs.AllPairs.{together_values}
use Rattle.segment.specs.Lent.{addresses_of}
use Rattle.stands.specs.Stand.{stand_of}
use Rattle.census.specs.Table.{Table}
use Rattle.merge_type.specs.Parts.{held_pair, is_thinned, any_thinned}
use Rattle.merge_type.proofs.Rules.{Typed, held_at, held-pair-is}
use Rattle.merge_column.specs.Plan.{pair_for}
use Rattle.merge_column.proofs.Values.{all-rows}
use Rattle.merge_column.proofs.Joined.{Rows}

-- ---- values of a type other than F64 and those of terms stay as they are

module _ (to : ℕ) (terms : List (List ℕ)) (no_terms : has_terms to ≡ false) (no-double : eqb to F64 ≡ false) where
  cell_stays : (s : Segment) (r : ℕ) → is_held s ≡ true → T (is_coercible s.type to s.pair) → cell_of to terms s r ≡ row_values s r
  unfolding cell_of new_word coerced
  cell_stays s r h c =
      ap (λ (x : Segment). map (new_word to terms x) (row_values x r)) (effective-held s h)
      ∙ map_mem (new_word to terms s) (λ v. v) (row_values s r) (λ v m. rw (like-terms s.type to s.pair c ∙ no_terms, no-double))
      ∙ map-id (row_values s r)

module _ {stands : List (List ℕ)} {ids offsets values lengths bytes words : List ℕ} {ss : List Segment} (t : Table stands ids offsets values lengths bytes words ss) where
  pub typed : Typed stands ss
  typed =
      record {
        many = t.size;
        type = t.type;
        held = t.held;
        pair = λ k h e. (t.each k h).pair ∙ ap (λ (s : Segment). s.pair) (effective-held (get_or ss k absent) e);
      }

  -- a property of the segment at each place is one of each segment
  at_each : (P : Segment → Type 0) → ((k : ℕ) → k < length ss → P (get_or ss k absent)) → (s : Segment) → Memᴰ s ss → P s
  at_each P f s m = let i = index_of ss m in subst P (i.2 absent) (f i.0 i.1)

  all_fit : T (all values_fit ss)
  all_fit = all_of values_fit ss (at_each (λ (s : Segment). T (values_fit s)) t.worded)

  -- no held column has an alive set
  module _ (thin : any_thinned stands ≡ false) where
    whole-at : (k : ℕ) → k < length ss → is_held (get_or ss k absent) ≡ true → has_alive_set (get_or ss k absent) ≡ false
    unfolding any_thinned is_thinned
    whole-at k h e =
        let s = get_or ss k absent in
        let b = any_false (λ r. is_thinned (stand_of r)) stands {x = get_or stands k []} thin (mem_at stands k [] (subst (λ (n : ℕ). k < n) (sym t.size) h)) in
        let f = (t.each k h).flag ∙ ap (λ (x : Segment). x.flag) (effective-held s e) in
        let q = held_at typed k h ∙ e in
        go (has_alive_set s) (sym (λ i. eqb (f i) 1 && q i) ∙ b)
      where
        go : (b : Bool) → b && true ≡ false → b ≡ false
        go true q = q
        go false q = refl

    module _ {mode : ℕ} {addresses : List (List ℕ)} (r : Rows mode addresses ss) (required : ℕ) (right : types_wrong required ss ≡ false) where
      abbrev to : ℕ
      to = joined_type required ss

      abbrev order : List Address
      order = row_order mode ss (addresses_of addresses)

      lists : Lists ss order
      unfolding row_order
      lists = go (eqb mode 0) refl
        where
          go : (b : Bool) → eqb mode 0 ≡ b → Lists ss (cond b (stacked_from 0 ss) (addresses_of addresses))
          go true e = lists_stacked ss (any_none has_alive_set ss (at_each (λ (s : Segment). has_alive_set s ≡ false) (r.alone (eqb-true mode 0 e))))
          go false e = lists_ordered ss (addresses_of addresses) (r.order (eqb-false mode 0 e))

      becomes : (s : Segment) → Memᴰ s (held_of ss) → T (is_coercible s.type to s.pair)
      unfolding types_wrong all_coercible
      becomes s m =
          all_mem (λ s. is_coercible s.type to s.pair) (held_of ss)
          (and_r (one_category (present_types required ss)) (all_coercible required ss) (not-false (one_category (present_types required ss) && all_coercible required ss) right)) m

      held_mem : (k : ℕ) → k < length ss → is_held (get_or ss k absent) ≡ true → Memᴰ (get_or ss k absent) (held_of ss)
      unfolding held_of
      held_mem k h e = mem-filter is_held ss e (mem_at ss k absent h)

      module _ (no_terms : has_terms to ≡ false) (no-double : eqb to F64 ≡ false) where
        abbrev stored : List ℕ
        stored = concat (map (λ (s : Segment). s.values) (held_of ss))

        abbrev joined : List ℕ
        joined = concat (joined_cells required ss order)

        cell-here : (k x : ℕ) → k < length ss → is_held (get_or ss k absent) ≡ true → cell_at to (terms_of ss) ss (address k x) ≡ row_values (get_or ss k absent) x
        cell-here k x h e = cell_stays to (terms_of ss) no_terms no-double (get_or ss k absent) x e (becomes (get_or ss k absent) (held_mem k h e))

        -- a stored value of a held column is joined
        is-joined : (v : ℕ) → Memᴰ v stored → Memᴰ v joined
        unfolding joined_cells held_of is_alive
        is-joined v m =
            let f = concat_back (λ (s : Segment). s.values) (held_of ss) m in
            let g = filter_back is_held ss f.1 in
            let i = index_of ss g.0 in
            let k = i.0 in
            let s = get_or ss k absent in
            let e : is_held s ≡ true = ap is_held (i.2 absent) ∙ g.1 in
            let vs : Memᴰ v s.values = subst (λ (x : Segment). Memᴰ v x.values) (sym (i.2 absent)) f.2 in
            let row = concat_back (row_values s) (up_to s.rows) (subst (Memᴰ v) (sym (all-rows s (t.fits k i.1))) vs) in
            let l = subst (λ (n : ℕ). row.0 < n) (zero-add s.rows) (up_from-below 0 s.rows row.1) in
            mem-concat (cell_at to (terms_of ss) ss) order
            (lists.every k row.0 i.1 l (ap (λ (b : Bool). cond b (bit_at s.alive row.0) true) (whole-at k i.1 e)))
            (subst (Memᴰ v) (sym (cell-here k row.0 i.1 e)) row.2)

        -- and a joined value is one of them
        is-stored : (v : ℕ) → Memᴰ v joined → Memᴰ v stored
        unfolding joined_cells
        is-stored v m =
            let f = concat_back (cell_at to (terms_of ss) ss) order m in
            let a = f.0 in
            let s = get_or ss a.segment absent in
            let there = lists.alive a f.1 in
            go a there.0 there.1 (is_held s) refl f.2
          where
            go : (a : Address) → a.segment < length ss → a.row < (get_or ss a.segment absent).rows → (b : Bool) → is_held (get_or ss a.segment absent) ≡ b
                → Memᴰ v (cell_at to (terms_of ss) ss a) → Memᴰ v stored
            go a h l true e m =
                let s = get_or ss a.segment absent in
                mem-concat (λ (x : Segment). x.values) (held_of ss) (held_mem a.segment h e)
                (subst (Memᴰ v) (all-rows s (t.fits a.segment h)) (mem-concat (row_values s) (up_to s.rows) (mem_up_to s.rows a.row l) (subst (Memᴰ v) (cell-here a.segment a.row h e) m)))
            go a h l false e m = absurd (mathlib.Core.List.Memᴰ.not-nil (subst (Memᴰ v) (not-held-cell to (terms_of ss) (get_or ss a.segment absent) a.row e) m))

        same-values : pair_of to stored ≡ pair_of to joined
        same-values = pair_members to stored joined is-joined is-stored

        pairs_are : (hs : List Segment) → ((s : Segment) → Memᴰ s hs → s.pair ≡ pair_of to s.values) → map (λ (s : Segment). s.pair) hs ≡ map (pair_of to) (map (λ (s : Segment). s.values) hs)
        pairs_are [] f = refl
        pairs_are (h ∷ hs) f = λ i. f h (mathlib.Core.List.Memᴰ.head refl) i ∷ pairs_are hs (λ s m. f s (mathlib.Core.List.Memᴰ.tail m)) i

        by_pairs : held_pair to stands ≡ pair_of to joined
        unfolding held_of
        by_pairs =
            held-pair-is to typed
            ∙ ap (pairs_together to) (pairs_are (held_of ss) (λ s m. retyped_pair s to (held-true ss all_fit s m) no-double (becomes s m)))
            ∙ together_values to (map (λ (s : Segment). s.values) (held_of ss)) (λ vs m. let q = mem_map_back (λ (s : Segment). s.values) (held_of ss) m in ap is_empty q.2 ∙ (held_facts q.0 (filter_back is_held ss q.1).1).1)
            ∙ same-values

-- ---- the joined column's pair

-- a type has a pair, or it has none whatever the values are
module _ (to : ℕ) where
  other-type : (eqb to I64 || eqb to U64) ≡ false → (vs : List ℕ) (stands : List (List ℕ)) → (pair_of to vs ≡ no_pair) × (held_pair to stands ≡ no_pair)
  unfolding pair_of held_pair pairs_together
  other-type e vs stands = (rw e, rw e)

  integer_type : (P : ℕ → Type 0) → P I64 → P U64 → (eqb to I64 || eqb to U64) ≡ true → P to
  integer_type P p q e = go (eqb to I64) refl e
    where
      go : (b : Bool) → eqb to I64 ≡ b → b || eqb to U64 ≡ true → P to
      go true h k = subst P (sym (eqb-true to I64 h)) p
      go false h k = subst P (sym (eqb-true to U64 k)) q

  pair-words : (vs : List ℕ) → pair_of to (value_words to vs) ≡ pair_of to vs
  pair-words vs = go (eqb to I64 || eqb to U64) refl
    where
      go : (b : Bool) → (eqb to I64 || eqb to U64) ≡ b → pair_of to (value_words to vs) ≡ pair_of to vs
      go true e = ap (pair_of to) (words-plain to (integer_type (λ k. eqb k IpAddr ≡ false) refl refl e) vs)
      go false e = (other-type e (value_words to vs) []).0 ∙ sym (other-type e vs []).0

module _ {stands : List (List ℕ)} {ids offsets values lengths bytes words : List ℕ} {ss : List Segment} (t : Table stands ids offsets values lengths bytes words ss)
    {mode : ℕ} {addresses : List (List ℕ)} (r : Rows mode addresses ss) (required : ℕ) (right : types_wrong required ss ≡ false) where
  abbrev col : Column
  col = joined_column required ss (row_order mode ss (addresses_of addresses))

  held-pair : any_thinned stands ≡ false → held_pair (joined_type required ss) stands ≡ col.pair
  unfolding joined_column encode has_terms
  held-pair thin = go (eqb to' I64 || eqb to' U64) refl
    where
      to' : ℕ
      to' = joined_type required ss

      go : (b : Bool) → (eqb to' I64 || eqb to' U64) ≡ b → held_pair to' stands ≡ pair_of to' (concat (joined_cells required ss (row_order mode ss (addresses_of addresses))))
      go true e = by_pairs t thin r required right (integer_type to' (λ k. has_terms k ≡ false) refl refl e) (integer_type to' (λ k. eqb k F64 ≡ false) refl refl e)
      go false e = (other-type to' e [] stands).1 ∙ sym (other-type to' e (concat (joined_cells required ss (row_order mode ss (addresses_of addresses)))) stands).0

  -- what `joined_pair` finds by the words that were written
  pub pair-joined : {ws : List ℕ} → ws ≡ value_words col.type col.values → pair_for (joined_type required ss) stands ws ≡ col.pair
  unfolding pair_for joined_column encode
  pair-joined {ws} e = go (any_thinned stands) refl
    where
      go : (b : Bool) → any_thinned stands ≡ b → cond b (pair_of (joined_type required ss) ws) (held_pair (joined_type required ss) stands) ≡ col.pair
      go true h = ap (pair_of (joined_type required ss)) e ∙ pair-words (joined_type required ss) col.values
      go false h = held-pair h
