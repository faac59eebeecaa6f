-- The time order reads neither the type nor the offsets nor the terms of a segment that has passed the checks. Assumes nothing.
use Prim.Native.Nat.{ℕ, zero, suc, ◌-◌, ◌≤◌, ◌<◌, zero-le, suc-le-suc}
use mathlib.Core.Path.{◌≡◌, refl, sym, ap, ap₂, ◌∙◌, subst}
use mathlib.Core.List.{List, [], ◌∷◌, ◌++◌, map}
use mathlib.Core.Bool.{Bool, cond, ◌&&◌, ◌||◌}
use lib.ListN.{length, get_or, length-map}
use lib.Seq.{slice}
use lib.Dec.{T, eqb, ltb}
use Rattle.definitions.specs.Lists.{filter, up_to, not_falling}
use Rattle.definitions.specs.Segment.{Segment, no_pair, Address}
use Rattle.definitions.specs.Row.{row_values, is_alive}
use Rattle.definitions.specs.Join.{absent, rows_of, stacked_from}
use Rattle.definitions.specs.Answer.{index_fits, is_alive_at, alive_addresses}
use Rattle.definitions.specs.TimeOrder.{time_of, key_or, first_key, key_after, key_of, is_before, insert_address, sort_addresses, time_order}
use Rattle.definitions.proofs.TimeOrder.{filter_same}
use Rattle.column_index.specs.Lookup.{Sound}
use Rattle.column_index.proofs.Laws.{row-slice}
use Rattle.column_index.proofs.Sound.{earlier_of}
use Rattle.column_index.proofs.Walk.{fits-sound}
use Rattle.time_checks.proofs.Several.{row-width}
use Rattle.time_cursors.specs.Cursors.{time_kind}
use Rattle.time_cursors.proofs.Keys.{key_grows}
use Rattle.time_order.proofs.Single.{time_sound, start-same, end_same}

-- the segment without its type, offsets, terms and pair
abbrev pub bare : Segment → Segment
bare s = record { type = 0; kind = time_kind s.kind; rows = s.rows; ids = s.ids; offsets = []; values = s.values; terms = []; flag = s.flag; alive_count = s.alive_count; pair = no_pair; alive = s.alive }

-- what the checks say: the lists fit, and no row has several times
pub record Single (s : Segment) : Type 0 where
  pub fits : T (index_fits s)
  pub one : (r : ℕ) → r < s.rows → length (row_values s r) ≤ 1

module _ {s : Segment} (t : Single s) where
  so : Sound s.kind s.rows (length s.values) s.ids s.offsets
  so = fits-sound s t.fits

  single : (r : ℕ) → r < s.rows → earlier_of s.kind s.ids s.offsets (suc r) - earlier_of s.kind s.ids s.offsets r ≤ 1
  single r h = subst (λ (n : ℕ). n ≤ 1) (row-width s so r h) (t.one r h)

  pub bare-sound : Sound (bare s).kind (bare s).rows (length (bare s).values) (bare s).ids []
  bare-sound = time_sound so single

  bare-values : (r : ℕ) → row_values (bare s) r ≡ row_values s r
  bare-values r =
      row-slice (bare s) r bare-sound.current
      ∙ ap₂ (λ (a b : ℕ). slice a b s.values) (start-same so single r) (end_same so single r)
      ∙ sym (row-slice s r so.current)

  first-same : (rs : List ℕ) → first_key (bare s) rs ≡ first_key s rs
  first-same [] = refl
  first-same (r ∷ rs) = ap₂ key_or (bare-values r) (first-same rs)

  bare-key : (n : ℕ) → key_after (bare s) n ≡ key_after s n
  bare-key zero = first-same (up_to s.rows)
  bare-key (suc n) = ap₂ key_or (bare-values n) (bare-key n)

  -- keys don't fall within a segment whose times don't
  pub keys_rise : T (not_falling (map time_of s.values)) → (n m : ℕ) → n ≤ m → m ≤ s.rows → key_after s n ≤ key_after s m
  keys_rise = key_grows s so single

bare-alive : (s : Segment) (r : ℕ) → is_alive (bare s) r ≡ is_alive s r
unfolding is_alive
bare-alive s r = refl

-- what is the same of bare segments is the same at each place of a list
same_at : {A : Type 0} (f : Segment → A) (ss : List Segment) → ((n : ℕ) → n < length ss → f (bare (get_or ss n absent)) ≡ f (get_or ss n absent)) → (n : ℕ) → f (get_or (map bare ss) n absent) ≡ f (get_or ss n absent)
same_at f [] h n = refl
same_at f (s ∷ ss) h zero = h 0 (suc-le-suc zero-le)
same_at f (s ∷ ss) h (suc n) = same_at f ss (λ m l. h (suc m) (suc-le-suc l)) n

module _ (ss : List Segment) (each : (n : ℕ) → n < length ss → Single (get_or ss n absent)) where
  key-same : (a : Address) → key_of (map bare ss) a ≡ key_of ss a
  unfolding key_of
  key-same a = same_at (λ s. key_after s (suc a.row)) ss (λ n h. bare-key (each n h) (suc a.row)) a.segment

  before_same : (a b : Address) → is_before (map bare ss) a b ≡ is_before ss a b
  unfolding is_before
  before_same a b = ap₂ (λ (k l : ℕ). ltb k l || (eqb k l && (ltb a.segment b.segment || (eqb a.segment b.segment && ltb a.row b.row)))) (key-same a) (key-same b)

  insert-same : (a : Address) (bs : List Address) → insert_address (map bare ss) a bs ≡ insert_address ss a bs
  insert-same a [] = refl
  insert-same a (b ∷ bs) = ap₂ (λ (t : Bool) (l : List Address). cond t (a ∷ b ∷ bs) (b ∷ l)) (before_same a b) (insert-same a bs)

  sort_same : (bs : List Address) → sort_addresses (map bare ss) bs ≡ sort_addresses ss bs
  sort_same [] = refl
  sort_same (a ∷ bs) = insert-same a (sort_addresses (map bare ss) bs) ∙ ap (insert_address ss a) (sort_same bs)

  alive-same : (a : Address) → is_alive_at (map bare ss) a ≡ is_alive_at ss a
  unfolding is_alive_at
  alive-same a =
      let s = get_or (map bare ss) a.segment absent in
      ap₂ (λ (n m : ℕ). ltb a.segment n && ltb a.row m && is_alive s a.row) (length-map ss bare) (same_at (λ s. s.rows) ss (λ n h. refl) a.segment)
      ∙ ap (λ (t : Bool). ltb a.segment (length ss) && ltb a.row (get_or ss a.segment absent).rows && t) (same_at (λ s. is_alive s a.row) ss (λ n h. bare-alive (get_or ss n absent) a.row) a.segment)

stacked-same : (n : ℕ) (ss : List Segment) → stacked_from n (map bare ss) ≡ stacked_from n ss
stacked-same n [] = refl
stacked-same n (s ∷ ss) = ap (λ (l : List Address). rows_of n s ++ l) (stacked-same (suc n) ss)

pub order_same : (ss : List Segment) → ((n : ℕ) → n < length ss → Single (get_or ss n absent)) → time_order (map bare ss) ≡ time_order ss
unfolding time_order alive_addresses
order_same ss each =
    sort_same ss each (alive_addresses (map bare ss))
    ∙ ap (sort_addresses ss) (filter_same (is_alive_at (map bare ss)) (is_alive_at ss) (stacked_from 0 (map bare ss)) (alive-same ss each) ∙ ap (filter (is_alive_at ss)) (stacked-same 0 ss))
