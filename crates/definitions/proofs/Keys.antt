-- A row's key in the documents' words (01, "Time order", and 02, (e)), for any segment: the key of the last row up to it that has a time, its own
-- among them; else of the first row after it that has one; else before all times. Nothing is asked of the rows that are alive. Assumes nothing.
use Prim.Native.Nat.{ℕ, zero, suc, ◌+◌, ◌-◌, ◌%◌, ◌^◌, ◌≤◌, ◌<◌}
use native.Mathlib.Nat.{le_refl, add-zero, zero-add}
use native.Mathlib.Omega.{arith}
use mathlib.Core.Path.{◌≡◌, refl, sym, ap, ◌∙◌, subst}
use mathlib.Core.List.{List, [], ◌∷◌, ◌++◌, map}
use lib.IntN.{pos, negsuc}
use lib.ListN.{get_or}
use borrow.Author.Tests.{le-leb, lt-leb}
use Rattle.definitions.specs.Lists.{concat, up_from}
use Rattle.definitions.specs.Segment.{Segment, Address}
use Rattle.definitions.specs.Row.{row_values}
use Rattle.definitions.specs.Types.{signed_of}
use Rattle.definitions.specs.Join.{absent}
use Rattle.definitions.specs.TimeOrder.{time_of, key_or, first_key, key_after, key_of}

-- the first time of some rows is the first of all their times
pub first-times : (s : Segment) (rs : List ℕ) → first_key s rs ≡ key_or (concat (map (row_values s) rs)) 0
first-times s [] = refl
first-times s (r ∷ rs) = go (row_values s r) (first-times s rs)
  where
    go : (ws : List ℕ) → first_key s rs ≡ key_or (concat (map (row_values s) rs)) 0 → key_or ws (first_key s rs) ≡ key_or (ws ++ concat (map (row_values s) rs)) 0
    go [] e = e
    go (w ∷ ws) e = refl

-- row r has the time w, and maybe others after it
abbrev pub Timed : Segment → ℕ → ℕ → Type 0
Timed s r w = (ws : List ℕ) × (row_values s r ≡ w ∷ ws)

abbrev pub Untimed : Segment → ℕ → Type 0
Untimed s r = row_values s r ≡ []

module _ (s : Segment) where
  timed : (r w k : ℕ) → Timed s r w → key_or (row_values s r) k ≡ suc (time_of w)
  timed r w k (ws, e) = ap (λ (l : List ℕ). key_or l k) e

  untimed : (r k : ℕ) → Untimed s r → key_or (row_values s r) k ≡ k
  untimed r k e = ap (λ (l : List ℕ). key_or l k) e

  first-from : (w d n m : ℕ) → d < m → Timed s (n + d) w → ((r : ℕ) → n ≤ r → r < n + d → Untimed s r) → first_key s (up_from n m) ≡ suc (time_of w)
  first-from w d n zero l h u = absurd (omega arith)
  first-from w zero n (suc m) l h u = timed n w (first_key s (up_from (suc n) m)) (subst (λ (r : ℕ). Timed s r w) (add-zero n) h)
  first-from w (suc d) n (suc m) l h u =
      let e : n + suc d ≡ suc n + d = omega arith in
      untimed n (first_key s (up_from (suc n) m)) (u n (le_refl n) (omega arith))
      ∙ first-from w d (suc n) m (omega arith) (subst (λ (r : ℕ). Timed s r w) e h) (λ r a b. u r (omega arith) (omega arith))

  none_from : (n m : ℕ) → ((r : ℕ) → n ≤ r → r < n + m → Untimed s r) → first_key s (up_from n m) ≡ 0
  none_from n zero u = refl
  none_from n (suc m) u =
      untimed n (first_key s (up_from (suc n) m)) (u n (le_refl n) (omega arith))
      ∙ none_from (suc n) m (λ r a b. u r (omega arith) (omega arith))

  -- rows without a time keep the key
  keeps : (n m : ℕ) → ((r : ℕ) → n ≤ r → r < n + m → Untimed s r) → key_after s (n + m) ≡ key_after s n
  keeps n zero u = let e : n + 0 ≡ n = omega arith in ap (key_after s) e
  keeps n (suc m) u =
      let e : n + suc m ≡ suc (n + m) = omega arith in
      ap (key_after s) e
      ∙ untimed (n + m) (key_after s (n + m)) (u (n + m) (omega arith) (omega arith))
      ∙ keeps n m (λ r a b. u r a (omega arith))

module _ (ss : List Segment) (a : Address) where
  abbrev s : Segment
  s = get_or ss a.segment absent

  -- its time, else the last time before it in its segment
  pub last_time : (q w : ℕ) → q ≤ a.row → Timed s q w → ((r : ℕ) → q < r → r ≤ a.row → Untimed s r) → key_of ss a ≡ suc (time_of w)
  unfolding key_of
  last_time q w l h u = go a.row l u
    where
      go : (n : ℕ) → q ≤ n → ((r : ℕ) → q < r → r ≤ n → Untimed s r) → key_after s (suc n) ≡ suc (time_of w)
      go n l u =
          let e : suc q + (n - q) ≡ suc n = omega arith in
          ap (key_after s) (sym e) ∙ keeps s (suc q) (n - q) (λ r b c. u r b (omega arith)) ∙ timed s q w (key_after s q) h

  -- else the first time after it in its segment
  pub first_time : (q w : ℕ) → a.row < q → q < s.rows → Timed s q w → ((r : ℕ) → r < q → Untimed s r) → key_of ss a ≡ suc (time_of w)
  unfolding key_of
  first_time q w l k h u = ap (key_after s) (sym (zero-add (suc a.row))) ∙ keeps s 0 (suc a.row) (λ r b c. u r (omega arith)) ∙ first-from s w q 0 s.rows k (subst (λ (r : ℕ). Timed s r w) (sym (zero-add q)) h) (λ r b c. u r (omega arith))

  -- else before all times: no time's key is 0
  pub no_time : a.row < s.rows → ((r : ℕ) → r < s.rows → Untimed s r) → key_of ss a ≡ 0
  unfolding key_of
  no_time l u = ap (key_after s) (sym (zero-add (suc a.row))) ∙ keeps s 0 (suc a.row) (λ r b c. u r (omega arith)) ∙ none_from s 0 s.rows (λ r b c. u r (omega arith))

-- ---- a time's number is its signed value plus 2^63, so the numbers are in the order of two's complement

module _ (w : ℕ) where
  pub time_not_negative : w < 2 ^ 63 → (signed_of w ≡ pos w) × (time_of w ≡ w + 2 ^ 63)
  unfolding signed_of
  time_not_negative h = (rw (lt-leb (2 ^ 63) w h), (let k : w < 9223372036854775808 = h in let e : (w + 9223372036854775808) % 18446744073709551616 ≡ w + 9223372036854775808 = omega arith in e))

  -- such a word stands for w - 2^64
  pub time_negative : 2 ^ 63 ≤ w → w < 2 ^ 64 → (signed_of w ≡ negsuc (2 ^ 64 - suc w)) × (time_of w + suc (2 ^ 64 - suc w) ≡ 2 ^ 63)
  unfolding signed_of
  time_negative h l =
      (rw (le-leb (2 ^ 63) w h), (let k : 9223372036854775808 ≤ w = h in let m : w < 18446744073709551616 = l in let e : (w + 9223372036854775808) % 18446744073709551616 + suc (18446744073709551616 - suc w) ≡ 9223372036854775808 = omega arith in e))
