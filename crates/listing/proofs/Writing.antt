-- A text being written to a page part by part. Assumes nothing.
use mathlib.Core.Path.{◌≡◌, refl, ◌∙◌}
use mathlib.Core.List.{List, [], ◌∷◌, ◌++◌}
use Prim.Native.Nat.{ℕ, ◌+◌}
use native.Mathlib.Omega.{arith}
use lib.ListN.{set}
use Rattle.runs.proofs.Laws.{Filling, fill-from, fill_as, fill_all, fill_room, fill_more, fill_last, fill_done, put_one}
use Rattle.listing.specs.declared.Page.{Page}
use Rattle.listing.specs.Page.{Room, Wrote}

-- of a whole text that began on page p₀, this is still to be put on page p
pub record Writing (whole rest : List ℕ) (p₀ p : Page) : Type 0 where
  pub filling : Filling {A = ℕ} p₀.at whole p₀.out.now rest p.out.now p.at
  pub same : p.out.ghost_name ≡ p₀.out.ghost_name

pub start : {whole : List ℕ} {p : Page} (rest : List ℕ) → Room whole p → whole ≡ rest → Writing whole rest p p
start {whole} {p} rest r e = record { filling = fill_as (fill-from p.at whole p.out.now r.room) rest e; same = refl }

module _ {whole : List ℕ} {p₀ p : Page} where
  pub as_parts : {rest : List ℕ} (rest' : List ℕ) → Writing whole rest p₀ p → rest ≡ rest' → Writing whole rest' p₀ p
  as_parts rest' w e = record { filling = fill_as w.filling rest' e; same = w.same }

  pub room : {a : List ℕ} (b : List ℕ) → Writing whole (a ++ b) p₀ p → Room a p
  room {a} b w = record { room = fill_room w.filling a b refl }

  pub room-last : {rest : List ℕ} → Writing whole rest p₀ p → Room rest p
  room-last w = record { room = fill_all w.filling }

  pub more : {a b : List ℕ} {q : Page} → Writing whole (a ++ b) p₀ p → Wrote a p q → Writing whole b p₀ q
  more {a} {b} {q} w h = record { filling = fill_more w.filling a b refl q.out.now q.at h.at h.out; same = h.same ∙ w.same }

  pub last : {rest : List ℕ} {q : Page} → Writing whole rest p₀ p → Wrote rest p q → Wrote whole p₀ q
  last {rest} {q} w h = let d = fill_last w.filling q.out.now q.at h.at h.out in record { at = d.0; out = d.1; same = h.same ∙ w.same }

  pub done : {rest : List ℕ} → Writing whole rest p₀ p → rest ≡ [] → Wrote whole p₀ p
  done w e = let d = fill_done w.filling e in record { at = d.0; out = d.1; same = w.same }

-- one byte stored
pub put_byte : {b : ℕ} {p q : Page} → Room (b ∷ []) p → q.out.now ≡ set p.out.now p.at b → q.at ≡ p.at + 1 → q.out.ghost_name ≡ p.out.ghost_name → Wrote (b ∷ []) p q
put_byte {b} {p} r o a s = record { at = a; out = o ∙ put_one p.at b p.out.now (omega (arith, r.room)); same = s }
