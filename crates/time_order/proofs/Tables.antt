-- The table that the pass over the records leaves. Assumes nothing.
use Prim.Native.Nat.{ℕ, ◌≤◌}
use native.Mathlib.Omega.{arith}
use mathlib.Core.Path.{sym, subst}
use mathlib.Core.List.{List}
use lib.ListN.{length, get_or}
use Rattle.definitions.specs.Segment.{Segment}
use Rattle.definitions.specs.Join.{absent}
use Rattle.stands.specs.Stand.{stands_in}
use Rattle.stands.proofs.Fill.{many-stands}
use Rattle.term_order.specs.Key.{Inside}
use Rattle.term_merger.specs.declared.Cursor.{Cursor}
use Rattle.term_merger.specs.Order.{TermsInside}
use Rattle.time_cursors.specs.Cursors.{next_row, first_from}
use Rattle.time_merge.specs.Order.{Ready, Begins}
use Rattle.time_merge.proofs.Keyed.{cursor-inside}

pub few-records : (records : List (List ℕ)) {ids values alive : List ℕ} → Ready (stands_in records) ids values alive → length records ≤ 256
few-records records y = omega (arith, y.few, many-stands records)

pub begins_readable : {ss : List Segment} (bytes : List ℕ) {cursors : List Cursor} → Begins ss cursors → TermsInside bytes cursors
unfolding TermsInside first_from
begins_readable {ss} bytes b x l =
    let s = get_or ss x absent in
    subst (λ (r : Cursor). Inside bytes r.key) (sym (b.cursor x l)) (cursor-inside s (next_row s.flag s.alive s.rows 0) bytes)
