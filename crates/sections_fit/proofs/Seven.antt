-- What the checks up to 7 leave to the later ones: an input that passes is as they may count on. Assumes nothing.
use mathlib.Core.Path.{◌≡◌, refl, sym, ◌∙◌}
use mathlib.Core.Bool.{true, false, ◌&&◌}
use mathlib.Core.List.{List}
use Prim.Native.Nat.{ℕ, ◌≤◌, ◌<◌}
use lib.Dec.{leb, ltb→lt}
use lib.ListN.{length}
use borrow.Author.Tests.{ltb-false, leb-true, not-false}
use Rattle.definitions.specs.Segment.{SegmentRecord, Sections, Address, Space, Input, segments_of}
use Rattle.definitions.specs.Checks.{Passed}
use Rattle.definitions.specs.Answer.{total, greatest_sum, too_many_segments, codes_wrong, alive_wrong, plain_checks, checks_to_seven}
use Rattle.definitions.proofs.Accept.{mode_known}
use Rattle.definitions.proofs.Checks.{passes}
use Rattle.sections_fit.specs.Walks.{lengths_right, Exact, sums_right}
use Rattle.sections_fit.proofs.Own.{lengths-wrong, exact, sums_large}
use Rattle.lists.proofs.Tests.{both_true}

-- they read neither the addresses nor the space
pub seven_same : (mode required : ℕ) (rs : List SegmentRecord) (s : Sections) (bs bs' : List Address) (space space' : Space)
    → checks_to_seven (record { mode = mode; required = required; records = rs; sections = s; addresses = bs; space = space })
    ≡ checks_to_seven (record { mode = mode; required = required; records = rs; sections = s; addresses = bs'; space = space' })
unfolding codes_wrong alive_wrong segments_of
seven_same mode required rs s bs bs' space space' = refl

pub known : (i : Input) → Passed (checks_to_seven i) → i.mode < 2
known i p = ltb→lt i.mode 2 (mode_known i p)

pub record Ready (rs : List SegmentRecord) (s : Sections) : Type 0 where
  pub few : length rs ≤ 256
  pub exact : Exact rs s
  pub rows : total (λ (r : SegmentRecord). r.rows) rs ≤ greatest_sum
  pub values : total (λ (r : SegmentRecord). r.values) rs ≤ greatest_sum
  pub bytes : length s.term_bytes ≤ greatest_sum

few_back : (rs : List SegmentRecord) → too_many_segments rs ≡ false → length rs ≤ 256
unfolding too_many_segments
few_back rs h = ltb-false 256 (length rs) h

sums_low : (rows values bytes : ℕ) → sums_right rows values bytes ≡ true → (rows ≤ greatest_sum) × (values ≤ greatest_sum) × (bytes ≤ greatest_sum)
unfolding sums_right
sums_low rows values bytes h =
    let p = both_true (leb rows greatest_sum) (leb values greatest_sum && leb bytes greatest_sum) h in
    let q = both_true (leb values greatest_sum) (leb bytes greatest_sum) p.1 in
    (leb-true rows greatest_sum p.0, leb-true values greatest_sum q.0, leb-true bytes greatest_sum q.1)

pub ready : (rs : List SegmentRecord) (s : Sections) → Passed (plain_checks rs s) → Ready rs s
ready rs s p =
    let rows = total (λ (r : SegmentRecord). r.rows) rs in
    let values = total (λ (r : SegmentRecord). r.values) rs in
    let x = exact rs s (not-false (lengths_right rs s) (sym (lengths-wrong rs s) ∙ passes p 2)) in
    let low = sums_low rows values (length s.term_bytes) (not-false (sums_right rows values (length s.term_bytes)) (sym (sums_large rs s x) ∙ passes p 7)) in
    record { few = few_back rs (passes p 1); exact = x; rows = low.0; values = low.1; bytes = low.2 }
