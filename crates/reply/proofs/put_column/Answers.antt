use mathlib.Core.Path.{◌≡◌, ap}
use mathlib.Core.List.{List}
use Prim.Native.Nat.{ℕ, ◌*◌, ◌≤◌}
use native.Mathlib.Omega.{arith}
use lib.ListN.{length, take}
use Rattle.definitions.specs.Words.{words_per_value}
use Rattle.definitions.specs.Segment.{cut}
use Rattle.definitions.specs.Listing.{accepted_text, answer_text}
use Rattle.definitions.specs.Outcome.{accepted, Buffers, Numbers}
use Rattle.listing.specs.Shown.{outputs}
use Rattle.listing.proofs.Outcome as outcome
use Rattle.merge.specs.Whole.{numbers_in}
use Rattle.reply.proofs.put_column.Goals as goal

-- the text that the code writes, which has counted u words to a value
abbrev written : Numbers → Buffers → ℕ → List ℕ
written n b u = accepted_text n.type n.class n.rows (take n.ids b.ids) (take n.offsets b.offsets) n.values (take (n.values * u) b.values) (cut (take n.terms b.term_lengths) b.term_bytes) (take n.map b.map)

written_is : (n : Numbers) (b : Buffers) {u : ℕ} → u ≡ words_per_value n.type → written n b u ≡ answer_text b (accepted n)
written_is n b e = ap (written n b) e

words : (n room : ℕ) {u w : ℕ} → u ≡ w → n * w ≤ room → n * u ≤ room
words n room e h = rw (← e) at h

pub put_accepted-requires-clause-map_in_bounds : goal.put_accepted-requires-clause-map_in_bounds
put_accepted-requires-clause-map_in_bounds c =
    let n = numbers_in c.args.n in
    let b = outputs c.args.ids.now c.args.offsets.now c.args.values.now c.args.lengths.now c.args.bytes.now c.args.map.now in
    omega (arith, ap length (written_is n b c.words_per_value.ensures.value), outcome.text-room b (accepted n) c.requires.short, c.requires.in_bounds)
