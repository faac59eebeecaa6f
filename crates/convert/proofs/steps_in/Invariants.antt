use Rattle.std.proofs.Common.{◌≡◌, ◌+◌, ◌≤◌, length}
use Rattle.std.specs.Slice.Iter.{windows_size, windows_rest}
use Rattle.convert.specs.Risen.{rises, falls}
use Rattle.convert.proofs.steps_in.Given as goal

abbrev pub invariant-loop-pair : goal.invariant-loop-pair
invariant-loop-pair l =
    let rest = windows_rest l.pair-iterator in
    (windows_size l.pair-iterator ≡ 2)
    × (l.s.risen + rises rest ≡ rises l.offsets)
    × (l.s.fallen + falls rest ≡ falls l.offsets)
    × (l.s.risen + length rest ≤ length l.offsets)
    × (l.s.fallen + length rest ≤ length l.offsets)
