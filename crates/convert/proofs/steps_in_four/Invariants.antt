use mathlib.Core.Path.{◌≡◌}
use Prim.Native.Nat.{◌+◌, ◌-◌, ◌*◌, ◌≤◌}
use lib.ListN.{drop}
use Rattle.convert.specs.Risen.{rises, falls}
use Rattle.convert.proofs.steps_in_four.Given as goal

abbrev pub invariant-loop-i : goal.invariant-loop-i
invariant-loop-i l =
    let j = l.i - 1 in
    (l.s.risen + (rises (drop j l.a) + rises (drop j l.b) + rises (drop j l.c) + rises (drop j l.d)) ≡ rises l.a + rises l.b + rises l.c + rises l.d)
    × (l.s.fallen + (falls (drop j l.a) + falls (drop j l.b) + falls (drop j l.c) + falls (drop j l.d)) ≡ falls l.a + falls l.b + falls l.c + falls l.d)
    × (l.s.risen ≤ 4 * j)
    × (l.s.fallen ≤ 4 * j)
