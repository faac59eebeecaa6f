use mathlib.Core.Path.{◌≡◌}
use Rattle.definitions.specs.Wire.{words_of}
use Rattle.runs.proofs.Laws.{putting}
use Rattle.wire.proofs.read_words.Given as goal

abbrev pub invariant-loop-i : goal.invariant-loop-i
invariant-loop-i l = l.words ≡ putting 0 (words_of l.input) l.initial.words l.i
