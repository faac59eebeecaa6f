use mathlib.Core.Path.{◌≡◌}
use Rattle.runs.proofs.Laws.{putting}
use Rattle.column_index_shuffled.specs.Plain.{plain_words}
use Rattle.column_index_shuffled.proofs.write_plain.Given as goal

abbrev pub invariant-loop-j : goal.invariant-loop-j
invariant-loop-j l = l.out_values ≡ putting 0 (plain_words l.stands l.values l.addresses) l.initial.out_values l.j
