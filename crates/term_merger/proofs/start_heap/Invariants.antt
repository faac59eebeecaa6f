use Rattle.term_merger.proofs.Begun.{Begun}
use Rattle.term_merger.proofs.start_heap.Given as goal

abbrev pub invariant-loop-s : goal.invariant-loop-s
invariant-loop-s l = Begun l.bytes l.cursors l.h l.s
