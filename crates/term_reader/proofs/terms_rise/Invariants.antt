-- Each turn ends one term nearer to the last.
use Rattle.std.proofs.Common.{◌-◌, length}
use Rattle.term_reader.proofs.Laws.{Stands}
use Rattle.term_reader.proofs.terms_rise.Given as goal

abbrev pub invariant-loop-reader : goal.invariant-loop-reader
invariant-loop-reader l = Stands l.lengths l.bytes l.reader

abbrev pub decreases-loop-reader : goal.decreases-loop-reader
decreases-loop-reader l = length l.lengths - l.reader.place.ordinal
