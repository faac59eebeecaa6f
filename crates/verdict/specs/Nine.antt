-- The definitions' answer, cut at check 9. Assumes nothing.
use Rattle.std.specs.Prelude.{ℕ, List, ◌++◌}
use Rattle.definitions.specs.Segment.{Input}
use Rattle.definitions.specs.Checks.{Check, first_of}
use Rattle.definitions.specs.Answer.{checks_to_seven, order_checks}

abbrev pub checks_to_nine : Input → List Check
checks_to_nine i = checks_to_seven i ++ order_checks i

unfoldable pub answer_to_nine : Input → ℕ
answer_to_nine i = first_of (checks_to_nine i)
