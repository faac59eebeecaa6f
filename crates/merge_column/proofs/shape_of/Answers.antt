use native.Mathlib.Nat.{mul-le-mul}
use native.Mathlib.Omega.{arith}
use Rattle.merge_column.proofs.Laws.{plan-refused, plan-column}
use mathlib.Core.Path.{ap}
use mathlib.Core.Bool.{not}
use Rattle.merge_column.proofs.shape_of.Goals as goal

pub overflow_mul-x : goal.overflow_mul-x
overflow_mul-x c =
    let k = mul-le-mul c.requires.values_bound c.words_per_value.ensures.upper_bound in record { fits = omega arith }

pub returns-then-not-has_room : goal.returns-then-not-has_room
returns-then-not-has_room c =
    plan-refused c.args.typ c.args.rows c.args.t c.args.space c.class_of-class.ensures c.unless.ensures c.offsets_of.ensures c.words_per_value.ensures.value c.has_room.ensures (ap not c.if-not-has_room.true)

pub returns : goal.returns
returns c =
    plan-column c.args.typ c.args.rows c.args.t c.args.space c.class_of-class.ensures c.unless.ensures c.offsets_of.ensures c.words_per_value.ensures.value c.has_room.ensures (ap not c.if-not-has_room.false)
