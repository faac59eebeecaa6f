use borrow.Author.Rules.{rules}
use native.Mathlib.Omega.{arith}
use Prim.Native.Nat.{◌<◌, ◌+◌}
use lib.ListN.{length}
use mathlib.Core.Path.{sym, ◌∙◌, refl}
use Rattle.column_index.proofs.Laws.{range_empty, range_full, range_none, range_optional, range_multi, listed_below}
use Rattle.column_index.proofs.value_range.Goals as goal

pub returns-in-0-clause-start_value : goal.returns-in-0-clause-start_value
returns-in-0-clause-start_value c = (range_empty _ _ _ _ c.in-0.is).0

pub returns-in-0-clause-end_value : goal.returns-in-0-clause-end_value
returns-in-0-clause-end_value c = (range_empty _ _ _ _ c.in-0.is).1

pub returns-in-1-clause-start_value : goal.returns-in-1-clause-start_value
returns-in-1-clause-start_value c = (range_full _ _ _ _ _ c.in-1.is refl).0

pub returns-in-1-clause-end_value : goal.returns-in-1-clause-end_value
returns-in-1-clause-end_value c = (range_full _ _ _ _ _ c.in-1.is refl).1

pub returns-then-not-is_listed-clause-start_value : goal.returns-then-not-is_listed-clause-start_value
returns-then-not-is_listed-clause-start_value c =
    (range_none c.args.kind c.args.ids.now c.args.offsets.now c.args.row (λ e. omega arith) (λ e. omega arith) (sym c.if-not-is_listed.true ∙ c.is_listed.ensures)).0

pub returns-then-not-is_listed-clause-end_value : goal.returns-then-not-is_listed-clause-end_value
returns-then-not-is_listed-clause-end_value c =
    (range_none c.args.kind c.args.ids.now c.args.offsets.now c.args.row (λ e. omega arith) (λ e. omega arith) (sym c.if-not-is_listed.true ∙ c.is_listed.ensures)).1

pub overflow_add-result-then-kind-eq2 : goal.overflow_add-result-then-kind-eq2
overflow_add-result-then-kind-eq2 c =
    let t = listed_below _ c.args.ids.now _ c.requires.ascends c.rank-k.ensures (sym c.is_listed.ensures ∙ c.if-not-is_listed.false) in search rules

pub returns-then-kind-eq2-clause-start_value : goal.returns-then-kind-eq2-clause-start_value
returns-then-kind-eq2-clause-start_value c =
    (range_optional _ _ _ _ _ c.if-kind-eq2.true c.rank-k.ensures (sym c.if-not-is_listed.false ∙ c.is_listed.ensures)).0

pub returns-then-kind-eq2-clause-end_value : goal.returns-then-kind-eq2-clause-end_value
returns-then-kind-eq2-clause-end_value c =
    (range_optional _ _ _ _ _ c.if-kind-eq2.true c.rank-k.ensures (sym c.if-not-is_listed.false ∙ c.is_listed.ensures)).1

pub offset_bounds-offsets-k : goal.offset_bounds-offsets-k
offset_bounds-offsets-k c =
    let t : c.rank-k.result < length c.args.ids.now = listed_below _ c.args.ids.now _ c.requires.ascends c.rank-k.ensures (sym c.is_listed.ensures ∙ c.if-not-is_listed.false) in search rules

pub bounds-offsets-k : goal.bounds-offsets-k
bounds-offsets-k c =
    let t = listed_below _ c.args.ids.now _ c.requires.ascends c.rank-k.ensures (sym c.is_listed.ensures ∙ c.if-not-is_listed.false) in omega (arith, c.requires.multi (omega arith))

pub overflow_add-result-else-kind-eq2 : goal.overflow_add-result-else-kind-eq2
overflow_add-result-else-kind-eq2 c =
    let t : c.rank-k.result < length c.args.ids.now = listed_below _ c.args.ids.now _ c.requires.ascends c.rank-k.ensures (sym c.is_listed.ensures ∙ c.if-not-is_listed.false) in search rules

pub offset_bounds-offsets-k-else-kind-eq2 : goal.offset_bounds-offsets-k-else-kind-eq2
offset_bounds-offsets-k-else-kind-eq2 c =
    let t = listed_below _ c.args.ids.now _ c.requires.ascends c.rank-k.ensures (sym c.is_listed.ensures ∙ c.if-not-is_listed.false) in
    let u : c.rank-k.result + 1 < length c.args.offsets.now = omega (arith, c.requires.multi (omega arith)) in search rules

pub bounds-offsets-k-else-kind-eq2 : goal.bounds-offsets-k-else-kind-eq2
bounds-offsets-k-else-kind-eq2 c =
    let t = listed_below _ c.args.ids.now _ c.requires.ascends c.rank-k.ensures (sym c.is_listed.ensures ∙ c.if-not-is_listed.false) in omega (arith, c.requires.multi (omega arith))

pub returns-else-kind-eq2-clause-start_value : goal.returns-else-kind-eq2-clause-start_value
returns-else-kind-eq2-clause-start_value c =
    (range_multi _ _ _ _ _ _ _ (λ e. omega arith) (λ e. omega arith) c.if-kind-eq2.false c.rank-k.ensures (sym c.if-not-is_listed.false ∙ c.is_listed.ensures) refl refl).0

pub returns-else-kind-eq2-clause-end_value : goal.returns-else-kind-eq2-clause-end_value
returns-else-kind-eq2-clause-end_value c =
    (range_multi _ _ _ _ _ _ _ (λ e. omega arith) (λ e. omega arith) c.if-kind-eq2.false c.rank-k.ensures (sym c.if-not-is_listed.false ∙ c.is_listed.ensures) refl refl).1
