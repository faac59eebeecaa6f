use mathlib.Core.Path.{sym, ap, ◌∙◌, subst}
use native.Mathlib.Omega.{arith}
use Prim.Native.Nat.{ℕ}
use mathlib.Core.List.{List}
use Rattle.census.specs.Settled.{settled_from, AllReady}
use Rattle.merge_column.proofs.Laws.{filled_raw}
use Rattle.merge_column.proofs.prepare.Goals as goal

pub fill_stands-requires-clause-records_len_bound : goal.fill_stands-requires-clause-records_len_bound
fill_stands-requires-clause-records_len_bound c =
    c.requires.few

pub fill_stands-requires-clause-records_in_bounds : goal.fill_stands-requires-clause-records_in_bounds
fill_stands-requires-clause-records_in_bounds c =
    omega (arith, c.requires.long)

pub settle_all-requires : goal.settle_all-requires
settle_all-requires c =
    subst (λ (l : List (List ℕ)). AllReady l c.args.ids.now c.args.offsets.now c.args.lengths.now c.args.alive.now) (sym (filled_raw c.args.records.now c.args.stands.now c.requires.long c.fill_stands.ensures)) c.requires.ready

pub returns-clause-value : goal.returns-clause-value
returns-clause-value c =
    c.settle_all.ensures.value

pub returns-clause-stands_after : goal.returns-clause-stands_after
returns-clause-stands_after c =
    c.settle_all.ensures.stands_after ∙ ap (λ (l : List (List ℕ)). settled_from 0 0 l c.args.ids.now c.args.offsets.now c.args.lengths.now c.args.alive.now) (filled_raw c.args.records.now c.args.stands.now c.requires.long c.fill_stands.ensures)
