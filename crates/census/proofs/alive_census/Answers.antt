use mathlib.Core.Path.{◌∙◌}
use native.Mathlib.Omega.{arith}
use Rattle.column_index.specs.Lookup.{Ranked}
use Rattle.stands.specs.Look.{alive_set_at}
use Rattle.census.proofs.Rows.{ids-ready, ids-values, ids-many, empty-sum, empty-count, full-sum, full-count}
use Rattle.census.proofs.alive_census.Goals as goal

pub returns-in-0 : goal.returns-in-0
returns-in-0 c =
    let w = alive_set_at c.args.p c.args.words.now in
    λ i. record {
      alive = c.requires.countable.number c.requires.flag_value i;
      listed = empty-count c.args.p c.args.ids.now c.args.offsets.now w c.in-0.is c.args.p.rows i;
      values = empty-sum c.args.p c.args.ids.now c.args.offsets.now w c.in-0.is 0 c.args.p.rows i;
    }

pub returns-in-1 : goal.returns-in-1
returns-in-1 c =
    let e = c.requires.countable.number c.requires.flag_value in
    λ i. record {
      alive = e i;
      listed = (e ∙ full-count c.args.p c.args.ids.now c.args.offsets.now _ c.in-1.is c.args.p.rows) i;
      values = (e ∙ full-sum c.args.p c.args.ids.now c.args.offsets.now _ c.in-1.is 0 c.args.p.rows) i;
    }

pub id_counts-listed-requires : goal.id_counts-listed-requires
id_counts-listed-requires c =
    let r : Ranked c.args.p.kind = (λ e. omega arith, λ e. omega arith) in
    rw (c.of.ensures, c.of-in_default.ensures, c.of-in_default-2.ensures) (ids-ready c.requires.countable c.requires.flag_value r)

pub returns-in_default : goal.returns-in_default
returns-in_default c =
    let r : Ranked c.args.p.kind = (λ e. omega arith, λ e. omega arith) in
    λ i. record {
      alive = c.requires.countable.number c.requires.flag_value i;
      listed = ((rw (c.of.ensures, c.of-in_default-2.ensures) at c.id_counts-listed.ensures.listed_value) ∙ ids-many _ c.requires.countable.sound r) i;
      values = ((rw (c.of.ensures, c.of-in_default.ensures, c.of-in_default-2.ensures) at c.id_counts-listed.ensures.values_value) ∙ ids-values _ c.requires.countable.sound r) i;
    }
