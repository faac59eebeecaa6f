use mathlib.Core.Path.{sym, ◌∙◌}
use Rattle.stands.proofs.Bulk.{seg-sum}
use Rattle.census.proofs.Rows.{listed-is, census_alive, census_whole}
use Rattle.census.proofs.count.Goals as goal

pub returns-then-p-eq1 : goal.returns-then-p-eq1
returns-then-p-eq1 c =
    census_alive c.args.p c.args.ids.now c.args.offsets.now c.args.words.now c.if-p-eq1.true c.alive_census.ensures

pub returns-else-p-eq1 : goal.returns-else-p-eq1
returns-else-p-eq1 c =
    census_whole c.args.p c.args.ids.now c.args.offsets.now c.args.words.now c.if-p-eq1.false (c.listed_rows.ensures ∙ listed-is c.requires.sound) (sym (seg-sum c.requires.sound))
