use Rattle.merge_column.proofs.Laws.{planned_wrong, planned_column}
use Rattle.merge_column.proofs.measure.Goals as goal

pub returns-in_default : goal.returns-in_default
returns-in_default c =
    planned_wrong _ _ _ _ _ _ c.check_types.ensures c.in_default.is

pub returns : goal.returns
returns c =
    planned_column _ _ _ _ _ _ c.check_types.ensures c.in-Some.is c.rows_of-rows.ensures c.shape_of.ensures
