use Rattle.std.proofs.Common.{◌∙◌}
use Rattle.column_index_shuffled.proofs.Plain.{placed, plain-room, plain-left}
use Rattle.column_index_shuffled.proofs.ordered_rows.Goals as goal
use Rattle.column_index_shuffled.proofs.ordered_rows.Goals.{then-class-eq0+then-all_plain, else-class-eq0}

pub write_plain-requires-clause-placed : goal.write_plain-requires-clause-placed
write_plain-requires-clause-placed c =
    placed c.requires.ordered _ c.all_plain.ensures c.if-all_plain.true

pub write_plain-requires-clause-addresses_in_bounds : goal.write_plain-requires-clause-addresses_in_bounds
write_plain-requires-clause-addresses_in_bounds c =
    plain-room c.requires.ordered _ c.all_plain.ensures c.if-all_plain.true c.requires.addresses_in_bounds

pub returns-clause-out_values_after : goal.returns-clause-out_values_after
returns-clause-out_values_after c =
    elim c.if-class-eq0.branch [
      | then-class-eq0+then-all_plain w ↦ w.out_values-is ∙ plain-left c.requires.ordered _ w.all_plain.ensures w.if-all_plain.true _ w.write_plain.ensures
      | else-class-eq0 w ↦ w.out_values-is ∙ w.write_rows.ensures.out_values_after
    ]
