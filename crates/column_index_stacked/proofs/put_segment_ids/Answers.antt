use Rattle.std.proofs.Common.{sym, arith, add-zero}
use Rattle.definitions.proofs.Lists.{length-up_from}
use Rattle.runs.proofs.Laws.{put_nil, shifted-length}
use Rattle.stands.proofs.Bulk.{seg-ids-empty, seg-ids-full, seg-ids-listed, seg-ids-below}
use Rattle.column_index_stacked.proofs.put_segment_ids.Goals as goal

pub append_range-requires-clause-n_in_bounds : goal.append_range-requires-clause-n_in_bounds
append_range-requires-clause-n_in_bounds c =
    rw (seg-ids-full c.requires.sound_at c.in-1.is c.args.first, length-up_from) at c.requires.offsets_in_bounds

pub append_shifted-requires-clause-below : goal.append_shifted-requires-clause-below
append_shifted-requires-clause-below c =
    seg-ids-below c.requires.sound_at _ c.args.first (λ e. omega arith) (λ e. omega arith) (omega arith)

pub append_shifted-requires-clause-xs_in_bounds : goal.append_shifted-requires-clause-xs_in_bounds
append_shifted-requires-clause-xs_in_bounds c =
    rw (seg-ids-listed c.requires.sound_at (λ e. omega arith) (λ e. omega arith) c.args.first, shifted-length) at c.requires.offsets_in_bounds

pub returns-in-0-clause-value : goal.returns-in-0-clause-value
returns-in-0-clause-value c =
    rw (seg-ids-empty c.requires.sound_at c.in-0.is c.args.first) (sym (add-zero _))

pub returns-in-0-clause-out_after : goal.returns-in-0-clause-out_after
returns-in-0-clause-out_after c =
    rw (seg-ids-empty c.requires.sound_at c.in-0.is c.args.first) (sym (put_nil _ _))

pub returns-in-1-clause-value : goal.returns-in-1-clause-value
returns-in-1-clause-value c =
    rw (seg-ids-full c.requires.sound_at c.in-1.is c.args.first, length-up_from)

pub returns-in-1-clause-out_after : goal.returns-in-1-clause-out_after
returns-in-1-clause-out_after c =
    rw (seg-ids-full c.requires.sound_at c.in-1.is c.args.first) c.append_range.ensures

pub returns-in_default-clause-value : goal.returns-in_default-clause-value
returns-in_default-clause-value c =
    rw (seg-ids-listed c.requires.sound_at (λ e. omega arith) (λ e. omega arith) c.args.first, shifted-length)

pub returns-in_default-clause-out_after : goal.returns-in_default-clause-out_after
returns-in_default-clause-out_after c =
    rw (seg-ids-listed c.requires.sound_at (λ e. omega arith) (λ e. omega arith) c.args.first) c.append_shifted.ensures
