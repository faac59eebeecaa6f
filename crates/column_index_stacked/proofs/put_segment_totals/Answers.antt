use Rattle.std.proofs.Common.{sym, arith, add-zero}
use Rattle.definitions.proofs.Lists.{length-up_from}
use Rattle.runs.proofs.Laws.{put_nil, shifted-length}
use Rattle.stands.proofs.Bulk.{seg_totals_empty, seg_totals_full, seg_totals_optional, seg_totals_multi, seg_totals_below}
use Rattle.column_index_stacked.proofs.put_segment_totals.Goals as goal

pub append_range-requires-clause-n_in_bounds : goal.append_range-requires-clause-n_in_bounds
append_range-requires-clause-n_in_bounds c =
    rw (seg_totals_full c.requires.sound_at c.in-1.is c.args.total, length-up_from) at c.requires.offsets_in_bounds

pub append_range-requires-in-2-clause-n_in_bounds : goal.append_range-requires-in-2-clause-n_in_bounds
append_range-requires-in-2-clause-n_in_bounds c =
    rw (seg_totals_optional c.requires.sound_at c.in-2.is c.args.total, length-up_from) at c.requires.offsets_in_bounds

pub append_shifted-requires-clause-below : goal.append_shifted-requires-clause-below
append_shifted-requires-clause-below c =
    let e = seg_totals_multi c.requires.sound_at (λ e. omega arith) (λ e. omega arith) (λ e. omega arith) c.args.total in
    seg_totals_below c.requires.sound_at 4294967296 c.args.total _ e (omega arith)

pub append_shifted-requires-clause-xs_in_bounds : goal.append_shifted-requires-clause-xs_in_bounds
append_shifted-requires-clause-xs_in_bounds c =
    rw (seg_totals_multi c.requires.sound_at (λ e. omega arith) (λ e. omega arith) (λ e. omega arith) c.args.total, shifted-length) at c.requires.offsets_in_bounds

pub returns-in-0-clause-value : goal.returns-in-0-clause-value
returns-in-0-clause-value c =
    rw (seg_totals_empty c.requires.sound_at c.in-0.is c.args.total) (sym (add-zero _))

pub returns-in-0-clause-out_after : goal.returns-in-0-clause-out_after
returns-in-0-clause-out_after c =
    rw (seg_totals_empty c.requires.sound_at c.in-0.is c.args.total) (sym (put_nil _ _))

pub returns-in-1-clause-value : goal.returns-in-1-clause-value
returns-in-1-clause-value c =
    rw (seg_totals_full c.requires.sound_at c.in-1.is c.args.total, length-up_from)

pub returns-in-1-clause-out_after : goal.returns-in-1-clause-out_after
returns-in-1-clause-out_after c =
    rw (seg_totals_full c.requires.sound_at c.in-1.is c.args.total) c.append_range.ensures

pub returns-in-2-clause-value : goal.returns-in-2-clause-value
returns-in-2-clause-value c =
    rw (seg_totals_optional c.requires.sound_at c.in-2.is c.args.total, length-up_from)

pub returns-in-2-clause-out_after : goal.returns-in-2-clause-out_after
returns-in-2-clause-out_after c =
    rw (seg_totals_optional c.requires.sound_at c.in-2.is c.args.total) c.append_range-in-2.ensures

pub returns-in_default-clause-value : goal.returns-in_default-clause-value
returns-in_default-clause-value c =
    rw (seg_totals_multi c.requires.sound_at (λ e. omega arith) (λ e. omega arith) (λ e. omega arith) c.args.total, shifted-length)

pub returns-in_default-clause-out_after : goal.returns-in_default-clause-out_after
returns-in_default-clause-out_after c =
    rw (seg_totals_multi c.requires.sound_at (λ e. omega arith) (λ e. omega arith) (λ e. omega arith) c.args.total) c.append_shifted.ensures
