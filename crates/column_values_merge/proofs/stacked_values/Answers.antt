use Rattle.runs.proofs.Laws.{fill_end}
use Rattle.column_values_merge.proofs.Laws.{words-room, words_more, words_done}
use Rattle.column_values_merge.proofs.stacked_values.Goals as goal

pub append_words-requires-clause-vs_in_bounds : goal.append_words-requires-clause-vs_in_bounds
append_words-requires-clause-vs_in_bounds c =
    words-room c.args.to c.args.stands.now c.args.values.now c.args.map.now c.loop-row-test.true c.from-p.ensures c.loop-row.invariant

pub loop-row-preserved : goal.loop-row-preserved
loop-row-preserved c =
    words_more c.args.to c.args.stands.now c.args.values.now c.args.map.now c.loop-row-test.true c.from-p.ensures c.loop-row.invariant c.append_words.ensures

pub returns-clause-value : goal.returns-clause-value
returns-clause-value c =
    (fill_end c.loop-row.invariant (words_done c.args.to _ _ _ _ c.loop-row-test.false)).0

pub returns-clause-out_after : goal.returns-clause-out_after
returns-clause-out_after c =
    (fill_end c.loop-row.invariant (words_done c.args.to _ _ _ _ c.loop-row-test.false)).1
