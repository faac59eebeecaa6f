use Rattle.std.proofs.Common.{arith}
use Rattle.definitions.specs.Withdraw.{alive_words_wrong, row_absent, mark_checks, mark_number}
use Rattle.segment.specs.Records.{record_in}
use Rattle.segment_fit.proofs.Own.{set_is}
use Rattle.withdraw.proofs.first_wrong.Goals as goal

pub returns-then-words-alive_words : goal.returns-then-words-alive_words
unfolding mark_number mark_checks alive_words_wrong
returns-then-words-alive_words c =
    grind arith

pub returns-then-r-ge2 : goal.returns-then-r-ge2
unfolding mark_number mark_checks alive_words_wrong
returns-then-r-ge2 c =
    grind arith

pub returns-then-not-set_fits : goal.returns-then-not-set_fits
unfolding mark_number mark_checks alive_words_wrong
returns-then-not-set_fits c =
    let is = set_is (record_in c.args.r) c.args.words.now in
    grind arith

pub returns-then-not-rows_there : goal.returns-then-not-rows_there
unfolding mark_number mark_checks alive_words_wrong row_absent
returns-then-not-rows_there c =
    let is = set_is (record_in c.args.r) c.args.words.now in
    grind arith

pub returns-then-r-eq0 : goal.returns-then-r-eq0
unfolding mark_number mark_checks alive_words_wrong row_absent
returns-then-r-eq0 c =
    let is = set_is (record_in c.args.r) c.args.words.now in
    grind arith

pub returns : goal.returns
unfolding mark_number mark_checks alive_words_wrong row_absent
returns c =
    let is = set_is (record_in c.args.r) c.args.words.now in
    grind arith
