use Rattle.std.proofs.Common.{◌≡◌, ◌∙◌, arith}
use Rattle.lists.proofs.Parts.{run_length}
use Rattle.stands.specs.Stand.{many}
use Rattle.stands.specs.Look.{words_of}
use Rattle.column_values_merge.proofs.Laws.{none-put, one-put, two-put}
use Rattle.column_values_merge.proofs.append_row.Goals as goal

pub returns-then-g-clause-out_after : goal.returns-then-g-clause-out_after
returns-then-g-clause-out_after c =
    let s = words_of c.args.p c.args.g.start c.args.g.end in
    let n : many s ≡ 0 = grind arith in
    none-put _ _ _ _ _ _ _ (run_length s.from s.to c.args.values.now c.requires.lies.ends ∙ n)

pub returns-in-1-eq1-clause-out_after : goal.returns-in-1-eq1-clause-out_after
returns-in-1-eq1-clause-out_after c =
    let s = words_of c.args.p c.args.g.start c.args.g.end in
    let n : many s ≡ 1 = grind arith in
    let l = run_length s.from s.to c.args.values.now c.requires.lies.ends in
    one-put _ _ _ _ _ _ _ _ (l ∙ n) (omega arith) c.new_word.ensures

pub returns-in-1-eq2-clause-out_after : goal.returns-in-1-eq2-clause-out_after
returns-in-1-eq2-clause-out_after c =
    let s = words_of c.args.p c.args.g.start c.args.g.end in
    let n : many s ≡ 2 = grind arith in
    let l = run_length s.from s.to c.args.values.now c.requires.lies.ends in
    two-put _ _ _ _ _ _ _ _ _ (l ∙ n) (omega arith) c.new_word-in-1-eq2.ensures c.new_word-in-1-eq2-2.ensures
