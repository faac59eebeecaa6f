use mathlib.Core.Path.{sym}
use native.Mathlib.Omega.{arith}
use lib.Seq.{length-take-le}
use Rattle.runs.proofs.Zeros.{front-within, front_long}
use Rattle.merge_dict_column.proofs.Given.{marks_fit, marks-given, merge_given, left}
use Rattle.merge_dict_column.proofs.fill_dictionary.Goals as goal

pub slice_bounds-mark-end : goal.slice_bounds-mark-end
slice_bounds-mark-end c =
    marks_fit c.requires c.unless-n.ensures

pub slice_bounds-mark-end-2 : goal.slice_bounds-mark-end-2
slice_bounds-mark-end-2 c =
    sym (length-take-le c.unless-n.result c.args.work.now (marks_fit c.requires c.unless-n.ensures))

pub mark-requires : goal.mark-requires
mark-requires c =
    marks-given c.requires c.unless-n.ensures

pub slice_bounds-merge_dict-end : goal.slice_bounds-merge_dict-end
slice_bounds-merge_dict-end c =
    omega (arith, front-within c.unless-n.result c.mark.new.marks c.args.work.now (marks_fit c.requires c.unless-n.ensures) c.mark.auto.marks)

pub slice_bounds-merge_dict-end-2 : goal.slice_bounds-merge_dict-end-2
slice_bounds-merge_dict-end-2 c =
    omega (arith, front_long c.unless-n.result c.mark.new.marks c.args.work.now (marks_fit c.requires c.unless-n.ensures) c.mark.auto.marks)

pub merge_dict-c-requires-clause-runs : goal.merge_dict-c-requires-clause-runs
merge_dict-c-requires-clause-runs c =
    (merge_given c.requires c.unless-n.ensures c.mark.new.marks c.mark.auto.marks c.mark.ensures).0

pub merge_dict-c-requires-clause-texts : goal.merge_dict-c-requires-clause-texts
merge_dict-c-requires-clause-texts c =
    (merge_given c.requires c.unless-n.ensures c.mark.new.marks c.mark.auto.marks c.mark.ensures).1

pub slice_bounds-zero-end : goal.slice_bounds-zero-end
slice_bounds-zero-end c =
    omega (arith, front-within c.unless-n.result c.mark.new.marks c.args.work.now (marks_fit c.requires c.unless-n.ensures) c.mark.auto.marks)

pub slice_bounds-zero-end-2 : goal.slice_bounds-zero-end-2
slice_bounds-zero-end-2 c =
    omega (arith, front_long c.unless-n.result c.mark.new.marks c.args.work.now (marks_fit c.requires c.unless-n.ensures) c.mark.auto.marks)

pub returns-clause-left : goal.returns-clause-left
returns-clause-left c =
    left c.requires c.unless-n.ensures c.mark.new.marks c.mark.auto.marks c.mark.ensures _ _ _ _ _ _ c.zero.new.work c.merge_dict-c.ensures c.zero.ensures
