use Rattle.merge_dict_column.proofs.Ends.{ready, readable, terms-same, map_same}
use Rattle.term_walk.proofs.Ends.{merged-same}
use Rattle.merge_dict_column.proofs.merge_dict.Goals as goal

pub start_heap-heap-requires : goal.start_heap-heap-requires
start_heap-heap-requires c =
    (c.fill_cursors.ensures.size, readable c.requires.runs c.requires.texts c.fill_cursors.ensures)

pub merge_terms-requires-clause-ready : goal.merge_terms-requires-clause-ready
merge_terms-requires-clause-ready c =
    ready c.requires.runs c.requires.texts c.fill_cursors.ensures

pub returns : goal.returns
returns c =
    merged-same (terms-same c.requires.runs c.requires.texts c.fill_cursors.ensures) (map_same c.requires.runs c.requires.texts c.fill_cursors.ensures) c.merge_terms.ensures.merged
