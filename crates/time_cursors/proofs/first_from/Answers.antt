use mathlib.Core.Path.{◌∙◌}
use Rattle.time_cursors.proofs.Parts.{cursor-none, ids-ready, values-ready, cursor-some}
use Rattle.time_cursors.proofs.first_from.Goals as goal

pub returns-then-p-n : goal.returns-then-p-n
returns-then-p-n c =
    cursor-none c.requires.timed c.requires.left c.next_alive-n.ensures c.if-p-n.true

pub times_until-m-requires-clause-k_bound : goal.times_until-m-requires-clause-k_bound
times_until-m-requires-clause-k_bound c =
    ids-ready c.requires.timed c.requires.left c.next_alive-n.ensures c.if-p-n.false

pub key_cursor-requires : goal.key_cursor-requires
key_cursor-requires c =
    values-ready c.requires.timed c.requires.left c.next_alive-n.ensures c.if-p-n.false c.times_until-m.ensures

pub returns : goal.returns
returns c =
    c.key_cursor.ensures ∙ cursor-some c.requires.timed c.requires.left c.next_alive-n.ensures c.if-p-n.false c.times_until-m.ensures
