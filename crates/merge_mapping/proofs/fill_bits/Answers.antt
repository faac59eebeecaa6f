use Rattle.std.proofs.Common.{◌≡◌, ◌∙◌, arith}
use Rattle.runs.proofs.Laws.{putting-none, putting-next, putting-all}
use Rattle.merge_mapping.specs.Mapping.{bytes_for}
use Rattle.merge_mapping.proofs.Turns.{bytes-length, bytes-at}
use Rattle.merge_mapping.proofs.fill_bits.Goals as goal

pub loop-i-init : goal.loop-i-init
loop-i-init c = putting-none _ _ _

pub loop-i-preserved : goal.loop-i-preserved
loop-i-preserved c =
    let n : c.div_ceil-i-end.result ≡ bytes_for c.args.rows = omega arith in
    rw c.loop-i.invariant (putting-next _ _ _ _ _ _ (bytes-length c.args.flag c.args.words.now c.args.rows) (omega arith) (omega arith) (c.alive_byte.ensures ∙ bytes-at _ _ _ _ (omega arith)))

pub returns : goal.returns
returns c =
    let n : c.div_ceil-i-end.result ≡ bytes_for c.args.rows = omega arith in
    c.loop-i.invariant ∙ putting-all _ _ _ _ _ (bytes-length c.args.flag c.args.words.now c.args.rows) (omega arith) (omega arith)
