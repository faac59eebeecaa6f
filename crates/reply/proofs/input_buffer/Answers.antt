use Rattle.reply.proofs.Laws as laws
use Rattle.reply.proofs.input_buffer.Goals as goal

pub returns-clause-value : goal.returns-clause-value
returns-clause-value c =
    (laws.new_buffer 65537).1
