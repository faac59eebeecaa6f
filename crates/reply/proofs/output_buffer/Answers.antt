use Rattle.reply.proofs.Laws as laws
use Rattle.reply.proofs.output_buffer.Goals as goal

pub returns-clause-value : goal.returns-clause-value
returns-clause-value c =
    (laws.new_buffer 786432).0

pub returns-clause-value_2 : goal.returns-clause-value_2
returns-clause-value_2 c =
    (laws.new_buffer 786432).1
