use Rattle.reply.proofs.Laws as laws
use Rattle.reply.proofs.answer_input.Goals as goal

pub returns-clause-answers : goal.returns-clause-answers
returns-clause-answers c =
    laws.answers _ _ _ _ _ c.requires.most_bytes_in_bounds c.reply.ensures.value c.reply.ensures.out_after
