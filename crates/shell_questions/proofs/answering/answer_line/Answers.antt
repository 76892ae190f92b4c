use Rattle.std.proofs.Common.{inl}
use Rattle.shell_questions.proofs.answering.answer_line.Goals as goal

pub returns-in-Ok-clause-answers : goal.returns-in-Ok-clause-answers
returns-in-Ok-clause-answers g c = inl (rw (c.deref.ensures.value, c.in-Ok.ensures.words) at c.answer_words.ensures.answers)
