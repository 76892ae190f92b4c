use Rattle.std.proofs.Common.{inl}
use Rattle.shell_questions.proofs.answering.answer_words.Goals as goal

pub returns-in-Ok-clause-answers : goal.returns-in-Ok-clause-answers
returns-in-Ok-clause-answers g c = inl (c.in-Ok.command, c.in-Ok.ensures.named, rw c.is_some.ensures at c.answer_named.ensures.answers)
