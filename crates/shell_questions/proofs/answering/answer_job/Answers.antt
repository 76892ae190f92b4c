use Rattle.std.proofs.Common.{inl, inr, rules}
use Rattle.shell_questions.proofs.answering.answer_job.Goals as goal

pub returns-in-Some-clause-answers : goal.returns-in-Some-clause-answers
returns-in-Some-clause-answers g c = inl (c.in-Some.query, (search rules), c.answer_query.ensures.answers)

pub returns-in-None-clause-answers : goal.returns-in-None-clause-answers
returns-in-None-clause-answers g c = inr ((search rules), c.refuse.ensures.answers)
