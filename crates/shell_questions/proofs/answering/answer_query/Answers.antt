use Rattle.std.proofs.Common.{◌∙◌, ap}
use Rattle.shell_questions.specs.Questions.{end_of}
use Rattle.shell_questions.proofs.answering.answer_query.Goals as goal

pub returns-clause-answers : goal.returns-clause-answers
returns-clause-answers g c =
    let done = c.answer-done.ensures in
    (c.answer-done.result.device, done.0, done.3, done.2, c.end_of.ensures.end ∙ ap end_of done.1.1)
