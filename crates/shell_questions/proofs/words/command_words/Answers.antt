use Rattle.shell_questions.proofs.words.command_words.Goals as goal

pub returns-in-Ok-clause-refused : goal.returns-in-Ok-clause-refused
returns-in-Ok-clause-refused c = λ is texts. c.in-Err-push_all.ensures.refused is (c.in-Ok.ensures.rest (rw c.new-words.ensures texts))

pub returns-clause-refused : goal.returns-clause-refused
returns-clause-refused c = λ is texts. c.in-Err.ensures.refused is (rw c.new-words.ensures texts)
