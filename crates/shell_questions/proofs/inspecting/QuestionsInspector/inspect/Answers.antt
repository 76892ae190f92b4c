use Rattle.shell_questions.proofs.inspecting.QuestionsInspector.inspect.Goals as goal

pub returns-clause-inspects : goal.returns-clause-inspects
returns-clause-inspects g c = (c.new.result, c.new.ensures.inner, c.answer_line.ensures.answers)
