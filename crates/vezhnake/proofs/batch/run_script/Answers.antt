use Rattle.vezhnake.proofs.batch.run_script.Goals as goal

pub returns : goal.returns
returns c = (
  c.step-answered.new.self,
  c.step-answered.result,
  c.take_calls-taken.result,
  c.step-answered.ensures,
  c.take_calls-taken.ensures,
  c.first_fault.ensures,
)
