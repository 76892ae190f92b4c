use Rattle.vezhnake_c.proofs.vezhnake_step.Goals as goal

pub returns : goal.returns
returns c = (c.step.result, c.number.ensures, c.step.ensures)
