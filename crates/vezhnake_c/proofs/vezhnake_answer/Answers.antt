use Rattle.vezhnake_c.proofs.vezhnake_answer.Goals as goal

pub returns : goal.returns
returns c = (c.copy_answer.result, c.number.ensures, c.copy_answer.ensures)
