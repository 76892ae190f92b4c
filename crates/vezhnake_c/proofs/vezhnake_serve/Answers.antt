use Rattle.vezhnake_c.proofs.vezhnake_serve.Goals as goal

pub returns : goal.returns
returns c = (c.serve.result, c.number.ensures, c.serve.ensures)
