use Rattle.vezhnake_c.proofs.vezhnake_open.Goals as goal

pub returns : goal.returns
returns c = (c.open.result, c.number.ensures, c.open.ensures)
