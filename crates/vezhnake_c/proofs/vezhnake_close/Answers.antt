use Rattle.vezhnake_c.proofs.vezhnake_close.Goals as goal

pub returns : goal.returns
returns c = (c.close.result, c.number.ensures, c.close.ensures)
