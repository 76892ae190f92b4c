use Rattle.vezhnake_c.proofs.vezhnake_save.Goals as goal

pub returns : goal.returns
returns c = (c.save.result, c.number.ensures, c.save.ensures)
