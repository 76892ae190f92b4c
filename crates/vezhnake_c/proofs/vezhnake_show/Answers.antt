use Rattle.vezhnake_c.proofs.vezhnake_show.Goals as goal

pub returns : goal.returns
returns c = (c.show.result, c.number.ensures, c.show.ensures)
