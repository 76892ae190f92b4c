use Rattle.vezhnake_c.proofs.vezhnake_calls.Goals as goal

pub returns : goal.returns
returns c = (c.take_calls.result, c.number.ensures, c.take_calls.ensures)
