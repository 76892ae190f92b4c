use Rattle.vezhnake_c.proofs.vezhnake_check.Goals as goal

pub returns : goal.returns
returns c = (c.check_bytes.result, c.number.ensures, c.check_bytes.ensures)
