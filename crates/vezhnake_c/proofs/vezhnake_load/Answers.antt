use Rattle.vezhnake_c.proofs.vezhnake_load.Goals as goal

pub returns : goal.returns
returns c = (c.serve_one.result, c.number.ensures, (rw c.load.ensures at c.serve_one.ensures))
