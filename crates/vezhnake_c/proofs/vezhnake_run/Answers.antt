use Rattle.vezhnake_c.proofs.vezhnake_run.Goals as goal

pub returns : goal.returns
returns c = (c.run_batch.result, c.number.ensures, c.run_batch.ensures)
