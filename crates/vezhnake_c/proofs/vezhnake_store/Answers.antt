use Rattle.vezhnake_c.proofs.vezhnake_store.Goals as goal

pub returns : goal.returns
returns c = (c.serve_one.result, c.number.ensures, (rw c.store.ensures at c.serve_one.ensures))
