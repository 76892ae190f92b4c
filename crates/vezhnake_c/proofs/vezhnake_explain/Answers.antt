use Rattle.vezhnake_c.proofs.vezhnake_explain.Goals as goal

pub returns : goal.returns
returns c = (c.explain_bytes.result, c.number.ensures, c.explain_bytes.ensures)
