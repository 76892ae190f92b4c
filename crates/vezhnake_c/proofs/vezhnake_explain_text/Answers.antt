use Rattle.vezhnake_c.proofs.vezhnake_explain_text.Goals as goal

pub returns : goal.returns
returns c = (c.explain_text.result, c.number.ensures, c.explain_text.ensures)
