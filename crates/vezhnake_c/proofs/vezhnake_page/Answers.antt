use Rattle.vezhnake_c.proofs.vezhnake_page.Goals as goal

pub returns : goal.returns
returns c = (c.page.result, c.number.ensures, c.page.ensures)
