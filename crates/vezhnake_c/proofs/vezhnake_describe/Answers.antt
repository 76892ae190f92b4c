use Rattle.vezhnake_c.proofs.vezhnake_describe.Goals as goal

pub returns : goal.returns
returns c = (c.describe_bytes.result, c.number.ensures, c.describe_bytes.ensures)
