use Rattle.vezhnake_c.proofs.vezhnake_build.Goals as goal

pub returns : goal.returns
returns c = (c.build_bytes.result, c.number.ensures, c.build_bytes.ensures)
