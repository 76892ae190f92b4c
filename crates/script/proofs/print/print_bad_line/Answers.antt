use Rattle.model.specs.Text.{bad_line}
use Rattle.script.proofs.print.print_bad_line.Goals as goal

pub returns : goal.returns
unfolding bad_line
returns g c = c.write_fully.ensures
