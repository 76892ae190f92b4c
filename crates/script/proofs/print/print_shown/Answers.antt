use Rattle.script.proofs.Names.{common_steps, arith, err_from_is_err_and}
use Rattle.script.proofs.Fronts.{text_fails}
use Rattle.script.proofs.print.print_shown.Goals as goal

pub returns-in_err-print_object : goal.returns-in_err-print_object
returns-in_err-print_object g c = grind (arith, common_steps, err_from_is_err_and, text_fails)
