use Rattle.space_bank.proofs.Names.{rules, set-append_left, set-append_right}
use Rattle.space_bank.proofs.marking.mark.Goals as goal

pub returns-then-number-first_page-clause-marks : goal.returns-then-number-first_page-clause-marks
returns-then-number-first_page-clause-marks c = search (rules, set-append_left)

pub returns-else-number-first_page-clause-marks : goal.returns-else-number-first_page-clause-marks
returns-else-number-first_page-clause-marks c = search (rules, set-append_right)
