use Rattle.command_line.proofs.Names.{rules, codes, refl, found_of, rows_of}
use Rattle.command_line.proofs.Lacking.{wrong}
use Rattle.command_line.proofs.requested.sizes_of.Goals as goal

pub returns-in_err-number_of-clause-none : goal.returns-in_err-number_of-clause-none
returns-in_err-number_of-clause-none c = λ _. wrong (codes "describe") (codes "nodes") (rows_of (found_of c.args.inner.now)) _ _ refl
    (c.number_of.ensures.none (search rules))

pub returns-in_err-number_of-2-clause-none : goal.returns-in_err-number_of-2-clause-none
returns-in_err-number_of-2-clause-none c = λ _. wrong (codes "describe") (codes "pages") (rows_of (found_of c.args.inner.now)) _ _ refl
    (c.number_of-2.ensures.none (search rules))

pub returns-in_err-number_of-3-clause-none : goal.returns-in_err-number_of-3-clause-none
returns-in_err-number_of-3-clause-none c = λ _. wrong (codes "describe") (codes "log") (rows_of (found_of c.args.inner.now)) _ _ refl
    (c.number_of-3.ensures.none (search rules))
