use Rattle.migrator.proofs.Tables.{none_held}
use Rattle.migrator.proofs.table.next_entry.Goals as goal

pub returns-in_err-number-clause-none : goal.returns-in_err-number-clause-none
returns-in_err-number-clause-none c = λ _. none_held c.args.places.now (rw c.requires.held at (c.next.ensures.none c.in_err-number.was))
