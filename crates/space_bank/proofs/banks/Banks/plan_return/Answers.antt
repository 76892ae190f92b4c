use Rattle.space_bank.proofs.Names.{rules, append_assoc, length-append}
use Rattle.space_bank.proofs.Plans.{may_return, bank_room, planned_made, planned_refused, return_prime, return_there}
use Rattle.space_bank.proofs.Missing.{bank_listing}
use Rattle.space_bank.proofs.banks.Banks.plan_return.Goals as goal

pub returns-then-bank-eq0-clause-planned : goal.returns-then-bank-eq0-clause-planned
returns-then-bank-eq0-clause-planned g c = search (rules, planned_refused, return_prime)

pub list_all-requires-clause-bank : goal.list_all-requires-clause-bank
list_all-requires-clause-bank g c = bank_listing c.requires.bank c.list.ensures

pub list_all-requires-clause-room : goal.list_all-requires-clause-room
list_all-requires-clause-room g c = search (rules, bank_room, length-append)

pub returns-clause-planned : goal.returns-clause-planned
returns-clause-planned g c = search (rules, planned_made, return_there, may_return, append_assoc)
