use Rattle.space_bank.proofs.Names.{rules, with_items_is}
use Rattle.space_bank.proofs.Tallies.{raised_of}
use Rattle.space_bank.proofs.banks.Banks.account.Goals as goal

pub returns-clause-usages : goal.returns-clause-usages
returns-clause-usages g c = search (rules, with_items_is, raised_of)
