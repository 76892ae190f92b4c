use Rattle.space_bank.proofs.Tallies.{serve_tree}
use Rattle.space_bank.proofs.banks.Banks.list_all.Goals as goal

pub list_all-requires-clause-prime : goal.list_all-requires-clause-prime
list_all-requires-clause-prime g c = (serve_tree c.requires.bank).prime.1
