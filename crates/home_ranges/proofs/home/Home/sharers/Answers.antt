use Rattle.home_ranges.proofs.Names.{arith, nat_tests}
use Rattle.home_ranges.proofs.Places.{no_range}
use Rattle.home_ranges.proofs.home.Home.sharers.Goals as goal

pub returns-in-None-clause-all : goal.returns-in-None-clause-all
returns-in-None-clause-all c = grind (arith, nat_tests, no_range)
