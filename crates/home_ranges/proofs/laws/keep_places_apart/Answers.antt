use Rattle.home_ranges.proofs.Names.{nat_tests, arith, same_shaped}
use Rattle.home_ranges.proofs.Places.{places_within, places_apart, numbers_apart, places_spare_log}
use Rattle.home_ranges.proofs.laws.keep_places_apart.Goals as goal

pub returns : goal.returns
returns c = grind (arith, nat_tests, places_within, places_apart, numbers_apart, places_spare_log, same_shaped)
