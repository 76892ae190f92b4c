use Rattle.home_ranges.proofs.Names.{arith, nat_tests}
use Rattle.home_ranges.proofs.Places.{range_of, place_lies}
use Rattle.home_ranges.proofs.home.Home.place.Goals as goal

pub place_in-requires-clause-sector : goal.place_in-requires-clause-sector
place_in-requires-clause-sector c =
    (range_of (rw c.self.view_is at c.version-version.ensures.fits) c.requires.object (rw c.self.view_is at c.in-Some.ensures.value)).sector

pub returns-in-Some : goal.returns-in-Some
returns-in-Some c =
    let made = rw (c.version-version.ensures.value, c.geometry.ensures.value, c.self.view_is) at c.place_in.ensures in
    let is = place_lies (rw c.self.view_is at c.version-version.ensures.fits) c.requires.object
    (rw c.self.view_is at c.in-Some.ensures.value) made in
    grind (arith, nat_tests)
