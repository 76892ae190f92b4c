use Rattle.description.proofs.NumberPlaces.{page_outside}
use Rattle.description.proofs.numbers.page_out_of_range.Goals as goal
use Rattle.std.proofs.Common.{refl}

pub returns-in-Some : goal.returns-in-Some
returns-in-Some c = page_outside c.args.description.now _ _ _ c.requires.numbers refl c.requires.nodes c.in-Some.ensures
