use Rattle.description.proofs.NumberPlaces.{found_twice, named_twice}
use Rattle.description.proofs.numbers.named_twice.Goals as goal

pub returns-in-Some : goal.returns-in-Some
returns-in-Some c =
    let d = c.args.description.now in
    named_twice d _ _ _ _ _ c.requires.numbers c.requires.node_kinds c.requires.page_kinds
    (found_twice d c.args.numbers.now c.args.found c.in-Some.places c.in-Some.is c.requires.found)
    c.named_at.ensures.number c.named_at-in-Some.ensures.number c.named_at.ensures.place c.named_at-in-Some.ensures.place
