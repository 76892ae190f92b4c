use Rattle.description.proofs.NumberPlaces.{node_outside}
use Rattle.description.proofs.numbers.node_out_of_range.Goals as goal

pub returns-in-Some : goal.returns-in-Some
returns-in-Some c = node_outside c.args.description.now _ _ _ c.requires c.in-Some.ensures c.node_named_at.ensures.number
    c.node_named_at.ensures.place
    c.node_named_at.ensures.kind
