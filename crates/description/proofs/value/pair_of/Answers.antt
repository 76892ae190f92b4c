use Rattle.description.proofs.Names.{length, arith, common_steps, item, no_items, view}
use Rattle.std.proofs.Common.{◌≡◌, ◌≢◌}
use Rattle.description.proofs.Elements.{items_length}
use Rattle.description.proofs.value.pair_of.Goals as goal

pub returns-in_default : goal.returns-in_default
returns-in_default c a b pair =
    let items = c.in_ok-items.items.now.items in
    let two : length items ≡ 2 = items_length (view c.args.value.now) items (item a (item b no_items)) c.in_ok-items.ensures pair in
    let other : length items ≢ 2 = grind (arith, common_steps) in
    other two
