use Rattle.std.proofs.Common.{◌∙◌}
use Rattle.cache_entries.proofs.Logs.{inserted_view, room_before}
use Rattle.cache_entries.proofs.use_order.UseOrder.insert.Goals as goal

pub insert-place-requires-clause-room : goal.insert-place-requires-clause-room
insert-place-requires-clause-room c =
    let spare = c.spare_use in
    room_before spare.new.log spare.new.order spare.ensures.log (spare.ensures.same ∙ c.self.view_is) c.requires.room

pub returns-clause-inserted : goal.returns-clause-inserted
returns-clause-inserted c =
    let spare = c.spare_use in
    inserted_view spare.new.log spare.new.order spare.ensures.log (spare.ensures.same ∙ c.self.view_is) c.args.number c.requires.absent
    c.len.ensures.spread
    c.insert-place.new.self c.insert-place.result c.insert-place.ensures.inserted c.push.new.self c.push.ensures
