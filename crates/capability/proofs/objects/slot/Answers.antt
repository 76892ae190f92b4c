use Rattle.capability.proofs.Names.{sym, arith, content_behind}
use Rattle.capability.proofs.FrameLists.{slot_there}
use Rattle.capability.proofs.objects.slot.Goals as goal

pub returns-in-Some : goal.returns-in-Some
returns-in-Some g c =
    let p = g.F.Frames.parts c.args.store.now in
    let known = (g.met.F.Frames.known_fetched c.args.store.now c.args.number c.requires.fetched).0 in
    slot_there p c.args.number known (content_behind c.frame.result) (sym c.frame.ensures) c.in-Some.slots.now c.in-Some.ensures.some
    c.table.result.now c.table.ensures c.args.slot _ _ c.conveyed.ensures (omega (arith, c.in-Some.ensures.length, c.requires.within))
