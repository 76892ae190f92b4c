use Rattle.capability.proofs.Names.{rules, sym, arith, content_behind}
use Rattle.capability.proofs.FrameLists.{slot_there, no_slot_there}
use Rattle.capability.proofs.objects.four_slots.Goals as goal

pub returns-in_default : goal.returns-in_default
returns-in_default g c = search (rules, no_slot_there)

pub returns : goal.returns
returns g c =
    let p = g.F.Frames.parts c.args.store.now in
    let known = (g.met.F.Frames.known_fetched c.args.store.now c.args.number c.requires.fetched).0 in
    let at = slot_there p c.args.number known (content_behind c.frame.result) (sym c.frame.ensures) c.in-Some.slots.now
    c.in-Some.ensures.some
    c.table-table.result.now c.table-table.ensures in
    cc (
      at c.args.first _ _ c.conveyed.ensures (omega (arith, c.in-Some.ensures.length, c.requires.within)),
      at c.args.second _ _ c.conveyed-2.ensures (omega (arith, c.in-Some.ensures.length, c.requires.within)),
      at c.args.third _ _ c.conveyed-3.ensures (omega (arith, c.in-Some.ensures.length, c.requires.within)),
      at c.args.fourth _ _ c.conveyed-4.ensures (omega (arith, c.in-Some.ensures.length, c.requires.within)),
    )
