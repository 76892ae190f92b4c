use Rattle.image_explainer.proofs.Names.{Option, Some, ap, sym, subst, Geometry, IsHeader, committed_slot, option_map, slot_number, HeaderSlot}
use Rattle.std.proofs.Common.{◌≡◌, ◌∙◌}
use Rattle.image_explainer.proofs.Headers.{refused}
use Rattle.image_explainer.proofs.sectors.header.find_header.Goals as goal

pub header_part-requires-clause-refused : goal.header_part-requires-clause-refused
header_part-requires-clause-refused g c = λ h fits spelt.
    let disk = g.D.Device.disk c.args.device.now in
    let wins : committed_slot disk.seen ≡ Some 0 = sym c.in_ok-committed_slot.ensures.slot
    ∙ ap (λ (o : Option HeaderSlot). option_map slot_number o)
    (c.in-Some-First.is ∙ ap (λ (s : HeaderSlot). Some s) c.in-Some-First.field-0-is) in
    refused disk.sectors disk.seen c.args.plan.now c.requires.plain 0 wins c.requires.bad c.committed_slot.new.first
    c.in_ok-committed_slot.ensures.first h (subst (λ (x : Geometry). IsHeader 0 x.log h) c.geometry-log.ensures.value fits) spelt

pub header_part-requires-in-Some-Second-clause-refused : goal.header_part-requires-in-Some-Second-clause-refused
header_part-requires-in-Some-Second-clause-refused g c = λ h fits spelt.
    let disk = g.D.Device.disk c.args.device.now in
    let wins : committed_slot disk.seen ≡ Some 1 = sym c.in_ok-committed_slot.ensures.slot
    ∙ ap (λ (o : Option HeaderSlot). option_map slot_number o)
    (c.in-Some-Second.is ∙ ap (λ (s : HeaderSlot). Some s) c.in-Some-Second.field-0-is) in
    refused disk.sectors disk.seen c.args.plan.now c.requires.plain 1 wins c.requires.bad c.committed_slot.new.second
    c.in_ok-committed_slot.ensures.second h (subst (λ (x : Geometry). IsHeader 0 x.log h) c.geometry-log.ensures.value fits) spelt
