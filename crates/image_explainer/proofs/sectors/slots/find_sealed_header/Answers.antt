use Rattle.image_explainer.proofs.Names.{subst, Geometry, IsHeader, IsSlotsFault}
use Rattle.image_explainer.proofs.HeaderSlots.{none_there, none_within, slots_fault}
use Rattle.image_explainer.proofs.sectors.slots.find_sealed_header.Goals as goal

pub slots_fault-requires-clause-some : goal.slots_fault-requires-clause-some
slots_fault-requires-clause-some g c = λ none.
    c.requires.some (none_there (g.D.Device.disk c.args.device.now).seen c.args.plan.now c.requires.sealed c.in_ok-slots.slots
    c.in_ok-slots.ensures.found none)

pub slots_fault-requires-clause-bad : goal.slots_fault-requires-clause-bad
slots_fault-requires-clause-bad g c = λ h chosen fits.
    none_within (g.D.Device.disk c.args.device.now).seen c.args.plan.now c.requires.sealed c.in_ok-slots.slots c.in_ok-slots.ensures.found
    c.requires.bad h chosen (subst (λ (x : Geometry). IsHeader 2 x.log h.header) c.geometry-log.ensures.value fits)

pub returns-clause-found : goal.returns-clause-found
returns-clause-found g c =
    slots_fault (g.D.Device.disk c.args.device.now).seen c.args.plan.now c.requires.sealed c.in_ok-slots.slots c.in_ok-slots.ensures.found
    (g.D.Device.disk c.args.device.now).sectors c.slots_fault.result c.requires.plan c.requires.some c.requires.bad
    (subst (λ (x : Geometry). IsSlotsFault c.in_ok-slots.slots x.log c.slots_fault.result) c.geometry-log.ensures.value
    c.slots_fault.ensures)
