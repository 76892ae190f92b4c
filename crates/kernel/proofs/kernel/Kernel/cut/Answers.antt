use Rattle.kernel.proofs.Names.{inr, refl, power_of}
use Rattle.model.specs.declared.command.Command.TheVariants as command
use Rattle.kernel.proofs.Machines.{again_caused, left_cut, opened_again, risen_some, some_cut, some_down}
use Rattle.kernel.proofs.kernel.Kernel.cut.Goals as goal

pub rise-requires-clause-left : goal.rise-requires-clause-left
rise-requires-clause-left g c =
    let said = c.power_cut.ensures in
    some_cut g.D.Device.disk g.S.ObjectStore.view g.S.Frames.parts c.take_device-device.result c.power_cut.new.self
    (g.met.D.Device.only_now _) (g.met.D.Device.counts_now _) said.left said.durable said.size said.time
    (some_down g.D.Device.disk g.S.ObjectStore.view g.S.Frames.parts c.args.self.now c.take_device-device.result
    (rw (← c.self.view_is) c.self.invariant) (rw (← c.self.view_is) c.take_device-device.ensures.is))

pub returns-clause-serves : goal.returns-clause-serves
returns-clause-serves g c =
    let said = c.power_cut.ensures in
    opened_again g.D.Device.disk g.S.ObjectStore.view g.S.Frames.parts c.args.self.now _ c.take_device-device.result command.Cut
    c.rise.result
    (rw (← c.self.view_is) c.take_device-device.ensures.is) (inr refl) c.power_cut.new.self
    (left_cut g.D.Device.disk g.S.ObjectStore.view g.S.Frames.parts c.take_device-device.result c.power_cut.new.self
    (g.met.D.Device.only_now _) (g.met.D.Device.counts_now _) said.left said.durable said.size said.time) c.rise.ensures.reopened

pub returns-clause-cause : goal.returns-clause-cause
returns-clause-cause g c =
    again_caused g.D.Device.disk g.S.ObjectStore.view g.S.Frames.parts c.args.self.now _ c.take_device-device.result command.Cut
    c.rise.result
    (rw (← c.self.view_is) c.take_device-device.ensures.is) (inr refl) c.power_cut.new.self c.power_cut.ensures.no_failure
    c.rise.ensures.cause

pub invariant_of-self : goal.invariant_of-self
invariant_of-self g c =
    let said = c.power_cut.ensures in
    risen_some g.D.Device.disk g.S.ObjectStore.view g.S.Frames.parts (power_of c.rise.new.live c.rise.new.device) c.power_cut.new.self
    c.rise.result
    (some_cut g.D.Device.disk g.S.ObjectStore.view g.S.Frames.parts c.take_device-device.result c.power_cut.new.self
    (g.met.D.Device.only_now _) (g.met.D.Device.counts_now _) said.left said.durable said.size said.time
    (some_down g.D.Device.disk g.S.ObjectStore.view g.S.Frames.parts c.args.self.now c.take_device-device.result
    (rw (← c.self.view_is) c.self.invariant) (rw (← c.self.view_is) c.take_device-device.ensures.is)))
    c.rise.ensures.reopened
