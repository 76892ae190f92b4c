use Rattle.kernel.proofs.Names.{inl, refl, power_of}
use Rattle.model.specs.declared.command.Command.TheVariants as command
use Rattle.kernel.proofs.Machines.{again_caused, left_alone, opened_again, risen_some, some_down}
use Rattle.kernel.proofs.kernel.Kernel.restart.Goals as goal

pub rise-requires-clause-left : goal.rise-requires-clause-left
rise-requires-clause-left g c =
    some_down g.D.Device.disk g.S.ObjectStore.view g.S.Frames.parts c.args.self.now c.take_device-device.result (rw
    (← c.self.view_is) c.self.invariant) (rw (← c.self.view_is) c.take_device-device.ensures.is)

pub returns-clause-serves : goal.returns-clause-serves
returns-clause-serves g c =
    opened_again g.D.Device.disk g.S.ObjectStore.view g.S.Frames.parts c.args.self.now _ c.take_device-device.result command.Restart
    c.rise.result (rw (← c.self.view_is) c.take_device-device.ensures.is) (inl refl) c.take_device-device.result
    (left_alone g.D.Device.disk g.S.ObjectStore.view g.S.Frames.parts c.take_device-device.result (g.met.D.Device.only_now _))
    c.rise.ensures.reopened

pub returns-clause-cause : goal.returns-clause-cause
returns-clause-cause g c =
    again_caused g.D.Device.disk g.S.ObjectStore.view g.S.Frames.parts c.args.self.now _ c.take_device-device.result command.Restart
    c.rise.result (rw (← c.self.view_is) c.take_device-device.ensures.is) (inl refl) c.take_device-device.result refl c.rise.ensures.cause

pub invariant_of-self : goal.invariant_of-self
invariant_of-self g c =
    risen_some g.D.Device.disk g.S.ObjectStore.view g.S.Frames.parts (power_of c.rise.new.live c.rise.new.device)
    c.take_device-device.result c.rise.result
    (some_down g.D.Device.disk g.S.ObjectStore.view g.S.Frames.parts c.args.self.now c.take_device-device.result
    (rw (← c.self.view_is) c.self.invariant) (rw (← c.self.view_is) c.take_device-device.ensures.is))
    c.rise.ensures.reopened
