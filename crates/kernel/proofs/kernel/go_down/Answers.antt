use Rattle.kernel.proofs.Names.{Some, ap, power_of}
use Rattle.kernel.proofs.Machines.{one_device}
use Rattle.kernel.proofs.kernel.go_down.Goals as goal

pub returns-clause-device : goal.returns-clause-device
returns-clause-device g c d is =
    ap Some (one_device g.D.Device.disk g.S.ObjectStore.view g.S.Frames.parts (power_of c.args.live.now c.args.device.now)
    c.take_device-closed.result d c.take_device-closed.ensures.is is)
