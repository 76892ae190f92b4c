use Rattle.devices.proofs.Copies.{copy_cut, cut_elapses, cut_left, cut_only}
use Rattle.devices.proofs.file_device.CopiedFileDevice.power_cut.Goals as goal

pub invariant_of-self : goal.invariant_of-self
invariant_of-self g c = record {
  sound = copy_cut c.args.self.now.sectors c.args.self.now.copy _ _ c.args.self.now.sound _ c.power_cut.ensures.first _
      c.power_cut.ensures.events;
}

pub returns-clause-left : goal.returns-clause-left
returns-clause-left g c =
    cut_left c.args.self.now.sectors c.args.self.now.copy _ _ c.args.self.now.sound _ c.power_cut.ensures.first _ c.power_cut.ensures.events

pub returns-clause-durable : goal.returns-clause-durable
returns-clause-durable g c =
    cut_only c.args.self.now.sectors c.args.self.now.copy _ _ c.args.self.now.sound _ c.power_cut.ensures.first _ c.power_cut.ensures.events
    0

pub returns-clause-time : goal.returns-clause-time
returns-clause-time g c =
    cut_elapses c.args.self.now.sectors c.args.self.now.copy _ _ c.args.self.now.sound _ c.power_cut.ensures.first _
    c.power_cut.ensures.events _ _
