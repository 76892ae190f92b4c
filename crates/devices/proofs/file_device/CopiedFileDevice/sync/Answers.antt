use Rattle.devices.proofs.Copies.{copy_synced, synced_back, synced_elapses, synced_narrows, synced_only}
use Rattle.devices.proofs.file_device.CopiedFileDevice.sync.Goals as goal

pub invariant_of-self : goal.invariant_of-self
invariant_of-self g c = record {
  sound = copy_synced c.args.self.now.sectors c.args.self.now.copy _ _ c.args.self.now.sound _ c.sync.ensures.first _ c.sync.result
      c.sync.ensures.synced
      c.sync.ensures.nothing;
}

pub returns-clause-crash : goal.returns-clause-crash
returns-clause-crash g c =
    synced_narrows c.args.self.now.sectors c.args.self.now.copy _ _ c.args.self.now.sound _ c.sync.ensures.first _ c.sync.result 0 0
    c.sync.ensures.synced
    c.sync.ensures.nothing

pub returns-clause-durable : goal.returns-clause-durable
returns-clause-durable g c =
    synced_only c.args.self.now.sectors c.args.self.now.copy _ _ c.args.self.now.sound _ c.sync.ensures.first _ c.sync.result 0
    c.sync.ensures.synced

pub returns-clause-nothing_durable : goal.returns-clause-nothing_durable
returns-clause-nothing_durable g c =
    synced_back c.args.self.now.sectors c.args.self.now.copy _ _ c.args.self.now.sound _ c.sync.ensures.first _ c.sync.result 0 0
    c.sync.ensures.nothing

pub returns-clause-time : goal.returns-clause-time
returns-clause-time g c =
    synced_elapses c.args.self.now.sectors c.args.self.now.copy _ _ c.args.self.now.sound _ c.sync.ensures.first _ c.sync.result _ _
    c.sync.ensures.synced
    c.sync.ensures.nothing
